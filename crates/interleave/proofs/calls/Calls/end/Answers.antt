use Rattle.std.proofs.Common.{None}
use Rattle.interleave.proofs.order.Prefixes.{set_in_front}
use Rattle.interleave.proofs.calls.Calls.end.Goals as goal

pub returns : goal.returns
returns c =
    set_in_front c.self.inside.clients c.args.client.0 c.self.inside.places c.args.self.now None c.self.view_is c.requires
