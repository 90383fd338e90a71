use Rattle.std.proofs.Common.{Some}
use Rattle.interleave.proofs.order.Prefixes.{set_in_front}
use Rattle.interleave.proofs.calls.Calls.begin.Goals as goal

pub returns : goal.returns
returns c =
    set_in_front c.self.inside.clients c.args.client.0 c.self.inside.places c.args.self.now (Some c.args.call) c.self.view_is c.requires
