use Rattle.std.proofs.Common.{None}
use Rattle.std.proofs.lemmas.List.{take-replicate}
use Rattle.interleave.proofs.calls.Calls.none.Goals as goal

pub returns : goal.returns
returns c = take-replicate c.args.clients 16 None c.requires
