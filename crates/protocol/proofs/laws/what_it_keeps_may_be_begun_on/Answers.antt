use Rattle.protocol.proofs.runs.RunsTold.{booted_may_begin}
use Rattle.protocol.proofs.laws.what_it_keeps_may_be_begun_on.Goals as goal

pub returns : goal.returns
returns c = booted_may_begin
