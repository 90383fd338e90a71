use Rattle.protocol.proofs.runs.RunsTold.{kept_may_begin}
use Rattle.protocol.proofs.laws.what_is_kept_may_be_begun_on.Goals as goal

pub returns : goal.returns
returns c = kept_may_begin
