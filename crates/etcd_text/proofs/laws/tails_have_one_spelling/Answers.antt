use Rattle.etcd_text.proofs.Spelling.{one_spelling}
use Rattle.etcd_text.proofs.laws.tails_have_one_spelling.Goals as goal

pub returns : goal.returns
returns c = one_spelling
