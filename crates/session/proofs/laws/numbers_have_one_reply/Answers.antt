use Rattle.interleave.proofs.Facts.{one_reply}
use Rattle.session.proofs.laws.numbers_have_one_reply.Goals as goal

pub returns : goal.returns
returns c = λ w holds log client number reply other few one more. one_reply w holds log client few number reply other one more
