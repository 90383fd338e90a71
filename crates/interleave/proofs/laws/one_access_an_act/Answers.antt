use Rattle.interleave.proofs.machine.Acts.{act_accesses, act_makes_one}
use Rattle.interleave.proofs.laws.one_access_an_act.Goals as goal

pub returns-clause-accesses : goal.returns-clause-accesses
returns-clause-accesses c = λ w act. act_accesses w act

pub returns-clause-words : goal.returns-clause-words
returns-clause-words c = λ w act other. act_makes_one w act other
