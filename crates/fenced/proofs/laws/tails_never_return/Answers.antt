use Rattle.fenced.proofs.Returns.{once, owners_unreturned, unreturned}
use Rattle.fenced.proofs.laws.tails_never_return.Goals as goal

pub returns-clause-tails : goal.returns-clause-tails
returns-clause-tails c = λ run is rules i j k. unreturned run is rules k i j

pub returns-clause-owners : goal.returns-clause-owners
returns-clause-owners c = λ run is rules i j k. owners_unreturned run is rules k i j

pub returns-clause-once : goal.returns-clause-once
returns-clause-once c = λ run is rules. once run is rules
