use Rattle.deciding.specs.Table.{calls_by}
use Rattle.deciding.proofs.Listing.{OpensSo}
use Rattle.deciding.proofs.opens.opens_of.Given as goal

abbrev pub invariant-loop-place : goal.invariant-loop-place
invariant-loop-place l = OpensSo (calls_by l.known l.ends) l.place l.opens.items
