use Rattle.directory.proofs.Creations.{creation_goes_on}
use Rattle.directory.proofs.laws.creations_go_on.Goals as goal

pub returns : goal.returns
returns c counts ws creation directory h = creation_goes_on counts ws creation directory h
