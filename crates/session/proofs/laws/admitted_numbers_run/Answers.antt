use Rattle.session.proofs.answers.Staleness.{accepted}
use Rattle.session.proofs.laws.admitted_numbers_run.Goals as goal

pub returns : goal.returns
returns c = λ s keeps slot w client number here runs few. accepted s keeps slot client number runs w here few
