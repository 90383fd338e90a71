use Rattle.renewal.proofs.Sound.{renewed_sound}
use Rattle.renewal.proofs.Tellings.{renewed_holds, renewed_tells}
use Rattle.renewal.proofs.laws.renewed_words_hold_and_tell.Goals as goal

pub returns-clause-sound : goal.returns-clause-sound
returns-clause-sound c = renewed_sound

pub returns-clause-content : goal.returns-clause-content
returns-clause-content c = renewed_holds

pub returns-clause-told : goal.returns-clause-told
returns-clause-told c = λ r t may client. renewed_tells r may t client
