use Rattle.migration.proofs.Alike.{content_like, tells_like}
use Rattle.migration.proofs.Sound.{migrated_sound}
use Rattle.migration.proofs.laws.migrated_words_tell_the_same.Goals as goal

pub returns-clause-sound : goal.returns-clause-sound
returns-clause-sound c = migrated_sound

pub returns-clause-content : goal.returns-clause-content
returns-clause-content c = content_like

pub returns-clause-told : goal.returns-clause-told
returns-clause-told c = tells_like
