use Rattle.std.proofs.Common.{refl}
use Rattle.persist.specs.Image.{magic}
use Rattle.persist.proofs.Images.{image_is_read, words_are_read, read_is_image}
use Rattle.persist.proofs.laws.words_have_one_image.Goals as goal

pub returns-clause-read : goal.returns-clause-read
returns-clause-read c = image_is_read magic refl

pub returns-clause-words : goal.returns-clause-words
returns-clause-words c = words_are_read magic refl

pub returns-clause-image : goal.returns-clause-image
returns-clause-image c = read_is_image magic refl
