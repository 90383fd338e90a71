use Rattle.std.proofs.Common.{refl}
use Rattle.persist.proofs.image.image.Goals as goal

-- the header is the front, and the words stand after it
pub returns-clause-image : goal.returns-clause-image
returns-clause-image c = rw (c.in_ok-write_words.ensures, c.in_ok-write_header.ensures, c.in_ok-image.ensures.items) refl
