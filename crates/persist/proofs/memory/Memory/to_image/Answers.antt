use Rattle.std.proofs.Common.{Ok, refl, ap, ◌∙◌}
use Rattle.persist.specs.Image.{AreWords, magic, reading}
use Rattle.persist.proofs.Images.{image_is_read}
use Rattle.persist.proofs.memory.Memory.to_image.Goals as goal

pub returns-in-Ok-clause-read : goal.returns-in-Ok-clause-read
returns-in-Ok-clause-read c =
    let kept = c.kept_words.ensures in
    let are : AreWords c.kept_words.result.now = record { some = kept.some; few = kept.few; fit = c.in-Ok.ensures.fit } in
    ap reading c.in-Ok.ensures.image ∙ image_is_read magic refl c.kept_words.result.now are ∙ ap Ok kept.kept
