use Rattle.std.proofs.Common.{arith}
use Rattle.std.proofs.lemmas.Bool.{leb-true, le-leb}
use Rattle.sound_words.proofs.Surveys.{head_within, passed_if, passed_only}
use Rattle.sound_words.proofs.kept.KeptQueue.is_passed.Goals as goal

pub offset_bounds-place-head : goal.offset_bounds-place-head
offset_bounds-place-head g c =
    let h = head_within _ _ c.requires.chain c.requires.ends _ c.kept_at-head.ensures.value in
    omega (arith, h, c.kept_at-head.ensures.few)

pub bounds-place-head : goal.bounds-place-head
bounds-place-head g c =
    let h = head_within _ _ c.requires.chain c.requires.ends _ c.kept_at-head.ensures.value in
    omega (arith, h, c.requires.places.long)

pub returns : goal.returns
returns g c = (
  λ told. passed_if _ _ _ c.requires.places.order _ _ c.kept_at-head.ensures.value c.requires.node (leb-true _ _ told),
  λ leads. let up = passed_only _ _ _ c.requires.places.order _ _ c.kept_at-head.ensures.value c.requires.node leads in le-leb _ _ up,
)
