use Rattle.std.proofs.Common.{arith, refl, sym, ◌∙◌}
use Rattle.std.proofs.lemmas.Bool.{false≢true}
use Rattle.sound_words.proofs.kept.KeptQueue.is_entry_sound.Goals as goal

pub returns-then-kind-gt2 : goal.returns-then-kind-gt2
returns-then-kind-gt2 g c = (
  λ told. absurd (false≢true told),
  λ tells. let kind = tells.kind in absurd (omega arith),
)

pub returns-then-not-is_status_sound : goal.returns-then-not-is_status_sound
returns-then-not-is_status_sound g c = (
  λ told. absurd (false≢true told),
  λ tells. absurd (false≢true (sym c.if-not-is_status_sound.true ∙ c.is_status_sound.ensures.1 tells.status)),
)

pub returns-then-kind-ne-DEQUEUE_KIND : goal.returns-then-kind-ne-DEQUEUE_KIND
returns-then-kind-ne-DEQUEUE_KIND g c = (
  λ _. record {
    kind = omega arith;
    status = c.is_status_sound.ensures.0 c.if-not-is_status_sound.false;
    result = λ dequeue. absurd (c.if-kind-ne-DEQUEUE_KIND.true (c.kept_at-kind.ensures.value ∙ dequeue));
  },
  λ _. refl,
)

pub returns : goal.returns
returns g c = (
  λ told. record {
    kind = omega arith;
    status = c.is_status_sound.ensures.0 c.if-not-is_status_sound.false;
    result = λ _. c.is_removed_sound.ensures.0 told;
  },
  λ tells. c.is_removed_sound.ensures.1 (tells.result (sym c.kept_at-kind.ensures.value ∙ c.if-kind-ne-DEQUEUE_KIND.false)),
)
