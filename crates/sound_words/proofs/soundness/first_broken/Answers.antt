use Rattle.std.proofs.Common.{sym, subst}
use Rattle.std.specs.Prelude.{IfNone}
use Rattle.sound_words.specs.Kept.{Kept, kept_of}
use Rattle.sound_words.specs.Order.{IsSurveyOf}
use Rattle.sound_words.specs.Sound.{IsVerdictOn, RecordsAreSoundIn, SizeIsSoundIn}
use Rattle.sound_words.proofs.FirstBroken.{records_first, size_first, unsound}
use Rattle.sound_words.proofs.soundness.first_broken.Goals as goal

pub returns-then-not-is_size_sound : goal.returns-then-not-is_size_sound
returns-then-not-is_size_sound g c = record {
  broken = size_first _ _ _ (unsound c.is_size_sound.ensures.sound c.if-not-is_size_sound.true);
  survey = tt;
}

pub returns-then-not-are_records_sound : goal.returns-then-not-are_records_sound
returns-then-not-are_records_sound g c = record {
  broken = records_first _ _ _ (c.is_size_sound.ensures.sound.0 c.if-not-is_size_sound.false)
      (subst (λ (queue : Kept). RecordsAreSoundIn queue.form queue.shape (kept_of queue) → ⊥) c.queue_of-queue.ensures
      (unsound c.are_records_sound.ensures c.if-not-are_records_sound.true));
  survey = tt;
}

pub broken_past_records-requires-clause-count : goal.broken_past_records-requires-clause-count
broken_past_records-requires-clause-count g c =
    subst (λ (queue : Kept). SizeIsSoundIn queue.form queue.shape queue.words) (sym c.queue_of-queue.ensures)
    (c.is_size_sound.ensures.sound.0 c.if-not-is_size_sound.false)

pub broken_past_records-requires-clause-records : goal.broken_past_records-requires-clause-records
broken_past_records-requires-clause-records g c = c.are_records_sound.ensures.0 c.if-not-are_records_sound.false

pub returns : goal.returns
returns g c = record {
  broken = subst (λ (queue : Kept). IsVerdictOn queue.form queue.shape queue.words c.broken_past_records.result) c.queue_of-queue.ensures
      c.broken_past_records.ensures.broken;
  survey = subst (λ (queue : Kept). IfNone c.broken_past_records.result
      (IsSurveyOf queue.form queue.shape queue.words c.broken_past_records.new.place c.broken_past_records.new.claimed))
      c.queue_of-queue.ensures c.broken_past_records.ensures.survey;
}
