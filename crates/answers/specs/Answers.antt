-- What an answer says of its recording.
use Rattle.std.specs.Prelude.{ℕ, ◌≡◌, ◌<◌, ◌≤◌, ◌-◌, ⊤, length}
use Rattle.events.specs.declared.event.Order.{Order}
use Rattle.findings.specs.Filling.{HasFewClients, IsRecordedOfAny, SomeFillingIsExplained}
use Rattle.findings.specs.Facts.{Known}
use Rattle.findings.specs.Findings.{ExplainsFindings, HasNoOrder}
use Rattle.findings.specs.FourPatterns.{HasOrder, IsOfQueue}
use Rattle.findings.specs.Shows.{Shows}
use Rattle.findings.specs.declared.witness.Witness.{Witness}
use Rattle.prefixes.specs.Steps.{first_steps, events_of, learnt_of}
use Rattle.recording.specs.declared.act.Recording.{Recording}
use Rattle.answers.specs.declared.answer.Answer.{Answer}
use Rattle.answers.specs.declared.repeated.Repeated.{Repeated}
use Rattle.answers.specs.declared.repeated.Repeated.TheVariants.{Explained as copies_explained}
use Rattle.answers.specs.declared.repeated.Repeated.TheVariants.{Part}
use Rattle.answers.specs.declared.answer.Answer.TheVariants.{Explained, Impossible, SomeOrder, NoOrder}

-- this is what the first n steps come to
pub record IsFound (recording : Recording) (n : ℕ) (found : Known) : Type 0 where
  pub events : found.events ≡ events_of recording (first_steps recording n)
  pub learnt : found.learnt ≡ learnt_of recording (first_steps recording n)

-- all its steps come to a recording of a queue
abbrev pub IsOfOneQueue : Recording → Type 0
IsOfOneQueue recording = IsOfQueue (events_of recording (first_steps recording (length recording.steps.items)))
    (learnt_of recording (first_steps recording (length recording.steps.items)))

-- the order explains what the first n steps say
pub record IsExplanation (recording : Recording) (n : ℕ) (order : Order) : Type 0 where
  pub explains : ExplainsFindings (events_of recording (first_steps recording n))
      (learnt_of recording (first_steps recording n)) order.entries.items
  -- these steps are those of a recording
  pub recorded : IsRecordedOfAny (events_of recording (first_steps recording n))
      (learnt_of recording (first_steps recording n))
  -- so if at most sixteen calls were open at once, it explains some history that may arise, whose Readys tell of them
  pub filled : HasFewClients (events_of recording (first_steps recording n))
      → SomeFillingIsExplained (events_of recording (first_steps recording n))
      (learnt_of recording (first_steps recording n)) order.entries.items

-- the witness shows that no order explains what the first n steps say
pub record IsRefutation (recording : Recording) (n : ℕ) (witness : Witness) : Type 0 where
  pub shown : Shows (events_of recording (first_steps recording n)) (learnt_of recording (first_steps recording n))
      witness
  pub none : HasNoOrder (events_of recording (first_steps recording n)) (learnt_of recording (first_steps recording n))

-- no order explains the first n steps, and one explains those before the last of them
pub record IsImpossibleFrom (recording : Recording) (n : ℕ) (witness : Witness) (before : Order)
    : Type 0 where
  pub some : 0 < n
  pub within : n ≤ length recording.steps.items
  pub refuted : IsRefutation recording n witness
  pub before_it : IsExplanation recording (n - 1) before

-- the answer is right of the recording: an order explains all its steps, or none does from one of them on, or it is
-- decided whether one does
abbrev pub IsRight : Recording → Answer → Type 0
IsRight recording (Explained prefix order) =
    (prefix.count ≡ length recording.steps.items)
    × IsExplanation recording (length recording.steps.items) order
IsRight recording (Impossible prefix witness before) = IsImpossibleFrom recording prefix.count witness before
IsRight recording SomeOrder =
    HasOrder (events_of recording (first_steps recording (length recording.steps.items)))
    (learnt_of recording (first_steps recording (length recording.steps.items)))
IsRight recording NoOrder =
    HasNoOrder (events_of recording (first_steps recording (length recording.steps.items)))
    (learnt_of recording (first_steps recording (length recording.steps.items)))

-- of a recording with values that were put more than once: the answer is right of it, or of a part. Of counts, and where
-- nothing is decided, nothing is said
abbrev pub IsRightOfRepeated : Recording → Repeated → Type 0
IsRightOfRepeated recording (copies_explained answer) = IsRight recording answer
IsRightOfRepeated recording (Part other answer) = IsRight other answer
IsRightOfRepeated recording answer = ⊤
