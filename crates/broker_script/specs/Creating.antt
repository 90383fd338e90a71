-- Creations: how one begins, and how it goes on.
use Rattle.std.specs.Prelude.{◌≡◌, ◌≢◌, ◌<◌, ◌-◌, ℕ, true, List, [], ◌∷◌, Option, Some, None, IsSome, IfSome, Result, Ok, Err, IfOk, IfErr, OnOk, OnErr, MatchResult}
use Rattle.words.specs.declared.call.Kind.{Kind}
use Rattle.words.specs.declared.refusal.Refusal.{Refusal}
use Rattle.words.specs.declared.refusal.Refusal.TheVariants.{NotReady, Idle}
use Rattle.arena.specs.declared.broker.SlotId.{SlotId}
use Rattle.directory.specs.Creation.{successor}
use Rattle.directory.specs.Directory.{Directory, HasQueue}
use Rattle.directory.specs.declared.queue.Queue.{Queue}
use Rattle.named.specs.Brokers.{Brokered, is_down, quiet, world_at, IsBegun, IsNotCreated, IsStepCreated, MayCreate}
use Rattle.named.specs.GoingOn.{BrokerGoesOn}
use Rattle.playing.specs.Steps.{count_after}
use Rattle.playing.specs.declared.lines.Line.TheVariants.{Refused}
use Rattle.broker_lines.specs.declared.printed.Printed.{Printed}
use Rattle.broker_lines.specs.declared.printed.Printed.TheVariants.{Whole, Created, Creating}
use Rattle.broker_script.specs.Play.{Played}

-- the slot has a queue
abbrev pub HasSomeQueue : Directory → ℕ → Type 0
HasSomeQueue directory slot = (queue : Queue) × HasQueue directory slot queue

-- the line of the slot's queue, with the steps that its creation took
abbrev pub ShowsCreated : Played → SlotId → List Printed → Type 0
ShowsCreated p slot lines =
    (queue : Queue) × HasQueue p.broker.directory slot.0 queue × (lines ≡ Created queue.name slot p.creation ∷ [])

-- a step of the creation that is under way, or why there is none
pub record IsCreationAnswered (old : Brokered) (result : Result (Option SlotId) Refusal) (new : Brokered) : Type 0 where
  pub down : is_down old ≡ true → result ≡ Err NotReady
  pub idle : old.recovery ≡ None → old.creation ≡ None → result ≡ Err Idle
  pub same : OnErr result (new ≡ old)
  pub step : old.recovery ≡ None → IfSome old.creation
      (λ creation. IsStepCreated old new creation result (successor creation))
  pub others : (other : ℕ) → IfOk result (λ opened. IfSome opened (λ slot. other ≢ slot.0))
      → quiet (world_at new other) ≡ quiet (world_at old other)
  pub goes_on : BrokerGoesOn old new

-- and it is counted, where it was made
abbrev pub creation_counted : ℕ → Result (Option SlotId) Refusal → ℕ
creation_counted steps (Ok opened) = count_after 1 steps
creation_counted steps (Err refusal) = steps

pub record IsCreatedOn (old : Played) (result : Result (Option SlotId) Refusal) (new : Played) : Type 0 where
  pub step : IsCreationAnswered old.broker result new.broker
  pub counted : new ≡ record old { broker = new.broker; creation = creation_counted old.creation result }

-- the creation goes on by up to so many steps: they end early at the one that opens the queue, or that is refused
pub data Creates : ℕ → Played → List Printed → Played → Type 0 where
  stays : {old : Played} → Creates 0 old (Creating ∷ []) old
  opens : {most : ℕ} {old new : Played} {slot : SlotId} {queue : Queue} (some : 0 < most)
      (step : IsCreatedOn old (Ok (Some slot)) new) (has : HasQueue new.broker.directory slot.0 queue)
      → Creates most old (Created queue.name slot new.creation ∷ []) new
  ends : {most : ℕ} {old new : Played} {refusal : Refusal} (some : 0 < most) (step : IsCreatedOn old (Err refusal) new)
      → Creates most old (Whole (Refused refusal) ∷ []) new
  goes_on : {most : ℕ} {old next new : Played} {lines : List Printed} (some : 0 < most)
      (step : IsCreatedOn old (Ok None) next) (rest : Creates (most - 1) next lines new) → Creates most old lines new

-- a creation began, in which no step was made, or it may not
pub record IsBegunOn (old : Played) (name : List ℕ) (kind : Kind) (result : Result Unit Refusal) (new : Played)
    : Type 0 where
  pub may : OnOk result (MayCreate old.broker name)
  pub begun : OnOk result (IfSome new.broker.creation (IsBegun old.broker name kind))
  pub under_way : OnOk result (IsSome new.broker.creation)
  pub errors : IfErr result (IsNotCreated old.broker name)
  pub others : OnOk result (new ≡ record old {
    broker = record old.broker { creation = new.broker.creation };
    creation = 0;
  })
  pub same : OnErr result (new ≡ old)

-- a line that begins a creation, and has it make up to so many steps
pub record BeginsCreation (old : Played) (name : List ℕ) (kind : Kind) (most : ℕ) (lines : List Printed) (new : Played)
    : Type 0 where
  pub result : Result Unit Refusal
  pub next : Played
  pub begun : IsBegunOn old name kind result next
  pub then : MatchResult result (λ u. Creates most next lines new)
      (λ refusal. (lines ≡ Whole (Refused refusal) ∷ []) × (new ≡ old))
