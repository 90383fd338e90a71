-- A creation under way, step by step.
use Rattle.std.proofs.Common.{◌≡◌, ◌≢◌, ◌<◌, ◌+◌, ℕ, List, Option, Some, None, Result, Ok, Err, refl, sym, ap, subst, ◌∙◌, arith, slice_set}
use Rattle.std.specs.Prelude.{IfOk, IfSome, IsSome}
use Rattle.words.specs.declared.call.Kind.{Kind}
use Rattle.words.specs.declared.refusal.Refusal.{Refusal}
use Rattle.arena.specs.Shape.{Counts, shape_of}
use Rattle.arena.specs.declared.broker.SlotId.{SlotId}
use Rattle.directory.specs.Creation.{after_point, creation_at, left_after, left_at, next_of, successor}
use Rattle.directory.specs.Directory.{Directory, IsLowestFree}
use Rattle.directory.specs.declared.creation.Creation.{Creation}
use Rattle.directory.specs.declared.creation.CreationPoint.{CreationPoint}
use Rattle.directory.specs.declared.queue.Queue.{Queue}
use Rattle.directory.proofs.Facts.{creation_less}
use Rattle.interleave.specs.State.{world_over}
use Rattle.named.specs.Brokers.{Brokered, block_words, quiet, world_at, IsBegun, IsStepCreated, MayCreate}
use Rattle.session.specs.Sessions.{Sessioned}
use Rattle.owning.specs.Creating.{IsCreated}

-- a creation of a queue of this name and kind is under way, and nothing else has changed since the session was the old one
pub record IsUnderWay (old now : Sessioned) (name : List ℕ) (kind : Kind) : Type 0 where
  pub creation : Creation
  pub is : now.broker.creation ≡ Some creation
  pub queue : creation.queue ≡ record { name = name; kind = kind }
  pub may : MayCreate old.broker name
  pub free : IsLowestFree old.broker.directory creation.slot.0
  pub counts : now.broker.counts ≡ old.broker.counts
  pub directory : now.broker.directory ≡ old.broker.directory
  pub ready : now.broker.recovery ≡ None
  pub others : (slot : ℕ) → quiet (world_at now.broker slot) ≡ quiet (world_at old.broker slot)
  pub kept : now.kept ≡ old.kept

-- it begins
pub begins : (old new : Sessioned) (name : List ℕ) (kind : Kind) → MayCreate old.broker name
    → IfSome new.broker.creation (IsBegun old.broker name kind) → IsSome new.broker.creation
    → new ≡ record old { broker = record old.broker { creation = new.broker.creation } } → IsUnderWay old new name kind
begins old new name kind may begun some same = go new.broker.creation refl begun some
  where
    go : (o : Option Creation) → new.broker.creation ≡ o → IfSome o (IsBegun old.broker name kind) → IsSome o
        → IsUnderWay old new name kind
    go None is begun some = absurd (cc (some))
    go (Some creation) is begun some = record {
      creation = creation;
      is = is;
      queue = ap (λ (c : Creation). c.queue) begun.begun;
      may = may;
      free = begun.free;
      counts = ap (λ (s : Sessioned). s.broker.counts) same;
      directory = ap (λ (s : Sessioned). s.broker.directory) same;
      ready = ap (λ (s : Sessioned). s.broker.recovery) same ∙ may.ready;
      others = λ slot. ap (λ (s : Sessioned). quiet (world_at s.broker slot)) same;
      kept = ap (λ (s : Sessioned). s.kept) same;
    }

-- how many steps it has left
abbrev pub left_of : Option Creation → ℕ
left_of None = 0
left_of (Some creation) = left_at creation.at

-- a step of it, which leaves what is kept
module _ (old now new : Sessioned) (name : List ℕ) (kind : Kind) (result : Result (Option SlotId) Refusal)
    (under : IsUnderWay old now name kind)
    (step : now.broker.recovery ≡ None → IfSome now.broker.creation
    (λ creation. IsStepCreated now.broker new.broker creation result (successor creation)))
    (others : (other : ℕ) → IfOk result (λ opened. IfSome opened (λ slot. other ≢ slot.0))
    → quiet (world_at new.broker other) ≡ quiet (world_at now.broker other))
    (kept : new.kept ≡ now.kept) where
  its_step : IsStepCreated now.broker new.broker under.creation result (successor under.creation)
  its_step =
      subst (λ (o : Option Creation).
      IfSome o (λ creation. IsStepCreated now.broker new.broker creation result (successor creation))) under.is
      (step under.ready)

  abbrev StepTo : Option CreationPoint → Type 0
  StepTo o =
      IsStepCreated now.broker new.broker under.creation result
      (after_point under.creation.slot under.creation.queue o)

  abbrev LeftAfter : Option CreationPoint → Type 0
  LeftAfter o = left_after (after_point under.creation.slot under.creation.queue o) + 1 ≡ left_at under.creation.at

  -- it is not refused
  pub is_made : (refusal : Refusal) → result ≡ Err refusal → ⊥
  is_made refusal is = go (next_of under.creation.at) its_step
    where
      go : (o : Option CreationPoint) → StepTo o → ⊥
      go None made = absurd (cc (sym is ∙ made.0))
      go (Some at) made = absurd (cc (sym is ∙ made.0))

  others_at : result ≡ Ok None → (other : ℕ) → quiet (world_at new.broker other) ≡ quiet (world_at now.broker other)
  others_at is other =
      others other
      (subst (λ (r : Result (Option SlotId) Refusal). IfOk r (λ opened. IfSome opened (λ slot. other ≢ slot.0))) (sym is)
      tt)

  -- where it is not the last one, the creation stays under way
  pub goes_on : result ≡ Ok None → IsUnderWay old new name kind
  goes_on is = go (next_of under.creation.at) its_step
    where
      go : (o : Option CreationPoint) → StepTo o → IsUnderWay old new name kind
      go None made = absurd (cc (sym is ∙ made.0))
      go (Some at) made = record {
        creation = creation_at under.creation.slot under.creation.queue at;
        is = ap (λ (b : Brokered). b.creation) made.1;
        queue = under.queue;
        may = under.may;
        free = under.free;
        counts = ap (λ (b : Brokered). b.counts) made.1 ∙ under.counts;
        directory = ap (λ (b : Brokered). b.directory) made.1 ∙ under.directory;
        ready = ap (λ (b : Brokered). b.recovery) made.1 ∙ under.ready;
        others = λ slot. others_at is slot ∙ under.others slot;
        kept = kept ∙ under.kept;
      }

  -- with a step less to go
  pub has_less : result ≡ Ok None → left_of new.broker.creation < left_of now.broker.creation
  has_less is = go (next_of under.creation.at) its_step (creation_less under.creation)
    where
      go : (o : Option CreationPoint) → StepTo o → LeftAfter o → left_of new.broker.creation < left_of now.broker.creation
      go None made less = absurd (cc (sym is ∙ made.0))
      go (Some at) made less =
          let then : left_of new.broker.creation ≡ left_at at = ap (λ (b : Brokered). left_of b.creation) made.1 in
          let was : left_of now.broker.creation ≡ left_at under.creation.at = ap left_of under.is in
          omega (arith, then, was, less)

  -- the last one makes the queue
  pub is_created : (slot : SlotId) → result ≡ Ok (Some slot) → IsCreated old new name kind slot.0
  is_created slot is = go (next_of under.creation.at) its_step
    where
      go : (o : Option CreationPoint) → StepTo o → IsCreated old new name kind slot.0
      go (Some at) made = absurd (cc (sym is ∙ made.0))
      go None made =
          let same : under.creation.slot ≡ slot = cc (sym made.0 ∙ is) in
          subst (λ (s : SlotId). IsCreated old new name kind s.0) same (here made)
        where
          here : StepTo None → IsCreated old new name kind under.creation.slot.0
          here made = record {
            may = under.may;
            free = under.free;
            counts = made.1.counts ∙ under.counts;
            directory =
                made.1.directory
                ∙ (ap (λ (d : Directory). slice_set d under.creation.slot.0 (Some under.creation.queue)) under.directory
                ∙ ap (λ (q : Queue). slice_set old.broker.directory under.creation.slot.0 (Some q)) under.queue);
            world =
                made.1.world
                ∙ (ap (λ (q : Queue). Some (world_over (shape_of q.kind now.broker.counts)
                (block_words now.broker.counts under.creation.slot.0 new.broker.words))) under.queue
                ∙ ap (λ (c : Counts). Some (world_over (shape_of kind c)
                (block_words c under.creation.slot.0 new.broker.words))) under.counts);
            others = λ other apart.
                others other
                (subst (λ (r : Result (Option SlotId) Refusal).
                IfOk r (λ opened. IfSome opened (λ s. other ≢ s.0))) (sym made.0) apart)
                ∙ under.others other;
            ended = made.1.ended;
            ready = made.1.recovery ∙ under.ready;
            kept = kept ∙ under.kept;
          }
