-- What the machine's invariants say of a world.
use Rattle.std.proofs.Common.{◌≡◌, ◌≢◌, ℕ, ◌<◌, ◌≤◌, List, Some, slice_get, subst, sym, ◌∙◌, length}
use Rattle.std.specs.Prelude.{All, AllPairs, slice_index_or}
use Rattle.std.proofs.lemmas.Option.{slice_get_within, get_or_from_slice_get}
use Rattle.arena.specs.Content.{kept_content}
use Rattle.events.specs.Effects.{order_of}
use Rattle.events.specs.Trace.{IsEffect}
use Rattle.events.specs.Replay.{queue_after}
use Rattle.events.specs.declared.event.Effect.{Effect}
use Rattle.events.proofs.Facts.{queue_of_order}
use Rattle.protocol.specs.Machine.{World}
use Rattle.protocol.specs.invariants.Worlds.{Inv}
use Rattle.protocol.proofs.Facts.{agrees, effect_room, in_log}
use Rattle.interleave.specs.Effects.{AreInSequence}
use Rattle.interleave.specs.Holds.{Holds, from_invariant}
use Rattle.interleave.specs.State.{State, machine}

-- a fact of each item, at a place
at_place : {X : Type 0} (P : X → Type 0) (xs : List X) → All P xs → (k : ℕ) (x : X) → slice_get xs k ≡ Some x → P x
at_place P xs all k x at = subst P (get_or_from_slice_get xs k x x at) (all k x (slice_get_within xs k x at))

at_places : {X : Type 0} (R : X → X → Type 0) (xs : List X) → AllPairs R xs → (j k : ℕ) (x y : X) → j < k → slice_get xs j ≡ Some x → slice_get xs k ≡ Some y → R x y
at_places R xs all j k x y lt at_j at_k =
    subst (λ a. R a y) (get_or_from_slice_get xs j x x at_j) (subst (λ b. R (slice_index_or xs j x) b) (get_or_from_slice_get xs k y x at_k) (all j k x lt (slice_get_within xs k y at_k)))

-- effects stand in sequence
pub in_sequence : (w : World) → Inv w → AreInSequence w.log.effects
in_sequence w inv =
    let log = in_log w inv in
    record {
      after = λ k e at. (at_place (λ (x : Effect). IsEffect w.log.events x) w.log.effects log.within k e at).after;
      ascending = at_places (λ (x y : Effect). x.moment ≤ y.moment) w.log.effects log.ascending;
      once = at_places (λ (x y : Effect). x.place ≢ y.place) w.log.effects log.once;
    }

-- the kept words hold what the replay of the order leaves
pub agreement : (w : World) → Inv w → kept_content w.shape w.memory.kept ≡ queue_after w.log.events w.base (order_of w.log.effects)
agreement w inv = agrees w inv ∙ sym (queue_of_order w.shape.kind w.base w.told w.log.events w.log.effects (in_log w inv))

-- the same of a world
pub room_held : {w : State} → Holds w → length w.log.effects ≤ length w.log.events
room_held {w = w} holds = effect_room (machine w) (from_invariant (machine w) holds.inv)

pub sequence_held : {w : State} → Holds w → AreInSequence w.log.effects
sequence_held {w = w} holds = in_sequence (machine w) (from_invariant (machine w) holds.inv)
