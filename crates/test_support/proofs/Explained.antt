-- What a broker shows of an open slot is explained.
use Rattle.std.proofs.Common.{◌≡◌, refl, Bool, true, List, Option, None, Some, Result, Ok, Err}
use Rattle.std.specs.Prelude.{◌↔◌, IfOk, IsSome, IsTrue}
use Rattle.words.specs.PlainQueue.{Value}
use Rattle.words.specs.declared.refusal.Refusal.{Refusal}
use Rattle.events.specs.Explains.{IsExplained}
use Rattle.events.specs.Replay.{queue_after}
use Rattle.events.specs.declared.event.History.{History}
use Rattle.events.specs.declared.event.Order.{Order}
use Rattle.interleave.specs.Holds.{IsExplained as IsWorldExplained}
use Rattle.interleave.specs.State.{State, order_in, kept_content}
use Rattle.named.specs.Slots.{IfWorld}

module _ (h : History) (o : Order) (content : List Value) where
  abbrev IsRight : Type 0
  IsRight = IsExplained h o × (content ≡ queue_after h.events.items h.base.items o.entries.items)

  of_world : (w : State) → h.base.items ≡ w.base → h.told ≡ w.told → h.events.items ≡ w.log.events
      → o.entries.items ≡ order_in w → content ≡ kept_content w → IsWorldExplained w → IsRight
  of_world w base told events order is holds = (
    record { arises = rw events holds.history; explains = rw (base, told, events, order) holds.explains },
    rw (is, base, events, order) holds.agrees,
  )

  pub explained : (at : Option State) → ((w : State) → at ≡ Some w → IsWorldExplained w) → IsSome at
      → IfWorld at (λ w. h.base.items ≡ w.base) → IfWorld at (λ w. h.told ≡ w.told)
      → IfWorld at (λ w. h.events.items ≡ w.log.events) → IfWorld at (λ w. o.entries.items ≡ order_in w)
      → IfWorld at (λ w. content ≡ kept_content w) → IsRight
  explained None all some base told events order is = absurd (cc (some))
  explained (Some w) all some base told events order is = of_world w base told events order is (all w refl)

-- a check that answers true exactly where something holds that does
pub passed : (P : Type 0) → P → (r : Result Bool Refusal) → IfOk r (λ right. IsTrue right ↔ P) → IfOk r (λ right. right ≡ true)
passed P p (Ok right) is = is.1 p
passed P p (Err refusal) is = tt
