-- What is found in a world is explained by its order, so its point is ok.
use Rattle.std.proofs.Common.{◌≡◌, refl, sym, subst, ap, ◌∙◌, ℕ, List, map}
use Rattle.std.specs.Prelude.{Bool, IsTrue}
use Rattle.std.specs.List.{range_with_len}
use Rattle.words.specs.PlainQueue.{Value}
use Rattle.words.specs.declared.limits.TheConstants.{MAX_CLIENTS}
use Rattle.words.specs.declared.told.Told.{Told}
use Rattle.events.specs.Explains.{Explains, IsExplained}
use Rattle.events.specs.History.{IsHistory}
use Rattle.events.specs.Replay.{queue_after}
use Rattle.events.specs.declared.event.Entry.{Entry}
use Rattle.events.specs.declared.event.History.{History}
use Rattle.events.specs.declared.event.Order.{Order}
use Rattle.interleave.specs.Holds.{IsExplained as IsWorldExplained}
use Rattle.interleave.specs.State.{State, order_in, kept_content}
use Rattle.explore.specs.Points.{found_in}
use Rattle.playing.specs.Transcript.{told_at}

-- a world's history and order, as its calls show them
pub record AreOf (w : State) (h : History) (o : Order) : Type 0 where
  pub base : h.base.items ≡ w.base
  pub told : h.told ≡ w.told
  pub events : h.events.items ≡ w.log.events
  pub order : o.entries.items ≡ order_in w

pub explained : (w : State) (h : History) (o : Order) → AreOf w h o → IsWorldExplained w → IsExplained h o
explained w h o are holds =
    let entries = subst (λ (l : List Entry). Explains w.base w.told w.log.events l) (sym are.order) holds.explains in
    let events = subst (λ l. Explains w.base w.told l o.entries.items) (sym are.events) entries in
    let told = subst (λ l. Explains w.base l h.events.items o.entries.items) (sym are.told) events in
    record {
      arises = subst IsHistory (sym are.events) holds.history;
      explains = subst (λ l. Explains l h.told h.events.items o.entries.items) (sym are.base) told;
    }

pub left : (w : State) (h : History) (o : Order) (content : List Value) → AreOf w h o → IsWorldExplained w
    → content ≡ kept_content w → content ≡ queue_after h.events.items h.base.items o.entries.items
left w h o content are holds is =
    is ∙ holds.agrees ∙ ap (λ l. queue_after l w.base (order_in w)) (sym are.events)
    ∙ ap (λ l. queue_after h.events.items l (order_in w)) (sym are.base)
    ∙ ap (queue_after h.events.items h.base.items) (sym are.order)

-- so its point is ok
pub found_is : (w : State) (steps : ℕ) (told : List Told) (content : List Value) (ok : Bool)
    → told ≡ map (told_at w) (range_with_len 0 MAX_CLIENTS) → content ≡ kept_content w → IsTrue ok
    → record { steps = steps; told = told; content = content; ok = ok } ≡ found_in w steps
unfolding found_in
found_is w steps told content ok is_statement holds right =
    ap (λ t. record { steps = steps; told = t; content = content; ok = ok }) is_statement
    ∙ ap (λ l. record {
      steps = steps;
      told = map (told_at w) (range_with_len 0 MAX_CLIENTS);
      content = l;
      ok = ok;
    }) holds
    ∙ ap (λ b. record {
      steps = steps;
      told = map (told_at w) (range_with_len 0 MAX_CLIENTS);
      content = kept_content w;
      ok = b;
    }) right

pub found_ok : (w : State) (steps : ℕ) → IsTrue (found_in w steps).ok
unfolding found_in
found_ok w steps = refl
