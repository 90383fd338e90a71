-- Where no crash may have come, none came.
use Rattle.std.proofs.Common.{◌≡◌, ◌++◌, ◌∙◌, inl, inr, ℕ, false, true, true≢false, Bool, List, length, refl, sym, subst}
use Rattle.std.proofs.lemmas.Bool.{cases_lt}
use Rattle.words.specs.declared.call.Client.{Client}
use Rattle.events.specs.History.{CrashAt}
use Rattle.events.specs.declared.event.Event.{Event}
use Rattle.events.specs.declared.event.Event.TheVariants.{Crash as crash_event}
use Rattle.events.proofs.Facts.{get_before}
use Rattle.named.specs.Brokers.{is_down}
use Rattle.session.specs.Sessions.{Sessioned}
use Rattle.workers.specs.Deeds.{IsUnstopped}
use Rattle.workers.proofs.guard.Acts.{IsCarriedFor, IsStillFor}
use Rattle.workers.proofs.histories.Endings.{get_added}

-- a crash that stands in a history stood there before
was_there : (client : Client) (old new : List Event) → IsStillFor false client old new → (place : ℕ) → CrashAt new place
    → CrashAt old place
was_there client old new still place at = elim (cases_lt place (length old)) [
  | inl lt ↦ get_before old still.rest place crash_event lt longer
  | inr le ↦
      let added = get_added old still.rest place crash_event le longer in
      absurd (true≢false (sym (still.none added.0 crash_event added.1)))
]
  where
    longer : CrashAt (old ++ still.rest) place
    longer = subst (λ (es : List Event). CrashAt es place) still.is at

-- a broker that was ready is so still
stays_up : (client : Client) (old new : Sessioned) → IsCarriedFor false client old new → is_down old.broker ≡ false
    → is_down new.broker ≡ false
stays_up client old new carried up = go (is_down new.broker) refl
  where
    go : (down : Bool) → is_down new.broker ≡ down → is_down new.broker ≡ false
    go false is = is
    go true is = elim (carried.down is) [
      | inl was ↦ absurd (true≢false (sym was ∙ up))
      | inr crashed ↦ absurd (true≢false (sym crashed.0))
    ]

pub unstopped : (client : Client) (old new : Sessioned) → IsCarriedFor false client old new
    → IsUnstopped old.broker new.broker
unstopped client old new carried = record {
  up = stays_up client old new carried;
  crashes = λ slot place at. was_there client _ _ (carried.events slot) place at;
}
