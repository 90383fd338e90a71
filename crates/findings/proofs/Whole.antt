-- A recording has an order, or one of the four patterns is in it.
use Rattle.std.proofs.Common.{ℕ, ◌⊎◌, ◌↔◌, List, Option, inl, inr}
use Rattle.words.specs.declared.told.Outcome.{Outcome}
use Rattle.events.specs.declared.event.Event.{Event}
use Rattle.findings.specs.FourPatterns.{IsOfQueue, HasPattern, HasOrder}
use Rattle.windows.specs.Runs.{Step}
use Rattle.windows.specs.Calls.{Explain, Pattern}
use Rattle.windows.proofs.Facts.{order_or_pattern}
use Rattle.findings.proofs.Meanings.{HasMeaning, meanings_or, calls_of, are_calls}
use Rattle.findings.proofs.Explained.{order, explains}
use Rattle.findings.proofs.Showing.{pattern_refutes}
use Rattle.findings.proofs.Found.{pattern_is}

pub order_or : (events : List Event) (learnt : List (Option Outcome)) → IsOfQueue events learnt
    → HasOrder events learnt ⊎ HasPattern events learnt
order_or events learnt is = go (meanings_or events learnt is)
  where
    with_calls : (meaning : (p : ℕ) → HasMeaning events learnt p)
        → ((steps : List Step) × Explain (calls_of events learnt meaning) steps)
        ⊎ Pattern (calls_of events learnt meaning)
        → HasOrder events learnt ⊎ HasPattern events learnt
    with_calls meaning (inl (steps, explain)) = inl (record {
      order = order events learnt is meaning steps explain;
      explains = explains events learnt is meaning steps explain;
    })
    with_calls meaning (inr pattern) = inr (pattern_is events learnt is meaning pattern)

    go : ((p : ℕ) → HasMeaning events learnt p) ⊎ HasPattern events learnt
        → HasOrder events learnt ⊎ HasPattern events learnt
    go (inl meaning) =
        with_calls meaning (order_or_pattern (calls_of events learnt meaning) (are_calls events learnt meaning))
    go (inr pattern) = inr pattern

pub order_without : (events : List Event) (learnt : List (Option Outcome)) → IsOfQueue events learnt
    → (HasOrder events learnt ↔ (HasPattern events learnt → ⊥))
order_without events learnt is = (
  (λ has pattern. pattern_refutes events learnt is.distinct pattern has.order has.explains),
  (λ none. go none (order_or events learnt is)),
)
  where
    go : (HasPattern events learnt → ⊥) → HasOrder events learnt ⊎ HasPattern events learnt → HasOrder events learnt
    go none (inl has) = has
    go none (inr pattern) = absurd (none pattern)
