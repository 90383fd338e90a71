-- What is known of all steps, and of what they come to.
use Rattle.std.proofs.Common.{◌≡◌, List, Option, subst}
use Rattle.words.specs.declared.told.Outcome.{Outcome}
use Rattle.events.specs.declared.event.Event.{Event}

-- what is so of the one pair of lists is so of the other
pub moved : (P : List Event → List (Option Outcome) → Type 0) (events other : List Event)
    (learnt others : List (Option Outcome)) → events ≡ other → learnt ≡ others → P events learnt → P other others
moved P events other learnt others same_events same_learnt is =
    subst (λ (os : List (Option Outcome)). P other os) same_learnt
    (subst (λ (es : List Event). P es learnt) same_events is)
