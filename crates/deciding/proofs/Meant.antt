-- What a call's reply means.
use Rattle.std.proofs.Common.{ℕ, ◌≡◌, ◌<◌, List, Option, length}
use Rattle.words.specs.PlainQueue.{Value}
use Rattle.words.specs.declared.call.Call.TheVariants.{Enq}
use Rattle.words.specs.declared.call.Reply.{Reply}
use Rattle.words.specs.declared.call.Reply.TheVariants.{Done}
use Rattle.words.specs.declared.told.Outcome.{Outcome}
use Rattle.events.specs.declared.event.Event.{Event}
use Rattle.findings.specs.Findings.{IsKnown, IsKnownGot, PutsAt, TakesAt}
use Rattle.findings.specs.FourPatterns.{HasPattern, IsOfQueue, invented}
use Rattle.findings.proofs.Offered.{within_events}

pub no_such_put : (events : List Event) (learnt : List (Option Outcome)) (p : ℕ) (value : Value) (reply : Reply)
    → PutsAt events p value → IsKnown events learnt p reply → (reply ≡ Done → ⊥) → IsOfQueue events learnt
    → HasPattern events learnt
no_such_put events learnt p value reply puts known differ is = absurd (differ (is.puts p value reply puts known))

pub no_such_take : (events : List Event) (learnt : List (Option Outcome)) (p : ℕ) (reply : Reply)
    → TakesAt events p → IsKnown events learnt p reply → reply ≡ Done → IsOfQueue events learnt → HasPattern events learnt
no_such_take events learnt p reply takes known same is = absurd (is.takes p reply takes known same)

pub nobody_put : (events : List Event) (learnt : List (Option Outcome)) (p : ℕ) (value : Value)
    → IsKnownGot events learnt p value → ((q : ℕ) → q < length events → PutsAt events q value → ⊥)
    → IsOfQueue events learnt → HasPattern events learnt
nobody_put events learnt p value got none is = invented p value (record {
  got = got;
  none = λ q puts. absurd (none q (within_events events q (Enq value) puts) puts);
})
