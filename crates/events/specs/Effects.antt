-- How the list of effects grows, and the order that it gives.
use Rattle.std.specs.Prelude.{ℕ, Bool, true, false, not, ◌&&◌, List, [], ◌∷◌, ◌++◌, map, filter, if◌then◌else◌, ◌==◌}
use Rattle.words.specs.declared.call.Reply.{Reply}
use Rattle.words.specs.declared.call.Reply.TheVariants.{Empty}
use Rattle.events.specs.declared.event.Effect.{Effect}
use Rattle.events.specs.declared.event.Entry.{Entry}

-- the entry of a settled effect
abbrev pub entry_of : Effect → Entry
entry_of e = record { place = e.place; reply = e.reply }

-- the order: the settled effects, as they came
abbrev pub order_of : List Effect → List Entry
order_of effects = map entry_of (filter (λ e. e.settled) effects)

-- with that of a call which takes effect at this moment
abbrev pub with_effect : ℕ → Reply → ℕ → List Effect → List Effect
with_effect place reply moment effects =
    effects ++ record { place = place; reply = reply; moment = moment; settled = true } ∷ []

-- with that of a call which finds the queue empty at this moment: pending, it does not count yet
abbrev pub with_pending : ℕ → ℕ → List Effect → List Effect
with_pending place moment effects =
    effects ++ record { place = place; reply = Empty; moment = moment; settled = false } ∷ []

-- whether the effect is of the call at the place, and pending
abbrev pub is_pending_at : ℕ → Effect → Bool
is_pending_at place e = (e.place == place) && not e.settled

-- without what the call at the place found, where that is pending
abbrev pub without_pending : ℕ → List Effect → List Effect
without_pending place effects = filter (λ e. not (is_pending_at place e)) effects

-- the effect, settled where it is of the call at the place
abbrev pub effect_settled_at : ℕ → Effect → Effect
effect_settled_at place e = if e.place == place then record e { settled = true } else e

-- with what the call at the place found settled, where it stands
abbrev pub with_settled : ℕ → List Effect → List Effect
with_settled place effects = map (effect_settled_at place) effects

-- the settled effects: a crash leaves out the others
abbrev pub settled_effects : List Effect → List Effect
settled_effects effects = filter (λ e. e.settled) effects
