-- What takes effect by a change of a kept word, and what is noted of a step.
use Rattle.std.specs.Prelude.{ℕ, List, length, Option, Some, None, if◌then◌else◌}
use Rattle.words.specs.declared.call.Reply.{Reply}
use Rattle.persist.specs.Memory.{Words}
use Rattle.persist.specs.declared.access.Change.{Change}
use Rattle.arena.specs.Layout.{place_at}
use Rattle.arena.specs.declared.place.Place.{Place}
use Rattle.stepper.specs.declared.resume.After.{After}
use Rattle.stepper.specs.declared.resume.Stepped.{Stepped}
use Rattle.helping.specs.Looks.{is_look}
use Rattle.helping.specs.declared.op.Op.{Op}
use Rattle.events.specs.declared.event.Effect.{Effect}
use Rattle.protocol.specs.Machine.{World, effects_on_count, effects_on_keep, effects_on_take}
use Rattle.protocol.specs.declared.UnderWay.{UnderWay}
use Rattle.interleave.specs.Calls.{went_on_to_nothing}
use Rattle.interleave.specs.Core.{CoreState, call_with_record, machine_over}
use Rattle.interleave.specs.Effects.{effects_with_look}

-- the effects once the word of this place, if it is one, has a new kept value
abbrev pub effects_at : World → Option Place → ℕ → List Effect
effects_at w None new = w.log.effects
effects_at w (Some place) new = effects_on_keep w place new

-- the effects once a kept word changed so, if one did
abbrev pub effects_on_change : World → Option Change → List Effect
effects_on_change w None = w.log.effects
effects_on_change w (Some change) = effects_at w (place_at w.shape change.word) change.new

-- where the call stands in the history, if its next step looks for a node
abbrev pub looking : UnderWay → Option ℕ
looking u = if is_look u.op then Some u.place else None

-- the effects after a step, of the call at this place if it looked, that made this change, and went on so
abbrev pub effects_on_step : World → Option ℕ → Option Change → After Op Reply → List Effect
effects_on_step w None change after = effects_on_change w change
effects_on_step w (Some place) change after =
    effects_with_look place (went_on_to_nothing after) (length w.log.events) w.log.effects

-- the effects of a core over words: once the call with this record takes effect with this reply, once it counts, once
-- the place's word is kept with this value, once a kept word changed so, and after a step that did so
abbrev pub effects_by_take : CoreState → ℕ → Reply → List Effect
effects_by_take c number reply =
    effects_on_take reply (length c.trace.log.events) (call_with_record c number) c.trace.log.effects

abbrev pub effects_by_count : CoreState → ℕ → List Effect
effects_by_count c number = effects_on_count (call_with_record c number) c.trace.log.effects

abbrev pub effects_by_keep : CoreState → Words → Place → ℕ → List Effect
effects_by_keep c ws place new = effects_on_keep (machine_over c ws) place new

abbrev pub effects_by_change : CoreState → Words → Option Change → List Effect
effects_by_change c ws change = effects_on_change (machine_over c ws) change

abbrev pub effects_by_step : CoreState → Words → Option ℕ → Stepped Op Reply → List Effect
effects_by_step c ws looking stepped = effects_on_step (machine_over c ws) looking stepped.change stepped.after
