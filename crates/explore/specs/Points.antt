-- What a crash at each point of a script comes to.
use Rattle.std.specs.Prelude.{◌≡◌, ℕ, zero, suc, ◌+◌, ◌-◌, ◌%◌, ◌==◌, Bool, true, false, List, [], ◌∷◌, ◌++◌, Option, Some, None, length, map, take, drop, replicate, if◌then◌else◌}
use Rattle.std.specs.List.{range_with_len}
use Rattle.rand_pcg.specs.Lcg.{Lcg, started, increment_of}
use Rattle.rand_pcg.specs.Pcg.{pcg32, multiplier_64}
use Rattle.words.specs.PlainQueue.{Value}
use Rattle.words.specs.declared.limits.TheConstants.{MAX_CLIENTS}
use Rattle.words.specs.declared.told.Told.{Told}
use Rattle.arena.specs.Layout.{size_of}
use Rattle.arena.specs.Shape.{Shape}
use Rattle.events.specs.declared.event.Event.{Event}
use Rattle.events.specs.declared.event.Event.TheVariants.{Crash as crash_event, Ready as ready_event}
use Rattle.protocol.specs.declared.acts.Act.{Act}
use Rattle.protocol.specs.declared.acts.Act.TheVariants.{Evict, Recover}
use Rattle.interleave.specs.State.{State, new_world, after_acts, taken_of, after_crash, after_stop, kept_content, most_to_ready}
use Rattle.grammar.specs.Grammar.{shape_by}
use Rattle.grammar.specs.Scripted.{Scripted}
use Rattle.explore.specs.Acts.{acts_of}
use Rattle.playing.specs.Transcript.{told_at}
use Rattle.grammar.specs.declared.commands.Command.{Command}
use Rattle.grammar.specs.declared.commands.QueueLine.{QueueLine}
use Rattle.explore.specs.declared.point.Point.{Point}
use Rattle.explore.specs.declared.evictions.Evictions.{Evictions}
use Rattle.explore.specs.declared.part.Part.{Part}
use Rattle.explore.specs.declared.part.Wanted.{Wanted}
use Rattle.explore.specs.declared.evictions.Evictions.TheVariants.{None as no_word, All, Drawn}

-- the words, so many from this one up, for which the next draws have lowest bit 1
abbrev pub drawn_words : ℕ → ℕ → Lcg → List ℕ
drawn_words zero word draws = []
drawn_words (suc words) word draws =
    if (pcg32 draws).0 % 2 == 1 then word ∷ drawn_words words (word + 1) (pcg32 draws).1
    else drawn_words words (word + 1) (pcg32 draws).1

-- which of so many words are evicted before the crash at a point
abbrev pub evicted_words : Evictions → ℕ → ℕ → List ℕ
evicted_words no_word words point = []
evicted_words All words point = range_with_len 0 words
evicted_words (Drawn state) words point =
    drawn_words words 0 (started 64 multiplier_64 state (increment_of 64 point))

-- those evictions, as acts
abbrev pub evictions_at : Shape → Evictions → ℕ → List (Act ℕ)
evictions_at s evictions point = map Evict (evicted_words evictions (size_of s) point)

-- everything stops after these acts and those evictions
unfoldable pub crashed_world : Shape → List (Act ℕ) → Evictions → ℕ → State
crashed_world s acts evictions point =
    after_crash false (after_acts (after_acts (new_world s) acts) (evictions_at s evictions point))

-- all of recovery: its steps once the queue is ready are refused
abbrev pub recovery_of : Shape → List (Act ℕ)
recovery_of s = replicate (most_to_ready s) Recover

-- what is found once the queue is ready: how many steps recovery had, what each client is told, what the queue holds,
-- and whether the order explains all that happened and its replay leaves that content
pub record Found : Type 0 where
  pub steps : ℕ
  pub told : List Told
  pub content : List Value
  pub ok : Bool

abbrev pub found_of : Point → Found
found_of point =
    record { steps = point.steps; told = point.told; content = point.content.items; ok = point.ok }

abbrev pub all_found : List Point → List Found
all_found points = map found_of points

-- a point is added, at which this is found
abbrev pub AddsFound : List Point → List Point → Found → Type 0
AddsFound before after found = all_found after ≡ all_found before ++ found ∷ []

-- all are told who may have a number; in every world the order explains all that happened (`IsExplained`)
unfoldable pub found_in : State → ℕ → Found
found_in w steps = record {
  steps = steps;
  told = map (told_at w) (range_with_len 0 MAX_CLIENTS);
  content = kept_content w;
  ok = true;
}

-- what a world comes to that stops, and recovers
abbrev pub recovered : State → State
recovered w = after_acts (after_stop w) (recovery_of w.shape)

-- the events of a world that stops, and whose clients are told this once it is ready
abbrev pub events_once_ready : State → List Told → List Event
events_once_ready w told = w.log.events ++ crash_event ∷ ready_event told ∷ []

-- what recovery makes of a world
abbrev pub found_by_recovery : State → List (Act ℕ) → Found
found_by_recovery w recovery = found_in (after_acts w recovery) (taken_of w recovery)

-- what is found if a world stops
abbrev pub found_stopped : State → Found
found_stopped w = found_by_recovery (after_stop w) (recovery_of w.shape)

-- a world that had made the first of these acts, so many of them, makes the next one too, if there is one
abbrev pub MakesNextAct : List (Act ℕ) → ℕ → State → State → Type 0
MakesNextAct acts made old new =
    (w : State) → old ≡ after_acts w (take made acts) → new ≡ after_acts w (take (made + 1) acts)

-- what a crash after these acts comes to
abbrev pub found_after : Shape → List (Act ℕ) → Evictions → ℕ → Found
found_after s acts evictions point = found_by_recovery (crashed_world s acts evictions point) (recovery_of s)

-- that of a crash after the first of these acts, so many of them
abbrev pub found_at : Shape → List (Act ℕ) → Evictions → ℕ → Found
found_at s acts evictions point = found_after s (take point acts) evictions point

-- those of crashes after the first acts, from so many of them on, up to another number
abbrev pub found_between : Shape → List (Act ℕ) → Evictions → ℕ → ℕ → List Found
found_between s acts evictions from to = map (found_at s acts evictions) (range_with_len from (to - from))

-- those where no word is evicted
abbrev pub found_unevicted : Shape → List (Act ℕ) → ℕ → ℕ → List Found
found_unevicted s acts from to = found_between s acts no_word from to

-- and that of a crash at a point of a script
abbrev pub point_of : Shape → List Command → Evictions → ℕ → Found
point_of s commands evictions point = found_at s (acts_of s commands) evictions point

-- all points of a script: before its first act, and after each
abbrev pub points_on : Shape → List Command → Evictions → List Found
points_on s commands evictions =
    map (point_of s commands evictions) (range_with_len 0 (length (acts_of s commands) + 1))

abbrev pub points_of : Option QueueLine → List Command → Evictions → List Found
points_of None commands evictions = []
points_of (Some queue) commands evictions = points_on (shape_by queue) commands evictions

-- what is found at all points of a script
abbrev pub found_on : Scripted → Evictions → List Found
found_on script evictions = points_of script.queue script.commands evictions

-- which points are wanted: those from one on, so many of them, or all
abbrev pub first_of : {X : Type 0} → Option ℕ → List X → List X
first_of None xs = xs
first_of (Some count) xs = take count xs

abbrev pub part_of : {X : Type 0} → Part → List X → List X
part_of part xs = first_of part.count (drop part.from xs)

-- what is found at those of a script that are wanted
abbrev pub wanted_of : Wanted → Scripted → List Found
wanted_of wanted script = part_of wanted.part (found_on script wanted.evictions)
