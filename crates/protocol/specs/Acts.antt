-- Acts of the machine, in any sequence, and the queue that begins it.
use Rattle.std.specs.Prelude.{◌≡◌, ℕ, ◌+◌, ◌≤◌, ◌<◌, Bool, true, ◌&&◌, List, [], ◌∷◌, Option, Some, None, length, slice_get, nat_lt, nat_le, if◌then◌else◌, ◌==◌}
use Rattle.words.specs.PlainQueue.{fits_value}
use Rattle.words.specs.declared.call.Call.{Call}
use Rattle.words.specs.declared.call.Call.TheVariants.{Enq, Deq}
use Rattle.words.specs.declared.call.Client.{Client}
use Rattle.words.specs.declared.call.Kind.{Kind}
use Rattle.words.specs.declared.call.Kind.TheVariants.{Durable, Log}
use Rattle.words.specs.declared.limits.TheConstants.{MAX_CALL_NUMBER, MAX_CLIENTS}
use Rattle.words.specs.declared.told.Told.{Told}
use Rattle.words.specs.declared.told.Told.TheVariants.{None as told_none}
use Rattle.arena.specs.Content.{kept_content}
use Rattle.arena.specs.Shape.{Shape}
use Rattle.arena.specs.Words.{bumps}
use Rattle.arena.specs.declared.place.Place.{Place}
use Rattle.events.specs.Effects.{order_of}
use Rattle.events.specs.Explains.{Explains}
use Rattle.events.specs.History.{IsHistory}
use Rattle.events.specs.Replay.{queue_after}
use Rattle.words.specs.Told.{no_call}
use Rattle.stepper.specs.declared.resume.After.TheVariants.{Done as Ready}
use Rattle.recover.specs.declared.recovery.Recovery.{Recovery}
use Rattle.protocol.specs.Kept.{TellsOf}
use Rattle.protocol.specs.Machine.{World, with_start, with_step, with_eviction, with_crash, with_recovery_step, next_recovery, new_world}
use Rattle.protocol.specs.declared.UnderWay.{UnderWay}
use Rattle.protocol.specs.declared.acts.Act.{Act}
use Rattle.protocol.specs.declared.acts.Act.TheVariants.{Start, Step, Evict, Crash, Recover}

-- how many steps of recovery an act asks for, and how many these acts do
abbrev pub recovery_step_of : {P : Type 0} → Act P → ℕ
recovery_step_of (Start client number call) = 0
recovery_step_of (Step client) = 0
recovery_step_of (Evict p) = 0
recovery_step_of Crash = 0
recovery_step_of Recover = 1

abbrev pub recoveries : {P : Type 0} → List (Act P) → ℕ
recoveries [] = 0
recoveries (act ∷ acts) = recovery_step_of act + recoveries acts

-- none of these acts is a crash
abbrev pub HasNoCrash : {P : Type 0} → List (Act P) → Type 0
HasNoCrash [] = Unit {0}
HasNoCrash (Start client number call ∷ acts) = HasNoCrash acts
HasNoCrash (Step client ∷ acts) = HasNoCrash acts
HasNoCrash (Evict p ∷ acts) = HasNoCrash acts
HasNoCrash (Crash ∷ acts) = ⊥
HasNoCrash (Recover ∷ acts) = HasNoCrash acts

-- what acts on a state, `after` making of it what an act leaves, is down before each of these acts, and after them
abbrev pub StaysDown : {S A : Type 0} → (S → Type 0) → (S → A → S) → S → List A → Type 0
StaysDown is_down after s [] = is_down s
StaysDown is_down after s (act ∷ acts) = is_down s × StaysDown is_down after (after s act) acts

-- whether the number fits the kind, and the value a word
abbrev pub number_fits : Kind → ℕ → Bool
number_fits Durable number = number == 0
number_fits Log number = nat_le 1 number && nat_le number MAX_CALL_NUMBER

abbrev pub call_fits : Call → Bool
call_fits (Enq value) = fits_value value
call_fits Deq = true

-- whether there is such a client, with a record left, and the call fits
abbrev pub may_start : World → Client → ℕ → Call → Bool
may_start w client number call =
    nat_lt client.0 w.shape.clients
    && (nat_lt (bumps w.memory.cached client.0) w.shape.records && (number_fits w.shape.kind number && call_fits call))

-- a client that has no call under way starts one, in a ready queue
abbrev pub start_attempt : World → Client → ℕ → Call → Option Recovery → Option UnderWay → World
start_attempt w client number call None None =
    if may_start w client number call then with_start w client number call else w
start_attempt w client number call None (Some u) = w
start_attempt w client number call (Some r) u = w

-- a call under way goes on, in a ready queue
abbrev pub step_attempt : World → Client → Option Recovery → Option UnderWay → World
step_attempt w client None (Some u) = with_step w client u
step_attempt w client None None = w
step_attempt w client (Some r) u = w

abbrev pub recovery_attempt : World → Option Recovery → World
recovery_attempt w (Some r) = with_recovery_step w r
recovery_attempt w None = w

-- an act that may not be leaves the world as it is
abbrev pub with_act : World → Act Place → World
with_act w (Start client number call) = start_attempt w client number call w.recovery (w.calls client.0)
with_act w (Step client) = step_attempt w client w.recovery (w.calls client.0)
with_act w (Evict place) = with_eviction w place
with_act w Crash = with_crash w
with_act w Recover = recovery_attempt w w.recovery

abbrev pub run : World → List (Act Place) → World
run w [] = w
run w (act ∷ acts) = run (with_act w act) acts

-- a new queue after these acts
abbrev pub world_after : Shape → List Told → List (Act Place) → World
world_after s told acts = run (new_world s told) acts

-- what is told where nobody has called: nothing of any call, and nothing where there is no client
abbrev pub TellsNothing : Shape → List Told → Type 0
TellsNothing s told =
    (t : ℕ) → t < MAX_CLIENTS → slice_get told t ≡ Some (if nat_lt t s.clients then no_call s.kind else told_none)

-- a queue has 1 to 16 clients, and tells each of them that it never called
pub record IsNew (s : Shape) (told : List Told) : Type 0 where
  pub some : 1 ≤ s.clients
  pub few : s.clients ≤ MAX_CLIENTS
  pub tells : TellsNothing s told

-- a new queue of this shape comes to this world by some acts
pub record IsReached (s : Shape) (w : World) : Type 0 where
  pub told : List Told
  pub acts : List (Act Place)
  pub new : IsNew s told
  pub by : world_after s told acts ≡ w

-- the history may arise, the order explains it, and the kept words hold what the order's replay leaves
pub record IsExplained (w : World) : Type 0 where
  pub arises : IsHistory w.log.events
  pub explains : Explains w.base w.told w.log.events (order_of w.log.effects)
  pub holds : kept_content w.shape w.memory.kept ≡ queue_after w.log.events w.base (order_of w.log.effects)

-- where recovery ends now, sixteen clients are told, each by the kept words
pub record TellsByKept (w : World) : Type 0 where
  pub sixteen : (r : Recovery) (tells : List Told) → w.recovery ≡ Some r → next_recovery w r ≡ Ready tells
      → length tells ≡ MAX_CLIENTS
  pub each : (r : Recovery) (tells : List Told) → w.recovery ≡ Some r → next_recovery w r ≡ Ready tells
      → (t : ℕ) (told : Told) → slice_get tells t ≡ Some told
      → TellsOf w.shape (with_recovery_step w r).memory.kept t told

-- these two keep equal words
abbrev pub KeepAlike : World → World → Type 0
KeepAlike v w = (p : Place) → v.memory.kept p ≡ w.memory.kept p

-- nothing is pending: every word is kept as it is cached
abbrev pub IsAllKept : World → Type 0
IsAllKept w = (p : Place) → w.memory.cached p ≡ w.memory.kept p

-- no node stands twice in this list
abbrev pub HasNoneTwice : List ℕ → Type 0
HasNoneTwice nodes = (i j n : ℕ) → slice_get nodes i ≡ Some n → slice_get nodes j ≡ Some n → i ≡ j
