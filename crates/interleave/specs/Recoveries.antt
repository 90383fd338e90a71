-- A step of recovery, over words.
use Rattle.std.specs.Prelude.{◌≡◌, ◌≤◌, Bool, List, length, Option, Some}
use Rattle.words.specs.declared.told.Told.{Told}
use Rattle.persist.specs.Memory.{Lent, Words}
use Rattle.persist.specs.declared.access.Change.{Change}
use Rattle.persist.specs.declared.access.Noted.{Noted}
use Rattle.arena.specs.Layout.{size_of}
use Rattle.arena.specs.Shape.{Shape}
use Rattle.stepper.specs.Step.{value_found, IsReadInRange}
use Rattle.stepper.specs.declared.resume.After.{After}
use Rattle.recover.specs.Table.{access_of, recovery_reached, IsPoint}
use Rattle.recover.specs.declared.recovery.Recovery.{Recovery}
use Rattle.protocol.specs.Machine.{recovery_events, recovery_left}
use Rattle.interleave.specs.Core.{CoreState}
use Rattle.interleave.specs.Points.{change_by_recovery, lent_by_recovery, next_by_recovery, words_by_recovery}
use Rattle.interleave.specs.State.{is_ready, queue_at_ready}

-- the words have room, the point is in range, and so is what it is about to read
pub record MayRecover (s : Shape) (ws : Words) (r : Recovery) : Type 0 where
  pub room : size_of s ≤ length ws.cached
  pub point : IsPoint s r.at
  pub read : IsReadInRange s (access_of s.kind r.at) (value_found s (access_of s.kind r.at) ws)

-- a recovery goes on from here; or it has told every client, and this is what comes next
pub record HasReached (done : Bool) (now : Option Recovery) (next : After Recovery (List Told)) : Type 0 where
  pub recovery : Recovery
  pub is : now ≡ Some recovery
  pub goes_on : recovery_reached done recovery ≡ next

-- what is so of the recovery that is under way
abbrev pub OfRecovery : Option Recovery → (Recovery → Type 0) → Type 0
OfRecovery recovery P = (r : Recovery) → recovery ≡ Some r → P r

-- its step left these words, lent the port so, came to this, and changed a kept value so
abbrev pub IsLeftByRecovery : Shape → Option Recovery → Words → Words → Type 0
IsLeftByRecovery s recovery ws left = OfRecovery recovery (λ r. left ≡ words_by_recovery s r ws)

abbrev pub IsLentByRecovery : Shape → Option Recovery → Lent → Lent → Type 0
IsLentByRecovery s recovery lent left = OfRecovery recovery (λ r. left ≡ lent_by_recovery s r lent)

abbrev pub IsNextByRecovery : Shape → Option Recovery → Words → Bool → Option Recovery → Type 0
IsNextByRecovery s recovery ws done now = OfRecovery recovery (λ r. HasReached done now (next_by_recovery s r ws))

abbrev pub IsChangeByRecovery : Shape → Option Recovery → Words → Option Change → Type 0
IsChangeByRecovery s recovery ws change = OfRecovery recovery (λ r. change ≡ change_by_recovery s r ws)

-- recovery made the one access of its waiting point, and went on by the table: what it left of a core and of its words,
-- whether it is at its end, and the change of a kept value
pub record IsRecoveredBy (r : Recovery) (old : CoreState) (ws : Words) (new : CoreState) (left : Words) (noted : Noted Bool)
    : Type 0 where
  pub words : left ≡ words_by_recovery old.shape r ws
  pub recovery : new.trace.recovery ≡ recovery_left (next_by_recovery old.shape r ws)
  pub events : new.trace.log.events ≡ recovery_events old.trace.log.events (next_by_recovery old.shape r ws)
  pub queue : new.queue ≡ queue_at_ready old.queue (next_by_recovery old.shape r ws)
  pub answer : noted.answer ≡ is_ready (next_by_recovery old.shape r ws)
  pub change : noted.change ≡ change_by_recovery old.shape r ws

abbrev pub IsRecoveryStep : CoreState → Words → CoreState → Words → Noted Bool → Type 0
IsRecoveryStep old ws new left noted = OfRecovery old.trace.recovery (λ r. IsRecoveredBy r old ws new left noted)
