-- Recovery that goes on through acts, and what it tells in the end.
use Rattle.std.specs.Prelude.{◌≡◌, ◌≢◌, ◌≤◌, List, [], ◌∷◌, ◌++◌, Some, None}
use Rattle.words.specs.declared.told.Told.{Told}
use Rattle.arena.specs.declared.place.Place.{Place}
use Rattle.stepper.specs.declared.resume.After.TheVariants.{Done as Ready}
use Rattle.recover.specs.declared.recovery.Recovery.{Recovery}
use Rattle.protocol.specs.Acts.{HasNoCrash, StaysDown, recoveries, with_act, run}
use Rattle.protocol.specs.Machine.{World, next_recovery}
use Rattle.protocol.specs.Measure.{most_steps}
use Rattle.protocol.specs.declared.acts.Act.{Act}
use Rattle.protocol.specs.declared.acts.Act.TheVariants.{Recover}

-- recovery is under way
abbrev pub IsDown : World → Type 0
IsDown w = w.recovery ≢ None

-- the queue is down all through these acts, and the next step of recovery ends it and tells this
pub record TellsAfter (w : World) (later : List (Act Place)) (tells : List Told) : Type 0 where
  pub down : StaysDown IsDown with_act w later
  pub point : Recovery
  pub waits : (run w later).recovery ≡ Some point
  pub ends : next_recovery (run w later) point ≡ Ready tells

-- so it is after any acts that leave the queue down, further crashes among them
abbrev pub WhileDown : World → (World → Type 0) → Type 0
WhileDown w claim = (later : List (Act Place)) → StaysDown IsDown with_act w later → claim (run w later)

-- so it is once recovery has ended, whatever else happened meanwhile
abbrev pub OnceRecovered : World → (World → Type 0) → Type 0
OnceRecovered w claim =
    (later : List (Act Place)) (tells : List Told) → TellsAfter w later tells → claim (run w (later ++ Recover ∷ []))

-- recovery tells this when it ends, whatever else happens meanwhile
abbrev pub WillTell : World → List Told → Type 0
WillTell w told = (later : List (Act Place)) (tells : List Told) → TellsAfter w later tells → tells ≡ told

-- the recoveries of these two tell the same when they end, whatever else happens meanwhile
abbrev pub TellAlike : World → World → Type 0
TellAlike v w =
    (later latest : List (Act Place)) (tells telling : List Told)
    → TellsAfter v later tells → TellsAfter w latest telling → tells ≡ telling

-- recovery has ended once it has made so many steps, whatever else happens meanwhile but a crash
abbrev pub RecoveryEnds : World → Type 0
RecoveryEnds w =
    (later : List (Act Place)) → HasNoCrash later → most_steps w.shape ≤ recoveries later
    → (run w later).recovery ≡ None
