-- What a step of a call asks for.
use Rattle.std.specs.Prelude.{◌≤◌, length}
use Rattle.words.specs.declared.call.Reply.{Reply}
use Rattle.arena.specs.Layout.{size_of}
use Rattle.arena.specs.Shape.{Shape}
use Rattle.stepper.specs.Step.{value_found, IsReadInRange}
use Rattle.stepper.specs.declared.resume.After.{After}
use Rattle.stepper.specs.declared.resume.After.TheVariants.{More, Done}
use Rattle.helping.specs.Table.{access_of, IsPoint}
use Rattle.helping.specs.declared.op.Op.{Op}
use Rattle.protocol.specs.declared.UnderWay.{UnderWay}
use Rattle.interleave.specs.State.{State}

-- what a step leads to is a point in range, or an answer
abbrev pub IsMoreInRange : Shape → After Op Reply → Type 0
IsMoreInRange s (More op) = IsPoint s op
IsMoreInRange s (Done reply) = Unit {0}

-- the words have room, the call waits at a point in range, and so is what it is about to read
pub record MayGoOn (w : State) (call : UnderWay) : Type 0 where
  pub room : size_of w.shape ≤ length w.words.cached
  pub point : IsPoint w.shape call.op
  pub read : IsReadInRange w.shape (access_of w.shape.kind call.op)
      (value_found w.shape (access_of w.shape.kind call.op) w.words)
