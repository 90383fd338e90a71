-- What a connection is told.
use Rattle.std.specs.Prelude.{◌≡◌, ℕ, List, [], IfSome, None, Option, true, false, Result, Ok, Err}
use Rattle.chronicle.specs.Chronicled.{Chronicled, entries}
use Rattle.desk.specs.Answering.{IsServedInTurn}
use Rattle.devices.specs.Devices.{IsFlushed}
use Rattle.devices.specs.declared.device.Reader.{Ghosts as Reader}
use Rattle.devices.specs.declared.device.Writer.{Ghosts as Writer}
use Rattle.engine.specs.Lines.{lines_of}
use Rattle.engine.specs.Serving.{HasInput, Serves, ServesWhatWasRead}
use Rattle.engine.specs.Settled.{AreTold, SomeAreTold}
use Rattle.engine.specs.declared.failure.Failure.{Failure}
use Rattle.engine.specs.declared.failure.Failure.TheVariants.{NotKept, ReadFailed, WriteFailed}
use Rattle.requests.specs.Line.{meaning}
use Rattle.session.specs.Sessions.{Sessioned}
use Rattle.wire.specs.declared.answer.Answer.{Answer}
use Rattle.wire.specs.declared.request.Request.{Request}

-- a reader and a writer, and what a desk has served, before and after
module _ {R W : Type 0} (reader : Reader R) (writer : Writer W) (old new : Chronicled (Request × Answer)) where
  -- The lines of all that the reader had left have their replies, for which these requests were made. The text of the
  -- replies was written, and the requests are settled.
  abbrev pub TellsAll : R → W → W → Type 0
  TellsAll from before after =
      HasInput (reader.left from)
      (λ text. Serves meaning true (lines_of text) (entries old) (entries new)
      (AreTold (entries old) old.settled new.settled (writer.written before) (writer.written after)))

  -- The first of them have. A beginning of the text was written, and what that tells of is settled.
  abbrev pub TellsSome : R → W → W → Type 0
  TellsSome from before after =
      HasInput (reader.left from)
      (λ text. Serves meaning false (lines_of text) (entries old) (entries new)
      (SomeAreTold (entries old) old.settled new.settled (writer.written before) (writer.written after)))

  -- The whole lines of what was read have, which are told.
  abbrev pub TellsRead : R → R → W → W → Type 0
  TellsRead from to before after =
      HasInput (reader.left from)
      (λ text. ServesWhatWasRead meaning text (reader.left to) (entries old) (entries new)
      (AreTold (entries old) old.settled new.settled (writer.written before) (writer.written after)))

  -- so it is by how the connection ended
  abbrev pub TellsBy : Result Unit Failure → R → R → W → W → Type 0
  TellsBy (Ok done) from to before after = TellsAll from before after × IsFlushed (writer.written after) (writer.flushed after)
  TellsBy (Err ReadFailed) from to before after = TellsRead from to before after
  TellsBy (Err WriteFailed) from to before after = TellsSome from before after
  TellsBy (Err NotKept) from to before after = TellsSome from before after

  -- however it ended
  abbrev pub TellsSomehow : R → R → W → W → Type 0
  TellsSomehow from to before after = (ended : Result Unit Failure) × TellsBy ended from to before after

-- nothing is served yet
abbrev pub unserved : Chronicled (Request × Answer)
unserved = record { settled = []; unsettled = [] }

-- A desk over a journal served so: this is so of what it served, of which what is settled was answered in turn, up to
-- the session of this token. Without a token nothing is settled.
pub record IsServedLastingly (clients : ℕ) (first : Sessioned) (token : Option Sessioned)
    (IsSo : Chronicled (Request × Answer) → Type 0) : Type 0 where
  pub served : Chronicled (Request × Answer)
  pub is : IsSo served
  pub lasting : IfSome token (IsServedInTurn clients first served.settled)
  pub known : token ≡ None → served.settled ≡ []
