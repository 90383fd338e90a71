-- What was served of an input of JSON lines, where nothing had been served before.
use Rattle.std.specs.Prelude.{◌≡◌, ◌⊎◌, ℕ, Bool, false, true, List, [], Option}
use Rattle.words.specs.declared.refusal.Refusal.{Refusal}
use Rattle.words.specs.declared.refusal.Refusal.TheVariants.{Busy, NoMemory, ReadFailed, WriteFailed}
use Rattle.std.specs.Io.KnownBytes.{Appends}
use Rattle.devices.specs.Devices.{AppendsBeginning}
use Rattle.devices.specs.declared.device.Reader.{Ghosts as Reader}
use Rattle.devices.specs.declared.device.Writer.{Ghosts as Writer}
use Rattle.engine.specs.Lines.{lines_of}
use Rattle.engine.specs.Replies.{Served, output_of}
use Rattle.engine.specs.Serving.{HasInput, Serves, ServesWhatWasRead}
use Rattle.named.specs.Brokers.{Brokered}
use Rattle.session.specs.Sessions.{Sessioned}
use Rattle.desk.specs.Serving.{AreAnswered}
use Rattle.owning.specs.Serving.{GoesOnRight, Leads}
use Rattle.requests.specs.Line.{meaning}
use Rattle.serving.specs.Image.{IsImageOf, IsOpenedOver}

-- There is an input, which is the reader's where that is known. Its lines have their replies, of whose text this is
-- written: these requests were made.
abbrev pub ServesInput : Bool → Option (List ℕ) → (List ℕ → Type 0) → Served → Type 0
ServesInput whole input IsWritten made =
    HasInput input (λ text. Serves meaning whole (lines_of text) [] made (λ replies. IsWritten (output_of replies)))

-- So have the whole lines of what was read of it.
abbrev pub ServesInputRead : Option (List ℕ) → Option (List ℕ) → (List ℕ → Type 0) → Served → Type 0
ServesInputRead input left IsWritten made =
    HasInput input (λ text. ServesWhatWasRead meaning text left [] made (λ replies. IsWritten (output_of replies)))

-- a reader and a writer before and after
module _ {R W : Type 0} (reader : Reader R) (writer : Writer W) where
  -- The lines of all that the reader had left have their replies, whose text was written: these requests were made.
  abbrev pub PipesAll : R → W → W → Served → Type 0
  PipesAll from old new made =
      ServesInput true (reader.left from) (Appends (writer.written old) (writer.written new)) made

  -- The first of them have, and a beginning of their text was written.
  abbrev pub PipesSome : R → W → W → Served → Type 0
  PipesSome from old new made =
      ServesInput false (reader.left from) (AppendsBeginning (writer.written old) (writer.written new)) made

  -- The whole lines of what was read have.
  abbrev pub PipesRead : R → R → W → W → Served → Type 0
  PipesRead from to old new made =
      ServesInputRead (reader.left from) (reader.left to) (Appends (writer.written old) (writer.written new)) made

-- Requests were made, one after another, of a session over the broker, which came to another one by them; each was
-- answered as that says, with an answer that it may have. What was settled stays so, no number took effect twice, and
-- the queues and their histories went on.
pub record IsServed (broker : Brokered) (AreMade : Served → Type 0) : Type 0 where
  pub first : Sessioned
  pub opened : IsOpenedOver broker first
  pub made : Served
  pub are_made : AreMade made
  pub last : Sessioned
  pub leads : Leads first made last
  pub answered : AreAnswered broker.counts.clients made
  pub goes_on : GoesOnRight first last

-- The bytes are the image of the session that those requests led to.
pub record LeavesImage (broker : Brokered) (AreMade : Served → Type 0) (bytes : List ℕ) : Type 0 where
  pub served : IsServed broker AreMade
  pub image : IsImageOf served.last.broker bytes

-- why an input was not served to its end, or no image is left of it
abbrev pub MayEndServed : Refusal → Type 0
MayEndServed refusal = (refusal ≡ ReadFailed) ⊎ (refusal ≡ WriteFailed) ⊎ (refusal ≡ NoMemory)

-- or why nothing was served: a call or a creation is under way
abbrev pub MayEndPipe : Refusal → Type 0
MayEndPipe refusal = MayEndServed refusal ⊎ (refusal ≡ Busy)
