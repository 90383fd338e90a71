-- Lines that are served at a desk, and a writer to which their replies go.
use Rattle.std.specs.Prelude.{ℕ, true, false, List, Option}
use Rattle.devices.specs.declared.device.Writer.{Ghosts as Writer}
use Rattle.engine.specs.declared.desk.Desk.{Ghosts as Desk}
use Rattle.engine.specs.declared.lines.Progress.{Progress}
use Rattle.engine.specs.declared.reply.Reply.{Reply}
use Rattle.engine.specs.Handled.{RepliesAsFar, RepliesUntilFault}
use Rattle.engine.specs.Lines.{last_line_of, lines_of}
use Rattle.engine.specs.Output.{AreHeld, Moves, SendsSettled, SettlesFor}
use Rattle.engine.specs.Replies.{Meaning, reply_line}
use Rattle.engine.specs.Serving.{HasInput, Serves, ServesWhatWasRead}
use Rattle.engine.specs.Settled.{AreTold, SomeAreTold}

-- a desk and a writer before and after
module _ {D W : Type 0} (desk : Desk D) (writer : Writer W) (old new : D) (before after : W) where
  -- Each of the lines has its reply, up to and with the first accepted stop. The text of the replies was written, and
  -- they are settled.
  abbrev pub ServesAll : Meaning → List (List ℕ) → Type 0
  ServesAll meaning lines =
      Serves meaning true lines (desk.served old) (desk.served new)
      (AreTold (desk.served old) (desk.settled old) (desk.settled new) (writer.written before) (writer.written after))

  -- The first of them have. A beginning of the text was written, and what that tells of is settled.
  abbrev pub ServesSome : Meaning → List (List ℕ) → Type 0
  ServesSome meaning lines =
      Serves meaning false lines (desk.served old) (desk.served new)
      (SomeAreTold (desk.served old) (desk.settled old) (desk.settled new) (writer.written before)
      (writer.written after))

  -- So it is of the last line, if these are any bytes of it; or of a beginning of its reply.
  abbrev pub ServesLast : Meaning → List ℕ → Type 0
  ServesLast meaning bytes = ServesAll meaning (last_line_of bytes)

  abbrev pub BeginsLast : Meaning → List ℕ → Type 0
  BeginsLast meaning bytes = ServesSome meaning (last_line_of bytes)

  -- So it is of the lines of an input, which is the reader's where that is known; or of the first of them.
  abbrev pub ServesWhole : Meaning → Option (List ℕ) → Type 0
  ServesWhole meaning left = HasInput left (λ input. ServesAll meaning (lines_of input))

  abbrev pub ServesPart : Meaning → Option (List ℕ) → Type 0
  ServesPart meaning left = HasInput left (λ input. ServesSome meaning (lines_of input))

  -- The whole lines of what was read of it have their replies, which are told. The reader has this left.
  abbrev pub ServesRead : Meaning → Option (List ℕ) → Option (List ℕ) → Type 0
  ServesRead meaning left left_after =
      HasInput left (λ input.
      ServesWhatWasRead meaning input left_after (desk.served old) (desk.served new)
      (AreTold (desk.served old) (desk.settled old) (desk.settled new) (writer.written before) (writer.written after)))

  -- The lines of these bytes have, as far as the progress says.
  abbrev pub ServesAsFar : Meaning → List ℕ → Progress → Type 0
  ServesAsFar meaning bytes progress =
      RepliesAsFar meaning progress bytes (desk.served old) (desk.served new)
      (AreTold (desk.served old) (desk.settled old) (desk.settled new) (writer.written before) (writer.written after))

  -- So they have, and of their text these bytes are held still.
  abbrev pub HoldsAsFar : Meaning → List ℕ → List ℕ → Progress → Type 0
  HoldsAsFar meaning bytes held progress =
      RepliesAsFar meaning progress bytes (desk.served old) (desk.served new)
      (AreHeld (desk.served old) (desk.settled old) (desk.settled new) (writer.written before) (writer.written after)
      held)

  -- The first of these lines have, as far as the writer and the desk went: a fault of one of them cut off the others.
  abbrev pub CutByFault : Meaning → List ℕ → Type 0
  CutByFault meaning bytes =
      RepliesUntilFault meaning bytes (desk.served old) (desk.served new)
      (SomeAreTold (desk.served old) (desk.settled old) (desk.settled new) (writer.written before)
      (writer.written after))

  -- Bytes that were held were not sent; or all was settled, and then a beginning of them was written.
  abbrev pub Sends : List ℕ → Type 0
  Sends held =
      SendsSettled (desk.served old) (desk.settled old) (desk.settled new) (writer.written before)
      (writer.written after) held

-- a writer before and after
module _ {W : Type 0} (writer : Writer W) (before after : W) where
  -- Of the bytes that were held, with the text of this reply behind them, the first were written, and the others are
  -- held.
  abbrev pub Puts : List ℕ → List ℕ → Reply → Type 0
  Puts held held_after reply = Moves (writer.written before) (writer.written after) held held_after (reply_line reply)

-- a desk before and after
module _ {D : Type 0} (desk : Desk D) (old new : D) where
  -- All that was served is settled; or no byte was held, and nothing more is settled.
  abbrev pub Settles : List ℕ → Type 0
  Settles held = SettlesFor held (desk.served old) (desk.settled old) (desk.settled new)
