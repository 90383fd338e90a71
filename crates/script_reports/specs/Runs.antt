-- What a run reads from a reader, and prints to a writer.
use Rattle.devices.specs.declared.device.Reader.{Ghosts as Reader}
use Rattle.devices.specs.declared.device.Writer.{Ghosts as Writer}
use Rattle.playing.specs.Run.{Prints, PrintsBeginning, PrintsTranscript, BeginsTranscript}
use Rattle.script_reports.specs.Reports.{points_text, stopped_text}
use Rattle.explore.specs.declared.part.Wanted.{Wanted}

-- a reader as a run finds it, and a writer before and after the run
module _ {R W : Type 0} (reader : Reader R) (writer : Writer W) where
  -- a transcript of what the reader had left was printed, or only a beginning of one
  abbrev pub PrintsRun : R → W → W → Type 0
  PrintsRun from old new = PrintsTranscript (reader.left from) (writer.written old) (writer.written new)

  abbrev pub BeginsRun : R → W → W → Type 0
  BeginsRun from old new = BeginsTranscript (reader.left from) (writer.written old) (writer.written new)

  -- the report on its wanted points was, or only a beginning of that
  abbrev pub PrintsPoints : Wanted → R → W → W → Type 0
  PrintsPoints wanted from old new =
      Prints (points_text wanted) (reader.left from) (writer.written old) (writer.written new)

  abbrev pub BeginsPoints : Wanted → R → W → W → Type 0
  BeginsPoints wanted from old new =
      PrintsBeginning (points_text wanted) (reader.left from) (writer.written old) (writer.written new)

  -- what becomes of each call that stopped was, or only a beginning of that
  abbrev pub PrintsAlone : R → W → W → Type 0
  PrintsAlone from old new = Prints stopped_text (reader.left from) (writer.written old) (writer.written new)

  abbrev pub BeginsAlone : R → W → W → Type 0
  BeginsAlone from old new =
      PrintsBeginning stopped_text (reader.left from) (writer.written old) (writer.written new)
