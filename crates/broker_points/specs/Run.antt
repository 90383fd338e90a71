-- A report on the points of a broker's script, and where it is written.
use Rattle.std.specs.Prelude.{◌≡◌, ◌+◌, ℕ, List, [], ◌++◌, Option, Some, None, length, codes, decimal}
use Rattle.std.specs.Io.KnownBytes.{Appends}
use Rattle.std.specs.List.{AllZip, concat, range_with_len}
use Rattle.arena.specs.Shape.{Counts}
use Rattle.devices.specs.Devices.{AppendsBeginning}
use Rattle.devices.specs.declared.device.Reader.{Ghosts as Reader}
use Rattle.devices.specs.declared.device.Writer.{Ghosts as Writer}
use Rattle.grammar.specs.Lines.{lines_of}
use Rattle.named.specs.Brokers.{IsNew}
use Rattle.session.specs.Sessions.{Sessioned}
use Rattle.explore.specs.declared.evictions.Evictions.{Evictions}
use Rattle.broker_lines.specs.Grammar.{counts_by}
use Rattle.broker_lines.specs.Script.{SaysScript}
use Rattle.broker_lines.specs.Scripted.{Scripted}
use Rattle.broker_lines.specs.declared.statements.BrokerLine.{BrokerLine}
use Rattle.broker_lines.specs.declared.statements.Statement.{Statement}
use Rattle.broker_script.specs.Play.{new_played}
use Rattle.broker_points.specs.Acts.{AreActsOf}
use Rattle.broker_points.specs.Points.{IsPointAt}

-- the last line counts the points, and those that are not ok
abbrev pub count_text : ℕ → ℕ → List ℕ
count_text points bad = codes "points " ++ decimal points ++ codes " bad " ++ decimal bad ++ codes "\n"

-- a report on acts: the line of each point, from before the first act on, and one that counts them. None is bad
pub record IsReportOn (c : Counts) (acts : List Statement) (evictions : Evictions) (text : List ℕ) : Type 0 where
  pub points : List (List ℕ)
  pub each : AllZip (IsPointAt c acts evictions) (range_with_len 0 (length acts + 1)) points
  pub is : text ≡ concat points ++ count_text (length points) 0

-- that on the acts of some lines
pub record IsReportOf (c : Counts) (statements : List Statement) (evictions : Evictions) (text : List ℕ)
    : Type 0 where
  pub session : Sessioned
  pub made : IsNew c session.broker
  pub acts : List Statement
  pub are : AreActsOf (new_played session) statements acts
  pub report : IsReportOn c acts evictions text

-- and that on a script: it is empty where there is no broker
abbrev pub IsReport : Option BrokerLine → List Statement → Evictions → List ℕ → Type 0
IsReport None statements evictions text = text ≡ []
IsReport (Some broker) statements evictions text = IsReportOf (counts_by broker) statements evictions text

-- a text says a script, and this is a report on it
pub record Reports (evictions : Evictions) (text printed : List ℕ) : Type 0 where
  pub script : Scripted
  pub says : SaysScript (lines_of text) script
  pub report : IsReport script.broker script.statements evictions printed

-- where the bytes to read are known, a report on them was written
abbrev pub PrintsReport : Evictions → Option (List ℕ) → Option (List ℕ) → Option (List ℕ) → Type 0
PrintsReport evictions None old new = Unit {0}
PrintsReport evictions (Some text) old new =
    (printed : List ℕ) × Reports evictions text printed × Appends old new printed

-- or only a beginning of one
abbrev pub PrintsReportBeginning : Evictions → Option (List ℕ) → Option (List ℕ) → Option (List ℕ) → Type 0
PrintsReportBeginning evictions None old new = Unit {0}
PrintsReportBeginning evictions (Some text) old new =
    (printed : List ℕ) × Reports evictions text printed × AppendsBeginning old new printed

-- a reader as a run finds it, and a writer before and after the run
module _ {R W : Type 0} (reader : Reader R) (writer : Writer W) where
  -- a report on what the reader had left was printed, or only a beginning of one
  abbrev pub PrintsPoints : Evictions → R → W → W → Type 0
  PrintsPoints evictions from old new =
      PrintsReport evictions (reader.left from) (writer.written old) (writer.written new)

  abbrev pub BeginsPoints : Evictions → R → W → W → Type 0
  BeginsPoints evictions from old new =
      PrintsReportBeginning evictions (reader.left from) (writer.written old) (writer.written new)
