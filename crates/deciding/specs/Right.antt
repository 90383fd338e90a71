-- Tables that are right of their calls.
use Rattle.std.specs.Prelude.{◌≡◌, length}
use Rattle.windows.specs.Calls.{Calls, AreCalls}
use Rattle.deciding.specs.declared.tables.Tables.{Tables}
use Rattle.deciding.specs.Table.{calls_by}
use Rattle.deciding.specs.Tables.{AreTakes, AreOpens, AreLows, AreHighs}

abbrev pub calls_in : Tables → Calls
calls_in tables = calls_by tables.known.items tables.ends.items

pub record AreRight (tables : Tables) : Type 0 where
  pub long : length tables.ends.items ≡ length tables.known.items
  pub calls : AreCalls (calls_in tables)
  pub takes : AreTakes (calls_in tables) tables.takes.items
  pub opens : AreOpens (calls_in tables) tables.opens.items
  pub lows : AreLows (calls_in tables) tables.lows.items
  pub highs : AreHighs (calls_in tables) tables.highs.items
