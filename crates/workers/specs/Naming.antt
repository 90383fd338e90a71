-- What names a shared session, and the name of nothing: no roll, and a session that has no queue.
use Rattle.std.specs.Prelude.{[], None, Option}
use Rattle.roll.specs.Seated.{TableId}
use Rattle.named.specs.Memory.{words_at_rest}
use Rattle.named.specs.Brokers.{Brokered}
use Rattle.session.specs.Sessions.{Sessioned}

-- the rolls of a shared session: that of the seats' lists, and that of what was done to all of it; where changes of kept
-- words are noted, that of those which were handed on, and the row of the sessions that
-- were assured; and that of those that were marked
pub record Rolls : Type 0 where
  pub lists : TableId
  pub deeds : TableId
  pub changes : Option TableId
  pub marks : TableId
  pub assured : TableId

abbrev pub no_table : TableId
no_table = record { words = 0; slots = 0; views_name = 0; atom = 0; block = 0; offset = 0; slot_names = [] }

abbrev pub no_roll : Rolls
no_roll = record { lists = no_table; deeds = no_table; changes = None; marks = no_table; assured = no_table }

abbrev pub no_broker : Brokered
no_broker = record {
  counts = record { clients = 0; records = 0 };
  words = words_at_rest [];
  slots = [];
  directory = [];
  creation = None;
  recovery = None;
}

abbrev pub no_session : Sessioned
no_session = record { broker = no_broker; kept = [] }
