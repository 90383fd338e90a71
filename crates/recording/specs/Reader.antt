-- What a reader has read.
use Rattle.std.specs.Prelude.{ℕ, ◌≡◌, List, Option, map, option_map, String}
use Rattle.std.specs.declared.alloc.Global.{Global}
use Rattle.std.specs.String.{string_bytes}
use Rattle.recording.specs.declared.act.Recording.{Recording}
use Rattle.recording.specs.declared.reader.Reader.{Reader}
use Rattle.recording.specs.Reading.{Read}

abbrev pub read_of : Reader → Read
read_of reader = record {
  clients = map string_bytes reader.clients.keys;
  states = reader.states.items;
  values = map string_bytes reader.values.keys;
  numbers = reader.numbers;
  free = reader.free.items;
  calls = reader.calls.items;
  steps = reader.steps.items;
}

-- the bytes of a text, if there is one
abbrev pub bytes_of : Option (String Global) → Option (List ℕ)
bytes_of text = option_map string_bytes text

-- the recording is what was read
pub record IsOfRead (read : Read) (recording : Recording) : Type 0 where
  pub clients : map string_bytes recording.clients.keys ≡ read.clients
  pub values : map string_bytes recording.values.keys ≡ read.values
  pub calls : recording.calls.items ≡ read.calls
  pub steps : recording.steps.items ≡ read.steps
