-- A rotation of the machine: its history ends, and another begins on what the kept words hold and tell.
use Rattle.std.specs.Prelude.{[]}
use Rattle.arena.specs.Content.{kept_content}
use Rattle.sound_words.specs.Told.{tells_by}
use Rattle.protocol.specs.Machine.{Trace, World}

-- of a history in which nothing happened yet
abbrev pub empty_trace : Trace
empty_trace = record { events = []; issued = []; effects = [] }

-- words, calls and recovery stay
abbrev pub with_rotation : World → World
with_rotation w =
    record w { base = kept_content w.shape w.memory.kept; told = tells_by w.shape w.memory.kept; log = empty_trace }
