-- The words that a port, a window and a view lend.
use Rattle.std.specs.Prelude.{ℕ, List, take, drop}
use Rattle.persist.specs.Memory.{Lent, Words, lent_part, lent_whole, words_in}
use Rattle.persist.specs.declared.port.Port.{Port}
use Rattle.persist.specs.declared.window.View.{View}
use Rattle.persist.specs.declared.window.Window.{Window}

-- a port's words are the memory's
abbrev pub port_words : Port → Words
port_words p = p.memory.now.words

abbrev pub port_lent : Port → Lent
port_lent p = lent_whole p.memory.ghost_name p.port p.memory.now

-- a window's words, which it numbers from 0
abbrev pub window_words : Window → Words
window_words w = words_in w.from w.len w.memory.now.words

abbrev pub window_lent : Window → Lent
window_lent w = lent_part w.memory.ghost_name w.port w.from w.len w.memory.now

-- the kept words that a view shows
abbrev pub view_words : View → List ℕ
view_words v = take v.len (drop v.from v.memory.now.words.kept)
