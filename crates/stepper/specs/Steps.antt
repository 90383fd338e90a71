-- What a machine's work costs in steps, by name: measures and bounds are written in these.
use Rattle.std.specs.Prelude.{ℕ}

-- to keep a word: a flush and a fence
abbrev pub keep_steps : ℕ
keep_steps = 2

-- to load an item: its length and three words
abbrev pub load_steps : ℕ
load_steps = 4
