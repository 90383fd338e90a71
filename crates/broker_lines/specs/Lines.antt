-- Lines of a broker's transcript put together.
use Rattle.std.specs.Prelude.{ℕ, List, map}
use Rattle.words.specs.declared.refusal.Refusal.{Refusal}
use Rattle.playing.specs.Transcript.{refused_memory}
use Rattle.playing.specs.declared.lines.Line.{Line}
use Rattle.playing.specs.declared.lines.Line.TheVariants.{Refused}
use Rattle.broker_lines.specs.declared.printed.Printed.{Printed}
use Rattle.broker_lines.specs.declared.printed.Printed.TheVariants.{Whole, Of}

-- lines that are about a queue
abbrev pub of_queue : List ℕ → List Line → List Printed
of_queue name lines = map (Of name) lines

-- the line that says why an act on the whole broker was refused
abbrev pub refusal_line : Refusal → Printed
refusal_line refusal = Whole (Refused refusal)

-- the line that says that memory was refused
abbrev pub no_memory : Printed
no_memory = Whole refused_memory
