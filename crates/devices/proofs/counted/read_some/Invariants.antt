use Rattle.std.specs.Io.KnownBytes.{Keeps}
use Rattle.devices.proofs.counted.read_some.Given as goal

-- an interrupted call changed nothing
abbrev pub invariant-loop : goal.invariant-loop
invariant-loop g l = Keeps (g.R.Read.remaining l.fn.inner) (g.R.Read.remaining l.inner)
