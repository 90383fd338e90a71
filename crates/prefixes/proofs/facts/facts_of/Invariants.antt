use Rattle.std.proofs.Common.{◌≡◌}
use Rattle.prefixes.specs.Steps.{events_up_to, learnt_up_to}
use Rattle.prefixes.proofs.facts.facts_of.Given as goal

abbrev pub invariant-loop-i : goal.invariant-loop-i
invariant-loop-i l = record {
  events : l.facts.events ≡ events_up_to l.recording l.steps l.i;
  learnt : l.facts.learnt ≡ learnt_up_to l.recording l.steps l.i;
}
