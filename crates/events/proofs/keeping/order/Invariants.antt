use Rattle.std.proofs.Common.{◌≡◌, take}
use Rattle.events.specs.Effects.{order_of}
use Rattle.events.proofs.keeping.order.Given as goal

abbrev pub invariant-loop-effect : goal.invariant-loop-effect
invariant-loop-effect l = l.entries.items ≡ order_of (take l.effect-index l.effects)
