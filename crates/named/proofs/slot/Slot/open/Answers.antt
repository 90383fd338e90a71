use Rattle.std.proofs.Common.{Some, is_some, ap, ◌∙◌}
use Rattle.arena.specs.Shape.{Shape}
use Rattle.persist.specs.Memory.{zero_words}
use Rattle.interleave.specs.State.{State}
use Rattle.named.proofs.slot.Slot.open.Goals as goal

pub returns-clause-ready : goal.returns-clause-ready
returns-clause-ready c = ap (λ (x : State). is_some x.recovery) (c.new.ensures.state (zero_words 0))

pub returns-clause-kind : goal.returns-clause-kind
returns-clause-kind c =
    ap (λ (x : State). Some x.shape.kind) (c.new.ensures.state (zero_words 0)) ∙ ap (λ (s : Shape). Some s.kind) c.queue.ensures.layout
