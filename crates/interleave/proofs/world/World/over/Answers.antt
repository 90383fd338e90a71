use Rattle.std.proofs.Common.{◌≡◌, sym, subst}
use Rattle.interleave.specs.Asked.{AreAsked, requests_of}
use Rattle.interleave.specs.Core.{state_of}
use Rattle.interleave.specs.State.{State, world_over}
use Rattle.interleave.proofs.words.Requests.{asked_at_first}
use Rattle.interleave.proofs.world.World.over.Goals as goal

pub invariant_of-result : goal.invariant_of-result
invariant_of-result c =
    let s = c.args.layout in
    let over : state_of c.new.result c.args.memory.words ≡ world_over s c.args.memory.words = c.new.ensures.world c.args.memory.words in
    record {
      world = c.new.ensures.holds c.args.memory.words c.requires;
      asked = subst (λ (w : State). AreAsked w.shape w.calls w.recovery (requests_of c.args.memory)) (sym over) (asked_at_first s s.clients (requests_of c.args.memory));
    }

pub returns : goal.returns
returns c = c.new.ensures.world c.args.memory.words
