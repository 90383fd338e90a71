use Rattle.std.proofs.Common.{sym, subst}
use Rattle.persist.specs.Memory.{MemoryState}
use Rattle.interleave.specs.Asked.{AreAsked, requests_of}
use Rattle.interleave.specs.Calls.{is_no_memory}
use Rattle.interleave.specs.Core.{state_of}
use Rattle.interleave.specs.State.{State}
use Rattle.interleave.proofs.words.Requests.{asked_started, unasked_for}
use Rattle.interleave.proofs.lent.Core.start_in.Goals as goal

pub returns-clause-holds : goal.returns-clause-holds
returns-clause-holds c =
    let old : MemoryState = c.args.memory.now in
    let new : MemoryState = c.start.new.memory in
    let was : State = state_of c.args.self.now old.words in
    let asked = asked_started (is_no_memory c.start.result) was c.args.client c.args.number c.args.call (requests_of old) (requests_of new) c.requires.world
    (unasked_for 0 0 old new c.start.ensures.lent) c.requires.asked in
    record {
      world = c.start.ensures.holds;
      asked = subst (λ (w : State). AreAsked w.shape w.calls w.recovery (requests_of new)) (sym c.start.ensures.by_rule.leaves) asked;
    }
