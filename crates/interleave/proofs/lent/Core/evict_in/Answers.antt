use Rattle.std.proofs.Common.{sym, subst}
use Rattle.persist.specs.Memory.{MemoryState}
use Rattle.interleave.specs.Asked.{AreAsked, requests_of}
use Rattle.interleave.specs.Core.{state_of}
use Rattle.interleave.specs.State.{State}
use Rattle.interleave.proofs.words.Requests.{asked_evicted, unasked_for}
use Rattle.interleave.proofs.lent.Core.evict_in.Goals as goal

pub returns-clause-holds : goal.returns-clause-holds
returns-clause-holds c =
    let old : MemoryState = c.args.memory.now in
    let new : MemoryState = c.evict.new.memory in
    let was : State = state_of c.args.self.now old.words in
    let asked = asked_evicted was c.args.word (requests_of old) (requests_of new) (unasked_for 0 0 old new c.evict.ensures.lent) c.requires.asked in
    record {
      world = c.evict.ensures.holds;
      asked = subst (λ (w : State). AreAsked w.shape w.calls w.recovery (requests_of new)) (sym c.evict.ensures.by_rule.leaves) asked;
    }
