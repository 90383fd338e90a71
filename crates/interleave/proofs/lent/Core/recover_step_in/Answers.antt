use Rattle.std.proofs.Common.{◌≡◌, rules, sym, ap, subst, ◌∙◌}
use Rattle.persist.specs.Memory.{Around, Lent, MemoryState, Words}
use Rattle.persist.specs.Lent.{port_lent}
use Rattle.interleave.specs.Asked.{AreAsked, HoldsOver, lent_after_recover, requests_of}
use Rattle.interleave.specs.Calls.{is_no_memory}
use Rattle.interleave.specs.Core.{CoreState, state_of}
use Rattle.words.specs.declared.limits.TheConstants.{RECOVERY_PORT}
use Rattle.interleave.specs.State.{State, after_recover}
use Rattle.interleave.proofs.words.Requests.{Returned, around_recovered, asked_recovered, returned}
use Rattle.interleave.proofs.lent.Core.recover_step_in.Goals as goal

pub returns-clause-holds : goal.returns-clause-holds
returns-clause-holds c =
    let p = c.in_ok-memory.field-0 in
    let v = c.recover_step.new.memory in
    let core : CoreState = c.args.self.now in
    let full = is_no_memory c.recover_step.result in
    let old : MemoryState = c.args.memory.now in
    let was : State = state_of core old.words in
    let lent : Lent = port_lent p in
    let left : port_lent v ≡ lent_after_recover full was lent =
    c.recover_step.ensures.lent ∙ ap (λ (ws : Words). lent_after_recover full (state_of core ws) lent) c.in_ok-memory.ensures.words in
    let back : Returned (requests_of old) (requests_of v.memory.now) RECOVERY_PORT (lent_after_recover full was lent) =
    returned _ v.memory.ghost_name RECOVERY_PORT v.port old v.memory.now (lent_after_recover full was lent) left
    (around_recovered full was lent ∙ ap (λ (l : Lent). l.around) c.in_ok-memory.ensures.lent) in
    let asked = asked_recovered full was lent (requests_of old) (requests_of v.memory.now) c.requires.world (ap (λ (l : Lent). l.request) c.in_ok-memory.ensures.lent) back.here back.there c.requires.asked in
    let world : state_of c.recover_step.new.self v.memory.now.words ≡ after_recover full was =
    c.recover_step.ensures.by_rule.leaves ∙ ap (λ (ws : Words). after_recover full (state_of core ws)) c.in_ok-memory.ensures.words in
    let over : HoldsOver c.recover_step.new.self v.memory.now = record {
      world = c.recover_step.ensures.holds;
      asked = subst (λ (w : State). AreAsked w.shape w.calls w.recovery (requests_of v.memory.now)) (sym world) asked;
    } in
    let name : v.memory.ghost_name ≡ p.memory.ghost_name =
    ap (λ (l : Lent). l.around.lender) c.recover_step.ensures.lent ∙ ap (λ (a : Around). a.lender) (around_recovered full (state_of core p.memory.now.words) (port_lent p)) in
    search rules
