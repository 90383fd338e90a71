use Rattle.std.proofs.Common.{◌≡◌, rules, sym, ap, subst, ◌∙◌}
use Rattle.persist.specs.Memory.{Around, Lent, MemoryState, Words}
use Rattle.persist.specs.Lent.{port_lent}
use Rattle.interleave.specs.Asked.{AreAsked, HoldsOver, lent_after_step, requests_of}
use Rattle.interleave.specs.Calls.{is_no_memory}
use Rattle.interleave.specs.Core.{CoreState, roomy_over, state_of}
use Rattle.interleave.specs.Rules.{stepping, IsByRule}
use Rattle.interleave.specs.State.{State, after_step}
use Rattle.interleave.proofs.words.Requests.{Returned, around_stepped, asked_stepped, returned}
use Rattle.interleave.proofs.lent.Core.step_in.Goals as goal

pub returns-clause-by_rule : goal.returns-clause-by_rule
returns-clause-by_rule c =
    let p = c.in_ok-memory.field-0 in
    let v = c.step.new.memory in
    let core : CoreState = c.args.self.now in
    let full = is_no_memory c.step.result in
    let made : IsByRule (stepping c.args.client) (roomy_over core c.args.memory.now.words) c.step.result (roomy_over c.step.new.self v.memory.now.words) =
    subst (λ (ws : Words). IsByRule (stepping c.args.client) (roomy_over core ws) c.step.result (roomy_over c.step.new.self v.memory.now.words)) c.in_ok-memory.ensures.words c.step.ensures.by_rule in
    let name : v.memory.ghost_name ≡ p.memory.ghost_name =
    ap (λ (l : Lent). l.around.lender) c.step.ensures.lent ∙ ap (λ (a : Around). a.lender) (around_stepped full (state_of core p.memory.now.words) c.args.client (port_lent p)) in
    search rules

pub returns-clause-holds : goal.returns-clause-holds
returns-clause-holds c =
    let p = c.in_ok-memory.field-0 in
    let v = c.step.new.memory in
    let core : CoreState = c.args.self.now in
    let full = is_no_memory c.step.result in
    let old : MemoryState = c.args.memory.now in
    let was : State = state_of core old.words in
    let lent : Lent = port_lent p in
    let left : port_lent v ≡ lent_after_step full was c.args.client lent =
    c.step.ensures.lent ∙ ap (λ (ws : Words). lent_after_step full (state_of core ws) c.args.client lent) c.in_ok-memory.ensures.words in
    let back : Returned (requests_of old) (requests_of v.memory.now) c.args.client.0 (lent_after_step full was c.args.client lent) =
    returned _ v.memory.ghost_name c.args.client.0 v.port old v.memory.now (lent_after_step full was c.args.client lent) left
    (around_stepped full was c.args.client lent ∙ ap (λ (l : Lent). l.around) c.in_ok-memory.ensures.lent) in
    let asked = asked_stepped full was c.args.client lent (requests_of old) (requests_of v.memory.now) c.requires.world (ap (λ (l : Lent). l.request) c.in_ok-memory.ensures.lent) back.here back.there c.requires.asked in
    let world : state_of c.step.new.self v.memory.now.words ≡ after_step full was c.args.client =
    c.step.ensures.by_rule.leaves ∙ ap (λ (ws : Words). after_step full (state_of core ws) c.args.client) c.in_ok-memory.ensures.words in
    let over : HoldsOver c.step.new.self v.memory.now = record {
      world = c.step.ensures.holds;
      asked = subst (λ (w : State). AreAsked w.shape w.calls w.recovery (requests_of v.memory.now)) (sym world) asked;
    } in
    let name : v.memory.ghost_name ≡ p.memory.ghost_name =
    ap (λ (l : Lent). l.around.lender) c.step.ensures.lent ∙ ap (λ (a : Around). a.lender) (around_stepped full (state_of core p.memory.now.words) c.args.client (port_lent p)) in
    search rules
