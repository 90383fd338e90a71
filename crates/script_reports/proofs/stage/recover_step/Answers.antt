use Rattle.std.proofs.Common.{◌≡◌, rules, ap, ◌∙◌}
use Rattle.persist.specs.Memory.{Around, Lent, MemoryState, Words}
use Rattle.persist.specs.Lent.{port_lent}
use Rattle.interleave.specs.Asked.{HoldsOver, lent_after_recover}
use Rattle.interleave.specs.Calls.{is_no_memory}
use Rattle.interleave.specs.Core.{CoreState, state_of}
use Rattle.interleave.specs.State.{after_recover}
use Rattle.interleave.proofs.Facts.{around_recovered}
use Rattle.script_reports.proofs.Held.{held_after_recover}
use Rattle.script_reports.proofs.stage.recover_step.Goals as goal

pub returns-in_err-recover_step-clause-holds : goal.returns-in_err-recover_step-clause-holds
returns-in_err-recover_step-clause-holds c =
    let p = c.in_ok-port.field-0 in
    let v = c.recover_step.new.memory.port in
    let core : CoreState = c.args.core.now in
    let old : MemoryState = c.args.memory.now in
    let full = is_no_memory c.recover_step.result in
    let lent = c.recover_step.ensures.lent ∙ ap (λ (ws : Words). lent_after_recover full (state_of core ws) (port_lent p)) c.in_ok-port.ensures.words
    ∙ ap (λ (l : Lent). lent_after_recover full (state_of core old.words) l) c.in_ok-port.ensures.lent in
    let leaves = c.recover_step.ensures.by_rule.leaves ∙ ap (λ (ws : Words). after_recover full (state_of core ws)) c.in_ok-port.ensures.words in
    let over : HoldsOver c.recover_step.new.self v.memory.now =
    held_after_recover full core c.recover_step.new.self old v.memory.now _ v.memory.ghost_name v.port
    c.requires lent c.recover_step.ensures.holds leaves in
    let name : v.memory.ghost_name ≡ p.memory.ghost_name =
    ap (λ (l : Lent). l.around.lender) c.recover_step.ensures.lent
    ∙ ap (λ (a : Around). a.lender) (around_recovered full (state_of core p.memory.now.words) (port_lent p)) in
    search rules

pub returns-clause-holds : goal.returns-clause-holds
returns-clause-holds c =
    let p = c.in_ok-port.field-0 in
    let v = c.recover_step.new.memory.port in
    let core : CoreState = c.args.core.now in
    let old : MemoryState = c.args.memory.now in
    let full = is_no_memory c.recover_step.result in
    let lent = c.recover_step.ensures.lent ∙ ap (λ (ws : Words). lent_after_recover full (state_of core ws) (port_lent p)) c.in_ok-port.ensures.words
    ∙ ap (λ (l : Lent). lent_after_recover full (state_of core old.words) l) c.in_ok-port.ensures.lent in
    let leaves = c.recover_step.ensures.by_rule.leaves ∙ ap (λ (ws : Words). after_recover full (state_of core ws)) c.in_ok-port.ensures.words in
    let over : HoldsOver c.recover_step.new.self v.memory.now =
    held_after_recover full core c.recover_step.new.self old v.memory.now _ v.memory.ghost_name v.port
    c.requires lent c.recover_step.ensures.holds leaves in
    let name : v.memory.ghost_name ≡ p.memory.ghost_name =
    ap (λ (l : Lent). l.around.lender) c.recover_step.ensures.lent
    ∙ ap (λ (a : Around). a.lender) (around_recovered full (state_of core p.memory.now.words) (port_lent p)) in
    search rules
