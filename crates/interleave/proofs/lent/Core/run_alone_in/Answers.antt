use Rattle.std.proofs.Common.{◌≡◌, ℕ, Result, Ok, Err, rules, sym, ap, subst, ◌∙◌}
use Rattle.persist.specs.Memory.{Around, Lent, MemoryState, Words, lent_whole}
use Rattle.persist.specs.Lent.{port_lent}
use Rattle.interleave.specs.Asked.{AreAsked, HoldsOver, lent_after_alone, requests_of}
use Rattle.interleave.specs.Core.{CoreState, roomy_over, state_of}
use Rattle.interleave.specs.Holds.{Holds}
use Rattle.std.specs.Prelude.{IfErr, IfOk}
use Rattle.words.specs.declared.call.Client.{Client}
use Rattle.words.specs.declared.call.Reply.{Reply}
use Rattle.words.specs.declared.refusal.Refusal.{Refusal}
use Rattle.interleave.specs.Rules.{IsByAlone}
use Rattle.interleave.specs.State.{State, after_alone}
use Rattle.interleave.proofs.words.Requests.{Returned, around_alone, asked_alone, asked_same, returned, all_same}
use Rattle.interleave.proofs.lent.Core.run_alone_in.Goals as goal

-- what is asked for once the call was answered, or refused
asked_after : (core new : CoreState) (client : Client) (name name2 port2 : ℕ) (old left : MemoryState) (first : Lent) (result : Result (Reply × ℕ) Refusal) → Holds (state_of core old.words)
    → AreAsked core.shape core.calls core.trace.recovery (requests_of old) → first ≡ lent_whole name client.0 old
    → IfErr result (λ e. state_of new left.words ≡ state_of core old.words) → IfErr result (λ e. lent_whole name2 port2 left ≡ first)
    → IfOk result (λ answer. state_of new left.words ≡ after_alone answer.1 (state_of core old.words) client)
    → IfOk result (λ answer. lent_whole name2 port2 left ≡ lent_after_alone answer.1 (state_of core old.words) client first)
    → AreAsked new.shape new.calls new.trace.recovery (requests_of left)
asked_after core new client name name2 port2 old left first (Err refusal) holds asked was_lent same lent world on =
    let back : Returned (requests_of old) (requests_of left) client.0 first = returned name name2 client.0 port2 old left first lent (ap (λ (l : Lent). l.around) was_lent) in
    subst (λ (w : State). AreAsked w.shape w.calls w.recovery (requests_of left)) (sym same)
    (asked_same core.shape core.calls core.trace.recovery (requests_of old) (requests_of left)
    (all_same (requests_of old) (requests_of left) client.0 (back.here ∙ ap (λ (l : Lent). l.request) was_lent) back.there) asked)
asked_after core new client name name2 port2 old left first (Ok answer) holds asked was_lent same lent world on =
    let was : State = state_of core old.words in
    let last : Lent = lent_after_alone answer.1 was client first in
    let back : Returned (requests_of old) (requests_of left) client.0 last =
    returned name name2 client.0 port2 old left last on (around_alone answer.1 was client first ∙ ap (λ (l : Lent). l.around) was_lent) in
    subst (λ (w : State). AreAsked w.shape w.calls w.recovery (requests_of left)) (sym world)
    (asked_alone answer.1 was client first (requests_of old) holds (ap (λ (l : Lent). l.request) was_lent) asked (requests_of left) back.here back.there).0

-- it is the same memory
lender_stays : (w : State) (client : Client) (name2 port2 : ℕ) (left : MemoryState) (first : Lent) (result : Result (Reply × ℕ) Refusal)
    → IfErr result (λ e. lent_whole name2 port2 left ≡ first) → IfOk result (λ answer. lent_whole name2 port2 left ≡ lent_after_alone answer.1 w client first) → name2 ≡ first.around.lender
lender_stays w client name2 port2 left first (Err refusal) same on = ap (λ (l : Lent). l.around.lender) same
lender_stays w client name2 port2 left first (Ok answer) same on =
    ap (λ (l : Lent). l.around.lender) on ∙ ap (λ (a : Around). a.lender) (around_alone answer.1 w client first)

pub returns-clause-alone : goal.returns-clause-alone
returns-clause-alone c =
    let p = c.in_ok-memory.field-0 in
    let v = c.run_alone.new.memory in
    let core : CoreState = c.args.self.now in
    let made : IsByAlone c.args.client (roomy_over core c.args.memory.now.words) c.run_alone.result (roomy_over c.run_alone.new.self v.memory.now.words) =
    subst (λ (ws : Words). IsByAlone c.args.client (roomy_over core ws) c.run_alone.result (roomy_over c.run_alone.new.self v.memory.now.words)) c.in_ok-memory.ensures.words c.run_alone.ensures.alone in
    let name : v.memory.ghost_name ≡ p.memory.ghost_name =
    lender_stays (state_of core p.memory.now.words) c.args.client v.memory.ghost_name v.port v.memory.now (port_lent p) c.run_alone.result c.run_alone.ensures.left c.run_alone.ensures.lent in
    search rules

pub returns-clause-holds : goal.returns-clause-holds
returns-clause-holds c =
    let p = c.in_ok-memory.field-0 in
    let v = c.run_alone.new.memory in
    let core : CoreState = c.args.self.now in
    let old : MemoryState = c.args.memory.now in
    let result : Result (Reply × ℕ) Refusal = c.run_alone.result in
    let new : CoreState = c.run_alone.new.self in
    let first : Lent = port_lent p in
    let same : IfErr result (λ e. state_of new v.memory.now.words ≡ state_of core old.words) =
    subst (λ (ws : Words). IfErr result (λ e. state_of new v.memory.now.words ≡ state_of core ws)) c.in_ok-memory.ensures.words c.run_alone.ensures.alone.same in
    let world : IfOk result (λ answer. state_of new v.memory.now.words ≡ after_alone answer.1 (state_of core old.words) c.args.client) =
    subst (λ (ws : Words). IfOk result (λ answer. state_of new v.memory.now.words ≡ after_alone answer.1 (state_of core ws) c.args.client)) c.in_ok-memory.ensures.words c.run_alone.ensures.alone.world in
    let on : IfOk result (λ answer. port_lent v ≡ lent_after_alone answer.1 (state_of core old.words) c.args.client first) =
    subst (λ (ws : Words). IfOk result (λ answer. port_lent v ≡ lent_after_alone answer.1 (state_of core ws) c.args.client first)) c.in_ok-memory.ensures.words c.run_alone.ensures.lent in
    let asked = asked_after core new c.args.client _ v.memory.ghost_name v.port old v.memory.now first result c.requires.world c.requires.asked c.in_ok-memory.ensures.lent same c.run_alone.ensures.left world on in
    let over : HoldsOver c.run_alone.new.self v.memory.now = record { world = c.run_alone.ensures.holds; asked = asked } in
    let name : v.memory.ghost_name ≡ p.memory.ghost_name =
    lender_stays (state_of core p.memory.now.words) c.args.client v.memory.ghost_name v.port v.memory.now (port_lent p) c.run_alone.result c.run_alone.ensures.left c.run_alone.ensures.lent in
    search rules
