use Rattle.std.proofs.Common.{ap, arith, length, sym, ◌≡◌, ◌∙◌}
use Rattle.findings.specs.Findings.{HasNoOrder}
use Rattle.findings.specs.FourPatterns.{HasOrder, IsOfQueue}
use Rattle.prefixes.specs.Steps.{events_of, first_steps, learnt_of}
use Rattle.answers.proofs.Found.{moved}
use Rattle.answers.proofs.answer.decided.Goals as goal

pub has_order-requires : goal.has_order-requires
has_order-requires c =
    let rec = c.args.recording.now in
    let same : c.len.result ≡ length rec.steps.items = omega (arith, c.len.ensures) in
    moved (λ es os. IsOfQueue es os) _ _ _ _
    (sym (c.in_ok-findings.ensures.events ∙ ap (λ n. events_of rec (first_steps rec n)) same))
    (sym (c.in_ok-findings.ensures.learnt ∙ ap (λ n. learnt_of rec (first_steps rec n)) same)) c.requires

pub returns-then-branch : goal.returns-then-branch
returns-then-branch c =
    let rec = c.args.recording.now in
    let same : c.len.result ≡ length rec.steps.items = omega (arith, c.len.ensures) in
    moved (λ es os. HasOrder es os) _ _ _ _
    (c.in_ok-findings.ensures.events ∙ ap (λ n. events_of rec (first_steps rec n)) same)
    (c.in_ok-findings.ensures.learnt ∙ ap (λ n. learnt_of rec (first_steps rec n)) same)
    (c.in_ok-has_order.ensures.order c.if-branch.true)

pub returns : goal.returns
returns c =
    let rec = c.args.recording.now in
    let same : c.len.result ≡ length rec.steps.items = omega (arith, c.len.ensures) in
    moved (λ es os. HasNoOrder es os) _ _ _ _
    (c.in_ok-findings.ensures.events ∙ ap (λ n. events_of rec (first_steps rec n)) same)
    (c.in_ok-findings.ensures.learnt ∙ ap (λ n. learnt_of rec (first_steps rec n)) same)
    (c.in_ok-has_order.ensures.none c.if-branch.false)
