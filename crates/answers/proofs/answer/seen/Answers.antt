use Rattle.std.proofs.Common.{ap, arith, length, ◌≡◌, ◌∙◌}
use Rattle.findings.specs.FourPatterns.{IsOfQueue}
use Rattle.prefixes.specs.Steps.{events_of, first_steps, learnt_of}
use Rattle.answers.proofs.Found.{moved}
use Rattle.answers.proofs.answer.seen.Goals as goal

pub returns-then-branch-clause-of_queue : goal.returns-then-branch-clause-of_queue
returns-then-branch-clause-of_queue c = λ some.
    let rec = c.args.recording.now in
    let same : c.len.result ≡ length rec.steps.items = omega (arith, c.len.ensures) in
    moved (λ es os. IsOfQueue es os) _ _ _ _
    (c.in_ok-findings.ensures.events ∙ ap (λ n. events_of rec (first_steps rec n)) same)
    (c.in_ok-findings.ensures.learnt ∙ ap (λ n. learnt_of rec (first_steps rec n)) same)
    (c.in_ok-is_of_queue.ensures c.if-branch.true)
