use Rattle.std.proofs.Common.{sym, true≢false, ◌∙◌}
use Rattle.workers.proofs.guard.Betweens.{between_further, between_since}
use Rattle.workers.proofs.guard.Downs.{done_so, down_by_none, down_told}
use Rattle.workers.proofs.guard.Laters.{later_itself, later_still}
use Rattle.workers.proofs.shared.Shared.recover.Goals as goal

pub loop-init : goal.loop-init
loop-init g c = record { later = later_itself c.args.before; down = λ begun. absurd (true≢false (sym begun)) }

pub returns-in-Some-told_of_recovery-clause-down : goal.returns-in-Some-told_of_recovery-clause-down
returns-in-Some-told_of_recovery-clause-down g c =
    let i = c.loop.invariant in
    let step = c.recover_step-next in
    let now = step.result.0 in
    down_told c.loop.begun step.result.1 c.in-Some-told_of_recovery.told
    (sym c.told_of_recovery.ensures.told ∙ c.in-Some-told_of_recovery.is)
    (done_so step.result.1 (λ down. between_since c.args.before c.loop.marked now i.later down) step.ensures.down)
    (λ begun. between_further c.args.before c.loop.marked now (i.down begun) step.ensures.later)

pub returns-in-Some-told_of_recovery-clause-later : goal.returns-in-Some-told_of_recovery-clause-later
returns-in-Some-told_of_recovery-clause-later g c =
    later_still c.args.before c.loop.marked c.recover_step-next.result.0 c.loop.invariant.later
    c.recover_step-next.ensures.later

pub loop-preserved : goal.loop-preserved
loop-preserved g c =
    let i = c.loop.invariant in
    let step = c.recover_step-next in
    let now = step.result.0 in
    record {
      later = later_still c.args.before c.loop.marked now i.later step.ensures.later;
      down = λ begun.
          between_since c.args.before c.loop.marked now i.later
          (down_by_none c.loop.begun step.result.1 (sym c.told_of_recovery.ensures.told ∙ c.in_default.is)
          step.ensures.down);
    }
