use Rattle.script_reports.proofs.stage.Stage.act.Goals as goal
use Rattle.script_reports.proofs.stage.Stage.act.Goals.{in-Start, in-Step, in-Evict, in-Crash, in-Recover}

pub invariant_of-self : goal.invariant_of-self
invariant_of-self c =
    elim c.match-act.branch [
      | in-Start w ↦ rw (w.self-inside-is) w.start.ensures.holds
      | in-Step w ↦ rw (w.self-inside-is) w.step.ensures.holds
      | in-Evict w ↦ rw (w.self-inside-is) w.evict.ensures.holds
      | in-Crash w ↦ rw (w.self-inside-is) w.crash.ensures.holds
      | in-Recover w ↦ rw (w.self-inside-is) w.recover_step.ensures.holds
    ]
