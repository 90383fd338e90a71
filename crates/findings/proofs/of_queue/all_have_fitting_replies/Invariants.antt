use Rattle.std.proofs.Common.{ℕ, ◌<◌}
use Rattle.findings.specs.FourPatterns.{HasFittingReply}
use Rattle.findings.proofs.of_queue.all_have_fitting_replies.Given as goal

abbrev pub invariant-loop-p : goal.invariant-loop-p
invariant-loop-p l = (p : ℕ) → p < l.p → HasFittingReply l.findings.events l.findings.learnt p
