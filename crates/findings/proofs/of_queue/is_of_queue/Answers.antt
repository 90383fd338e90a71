use Rattle.findings.proofs.FittingReplies.{of_queue}
use Rattle.findings.proofs.of_queue.is_of_queue.Goals as goal

pub returns : goal.returns
returns c = λ yes. of_queue _ _ (c.in_ok-is_recorded.ensures c.if-not-branch.false)
    (c.values_rise.ensures c.if-not-values_rise.false) (c.all_have_fitting_replies.ensures yes)
