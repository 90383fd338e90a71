use Rattle.std.proofs.Common.{◌≡◌, rules, ◌∙◌}
use Rattle.lasting.proofs.Places.{there_by}
use Rattle.lasting.proofs.shared_journal.Place.settle_up_to.Goals as goal

pub invariant_of-self-clause-by : goal.invariant_of-self-clause-by
invariant_of-self-clause-by g c =
    let was : c.in-Some.settler.policy ≡ g.J.Settling.policy = c.args.self.now.by c.in-Some.settler (search rules) in
    there_by (λ s. s.policy) g.J.Settling.policy c.settle_current-settler.result.0 (c.settle_current-settler.ensures.policy ∙ was)
