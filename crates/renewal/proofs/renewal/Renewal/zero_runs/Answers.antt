use Rattle.std.proofs.Common.{◌≤◌, ap, subst, ◌∙◌}
use Rattle.arena.specs.Layout.{size_of}
use Rattle.renewal.specs.Renewal.{Renewal}
use Rattle.renewal.proofs.Unused.{past_layout}
use Rattle.renewal.proofs.renewal.Renewal.zero_runs.Goals as goal

pub note-requires-clause-zero : goal.note-requires-clause-zero
note-requires-clause-zero c = λ w from to.
    past_layout c.args.self.now w (subst (λ n. n ≤ w) (c.size.ensures.value ∙ ap (λ (r : Renewal). size_of r.shape) c.self.view_is) from)
