use Rattle.std.proofs.Common.{sym, subst, ap, ◌∙◌}
use Rattle.std.proofs.lemmas.Result.{IfOk-weaker}
use Rattle.arena.specs.Shape.{Shape}
use Rattle.interleave.specs.Content.{content_by}
use Rattle.interleave.specs.Ranges.{KeptFit}
use Rattle.interleave.specs.State.{State}
use Rattle.explore.proofs.stop.content_kept.Goals as goal

pub content-requires : goal.content-requires
content-requires c =
    let shape = ap (λ (u : State). u.shape) (c.new.ensures.world c.args.copy.now.words) in
    subst (λ (s : Shape). KeptFit s c.args.copy.now.words.kept) (sym shape) c.requires

pub returns-clause-content : goal.returns-clause-content
returns-clause-content c =
    let shape = ap (λ (u : State). u.shape) (c.new.ensures.world c.args.copy.now.words) in
    IfOk-weaker c.content-2.result _ _ (λ content is. is ∙ ap (λ (s : Shape). content_by s c.args.copy.now.words.kept) shape)
    c.content-2.ensures.content
