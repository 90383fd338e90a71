use Rattle.std.proofs.Common.{◌≡◌, map, sym, ap, subst, ◌∙◌}
use Rattle.std.specs.Prelude.{IsTrue}
use Rattle.std.specs.List.{range_with_len}
use Rattle.words.specs.declared.limits.TheConstants.{MAX_CLIENTS}
use Rattle.arena.specs.Shape.{Shape}
use Rattle.interleave.specs.Ranges.{KeptFit}
use Rattle.interleave.specs.State.{State, kept_content}
use Rattle.playing.specs.Transcript.{told_at}
use Rattle.explore.specs.Points.{found_in, recovered}
use Rattle.explore.proofs.Copied.{all_told, content_is, recovered_fits}
use Rattle.explore.proofs.Explained.{found_is}
use Rattle.explore.proofs.stop.stop.Goals as goal
use Rattle.explore.proofs.stop.stop.Goals.{then-was_right, else-was_right+in_ok-ok}

pub content_kept-requires : goal.content_kept-requires
content_kept-requires c =
    let w : State = c.args.world.now.now in
    subst (λ (s : Shape). KeptFit s c.recover-steps.new.copy.words.kept) (sym c.layout.ensures)
    (recovered_fits w c.recover-steps.new.copy.words.kept c.requires.holds c.recover-steps.ensures.kept)

pub is_right-requires-clause-content : goal.is_right-requires-clause-content
is_right-requires-clause-content c =
    let w : State = c.args.world.now.now in
    c.deref-else-was_right.ensures.value
    ∙ content_is w c.layout.result.now c.recover-steps.new.copy.words.kept c.in_ok-content.content.items c.layout.ensures
    c.recover-steps.ensures.kept c.in_ok-content.ensures.content

pub returns-clause-found : goal.returns-clause-found
returns-clause-found c =
    let w : State = c.args.world.now.now in
    let v : State = recovered w in
    let content : c.in_ok-content.content.items ≡ kept_content v =
    content_is w c.layout.result.now c.recover-steps.new.copy.words.kept c.in_ok-content.content.items c.layout.ensures
    c.recover-steps.ensures.kept c.in_ok-content.ensures.content in
    let told : c.recover-steps.result.told ≡ map (told_at v) (range_with_len 0 MAX_CLIENTS) =
    all_told v c.recover-steps.result.told c.recover-steps.ensures.told c.recover-steps.ensures.sixteen in
    let right : IsTrue c.if-was_right.ok = elim c.if-was_right.branch [
      | then-was_right w ↦ w.ok-is
      | else-was_right+in_ok-ok w ↦ w.ok-is ∙ w.in_ok-ok.ensures.right
    ] in
    found_is v c.from.result c.recover-steps.result.told c.in_ok-content.content.items c.if-was_right.ok told content right
    ∙ ap (found_in v) (c.from.ensures ∙ c.recover-steps.ensures.steps)
