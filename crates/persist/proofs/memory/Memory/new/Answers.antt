use Rattle.std.proofs.Common.{◌≡◌, ℕ, List, replicate, ap, ◌∙◌, arith}
use Rattle.std.proofs.lemmas.Grind.{common_steps}
use Rattle.persist.specs.Memory.{Words}
use Rattle.persist.specs.ChangeList.{Listing, overlaid}
use Rattle.persist.proofs.Overlays.{overlay_none}
use Rattle.persist.proofs.memory.Memory.new.Goals as goal

pub returns-clause-made : goal.returns-clause-made
returns-clause-made c =
    let zeros : c.in-Ok.kept.items ≡ replicate c.args.n 0 = grind (arith, common_steps) in
    let words = λ (cached kept : List ℕ). let ws : Words = record { cached = cached; kept = kept; accesses = 0 } in ws in
    ap (λ (l : Listing). words (overlaid c.in-Ok.kept.items l.entries) c.in-Ok.kept.items) c.in-Ok-new.ensures
    ∙ ap (λ (cached : List ℕ). words cached c.in-Ok.kept.items) (overlay_none 0 c.in-Ok.kept.items)
    ∙ ap (λ (all : List ℕ). words all all) zeros
