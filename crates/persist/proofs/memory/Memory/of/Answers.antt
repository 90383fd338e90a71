use Rattle.std.proofs.Common.{List, ℕ, ap, ◌∙◌}
use Rattle.persist.specs.Memory.{Words}
use Rattle.persist.specs.ChangeList.{Listing, overlaid}
use Rattle.persist.proofs.Overlays.{overlay_none}
use Rattle.persist.proofs.memory.Memory.of.Goals as goal

pub returns-clause-made : goal.returns-clause-made
returns-clause-made c =
    let kept = c.args.words.items in
    let words = λ (cached : List ℕ). let ws : Words = record { cached = cached; kept = kept; accesses = 0 } in ws in
    ap (λ (l : Listing). words (overlaid kept l.entries)) c.in-Ok.ensures ∙ ap words (overlay_none 0 kept)
