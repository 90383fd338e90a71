use Rattle.std.proofs.Common.{ℕ, List, ap, ◌∙◌}
use Rattle.persist.specs.Memory.{MemoryState, Words, words_after_crash}
use Rattle.persist.specs.ChangeList.{Listing, overlaid}
use Rattle.persist.proofs.Overlays.{overlay_none}
use Rattle.persist.proofs.memory.Memory.crash.Goals as goal

pub returns-clause-words : goal.returns-clause-words
returns-clause-words c =
    let kept = c.self.inside.kept.items in
    let words = λ (cached : List ℕ). let ws : Words = record { cached = cached; kept = kept; accesses = c.self.inside.accesses } in ws in
    ap (λ (l : Listing). words (overlaid kept l.entries)) c.clear.ensures ∙ ap words (overlay_none 0 kept) ∙ ap (λ (m : MemoryState). words_after_crash m.words) c.self.view_is
