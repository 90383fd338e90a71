use Rattle.std.proofs.Common.{◌≡◌, ◌++◌, ℕ, List, take, drop, length, replicate, sym, ap, ◌∙◌}
use Rattle.std.proofs.lemmas.List.{length-replicate}
use Rattle.persist.specs.Memory.{MemoryState, Words, zero_words}
use Rattle.persist.specs.ChangeList.{Listing, overlaid}
use Rattle.persist.proofs.Inserted.{written}
use Rattle.persist.proofs.Overlays.{overlay_none}
use Rattle.persist.proofs.memory.Memory.clear.Goals as goal

pub returns-clause-words : goal.returns-clause-words
returns-clause-words c =
    let was = c.self.inside.kept.items in
    let new = c.set_to_zero.new.words in
    let many = ap length c.deref_mut.ensures.value in
    let zeros : new ≡ replicate (length was) 0 = c.set_to_zero.ensures ∙ ap (λ n. replicate n 0) many in
    let long : length new ≡ c.self.inside.kept.len = ap length zeros ∙ length-replicate (length was) 0 ∙ sym c.self.inside.kept.ok.0 in
    let whole : take c.self.inside.kept.len (new ++ drop (length new) was) ≡ replicate (length was) 0 = written c.self.inside.kept.len new was long ∙ zeros in
    let words = λ (cached kept : List ℕ). let ws : Words = record { cached = cached; kept = kept; accesses = 0 } in ws in
    let kept = take c.self.inside.kept.len (new ++ drop (length new) was) in
    ap (λ (l : Listing). words (overlaid kept l.entries) kept) c.clear.ensures
    ∙ ap (λ (cached : List ℕ). words cached kept) (overlay_none 0 kept)
    ∙ ap (λ (all : List ℕ). words all all) whole
    ∙ ap (λ (m : MemoryState). zero_words (length m.words.kept)) c.self.view_is
