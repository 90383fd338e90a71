use Rattle.std.proofs.Common.{◌≡◌, ◌++◌, ℕ, List, take, drop, length, sym, ap, ◌∙◌}
use Rattle.persist.specs.ChangeList.{Listing, overlaid}
use Rattle.persist.specs.Memory.{MemoryState, Words, overwritten, words_at_rest}
use Rattle.persist.proofs.Inserted.{written}
use Rattle.persist.proofs.Overlays.{overlay_none}
use Rattle.persist.proofs.memory.Memory.rewrite.Goals as goal

pub returns-clause-words : goal.returns-clause-words
returns-clause-words g c =
    let was : List ℕ = c.self.inside.kept.items in
    let new : List ℕ = c.write_over.new.kept in
    let over : List ℕ = g.W.KeptWords.kept_words c.args.words.now in
    let long : length new ≡ c.self.inside.kept.len =
    c.write_over.auto.kept ∙ ap length c.deref_mut.ensures.value ∙ sym c.self.inside.kept.ok.0 in
    let words = λ (cached kept : List ℕ). let ws : Words = record { cached = cached; kept = kept; accesses = 0 } in ws in
    let kept : List ℕ = take c.self.inside.kept.len (new ++ drop (length new) was) in
    let whole : kept ≡ overwritten c.args.from over was =
    written c.self.inside.kept.len new was long ∙ c.write_over.ensures ∙ ap (overwritten c.args.from over) c.deref_mut.ensures.value in
    ap (λ (l : Listing). words (overlaid kept l.entries) kept) c.clear.ensures
    ∙ ap (λ (cached : List ℕ). words cached kept) (overlay_none 0 kept)
    ∙ ap words_at_rest whole
    ∙ ap (λ (m : MemoryState). words_at_rest (overwritten c.args.from over m.words.kept)) c.self.view_is
