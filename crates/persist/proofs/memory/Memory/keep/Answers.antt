use Rattle.std.proofs.Common.{◌≡◌, Some, sym, subst, ap, ◌∙◌}
use Rattle.std.proofs.lemmas.Grind.{get_or_default_zero}
use Rattle.persist.specs.Memory.{MemoryState, Words}
use Rattle.persist.specs.ChangeList.{get, RemovesOnly}
use Rattle.persist.proofs.Places.{get_at, get_in_gap}
use Rattle.persist.proofs.Shown.{below, stays, stays_told, evicted, evicted_told, with_words}
use Rattle.persist.proofs.memory.Memory.keep.Goals as goal

pub returns-in_default-clause-kept : goal.returns-in_default-clause-kept
returns-in_default-clause-kept c =
    ap (λ (ws : Words). let m : MemoryState = record c.args.self.now { words = ws } in m)
    (stays c.self.inside.kept.items c.self.inside.changes.entries c.self.inside.accesses c.args.self.now.words (ap (λ (m : MemoryState). m.words) c.self.view_is) c.args.word c.requires
    (sym (get_in_gap _ _ _ c.in_default.ensures.absent)))

pub returns-in_default-clause-change : goal.returns-in_default-clause-change
returns-in_default-clause-change c =
    stays_told c.self.inside.kept.items c.self.inside.changes.entries c.self.inside.accesses c.args.self.now.words (ap (λ (m : MemoryState). m.words) c.self.view_is) c.args.word c.requires
    (sym (get_in_gap _ _ _ c.in_default.ensures.absent))

-- the entry that was found had the new value
found : (c : goal.After-self-1) → Some c.remove-new.result ≡ get c.self.inside.changes.entries c.args.word
found c = ap Some c.remove-new.ensures.value ∙ sym (get_at c.self.inside.changes.entries c.self.invariant.words.ascending c.args.word c.in-Ok.at c.in-Ok.ensures.found)

pub returns-clause-kept : goal.returns-clause-kept
returns-clause-kept c =
    with_words c.self.inside.requests c.args.self.now (ap (λ (m : MemoryState). m.asked) c.self.view_is) _ _
    (evicted c.self.inside.kept.items c.self.inside.changes.entries c.self.inside.accesses c.args.self.now.words (ap (λ (m : MemoryState). m.words) c.self.view_is) c.args.word c.requires
    c.remove-new.new.self.entries c.remove-new.result (found c)
    (subst (RemovesOnly c.self.inside.changes.entries c.remove-new.new.self.entries) c.in-Ok.ensures.found.has_word c.remove-new.ensures.removed))

pub returns-clause-change : goal.returns-clause-change
returns-clause-change c =
    let inside = below c.self.inside.kept.items c.self.inside.changes.entries c.self.inside.accesses c.args.self.now.words (ap (λ (m : MemoryState). m.words) c.self.view_is) c.args.word c.requires in
    let old = c.index-old.ensures ∙ get_or_default_zero c.self.inside.kept.items c.args.word _ inside in
    evicted_told c.self.inside.kept.items c.self.inside.changes.entries c.self.inside.accesses c.args.self.now.words (ap (λ (m : MemoryState). m.words) c.self.view_is) c.args.word c.requires
    c.index-old.result.now c.remove-new.result old (found c) (c.self.invariant.words.exact.other c.args.word c.remove-new.result (sym (found c)))
