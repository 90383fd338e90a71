use Rattle.std.proofs.Common.{ap, None, IfErr, sym, subst, ◌∙◌}
use Rattle.std.proofs.lemmas.Grind.{get_or_default_zero}
use Rattle.persist.specs.Memory.{MemoryState}
use Rattle.persist.specs.ChangeList.{Entries, IsEntryOf, IsGapFor}
use Rattle.persist.proofs.Places.{get_at, get_in_gap}
use Rattle.persist.proofs.Shown.{below, cached_at}
use Rattle.persist.proofs.Sound.{shown_differences}
use Rattle.persist.proofs.memory.Memory.look_up.Goals as goal

pub returns-in-Ok-clause-found : goal.returns-in-Ok-clause-found
returns-in-Ok-clause-found c =
    let listed = shown_differences c.self.inside.kept.items c.self.inside.changes c.self.invariant.words c.self.inside.accesses c.args.self.now.words (ap (λ (m : MemoryState). m.words) c.self.view_is) in
    subst (λ (es : Entries). IsEntryOf es c.args.word c.in-Ok.at) listed c.in-Ok.ensures.found

pub returns-in-Ok-clause-value : goal.returns-in-Ok-clause-value
returns-in-Ok-clause-value c =
    let found = get_at c.self.inside.changes.entries c.self.invariant.words.ascending c.args.word c.in-Ok.at c.in-Ok.ensures.found in
    c.value-value.ensures
    ∙ cached_at c.self.inside.kept.items c.self.inside.changes.entries c.self.inside.accesses c.args.self.now.words (ap (λ (m : MemoryState). m.words) c.self.view_is) c.args.word c.requires _ (sym found)

pub returns-in-Err-clause-absent : goal.returns-in-Err-clause-absent
returns-in-Err-clause-absent c =
    let listed = shown_differences c.self.inside.kept.items c.self.inside.changes c.self.invariant.words c.self.inside.accesses c.args.self.now.words (ap (λ (m : MemoryState). m.words) c.self.view_is) in
    subst (λ (es : Entries). IfErr c.search-place.result (IsGapFor es c.args.word)) listed c.search-place.ensures.absent

pub returns-in-Err-clause-value : goal.returns-in-Err-clause-value
returns-in-Err-clause-value c =
    let inside = below c.self.inside.kept.items c.self.inside.changes.entries c.self.inside.accesses c.args.self.now.words (ap (λ (m : MemoryState). m.words) c.self.view_is) c.args.word c.requires in
    let none = get_in_gap c.self.inside.changes.entries c.args.word _ c.in-Err.ensures.absent in
    c.index.ensures ∙ get_or_default_zero c.self.inside.kept.items c.args.word _ inside
    ∙ cached_at c.self.inside.kept.items c.self.inside.changes.entries c.self.inside.accesses c.args.self.now.words (ap (λ (m : MemoryState). m.words) c.self.view_is) c.args.word c.requires None (sym none)
