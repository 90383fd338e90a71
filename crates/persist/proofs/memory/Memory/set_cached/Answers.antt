use Rattle.std.proofs.Common.{◌≡◌, ◌<◌, ℕ, List, None, Option, Result, Ok, Err, IfOk, IfErr, length, slice_index, refl, sym, subst, ap, ◌∙◌}
use Rattle.std.proofs.lemmas.Grind.{get_or_default_zero}
use Rattle.persist.specs.Memory.{MemoryState, Words}
use Rattle.persist.specs.ChangeList.{Entries, Listing, or_kept, get, IsEntryOf, IsGapFor, RemovesOnly}
use Rattle.persist.specs.Changes.{differences, IsSound}
use Rattle.persist.proofs.Places.{get_in_gap}
use Rattle.persist.proofs.Shown.{shown, below, stored, with_words}
use Rattle.persist.proofs.Sound.{shown_differences, room_left}
use Rattle.persist.proofs.memory.Memory.set_cached.Goals as goal

-- what a search of the differences found is in the list
module _ (kept : List ℕ) (l : Listing) (sound : IsSound kept l) (accesses : ℕ) (ws : Words) (is : shown kept l.entries accesses ≡ ws) (word : ℕ) where
  found_in : (place : Result ℕ ℕ) → IfOk place (IsEntryOf (differences ws.cached ws.kept) word) → IfOk place (IsEntryOf l.entries word)
  found_in place = subst (λ (es : Entries). IfOk place (IsEntryOf es word)) (sym (shown_differences kept l sound accesses ws is))

  absent_in : (place : Result ℕ ℕ) → IfErr place (IsGapFor (differences ws.cached ws.kept) word) → IfErr place (IsGapFor l.entries word)
  absent_in place = subst (λ (es : Entries). IfErr place (IsGapFor es word)) (sym (shown_differences kept l sound accesses ws is))

-- where the word has a gap there is room for it
room_in_gap : (es : Entries) (room word : ℕ) (place : Result ℕ ℕ) → IfErr place (IsGapFor es word)
    → (get es word ≡ None → length es < room) → IfErr place (λ at. length es < room)
room_in_gap es room word (Ok at) gap left = tt
room_in_gap es room word (Err at) gap left = left (get_in_gap es word at gap)

pub set-requires-clause-found : goal.set-requires-clause-found
set-requires-clause-found c = found_in c.self.inside.kept.items c.self.inside.changes c.self.invariant.words c.self.inside.accesses c.args.self.now.words (ap (λ (m : MemoryState). m.words) c.self.view_is) c.args.word c.args.place c.requires.found

pub set-requires-clause-absent : goal.set-requires-clause-absent
set-requires-clause-absent c = absent_in c.self.inside.kept.items c.self.inside.changes c.self.invariant.words c.self.inside.accesses c.args.self.now.words (ap (λ (m : MemoryState). m.words) c.self.view_is) c.args.word c.args.place c.requires.absent

pub set-requires-clause-space : goal.set-requires-clause-space
set-requires-clause-space c =
    let inside = below c.self.inside.kept.items c.self.inside.changes.entries c.self.inside.accesses c.args.self.now.words (ap (λ (m : MemoryState). m.words) c.self.view_is) c.args.word c.requires.inside in
    room_in_gap _ _ c.args.word c.args.place (absent_in c.self.inside.kept.items c.self.inside.changes c.self.invariant.words c.self.inside.accesses c.args.self.now.words (ap (λ (m : MemoryState). m.words) c.self.view_is) c.args.word c.args.place c.requires.absent)
    (room_left c.self.inside.kept.items c.self.inside.changes c.self.invariant.words c.args.word inside)

pub returns-then-value-index : goal.returns-then-value-index
returns-then-value-index c =
    let here = ap (λ (o : Option ℕ). or_kept o (slice_index c.self.inside.kept.items c.args.word)) c.set.ensures.set.this_word in
    with_words c.self.inside.requests c.args.self.now (ap (λ (m : MemoryState). m.asked) c.self.view_is) _ _
    (stored c.self.inside.kept.items c.self.inside.changes.entries c.self.inside.accesses c.args.self.now.words (ap (λ (m : MemoryState). m.words) c.self.view_is) c.args.word c.requires.inside
    c.set.new.self.entries c.args.value here c.set.ensures.set.other_words)

pub remove-requires : goal.remove-requires
remove-requires c =
    let found = found_in c.self.inside.kept.items c.self.inside.changes c.self.invariant.words c.self.inside.accesses c.args.self.now.words (ap (λ (m : MemoryState). m.words) c.self.view_is) c.args.word c.args.place c.requires.found in
    let entry = subst (λ (p : Result ℕ ℕ). IfOk p (IsEntryOf c.self.inside.changes.entries c.args.word)) c.in-Ok.is found in
    entry.in_range

pub returns-in-Ok : goal.returns-in-Ok
returns-in-Ok c =
    let inside = below c.self.inside.kept.items c.self.inside.changes.entries c.self.inside.accesses c.args.self.now.words (ap (λ (m : MemoryState). m.words) c.self.view_is) c.args.word c.requires.inside in
    let found = found_in c.self.inside.kept.items c.self.inside.changes c.self.invariant.words c.self.inside.accesses c.args.self.now.words (ap (λ (m : MemoryState). m.words) c.self.view_is) c.args.word c.args.place c.requires.found in
    let entry = subst (λ (p : Result ℕ ℕ). IfOk p (IsEntryOf c.self.inside.changes.entries c.args.word)) c.in-Ok.is found in
    let removed = subst (RemovesOnly c.self.inside.changes.entries c.remove.new.self.entries) entry.has_word c.remove.ensures.removed in
    let kept = c.index.ensures ∙ get_or_default_zero c.self.inside.kept.items c.args.word _ inside in
    let here = ap (λ (o : Option ℕ). or_kept o (slice_index c.self.inside.kept.items c.args.word)) removed.this_word in
    with_words c.self.inside.requests c.args.self.now (ap (λ (m : MemoryState). m.asked) c.self.view_is) _ _
    (stored c.self.inside.kept.items c.self.inside.changes.entries c.self.inside.accesses c.args.self.now.words (ap (λ (m : MemoryState). m.words) c.self.view_is) c.args.word c.requires.inside
    c.remove.new.self.entries c.args.value (here ∙ sym (c.if-value-index.false ∙ kept)) removed.other_words)

pub returns-in_default : goal.returns-in_default
returns-in_default c =
    let inside = below c.self.inside.kept.items c.self.inside.changes.entries c.self.inside.accesses c.args.self.now.words (ap (λ (m : MemoryState). m.words) c.self.view_is) c.args.word c.requires.inside in
    let absent = absent_in c.self.inside.kept.items c.self.inside.changes c.self.invariant.words c.self.inside.accesses c.args.self.now.words (ap (λ (m : MemoryState). m.words) c.self.view_is) c.args.word c.args.place c.requires.absent in
    let gap = subst (λ (p : Result ℕ ℕ). IfErr p (IsGapFor c.self.inside.changes.entries c.args.word)) c.in_default.is absent in
    let none = get_in_gap c.self.inside.changes.entries c.args.word _ gap in
    let kept = c.index.ensures ∙ get_or_default_zero c.self.inside.kept.items c.args.word _ inside in
    let here = ap (λ (o : Option ℕ). or_kept o (slice_index c.self.inside.kept.items c.args.word)) none in
    ap (λ (ws : Words). let m : MemoryState = record c.args.self.now { words = ws } in m)
    (sym (ap (λ (m : MemoryState). m.words) c.self.view_is) ∙ stored c.self.inside.kept.items c.self.inside.changes.entries c.self.inside.accesses c.args.self.now.words (ap (λ (m : MemoryState). m.words) c.self.view_is) c.args.word c.requires.inside
    c.self.inside.changes.entries c.args.value (here ∙ sym (c.if-value-index.false ∙ kept)) (λ q ne. refl))
