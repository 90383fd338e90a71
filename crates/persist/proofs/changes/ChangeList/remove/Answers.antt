use Rattle.std.proofs.Common.{◌≡◌, ℕ, ◌≤◌, ◌<◌, ◌++◌, ◌∷◌, [], take, drop, length, sym, subst, ap, ◌∙◌, arith, refl}
use Rattle.std.specs.List.{insert, remove}
use Rattle.std.proofs.lemmas.List.Edits.{get_or-insert_at}
use Rattle.persist.specs.ChangeList.{IsEntryOf, IsAscending, Entries, Listing, word_at}
use Rattle.persist.proofs.Places.{removes_only, ascending_remove}
use Rattle.persist.proofs.Inserted.{written, remove-insert}
use Rattle.persist.proofs.changes.ChangeList.remove.Goals as goal

-- the entry at the place
here : (c : goal.After-self-1) → IsEntryOf c.self.inside.entries.items (word_at c.self.inside.entries.items c.args.at) c.args.at
here c = record { in_range = subst (λ (x : Listing). c.args.at < length x.entries) (sym c.self.view_is) c.requires; has_word = refl }

-- the list was what was carried down, with the removed entry put in
was : (c : goal.After-self-1) → c.self.inside.entries.items ≡ insert c.carry_down-value.new.entries c.args.at c.carry_down-value.result
was c =
    let carried = c.carry_down-value.new.entries in
    c.in-Some.ensures.items ∙ ap (λ (l : Entries). l ++ c.in-Some.last ∷ []) (sym c.deref_mut.ensures.value) ∙ sym c.carry_down-value.ensures

within : (c : goal.After-self-1) → c.args.at ≤ length c.carry_down-value.new.entries
within c =
    let long : length c.carry_down-value.new.entries ≡ c.pop.new.self.len = c.carry_down-value.auto.entries ∙ c.deref_mut.ensures.len in
    omega (arith, (here c).in_range, c.in-Some.ensures.len, c.self.inside.entries.ok.0, long)

-- the list is without it
items : (c : goal.After-self-1) → remove c.self.inside.entries.items c.args.at
    ≡ take c.pop.new.self.len (c.carry_down-value.new.entries ++ drop (length c.carry_down-value.new.entries) c.pop.new.self.items)
items c =
    let carried = c.carry_down-value.new.entries in
    let left = c.pop.new.self.items in
    let long : length carried ≡ c.pop.new.self.len = c.carry_down-value.auto.entries ∙ c.deref_mut.ensures.len in
    ap (λ (l : Entries). remove l c.args.at) (was c)
    ∙ remove-insert carried c.args.at c.carry_down-value.result (within c)
    ∙ sym (written c.pop.new.self.len carried left long)

pub invariant_of-self : goal.invariant_of-self
invariant_of-self c = subst IsAscending (items c) (ascending_remove _ c.self.invariant _ _ (here c))

pub returns-clause-removed : goal.returns-clause-removed
returns-clause-removed c =
    rw (← items c, ← c.self.view_is) (removes_only _ c.self.invariant _ _ (here c))

pub returns-clause-ascending : goal.returns-clause-ascending
returns-clause-ascending c = invariant_of-self c

pub returns-clause-value : goal.returns-clause-value
returns-clause-value c =
    rw (← c.self.view_is, was c) (sym (ap (λ (e : ℕ × ℕ). e.1) (get_or-insert_at c.carry_down-value.new.entries c.args.at c.carry_down-value.result (0, 0) (within c))))
