use Rattle.std.proofs.Common.{◌≡◌, ◌<◌, ℕ, ◌++◌, ◌∷◌, [], length, Result, IfOk, IfErr, sym, subst, ap, ◌∙◌, arith}
use Rattle.std.specs.List.{insert}
use Rattle.persist.specs.ChangeList.{IsEntryOf, IsGapFor, IsAscending, Entries, Listing}
use Rattle.persist.proofs.Places.{sets_only_set, sets_only_insert, ascending_insert}
use Rattle.persist.proofs.Inserted.{pushed, written}
use Rattle.persist.proofs.changes.ChangeList.set.Goals as goal

-- what was found is an entry of the list inside
entry : (c : goal.After-self-1) → IsEntryOf c.self.inside.entries.items c.args.word c.in-Ok.at
entry c =
    let found = subst (λ (p : Result ℕ ℕ). IfOk p (IsEntryOf c.args.self.now.entries c.args.word)) c.in-Ok.is c.requires.found in
    subst (λ (p : Entries). IsEntryOf p c.args.word c.in-Ok.at) (sym (ap (λ (x : Listing). x.entries) c.self.view_is)) found

pub returns-in-Ok-clause-set : goal.returns-in-Ok-clause-set
returns-in-Ok-clause-set c = rw (← c.self.view_is) (sets_only_set c.self.inside.entries.items c.self.invariant _ _ (entry c) _)

-- or it would go there
gap : (c : goal.After-push) → IsGapFor c.self.inside.entries.items c.args.word c.in-Err.at
gap c =
    let absent = subst (λ (p : Result ℕ ℕ). IfErr p (IsGapFor c.args.self.now.entries c.args.word)) c.in-Err.is c.requires.absent in
    subst (λ (p : Entries). IsGapFor p c.args.word c.in-Err.at) (sym (ap (λ (x : Listing). x.entries) c.self.view_is)) absent

-- and there is room
space : (c : goal.After-push) → let l = c.self.inside.entries in length l.items < l.cap
space c =
    let room = subst (λ (p : Result ℕ ℕ). IfErr p (λ at. length c.args.self.now.entries < c.args.self.now.room)) c.in-Err.is c.requires.space in
    subst (λ (x : Listing). length x.entries < x.room) (sym c.self.view_is) room

-- the entry stands in its place
items : (c : goal.After-push) → c.push.new.self.items ≡ insert c.self.inside.entries.items c.in-Err.at (c.args.word, c.args.value)
items c =
    let was = c.self.inside.entries.items in
    let carried = c.carry_up-last.new.entries in
    let long : length carried ≡ c.self.inside.entries.len = c.carry_up-last.auto.entries ∙ c.deref_mut.ensures.len in
    let whole = written c.self.inside.entries.len carried was long in
    pushed c.push.result _ _ _ (c.push.ensures.succeeds (omega (arith, space c, c.self.inside.entries.ok.0))) c.push.ensures.items
    ∙ ap (λ (l : Entries). l ++ c.carry_up-last.result ∷ []) whole
    ∙ c.carry_up-last.ensures
    ∙ ap (λ (l : Entries). insert l c.in-Err.at (c.args.word, c.args.value)) c.deref_mut.ensures.value

pub invariant_of-self-in-Err : goal.invariant_of-self-in-Err
invariant_of-self-in-Err c = subst IsAscending (sym (items c)) (ascending_insert _ _ _ (gap c) _ c.self.invariant)

pub returns-in-Err-clause-set : goal.returns-in-Err-clause-set
returns-in-Err-clause-set c = rw (items c, ← c.self.view_is) (sets_only_insert _ _ _ (gap c) _)

pub returns-in-Err-clause-ascending : goal.returns-in-Err-clause-ascending
returns-in-Err-clause-ascending c = invariant_of-self-in-Err c

pub returns-in-Err-clause-room : goal.returns-in-Err-clause-room
returns-in-Err-clause-room c = omega (arith, c.push.ensures.capacity, ap (λ (x : Listing). x.room) c.self.view_is)
