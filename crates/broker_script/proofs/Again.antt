-- Lines of a broker's script that are left, where one may have been put off.
use Rattle.std.proofs.Common.{◌≡◌, refl, sym, subst, ℕ, ◌+◌, ◌<◌, ◌≤◌, Bool, true, false, List, [], ◌∷◌, ◌++◌, drop, get_or, length}
use Rattle.std.specs.Prelude.{Some, slice_get}
use Rattle.grammar.specs.declared.commands.Command.TheVariants.{Again}
use Rattle.playing.proofs.Facts.{comes_next, nothing_pending, pending, put_off_first}
use Rattle.broker_lines.specs.Lines.{no_memory}
use Rattle.broker_lines.specs.declared.printed.Printed.{Printed}
use Rattle.broker_lines.specs.declared.statements.Statement.{Statement}
use Rattle.broker_lines.specs.declared.statements.Statement.TheVariants.{Whole as whole}
use Rattle.broker_script.specs.Play.{Played}
use Rattle.broker_script.specs.PutOff.{IsPutOff}
use Rattle.broker_script.specs.Transcript.{FollowsAll, FollowsLine}
use Rattle.broker_script.proofs.Going.{all_again, all_end, all_more, AllLead}

pub next_left : (start now next : Played) (all : List Statement) (m at : ℕ) (s : Statement) (lines more : List Printed)
    (b : Bool) → AllLead start all now (s ∷ drop (at + 1) all) lines → m < length all → s ≡ get_or all m s
    → (b ≡ false → (given : List Printed) × FollowsLine now s given next × (more ≡ lines ++ given))
    → (b ≡ true → IsPutOff now next × (more ≡ lines ++ no_memory ∷ []))
    → (b ≡ true → slice_get all (at + 1) ≡ Some (whole Again))
    → AllLead start all next (pending b m (at + 1) all) more
next_left start now next all m at s lines more false leads within value made put_off again =
    let by = made refl in
    subst (AllLead start all next (drop (at + 1) all)) (sym by.2)
    (all_more start now next all (drop (at + 1) all) s lines by.0 by.1 leads)
next_left start now next all m at s lines more true leads within value made put_off again =
    let by = put_off refl in
    let follows : drop (at + 1) all ≡ whole Again ∷ drop (at + 1 + 1) all = comes_next all (at + 1) (whole Again) (again refl) in
    let left : AllLead start all next (s ∷ drop (at + 1 + 1) all) (lines ++ no_memory ∷ []) =
    all_again start now next all (drop (at + 1 + 1) all) s lines by.0
    (subst (λ (l : List Statement). AllLead start all now (s ∷ l) lines) follows leads) in
    subst (λ (l : List Statement). AllLead start all next l more) (sym (put_off_first all m (at + 1) s within value))
    (subst (AllLead start all next (s ∷ drop (at + 1 + 1) all)) (sym by.1) left)

-- past the last line nothing is left
pub all_made : (start now : Played) (all : List Statement) (put_off : Bool) (made at : ℕ) (lines : List Printed)
    → (put_off ≡ true → at < length all) → length all ≤ at → AllLead start all now (pending put_off made at all) lines
    → FollowsAll start all lines
all_made start now all put_off made at lines again out leads =
    all_end start now all lines
    (subst (λ (l : List Statement). AllLead start all now l lines) (nothing_pending all put_off made at again out) leads)
