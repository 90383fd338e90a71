-- Words with which clap finds no fault name one of the three commands.
use Rattle.std.proofs.Common.{◌≡◌, ◌⊎◌, ◌&&◌, Bool, true, false, true≢false, cond, not, List, [], ◌∷◌, length, Option, Some, None, refl, sym, ap, inl, inr, arith, is_some}
use Rattle.std.specs.Prelude.{find, option_map, option_and_then}
use Rattle.std.specs.List.{list_any}
use Rattle.clap.specs.Facts.{explicit_source}
use Rattle.clap.specs.Faults.{check_fault, defaults_fault, entered_fault, level_fault, settle_fault, walk_fault}
use Rattle.clap.specs.Kinds.{Kinds, check_kinds, or_else}
use Rattle.clap.specs.Simple.{argument_words, built, built_leaf, inherited, label_of, marked_built, names_of, on_top, rows_at, with_leaf_noted}
use Rattle.clap.specs.Takes.{is_given}
use Rattle.clap.specs.Walk.{Held, Names, answers_to, finished, nothing_held, settled, stop_after, walk, walk_from}
use Rattle.clap.specs.Words.{Row, Shape, Text, fault_of, subcommand_of}
use Rattle.clap.specs.declared.error.kind.ErrorKind.{ErrorKind}
use Rattle.clap.specs.declared.error.kind.ErrorKind.TheVariants.{DisplayHelpOnMissingArgumentOrSubcommand, MissingSubcommand}
use Rattle.options.specs.Asked.{IsKnown, name_in}
use Rattle.command_lines.specs.Commands.{pipe_app, pqd_app, serve_app, stats_app}
use Rattle.command_lines.specs.Lines.{command_name}

filled : (k : ErrorKind) (ks : Kinds) → k ∷ ks ≡ [] → ⊥
filled k ks e = let bad : length (k ∷ ks) ≡ 0 = ap (λ (all : Kinds). length all) e in absurd (omega arith)

-- where the first of two steps or the second finds no fault, the second finds none
second_none : (a b : Kinds) → or_else a b ≡ [] → b ≡ []
second_none [] b e = e
second_none (k ∷ ks) b e = absurd (filled k ks e)

-- a command that is wanted is missed
missed : (help command argument : Bool) → command ≡ true → check_kinds help command argument ≡ [] → ⊥
missed true command argument w e = filled DisplayHelpOnMissingArgumentOrSubcommand [] e
missed false true argument w e = filled MissingSubcommand [] e
missed false false argument w e = absurd (true≢false (sym w))

met_where_wanted : (s : Shape) (rows : List Row) (has : Bool) → s.subcommand_required ≡ true → check_fault s rows has ≡ [] → has ≡ true
met_where_wanted s rows true wanted e = refl
met_where_wanted s rows false wanted e = absurd (missed
    (s.arg_required_else_help && not (list_any (λ r. explicit_source r.source) rows)) s.subcommand_required
    (not (s.subcommand_negates_reqs && false) && list_any (λ a. a.required && not (is_given a.id rows)) s.rules) wanted e)

met_at_level : (s : Shape) (names : Names) (h : Held) (words : List Text) (has : Bool) (below : Kinds) → s.subcommand_required ≡ true
    → level_fault s names h words has below ≡ [] → has ≡ true
met_at_level s names h words has below wanted e =
    let end = (walk s.rules names h words).held in
    met_where_wanted s (finished s.rules end) has wanted
    (second_none (defaults_fault (settled s.rules end).rows s.rules) _
    (second_none (settle_fault s.rules s.args_override_self end) _
    (second_none below _ (second_none (walk_fault s names (walk_from h) words) _ e))))

-- the command at which a walk stopped, of these
abbrev entered_of : List Shape → Option (Text × List Text) → Option (Text × List Row)
entered_of subs stop = option_and_then (λ p. option_map (λ s. rows_at s p.1) (find (λ s. answers_to p.0 (label_of s)) subs)) stop

-- the one that is found of three, with what it was given
abbrev found_of_three : Shape → Shape → Shape → Bool → Bool → Bool → List Text → Option (Text × List Row)
found_of_three x y z b c d rest = option_map (λ s. rows_at s rest) (cond b (Some x) (cond c (Some y) (cond d (Some z) None)))

-- of three commands, the one that is met is one of them
one_in_three : (x y z : Shape) (b c d : Bool) (rest : List Text) → is_some (found_of_three x y z b c d rest) ≡ true
    → (name_in (found_of_three x y z b c d rest) ≡ Some z.name)
    ⊎ ((name_in (found_of_three x y z b c d rest) ≡ Some x.name) ⊎ (name_in (found_of_three x y z b c d rest) ≡ Some y.name))
one_in_three x y z true c d rest e = inr (inl refl)
one_in_three x y z false true d rest e = inr (inr refl)
one_in_three x y z false false true rest e = inl refl
one_in_three x y z false false false rest e = absurd (true≢false (sym e))

one_of_three : (x y z : Shape) (stop : Option (Text × List Text)) → is_some (entered_of (x ∷ y ∷ z ∷ []) stop) ≡ true
    → (name_in (entered_of (x ∷ y ∷ z ∷ []) stop) ≡ Some z.name)
    ⊎ ((name_in (entered_of (x ∷ y ∷ z ∷ []) stop) ≡ Some x.name) ⊎ (name_in (entered_of (x ∷ y ∷ z ∷ []) stop) ≡ Some y.name))
one_of_three x y z None e = absurd (true≢false (sym e))
one_of_three x y z (Some p) e =
    one_in_three x y z (answers_to p.0 (label_of x)) (answers_to p.0 (label_of y)) (answers_to p.0 (label_of z)) p.1 e

-- a command of `pqd` as clap builds it
abbrev built_below : Shape → Shape
built_below s = built_leaf (inherited (on_top with_leaf_noted (on_top marked_built pqd_app)).top s)

pub known : (words : List Text) → fault_of pqd_app words ≡ [] → IsKnown (command_name words)
known words e =
    let all = built pqd_app in
    let stop = stop_after all.top.rules (names_of all) (argument_words pqd_app words) in
    let met : is_some (subcommand_of pqd_app words) ≡ true = met_at_level all.top (names_of all) nothing_held (argument_words pqd_app words)
    (is_some (subcommand_of pqd_app words)) (entered_fault all stop) refl e in
    one_of_three (built_below pipe_app.top) (built_below serve_app.top) (built_below stats_app.top) stop met
