-- A script without its lines `again` gives what is left of a transcript without its refusals of memory.
use Rattle.std.proofs.Common.{◌≡◌, ◌≢◌, refl, sym, ap, ◌∙◌, subst, List, ◌∷◌, ◌++◌}
use Rattle.std.proofs.lemmas.List.Elements.{All-head, All-tail, filter-append}
use Rattle.std.specs.Prelude.{Option, Some, None, All}
use Rattle.grammar.specs.declared.commands.Command.TheVariants.{Again}
use Rattle.arena.specs.Broker.{broker_size}
use Rattle.named.specs.Brokers.{Brokered}
use Rattle.playing.specs.declared.lines.Line.TheVariants.{Size}
use Rattle.broker_lines.specs.Grammar.{counts_by}
use Rattle.broker_lines.specs.declared.printed.Printed.{Printed}
use Rattle.broker_lines.specs.declared.printed.Printed.TheVariants.{Whole as whole_line}
use Rattle.broker_lines.specs.declared.statements.BrokerLine.{BrokerLine}
use Rattle.broker_lines.specs.declared.statements.Statement.{Statement}
use Rattle.broker_lines.specs.declared.statements.Statement.TheVariants.{Whole}
use Rattle.broker_script.specs.Play.{Played}
use Rattle.broker_script.specs.PutOff.{IsAsBefore, IsPutOff}
use Rattle.broker_script.specs.Transcript.{AreLinesOf, FollowsAll, FollowsLine, none, more, made_again}
use Rattle.broker_points.specs.Plain.{is_answer, without_again, without_refusals, ArePlainLinesOf, FollowsPlainly, all_followed, next_line}
use Rattle.broker_script.proofs.Facts.{nothing_made}
use Rattle.broker_points.proofs.Said.{all_left, both_said, line_said, none_said, AreSaid}

-- as before, and as before that
as_before_that : (a b c : Brokered) → IsAsBefore a b → IsAsBefore b c → IsAsBefore a c
as_before_that a b c first second = record {
  counts = second.counts ∙ first.counts;
  cached = second.cached ∙ first.cached;
  kept = second.kept ∙ first.kept;
  worlds = λ slot. second.worlds slot ∙ first.worlds slot;
  directory = second.directory ∙ first.directory;
  creation = second.creation ∙ first.creation;
  recovery = second.recovery ∙ first.recovery;
}

put_off_twice : (a b c : Played) → IsPutOff a b → IsPutOff b c → IsPutOff a c
put_off_twice a b c first second = record {
  broker = as_before_that a.broker b.broker c.broker first.broker second.broker;
  kept = λ slot client. second.kept slot client ∙ first.kept slot client;
  others = second.others ∙ ap (λ (p : Played). record p { broker = c.broker; kept = c.kept }) first.others;
}

later : (old now : Played) (statements : List Statement) (lines : List Printed) → IsPutOff old now
    → FollowsPlainly now statements lines → FollowsPlainly old statements lines
later old now _ _ same all_followed = all_followed
later old now _ _ same (next_line from to first rest before line lines) =
    next_line from to first rest (put_off_twice old now from same before) line lines

-- one line more: `again` does nothing here
one_more : (old next : Played) (statement : Statement) (statements : List Statement) (first rest : List Printed)
    → FollowsLine old statement first next → FollowsPlainly next (without_again statements) (without_refusals rest)
    → FollowsPlainly old (without_again (statement ∷ statements)) (without_refusals (first ++ rest))
one_more old next (Whole Again) statements first rest line lines =
    subst (λ (p : Played). FollowsPlainly p (without_again statements) (without_refusals (first ++ rest))) line.1
    (subst (λ (l : List Printed). FollowsPlainly next (without_again statements) (without_refusals (l ++ rest))) (sym line.0) lines)
one_more old next statement statements first rest line lines =
    subst (FollowsPlainly old (statement ∷ without_again statements))
    (sym (filter-append is_answer first rest
    ∙ ap (λ (l : List Printed). l ++ without_refusals rest) (all_left first (line_said old statement first next line))))
    (next_line old next first (without_refusals rest) (nothing_made old) line lines)

plainly : {old : Played} {statements : List Statement} {lines : List Printed} → FollowsAll old statements lines
    → FollowsPlainly old (without_again statements) (without_refusals lines)
plainly none = all_followed
plainly {old = old} (more {statement = statement} {statements = statements} next first rest line lines) =
    one_more old next statement statements first rest line (plainly lines)
plainly {old = old} (made_again {statement = statement} {statements = statements} next rest put_off lines) =
    later old next (without_again (statement ∷ statements)) (without_refusals rest) put_off (plainly lines)

pub script_differs : (broker : Option BrokerLine) (statements : List Statement) (lines : List Printed)
    → AreLinesOf broker statements lines → ArePlainLinesOf broker (without_again statements) (without_refusals lines)
script_differs None statements lines given = ap without_refusals given
script_differs (Some broker) statements lines given = record {
  session = given.session;
  made = given.made;
  kept = given.kept;
  given = without_refusals given.given;
  followed = plainly given.followed;
  gives = ap without_refusals given.gives;
}

-- without `again` nothing is put off
abbrev IsNotAgain : Statement → Type 0
IsNotAgain statement = statement ≢ Whole Again

all_said : {old : Played} {statements : List Statement} {lines : List Printed} → FollowsAll old statements lines
    → All (λ (statement : Statement). statement ≢ Whole Again) statements → AreSaid lines
all_said none acts = none_said
all_said {old = old} (more {statement = statement} {statements = statements} next first rest line lines) acts =
    both_said first rest (line_said old statement first next line) (all_said lines (All-tail IsNotAgain statement statements acts))
all_said (made_again {statement = statement} {statements = statements} next rest put_off lines) acts =
    absurd (All-head IsNotAgain (Whole Again) statements (All-tail IsNotAgain statement (Whole Again ∷ statements) acts) refl)

pub none_refused : (broker : Option BrokerLine) (statements : List Statement) (lines : List Printed)
    → All (λ (statement : Statement). statement ≢ Whole Again) statements → AreLinesOf broker statements lines
    → without_refusals lines ≡ lines
none_refused None statements lines acts given = ap without_refusals given ∙ sym given
none_refused (Some broker) statements lines acts given =
    ap without_refusals given.gives
    ∙ ap (λ (l : List Printed). whole_line (Size (broker_size (counts_by broker))) ∷ l)
    (all_left given.given (all_said given.followed acts)) ∙ sym given.gives
