use Rattle.std.proofs.Common.{◌≡◌, ℕ, ◌<◌, ◌+◌, List, [], ◌∷◌, ◌++◌, length, eqb, get_or, take, sym, subst, refl, arith, rules, tests, inr}
use Rattle.std.proofs.lemmas.Iterator.Splits.{YieldsList-from_slice_split}
use Rattle.std.proofs.lemmas.Iterator.Consumers.{YieldsList-turn, YieldsList-end}
use Rattle.std.proofs.lemmas.List.{take_all, length_push}
use Rattle.grammar.specs.Lines.{lines_of, without_last_newline}
use Rattle.broker_lines.specs.Script.{Says, IsFirstBad}
use Rattle.broker_lines.proofs.Facts.{goes_on, stops, stops_past}
use Rattle.broker_script.proofs.parser.parse_script.Goals as goal

pub overflow_add-number : goal.overflow_add-number
overflow_add-number c = let few = c.loop-line.invariant.few in omega arith

pub returns-then-number-gt-MAX_LINES-clause-errors :
    goal.returns-then-number-gt-MAX_LINES-clause-errors
returns-then-number-gt-MAX_LINES-clause-errors c =
    let lines = lines_of c.args.text.now in
    let k = length c.loop-line.yielded in
    let all = YieldsList-from_slice_split _ (λ b. eqb b 10) (without_last_newline c.args.text.now) (search rules) (search rules) (search rules) (λ x b q called. search (rules, tests)) in
    let turn : (k < length lines) × (c.in-Some.line.now ≡ get_or lines k c.in-Some.line.now) = YieldsList-turn all c.loop-line.yielded _ c.loop-line.yielded_by _ _ c.in-Some.line c.in-Some.is c.next.ensures.steps in
    let count = c.loop-line.invariant.count in
    let past : k + 1 ≡ c.loop-line.number + 1 = omega arith in
    inr (c.loop-line.number + 1, refl, subst (IsFirstBad lines) past (stops_past lines k c.in-Some.line.now turn (omega arith) c.loop-line.broker c.loop-line.statements.items c.loop-line.invariant.says))

pub returns-then-not-branch-clause-errors : goal.returns-then-not-branch-clause-errors
returns-then-not-branch-clause-errors c =
    let lines = lines_of c.args.text.now in
    let k = length c.loop-line.yielded in
    let all = YieldsList-from_slice_split _ (λ b. eqb b 10) (without_last_newline c.args.text.now) (search rules) (search rules) (search rules) (λ x b q called. search (rules, tests)) in
    let turn : (k < length lines) × (c.in-Some.line.now ≡ get_or lines k c.in-Some.line.now) = YieldsList-turn all c.loop-line.yielded _ c.loop-line.yielded_by _ _ c.in-Some.line c.in-Some.is c.next.ensures.steps in
    let count = c.loop-line.invariant.count in
    let past : k + 1 ≡ c.loop-line.number + 1 = omega arith in
    inr (c.loop-line.number + 1, refl, subst (IsFirstBad lines) past (stops lines k c.in-Some.line.now turn c.loop-line.broker c.loop-line.statements.items c.loop-line.invariant.says (c.in_ok-add_line.ensures.bad (cc))))

pub loop-line-preserved : goal.loop-line-preserved
loop-line-preserved c =
    let lines = lines_of c.args.text.now in
    let k = length c.loop-line.yielded in
    let all = YieldsList-from_slice_split _ (λ b. eqb b 10) (without_last_newline c.args.text.now) (search rules) (search rules) (search rules) (λ x b q called. search (rules, tests)) in
    let turn : (k < length lines) × (c.in-Some.line.now ≡ get_or lines k c.in-Some.line.now) = YieldsList-turn all c.loop-line.yielded _ c.loop-line.yielded_by _ _ c.in-Some.line c.in-Some.is c.next.ensures.steps in
    let more : k + 1 ≡ length (c.loop-line.yielded ++ c.in-Some.line ∷ []) = sym (length_push c.loop-line.yielded c.in-Some.line) in
    let count = c.loop-line.invariant.count in
    let small = c.if-number-gt-MAX_LINES.false in
    let broker = c.add_line.new.broker in
    let statements = c.add_line.new.statements.items in
    record {
      can_next = search rules;
      is_finite = search rules;
      count = omega arith;
      few = omega arith;
      says = subst (λ (n : ℕ). Says (take n lines) broker statements) more (goes_on lines k c.in-Some.line.now turn (omega arith) c.loop-line.broker broker c.loop-line.statements.items statements c.loop-line.invariant.says (c.in_ok-add_line.ensures.good (cc)));
    }

pub returns-clause-script : goal.returns-clause-script
returns-clause-script c =
    let lines = lines_of c.args.text.now in
    let k = length c.loop-line.yielded in
    let all = YieldsList-from_slice_split _ (λ b. eqb b 10) (without_last_newline c.args.text.now) (search rules) (search rules) (search rules) (λ x b q called. search (rules, tests)) in
    let end = YieldsList-end all c.loop-line.yielded _ c.loop-line.yielded_by _ _ c.in-None.is c.next.ensures.steps in
    subst (λ (ls : List (List ℕ)). Says ls c.loop-line.broker c.loop-line.statements.items) (take_all k lines (omega (arith, end.1))) c.loop-line.invariant.says
