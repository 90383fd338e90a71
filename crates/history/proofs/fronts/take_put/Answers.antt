use Rattle.std.proofs.Common.{sym, ◌∙◌, ◌≡◌, ◌+◌, ◌++◌, arith, ap, List, ℕ}
use Rattle.words.specs.PlainQueue.{Value}
use Rattle.history.specs.Counting.{values_of_call}
use Rattle.history.specs.Fronts.{values_between}
use Rattle.history.proofs.FrontSteps.{values_more, values_none}
use Rattle.history.proofs.fronts.take_put.Goals as goal

pub returns-then-is_some-clause-front : goal.returns-then-is_some-clause-front
returns-then-is_some-clause-front c = sym c.loop-k.invariant
    ∙ values_more _ _ _ _ c.index-entries-k.result c.loop-k-test.true c.requires.within
    ∙ ap (λ (vs : List Value). vs ++ values_between c.args.events.now.items c.args.entries.now (c.loop-k.k + 1) c.args.to)
    (ap values_of_call (sym c.named_call.ensures) ∙ sym c.value_put-put.ensures)

pub returns-clause-front : goal.returns-clause-front
returns-clause-front c =
    let end : c.loop-k.k ≡ c.args.to = omega (arith, c.loop-k-test.false, c.loop-k.auto.k-end c.requires.below) in
    sym c.loop-k.invariant ∙ ap (λ (k : ℕ). values_between c.args.events.now.items c.args.entries.now k c.args.to) end

pub returns-clause-none : goal.returns-clause-none
returns-clause-none c =
    let end : c.loop-k.k ≡ c.args.to = omega (arith, c.loop-k-test.false, c.loop-k.auto.k-end c.requires.below) in
    sym c.loop-k.invariant ∙ ap (λ (k : ℕ). values_between c.args.events.now.items c.args.entries.now k c.args.to) end
    ∙ values_none c.args.events.now.items c.args.entries.now c.args.to
