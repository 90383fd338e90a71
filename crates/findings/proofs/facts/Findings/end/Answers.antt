use Rattle.std.proofs.Common.{arith, subst}
use Rattle.findings.specs.Facts.{Known, HasEnd, HasNone}
use Rattle.findings.proofs.Ending.{end_at}
use Rattle.findings.proofs.facts.Findings.end.Goals as goal

pub returns-then-end-len-clause-some : goal.returns-then-end-len-clause-some
returns-then-end-len-clause-some c =
    let is = end_at c.self.inside.facts.events c.self.inside.ends.items c.args.place c.index-end.result.now
    c.index-end.result.now c.self.invariant (omega (arith, c.if-place-len.false, c.len.ensures)) c.index-end.ensures in
    subst (λ (known : Known). HasEnd known.events c.args.place c.index-end.result.now) c.self.view_is
    (is.some (omega (arith, c.if-end-len.true, c.len-2.ensures.events)))

pub returns-clause-none : goal.returns-clause-none
returns-clause-none c =
    let is = end_at c.self.inside.facts.events c.self.inside.ends.items c.args.place c.index-end.result.now
    c.index-end.result.now c.self.invariant (omega (arith, c.if-place-len.false, c.len.ensures)) c.index-end.ensures in
    subst (λ (known : Known). HasNone known.events c.args.place) c.self.view_is
    (is.none (omega (arith, c.if-end-len.false, c.len-2.ensures.events)))
