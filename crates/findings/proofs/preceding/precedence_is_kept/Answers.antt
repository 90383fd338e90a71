use Rattle.std.proofs.Common.{refl, get_or}
use Rattle.std.proofs.lemmas.Option.{slice_get-get_or}
use Rattle.findings.proofs.Greatest.{greatest_more, keeps_all, kept_more, not_kept}
use Rattle.findings.proofs.preceding.precedence_is_kept.Goals as goal

pub returns-then-precedes : goal.returns-then-precedes
returns-then-precedes c =
    let order = c.args.entries.now in
    let here = get_or order c.loop-i.i c.index-entries-i.result in
    let at = slice_get-get_or order c.loop-i.i c.index-entries-i.result c.loop-i-test.true in
    let greatest = greatest_more order c.loop-i.i c.loop-i.greatest c.max-greatest.result here at
    c.max-greatest.ensures c.loop-i.invariant.greatest in (
      λ no. cc,
      λ keeps. absurd (not_kept c.args.findings.now.events order c.loop-i.i c.max-greatest.result here at greatest
          (c.precedes.ensures.0 c.if-precedes.true) keeps),
    )

pub loop-i-preserved : goal.loop-i-preserved
loop-i-preserved c =
    let order = c.args.entries.now in
    let here = get_or order c.loop-i.i c.index-entries-i.result in
    let at = slice_get-get_or order c.loop-i.i c.index-entries-i.result c.loop-i-test.true in
    let greatest = greatest_more order c.loop-i.i c.loop-i.greatest c.max-greatest.result here at
    c.max-greatest.ensures c.loop-i.invariant.greatest in
    record {
      greatest = greatest;
      kept = kept_more c.args.findings.now.events order c.loop-i.i c.max-greatest.result here at greatest
          (λ before. cc (c.precedes.ensures.1 before, c.if-precedes.false)) c.loop-i.invariant.kept;
    }

pub returns : goal.returns
returns c = (
  λ yes. keeps_all c.args.findings.now.events c.args.entries.now c.loop-i.i c.loop-i-test.false
      c.loop-i.invariant.kept,
  λ keeps. refl,
)
