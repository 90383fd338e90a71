use Rattle.std.proofs.Common.{below_more, ◌<◌, length, arith}
use Rattle.words.specs.declared.call.Call.TheVariants.{Enq}
use Rattle.findings.proofs.Showing.{within_events}
use Rattle.findings.proofs.judging.nobody_put.Goals as goal

pub loop-k-preserved : goal.loop-k-preserved
loop-k-preserved c = below_more _ _ c.loop-k.invariant (c.did_not_put.ensures c.if-not-did_not_put.false)

pub returns : goal.returns
returns c = λ yes p puts.
    let lt : p < length c.args.findings.now.events = within_events c.args.findings.now.events p (Enq c.args.value.now) puts in
    c.loop-k.invariant p (omega arith) puts
