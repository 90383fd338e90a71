use Rattle.std.proofs.Common.{◌≤◌, ◌<◌, arith}
use Rattle.sound_words.proofs.Tellings.{told_before_first, told_before_next, all_told}
use Rattle.sound_words.proofs.kept.KeptQueue.reports.Goals as goal

pub loop-t-init : goal.loop-t-init
loop-t-init g c = told_before_first _ _

pub loop-t-preserved : goal.loop-t-preserved
loop-t-preserved g c =
    let few : c.loop-t.t < 16 = omega (arith, c.loop-t-test.true, c.clients-t-end.ensures.value, c.clients-t-end.ensures.counts.few_clients) in
    told_before_next _ _ c.loop-t.tells c.loop-t.t _ few c.told_of.ensures c.loop-t.invariant

pub returns : goal.returns
returns g c =
    let past : c.args.self.now.shape.clients ≤ c.loop-t.t = omega (arith, c.loop-t-test.false, c.clients-t-end.ensures.value) in
    all_told _ _ c.loop-t.tells c.loop-t.t past c.loop-t.invariant
