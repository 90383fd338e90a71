use Rattle.std.proofs.Common.{◌≡◌, false, subst, sym, rules}
use Rattle.persist.specs.Memory.{words_after_crash}
use Rattle.interleave.specs.Core.{CoreState, state_of}
use Rattle.interleave.specs.Holds.{Holds}
use Rattle.interleave.specs.State.{after_stop}
use Rattle.interleave.proofs.machine.Holding.{holds_after_crash}
use Rattle.interleave.proofs.lent.Core.stop.Goals as goal

pub returns-clause-holds : goal.returns-clause-holds
returns-clause-holds c = λ ws holds.
    let left : CoreState = record { shape = c.self.inside.layout; queue = c.self.inside.queue; calls = c.end_all.new.self; trace = c.crash.new.self } in
    let stopped : state_of left (words_after_crash ws) ≡ after_stop (state_of c.args.self.now ws) = search rules in
    subst Holds (sym stopped) (holds_after_crash false (state_of c.args.self.now ws) holds)
