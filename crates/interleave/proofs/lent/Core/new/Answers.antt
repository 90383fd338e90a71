use Rattle.std.proofs.Common.{◌≡◌, subst, sym, rules}
use Rattle.arena.specs.Shape.{Shape}
use Rattle.interleave.specs.Core.{CoreState, state_of}
use Rattle.interleave.specs.Holds.{Holds}
use Rattle.interleave.specs.State.{world_over}
use Rattle.interleave.proofs.words.ZeroWords.{holds_over}
use Rattle.interleave.proofs.lent.Core.new.Goals as goal

pub returns-clause-holds : goal.returns-clause-holds
returns-clause-holds c = λ ws unused.
    let s : Shape = c.args.layout in
    let left : CoreState = record { shape = s; queue = c.new-queue.result; calls = c.none-calls.result; trace = c.new-trace.result } in
    let world : state_of left ws ≡ world_over s ws = search rules in
    subst Holds (sym world) (holds_over s ws unused c.clients.ensures.counts.some_client c.clients.ensures.counts.few_clients)
