use Rattle.std.proofs.Common.{◌≡◌, Some, ◌∙◌, subst, sym, rules}
use Rattle.arena.specs.Shape.{Shape}
use Rattle.recover.specs.Table.{boot_recovery}
use Rattle.interleave.specs.Core.{CoreState, state_of}
use Rattle.interleave.specs.Holds.{Holds}
use Rattle.interleave.specs.State.{world_over}
use Rattle.interleave.proofs.words.UnusedQueues.{booted_unused, holds_unused}
use Rattle.interleave.proofs.lent.Core.boot_unused.Goals as goal

pub returns-clause-booted : goal.returns-clause-booted
returns-clause-booted c = λ ws unused.
    let s : Shape = c.args.layout in
    let counts = c.clients.ensures.counts in
    let left : CoreState = record { shape = s; queue = c.new-queue.result; calls = c.none-calls.result; trace = c.booted-trace.result } in
    let new : state_of left ws ≡ record (world_over s ws) { recovery = Some boot_recovery } = search rules in
    new ∙ sym (booted_unused s ws unused counts.some_client counts.few_clients)

pub returns-clause-holds : goal.returns-clause-holds
returns-clause-holds c = λ ws unused.
    let s : Shape = c.args.layout in
    let counts = c.clients.ensures.counts in
    subst Holds (sym (returns-clause-booted c ws unused)) (holds_unused s ws unused counts.some_client counts.few_clients)
