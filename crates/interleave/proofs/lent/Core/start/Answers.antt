use Rattle.std.proofs.Common.{◌≡◌, subst, sym, rules}
use Rattle.words.specs.PlainQueue.{Value, FitsValue}
use Rattle.words.specs.declared.call.Call.TheVariants.{Enq}
use Rattle.protocol.specs.Machine.{FitsCall}
use Rattle.interleave.specs.Calls.{is_no_memory}
use Rattle.interleave.specs.Core.{state_of}
use Rattle.interleave.specs.Holds.{Holds}
use Rattle.interleave.specs.State.{State, after_start}
use Rattle.interleave.proofs.machine.Holding.{call_fits, holds_after_start}
use Rattle.interleave.proofs.lent.Core.start.Goals as goal

pub returns-clause-holds : goal.returns-clause-holds
returns-clause-holds g c =
    let old : State = state_of c.args.self.now (g.M.WordMemory.words c.args.memory.now) in
    let value : (v : Value) → c.args.call ≡ Enq v → FitsValue v = search rules in
    let fits : FitsCall c.args.call = call_fits c.args.call value in
    let world : state_of c.begin.new.self (g.M.WordMemory.words c.begin.new.memory)
    ≡ after_start (is_no_memory c.begin.result) old c.args.client c.args.number c.args.call = search rules in
    subst Holds (sym world) (holds_after_start (is_no_memory c.begin.result) old c.args.client c.args.number c.args.call c.requires.holds fits)
