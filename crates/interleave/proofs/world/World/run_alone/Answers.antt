use Rattle.std.proofs.Common.{◌≡◌, subst, ap}
use Rattle.std.specs.Prelude.{IfOk}
use Rattle.words.specs.declared.call.Call.{Call}
use Rattle.interleave.specs.Core.{roomy_over}
use Rattle.interleave.specs.Rules.{GoesOnExplained, IsByAlone}
use Rattle.interleave.specs.State.{State}
use Rattle.interleave.specs.Trace.{Roomy}
use Rattle.interleave.specs.Turn.{IsInTurn, IsServedAlone}
use Rattle.interleave.proofs.runs.AloneReplies.{goes_on_after_alone, served_after_alone}
use Rattle.interleave.proofs.machine.Holding.{explained_world}
use Rattle.interleave.proofs.words.KeptWords.{kept_sound}
use Rattle.interleave.proofs.world.World.run_alone.Goals as goal

pub returns-clause-alone : goal.returns-clause-alone
returns-clause-alone c =
    subst (λ (r : Roomy). IsByAlone c.args.client r c.run_alone_in.result (roomy_over c.run_alone_in.new.self c.run_alone_in.new.memory.words))
    c.self.view_is c.run_alone_in.ensures.alone

pub returns-clause-goes_on : goal.returns-clause-goes_on
returns-clause-goes_on c =
    let old : State = (roomy_over c.self.inside.core c.self.inside.memory.words).now in
    let new : State = (roomy_over c.run_alone_in.new.self c.run_alone_in.new.memory.words).now in
    let alone = c.run_alone_in.ensures.alone in
    subst (λ (r : Roomy). GoesOnExplained r.now new) c.self.view_is
    (record {
      goes_on = goes_on_after_alone old c.args.client c.self.invariant.world new c.run_alone_in.result alone.same alone.answer alone.world;
      explained = explained_world new c.run_alone_in.ensures.holds.world;
      sound = kept_sound new c.run_alone_in.ensures.holds.world;
    })

pub returns-clause-turn : goal.returns-clause-turn
returns-clause-turn c =
    let old : State = (roomy_over c.self.inside.core c.self.inside.memory.words).now in
    let new : State = (roomy_over c.run_alone_in.new.self c.run_alone_in.new.memory.words).now in
    let was : old ≡ c.args.self.now.now = ap (λ (r : Roomy). r.now) c.self.view_is in
    let alone = c.run_alone_in.ensures.alone in
    subst (λ (w : State). IfOk c.run_alone_in.result (λ answer. (call : Call) → IsInTurn w c.args.client call → IsServedAlone w call answer.0 new)) was
    (served_after_alone old c.args.client c.self.invariant.world new c.run_alone_in.result alone.answer alone.world)
