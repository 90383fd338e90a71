use Rattle.std.proofs.Common.{sym, ◌∙◌}
use Rattle.std.specs.Prelude.{IsTrue}
use Rattle.std.proofs.lemmas.Result.{IfOk-weaker}
use Rattle.interleave.specs.State.{State}
use Rattle.interleave.proofs.Facts.{explained_world}
use Rattle.explore.specs.Points.{recovered}
use Rattle.explore.proofs.Copied.{recovered_begins, recovered_holds}
use Rattle.explore.proofs.Explained.{AreOf, explained, left}
use Rattle.explore.proofs.stop.is_right.Goals as goal

pub returns-clause-right : goal.returns-clause-right
returns-clause-right c =
    let w : State = c.args.world.now.now in
    let v : State = recovered w in
    let h = c.tell_stop.new.history in
    let o = c.args.order.now in
    let begins = recovered_begins w in
    let are : AreOf v h o = record {
      base = c.in_ok-tell_stop.ensures.base ∙ sym begins.0;
      told = c.in_ok-tell_stop.ensures.told ∙ sym begins.1;
      events = c.in_ok-tell_stop.ensures.events ∙ sym c.requires.told;
      order = c.requires.order ∙ sym begins.2;
    } in
    let holds = explained_world v (recovered_holds w c.requires.holds) in
    IfOk-weaker c.check_content.result _ (λ right. IsTrue right)
    (λ right is. is.1 (explained v h o are holds, left v h o c.args.content.now are holds c.requires.content))
    c.check_content.ensures.right
