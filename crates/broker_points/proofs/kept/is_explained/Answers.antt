use Rattle.std.proofs.Common.{◌≡◌, ◌∙◌}
use Rattle.std.proofs.lemmas.Result.{IfOk-weaker}
use Rattle.std.specs.Prelude.{Some}
use Rattle.interleave.specs.State.{State, kept_content}
use Rattle.named.specs.Brokers.{world_at}
use Rattle.broker_script.specs.Play.{the_world}
use Rattle.broker_script.proofs.Facts.{open_world}
use Rattle.explore.proofs.Facts.{AreOf, explained, left}
use Rattle.broker_points.proofs.Explaining.{of_world}
use Rattle.broker_points.proofs.kept.is_explained.Goals as goal

pub returns-clause-explained : goal.returns-clause-explained
returns-clause-explained c =
    let b = c.args.broker.now in
    let slot = c.args.slot.0 in
    let w : State = the_world b slot in
    let is : world_at b slot ≡ Some w = open_world b slot c.requires.open in
    let h = c.in_ok-history.history.now in
    let o = c.in_ok-order.order in
    let are : AreOf w h o = record {
      base = of_world (world_at b slot) w _ is c.in_ok-history.ensures.base;
      told = of_world (world_at b slot) w _ is c.in_ok-history.ensures.told;
      events = of_world (world_at b slot) w _ is c.in_ok-history.ensures.events;
      order = of_world (world_at b slot) w _ is c.in_ok-order.ensures.order;
    } in
    let holds = c.history.ensures.promises.explained slot w is in
    let content : c.deref.result.now ≡ kept_content w =
    c.deref.ensures.value ∙ of_world (world_at b slot) w _ is c.in_ok-content.ensures.content in
    IfOk-weaker c.check_content.result _ _ (λ ok right.
    right.1 (explained w h o are holds, left w h o c.deref.result.now are holds content)) c.check_content.ensures.right
