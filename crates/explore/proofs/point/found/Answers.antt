use Rattle.std.proofs.Common.{ap, ◌∙◌}
use Rattle.interleave.specs.State.{State}
use Rattle.explore.specs.Points.{found_in}
use Rattle.explore.proofs.Explained.{AreOf, explained, left, found_is}
use Rattle.explore.proofs.point.found.Goals as goal

pub returns-clause-found : goal.returns-clause-found
returns-clause-found c =
    let w : State = c.args.world.now.now in
    let h = c.history.result.now in
    let o = c.in_ok-order.field-0 in
    let are : AreOf w h o = record {
      base = c.history.ensures.base;
      told = c.history.ensures.told;
      events = c.history.ensures.events;
      order = c.in_ok-order.ensures.order;
    } in
    let holds = c.history.ensures.explained in
    let content = c.in_ok-content.ensures.content in
    found_is w c.from.result c.reports.result c.in_ok-content.content.items c.in_ok-ok.ok c.reports.ensures content
    (c.in_ok-ok.ensures.right.1 (explained w h o are holds, left w h o c.deref.result.now are holds (c.deref.ensures.value ∙ content)))
    ∙ ap (found_in w) c.from.ensures
