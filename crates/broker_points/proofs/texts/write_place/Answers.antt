use Rattle.std.proofs.Common.{ap, ◌∙◌}
use Rattle.std.specs.Prelude.{Some}
use Rattle.broker_script.proofs.Facts.{listed_open}
use Rattle.broker_points.proofs.texts.write_place.Goals as goal

pub write_queue-requires-clause-open : goal.write_queue-requires-clause-open
write_queue-requires-clause-open c =
    listed_open c.args.broker.now c.requires.well c.args.slot c.in-Some.queue (c.requires.place ∙ ap Some c.in-Some.is)
