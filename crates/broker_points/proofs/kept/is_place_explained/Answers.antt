use Rattle.std.proofs.Common.{ap, ◌∙◌}
use Rattle.std.specs.Prelude.{Some}
use Rattle.broker_script.proofs.Facts.{listed_open}
use Rattle.broker_points.proofs.kept.is_place_explained.Goals as goal

pub is_explained-requires : goal.is_explained-requires
is_explained-requires c = record {
  «open» = listed_open c.args.broker.now c.requires.well c.args.slot c.in-Some.field-0 (c.requires.place ∙ ap Some c.in-Some.is);
}
