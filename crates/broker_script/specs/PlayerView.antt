-- What the fields of a player come to.
use Rattle.broker_script.specs.Play.{Played}
use Rattle.broker_script.specs.declared.player.Player.TheInside.{Inside}

abbrev pub player_view : Inside → Played
player_view p = record {
  broker = p.session.broker;
  kept = p.session.kept;
  steps = p.steps;
  creation = p.creation;
  recovery = p.recovery;
  image = p.image.items;
}
