use Rattle.std.proofs.Common.{◌≡◌, ◌-◌}
use Rattle.std.specs.Prelude.{None, IsSome}
use Rattle.named.specs.Brokers.{world_at}
use Rattle.playing.specs.Play.{after_steps}
use Rattle.playing.specs.Transcript.{step_lines}
use Rattle.broker_script.specs.OnQueue.{IsOnlyIn}
use Rattle.broker_script.specs.Play.{play_at}
use Rattle.broker_script.proofs.player.Player.go_on.Given as goal

-- the steps that are left lead where all of them do, and give all of the lines; nothing but the queue changed, and
-- before the first step nothing did
abbrev pub invariant-loop-made : goal.invariant-loop-made
invariant-loop-made l =
    record {
      ready : l.self.broker.recovery ≡ None;
      is_open : IsSome (world_at l.self.broker l.slot.0);
      only : IsOnlyIn l.slot.0 l.fn.self l.self;
      first : l.made ≡ 0 → l.self ≡ l.fn.self;
      leads :
          after_steps l.client (l.most - l.made) (play_at l.self l.slot.0)
          ≡ after_steps l.client l.most (play_at l.fn.self l.slot.0);
      gives :
          step_lines l.client (l.most - l.made) (play_at l.self l.slot.0)
          ≡ step_lines l.client l.most (play_at l.fn.self l.slot.0);
    }
