use Rattle.std.proofs.Common.{◌≡◌, map, take, length}
use Rattle.std.specs.List.{range_with_len}
use Rattle.words.specs.declared.limits.TheConstants.{MAX_CLIENTS}
use Rattle.playing.specs.Transcript.{told_at}
use Rattle.explore.proofs.point.reports.Given as goal

-- the clients so far are told
abbrev pub invariant-loop-number : goal.invariant-loop-number
invariant-loop-number l =
    record {
      all : length l.told ≡ MAX_CLIENTS;
      told : take l.number l.told ≡ map (told_at l.world.now) (range_with_len 0 l.number);
    }
