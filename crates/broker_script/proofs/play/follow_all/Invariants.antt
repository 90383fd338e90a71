use Rattle.std.proofs.Common.{◌≡◌, ◌≤◌, ◌<◌, true, length}
use Rattle.playing.proofs.Facts.{pending}
use Rattle.broker_script.proofs.Going.{AllLead}
use Rattle.broker_script.proofs.play.follow_all.Given as goal

-- the lines so far, and those of the statements that are left, are all
abbrev pub invariant-loop-at : goal.invariant-loop-at
invariant-loop-at l =
    record {
      leads : AllLead l.fn.player l.statements l.player (pending l.put_off l.made l.at l.statements) l.lines.items;
      before : l.made ≤ l.at;
      again : l.put_off ≡ true → l.at < length l.statements;
    }
