use Rattle.std.proofs.Common.{◌≡◌, ◌≤◌, ◌<◌, true, length}
use Rattle.playing.proofs.Again.{pending}
use Rattle.playing.proofs.MayGive.{MayLead}
use Rattle.playing.proofs.transcripts.follow_all.Given as goal

-- the lines so far, and what the commands that are left give, are all that there are
abbrev pub invariant-loop-at : goal.invariant-loop-at
invariant-loop-at l =
    record {
      leads : MayLead l.fn.layout l.commands l.player (pending l.put_off l.made l.at l.commands) l.lines.items;
      before : l.made ≤ l.at;
      again : l.put_off ≡ true → l.at < length l.commands;
    }
