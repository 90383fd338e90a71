use Rattle.std.proofs.Common.{◌≡◌, length, false}
use Rattle.engine.specs.Handled.{RepliesTo}
use Rattle.engine.specs.Output.{AreHeld}
use Rattle.engine.proofs.lines.put_replies.Given as goal

-- the lines before the rest have their replies
abbrev pub invariant-loop-n : goal.invariant-loop-n
invariant-loop-n g l = record {
  writes : g.W.Writer.failures l.writer ≡ g.W.Writer.failures l.fn.writer;
  settles : g.D.Desk.failures l.desk ≡ g.D.Desk.failures l.fn.desk;
  replied : RepliesTo g.P.Reading.meaning false l.bytes l.rest (g.D.Desk.served l.fn.desk) (g.D.Desk.served l.desk)
      (AreHeld (g.D.Desk.served l.fn.desk) (g.D.Desk.settled l.fn.desk) (g.D.Desk.settled l.desk)
      (g.W.Writer.written l.fn.writer) (g.W.Writer.written l.writer) l.output.items);
}

abbrev pub decreases-loop-n : goal.decreases-loop-n
decreases-loop-n g l = length l.rest
