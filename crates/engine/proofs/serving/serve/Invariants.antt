use Rattle.std.proofs.Common.{◌≡◌, ◌≤◌, [], length}
use Rattle.engine.specs.Input.{held}
use Rattle.engine.specs.Settled.{AreTold}
use Rattle.engine.proofs.Unknown.{IsSoFar}
use Rattle.engine.proofs.serving.serve.Given as goal

-- no device failed, nor the desk, no reply is held, and there is room for more input
abbrev pub invariant-loop : goal.invariant-loop
invariant-loop g l = record {
  next : (goal.iterator-loop g).can_next l.iterator';
  finite : (goal.iterator-loop g).is_finite l.iterator';
  reads : g.R.Reader.failures l.reader ≡ g.R.Reader.failures l.fn.reader;
  writes : g.W.Writer.failures l.writer ≡ g.W.Writer.failures l.fn.writer;
  settles : g.D.Desk.failures l.desk ≡ g.D.Desk.failures l.fn.desk;
  empty : l.output.items ≡ [];
  room : length (held l.input) ≤ 513;
  so_far : IsSoFar g.P.Reading.meaning (held l.input) (g.R.Reader.left l.fn.reader) (g.R.Reader.left l.reader)
      (g.D.Desk.served l.fn.desk) (g.D.Desk.served l.desk)
      (AreTold (g.D.Desk.served l.fn.desk) (g.D.Desk.settled l.fn.desk) (g.D.Desk.settled l.desk)
      (g.W.Writer.written l.fn.writer) (g.W.Writer.written l.writer));
}
