use Rattle.std.proofs.Common.{take, sym, rules}
use Rattle.engine.proofs.Buffers.{filled}
use Rattle.engine.proofs.input.Input.fill.Goals as goal

pub returns-clause-gains : goal.returns-clause-gains
returns-clause-gains g c =
    record {
      piece = take c.in_ok-n.n c.read.new.buffer;
      count = sym c.in_ok-n.ensures.bound.1;
      gained = filled c.args.self.now.len _ c.in_ok-n.n c.args.self.now.bytes c.read.new.buffer (search rules) c.in_ok-n.ensures.bound.0;
      consumed = c.in_ok-n.ensures.bytes.0;
      none = λ e. c.in_ok-n.ensures.bytes.1 e (search rules);
    }
