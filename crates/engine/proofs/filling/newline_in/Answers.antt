use Rattle.engine.proofs.Newlines.{first_newline}
use Rattle.engine.proofs.filling.newline_in.Goals as goal

pub returns : goal.returns
returns c = first_newline c.args.bytes.now c.memchr.result c.memchr.ensures
