use Rattle.words.proofs.Items.{digits_text}
use Rattle.words.proofs.item.write_hex.Goals as goal

pub returns-clause-text : goal.returns-clause-text
returns-clause-text c = let done = c.in-Ok.ensures in rw done.written (digits_text c.args.bytes.now)
