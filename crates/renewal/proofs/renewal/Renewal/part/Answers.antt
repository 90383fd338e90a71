use Rattle.std.proofs.Common.{sym, ap, ◌∙◌}
use Rattle.words.specs.PlainQueue.{Value}
use Rattle.arena.specs.Words.{item_part}
use Rattle.renewal.proofs.Sound.{blank_part}
use Rattle.renewal.proofs.renewal.Renewal.part.Goals as goal

pub returns-in-None : goal.returns-in-None
returns-in-None c = sym (ap (λ (v : Value). item_part v c.args.part) (sym c.in-None.ensures) ∙ blank_part c.args.part)
