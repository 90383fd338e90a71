use Rattle.std.proofs.Common.{sym, ◌∙◌}
use Rattle.directory.proofs.Rows.{position_or_len-none}
use Rattle.directory.proofs.name.text_len.Goals as goal

pub returns-in-None-clause-value : goal.returns-in-None-clause-value
returns-in-None-clause-value c = position_or_len-none _ c.args.row.now (sym c.first_zero.ensures ∙ c.in-None.is)
