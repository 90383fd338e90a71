use Rattle.grammar.proofs.Unique.{one_script}
use Rattle.grammar.proofs.laws.one_script_a_text.Goals as goal

pub returns : goal.returns
returns c = one_script
