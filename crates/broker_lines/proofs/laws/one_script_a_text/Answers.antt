use Rattle.broker_lines.proofs.Scripts.{one_script}
use Rattle.broker_lines.proofs.laws.one_script_a_text.Goals as goal

pub returns : goal.returns
returns c = one_script
