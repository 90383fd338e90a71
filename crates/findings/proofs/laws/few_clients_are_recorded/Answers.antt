use Rattle.findings.proofs.FewClients.{recorded_of_few}
use Rattle.findings.proofs.laws.few_clients_are_recorded.Goals as goal

pub returns : goal.returns
returns c = recorded_of_few
