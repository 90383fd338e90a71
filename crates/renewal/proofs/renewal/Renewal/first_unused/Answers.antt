use Rattle.std.proofs.Common.{arith}
use Rattle.renewal.proofs.Unused.{records_within}
use Rattle.renewal.proofs.renewal.Renewal.first_unused.Goals as goal

pub returns-clause-few : goal.returns-clause-few
returns-clause-few c =
    omega (arith, c.first_record.ensures.record, records_within c.args.self.now.shape c.args.client.0 c.used.result c.requires c.used.ensures.within)
