use Rattle.std.specs.Prelude.{option_map}
use Rattle.etcd_text.specs.Tails.{said_by}
use Rattle.etcd_log.proofs.Takers.{take_numbers}
use Rattle.etcd_log.proofs.taking.take.Goals as goal

pub returns-in-Ok-take_from : goal.returns-in-Ok-take_from
returns-in-Ok-take_from g c =
    take_numbers (said_by c.taken-next.result) (option_map said_by c.in-Ok-seen_in.seen) c.args.owner.now c.in-Ok.found (g.X.Exchange.engine c.ask_tail.new.exchange) (g.X.Exchange.engine c.take_from.new.exchange)
    c.taken-next.ensures c.in-Ok.ensures.told c.in-Ok-seen_in.ensures c.in-Ok-take_from.ensures
