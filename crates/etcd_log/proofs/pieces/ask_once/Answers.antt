use Rattle.etcd_text.specs.Asked.{asked_by}
use Rattle.etcd_log.proofs.Twice.{may_of}
use Rattle.etcd_log.proofs.pieces.ask_once.Goals as goal

pub returns : goal.returns
returns g c = may_of (asked_by c.args.request.now) (g.X.Exchange.engine c.args.exchange.now) (g.X.Exchange.engine c.ask.new.self) c.ask.result c.ask.ensures.done c.ask.ensures.lost
