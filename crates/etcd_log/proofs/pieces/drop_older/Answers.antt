use Rattle.etcd_text.specs.Tails.{said_by}
use Rattle.etcd_log.proofs.Putting.{drop_tail, drop_text_may}
use Rattle.etcd_log.proofs.pieces.drop_older.Goals as goal

pub returns-clause-tail : goal.returns-clause-tail
returns-clause-tail g c = drop_tail (said_by c.args.tail.now) (g.X.Exchange.engine c.args.exchange.now) (g.X.Exchange.engine c.ask_once.new.exchange) c.requires c.ask_once.ensures

pub returns-clause-text : goal.returns-clause-text
returns-clause-text g c = drop_text_may (said_by c.args.tail.now) (g.X.Exchange.engine c.args.exchange.now) (g.X.Exchange.engine c.ask_once.new.exchange) c.requires c.ask_once.ensures
