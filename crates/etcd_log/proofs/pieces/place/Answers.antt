use Rattle.etcd_text.specs.Tails.{said_by}
use Rattle.etcd_log.proofs.Putting.{place_either, place_tail, place_text}
use Rattle.etcd_log.proofs.pieces.place.Goals as goal

pub returns-in-Ok-clause-tail : goal.returns-in-Ok-clause-tail
returns-in-Ok-clause-tail g c = place_tail (said_by c.args.tail.now) c.args.generation c.args.count (g.X.Exchange.engine c.args.exchange.now) (g.X.Exchange.engine c.decide.new.exchange) c.requires c.in-Ok.ensures.done

pub returns-in-Ok-clause-text : goal.returns-in-Ok-clause-text
returns-in-Ok-clause-text g c = place_text (said_by c.args.tail.now) c.args.generation c.args.count (g.X.Exchange.engine c.args.exchange.now) (g.X.Exchange.engine c.decide.new.exchange) c.requires c.in-Ok.ensures.done

pub returns-in-Err-clause-either : goal.returns-in-Err-clause-either
returns-in-Err-clause-either g c = place_either (said_by c.args.tail.now) c.args.generation c.args.count (g.X.Exchange.engine c.args.exchange.now) (g.X.Exchange.engine c.decide.new.exchange) c.requires c.in-Err.ensures.lost
