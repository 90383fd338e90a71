use Rattle.etcd_text.specs.Tails.{said_by}
use Rattle.etcd_log.proofs.Putting.{put_appends, put_part, put_tail}
use Rattle.etcd_log.proofs.pieces.put_one.Goals as goal

pub returns-in-Ok-clause-tail : goal.returns-in-Ok-clause-tail
returns-in-Ok-clause-tail g c = put_tail (said_by c.args.tail.now) c.args.piece.now (g.X.Exchange.engine c.args.exchange.now) (g.X.Exchange.engine c.decide.new.exchange) c.requires.has c.in-Ok.ensures.done

pub returns-in-Ok-clause-text : goal.returns-in-Ok-clause-text
returns-in-Ok-clause-text g c = put_appends (said_by c.args.tail.now) c.args.piece.now (g.X.Exchange.engine c.args.exchange.now) (g.X.Exchange.engine c.decide.new.exchange) c.requires.has c.in-Ok.ensures.done

pub returns-in-Err-clause-part : goal.returns-in-Err-clause-part
returns-in-Err-clause-part g c = put_part (said_by c.args.tail.now) c.args.piece.now (g.X.Exchange.engine c.args.exchange.now) (g.X.Exchange.engine c.decide.new.exchange) c.requires.has c.in-Err.ensures.lost
