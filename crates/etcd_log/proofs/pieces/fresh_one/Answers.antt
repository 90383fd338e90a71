use Rattle.etcd_text.specs.Tails.{said_by}
use Rattle.etcd_log.proofs.Putting.{fresh_pieces, fresh_tail, fresh_text_done, fresh_text_may}
use Rattle.etcd_log.proofs.pieces.fresh_one.Goals as goal

pub returns-in-Ok-clause-tail : goal.returns-in-Ok-clause-tail
returns-in-Ok-clause-tail g c = fresh_tail (said_by c.args.tail.now) c.args.generation c.args.number c.args.piece.now (g.X.Exchange.engine c.args.exchange.now) (g.X.Exchange.engine c.decide.new.exchange) c.requires.has c.in-Ok.ensures.done

pub returns-in-Ok-clause-pieces : goal.returns-in-Ok-clause-pieces
returns-in-Ok-clause-pieces g c = fresh_pieces (said_by c.args.tail.now) c.args.generation c.args.number c.args.piece.now (g.X.Exchange.engine c.args.exchange.now) (g.X.Exchange.engine c.decide.new.exchange) c.requires.has c.in-Ok.ensures.done

pub returns-in-Ok-clause-text : goal.returns-in-Ok-clause-text
returns-in-Ok-clause-text g c = fresh_text_done (said_by c.args.tail.now) c.args.generation c.args.number c.args.piece.now (g.X.Exchange.engine c.args.exchange.now) (g.X.Exchange.engine c.decide.new.exchange) c.requires.has c.requires.later c.in-Ok.ensures.done

pub returns-in-Err-clause-text : goal.returns-in-Err-clause-text
returns-in-Err-clause-text g c = fresh_text_may (said_by c.args.tail.now) c.args.generation c.args.number c.args.piece.now (g.X.Exchange.engine c.args.exchange.now) (g.X.Exchange.engine c.decide.new.exchange) c.requires.has c.requires.later c.in-Err.ensures.lost
