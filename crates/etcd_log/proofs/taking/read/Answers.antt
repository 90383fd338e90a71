use Rattle.std.proofs.Common.{ℕ, ◌+◌, List, ◌++◌, Option, Vec, Global, sym, ap, subst, ◌∙◌}
use Rattle.etcd_log.specs.Asking.{FindsPiece}
use Rattle.etcd_log.specs.Logged.{HasPieces}
use Rattle.etcd_log.proofs.Takers.{one_piece_more}
use Rattle.etcd_log.proofs.Twice.{are_same}
use Rattle.etcd_log.proofs.taking.read.Goals as goal

pub loop-number-preserved : goal.loop-number-preserved
loop-number-preserved g c = record {
  pieces =
      subst (λ (xs : List ℕ). HasPieces (g.X.Exchange.engine c.ask_piece.new.exchange) c.args.generation (c.loop-number.number + 1) xs)
      (sym (c.in-Ok.ensures.items ∙ ap (λ (xs : List ℕ). c.loop-number.text.items ++ xs) c.deref.ensures.value))
      (one_piece_more (g.X.Exchange.engine c.loop-number.exchange) (g.X.Exchange.engine c.ask_piece.new.exchange) c.args.generation c.loop-number.number c.loop-number.text.items c.in-Ok-Some.bytes
      c.ask_piece.ensures.same c.loop-number.invariant.pieces
      (subst (λ (found : Option (Vec ℕ Global)). FindsPiece c.args.generation c.loop-number.number (g.X.Exchange.engine c.ask_piece.new.exchange) found) c.in-Ok-Some.field-0-is c.in-Ok-Some.ensures.told));
  same =
      are_same (g.X.Exchange.engine c.args.exchange.now) (g.X.Exchange.engine c.loop-number.exchange) (g.X.Exchange.engine c.ask_piece.new.exchange) c.loop-number.invariant.same c.ask_piece.ensures.same;
}
