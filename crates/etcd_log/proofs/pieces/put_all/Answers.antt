use Rattle.std.proofs.Common.{ℕ, List, add-one, sym, ap, subst, ◌∙◌}
use Rattle.std.specs.Io.KnownBytes.{append_known}
use Rattle.journal_file.specs.Appended.{AppendsPart}
use Rattle.etcd_log.specs.Logged.{HasTail, text_in}
use Rattle.etcd_log.proofs.Putting.{HasPut, more_put, part_put, stopped_put}
use Rattle.etcd_log.proofs.pieces.put_all.Goals as goal

pub returns-then-count-clause-part : goal.returns-then-count-clause-part
returns-then-count-clause-part g c =
    stopped_put c.args.bytes.now c.loop-rest.rest.now (text_in (g.X.Exchange.engine c.args.exchange.now)) (text_in (g.X.Exchange.engine c.loop-rest.exchange)) c.loop-rest.invariant.put

pub returns-in-Err-clause-part : goal.returns-in-Err-clause-part
returns-in-Err-clause-part g c =
    let mid = text_in (g.X.Exchange.engine c.loop-rest.exchange) in
    let new = text_in (g.X.Exchange.engine c.put_one.new.exchange) in
    part_put c.min.result c.args.bytes.now c.loop-rest.rest.now (text_in (g.X.Exchange.engine c.args.exchange.now)) mid new c.loop-rest.invariant.put
    (subst (λ (xs : List ℕ). AppendsPart (text_in (g.X.Exchange.engine c.loop-rest.exchange)) (text_in (g.X.Exchange.engine c.put_one.new.exchange)) xs) c.split_at.ensures.front c.in-Err.ensures.part)

pub loop-rest-preserved : goal.loop-rest-preserved
loop-rest-preserved g c = record {
  tail =
      subst (λ (n : ℕ). HasTail (g.X.Exchange.engine c.put_one.new.exchange) (record { generation = c.args.tail.now.generation; count = n; owner = c.args.tail.now.owner.now }))
      (sym (add-one c.loop-rest.count)) c.in_default.ensures.tail;
  put =
      subst (λ (xs : List ℕ). HasPut c.args.bytes.now xs (text_in (g.X.Exchange.engine c.args.exchange.now)) (text_in (g.X.Exchange.engine c.put_one.new.exchange))) (sym c.split_at.ensures.back)
      (more_put c.min.result c.args.bytes.now c.loop-rest.rest.now (text_in (g.X.Exchange.engine c.args.exchange.now)) (text_in (g.X.Exchange.engine c.loop-rest.exchange)) (text_in (g.X.Exchange.engine c.put_one.new.exchange))
      c.loop-rest.invariant.put (c.in_default.ensures.text ∙ ap (append_known (text_in (g.X.Exchange.engine c.loop-rest.exchange))) c.split_at.ensures.front));
}
