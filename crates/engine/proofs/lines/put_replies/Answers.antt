use Rattle.std.proofs.Common.{ℕ, ◌+◌, Bool, List, [], ◌∷◌, drop, refl, subst, sym, ◌∙◌, arith}
use Rattle.engine.specs.Handled.{RepliesTo}
use Rattle.engine.specs.Output.{AreHeld}
use Rattle.engine.specs.Replies.{Fits}
use Rattle.engine.specs.Settled.{SomeAreTold}
use Rattle.engine.proofs.Replying.{on_err, next_replied, none_replied}
use Rattle.engine.proofs.Telling.{held_more, none_held, told_more}
use Rattle.engine.proofs.lines.put_replies.Goals as goal

pub loop-n-init : goal.loop-n-init
loop-n-init g c = record {
  writes = refl;
  settles = refl;
  replied = none_replied g.P.Reading.meaning c.args.bytes.now _ _ (rw c.requires.empty (none_held _ _ _));
}

pub returns-in_err-put-clause-fault : goal.returns-in_err-put-clause-fault
returns-in_err-put-clause-fault g c =
    let reply = c.reply_to-reply.result in
    let fits = subst (λ (line : List ℕ). Fits g.P.Reading.meaning line reply) c.split_at.ensures.front c.reply_to-reply.ensures.fits in
    let sends = rw c.reply_to-reply.ensures.settled at c.put.ensures.settled in
    let V =
    SomeAreTold (g.D.Desk.served c.args.desk.now) (g.D.Desk.settled c.args.desk.now) (g.D.Desk.settled c.put.new.desk)
    (g.W.Writer.written c.args.writer.now) (g.W.Writer.written c.put.new.writer) in
    on_err c.from_residual.result (
      _,
      _,
      next_replied g.P.Reading.meaning c.args.bytes.now c.loop-n.rest.now c.in-Some.n reply _ _ _ c.in-Some.ensures fits
          (c.put.ensures.served ∙ c.reply_to-reply.ensures.served) _ V
          (λ rs made held. told_more _ _ _ _ _ _ _ _ _ rs (reply ∷ []) held sends (sym c.put.ensures.served ∙ made))
          c.loop-n.invariant.replied,
    )

pub returns-then-is_stop-clause-put : goal.returns-then-is_stop-clause-put
returns-then-is_stop-clause-put g c =
    let reply = c.reply_to-reply.result in
    let fits = subst (λ (line : List ℕ). Fits g.P.Reading.meaning line reply) c.split_at.ensures.front c.reply_to-reply.ensures.fits in
    let sends = rw c.reply_to-reply.ensures.settled at c.put.ensures.settled in
    let W =
    AreHeld (g.D.Desk.served c.args.desk.now) (g.D.Desk.settled c.args.desk.now) (g.D.Desk.settled c.put.new.desk)
    (g.W.Writer.written c.args.writer.now) (g.W.Writer.written c.put.new.writer) c.put.new.output.items in
    let replied =
    next_replied g.P.Reading.meaning c.args.bytes.now c.loop-n.rest.now c.in-Some.n reply _ _ _ c.in-Some.ensures fits
    (c.put.ensures.served ∙ c.reply_to-reply.ensures.served) _ W
    (λ rs made held.
    held_more _ _ _ _ _ _ _ _ _ _ rs reply held c.in_ok-put.ensures.put c.in_ok-put.ensures.some sends
    (sym c.put.ensures.served ∙ made)) c.loop-n.invariant.replied in
    let rest = drop (c.in-Some.n + 1) c.loop-n.rest.now in (
      rest,
      subst (λ (stopped : Bool).
          RepliesTo g.P.Reading.meaning stopped c.args.bytes.now rest (g.D.Desk.served c.args.desk.now)
          (g.D.Desk.served c.put.new.desk) W) (sym c.is_stop.ensures ∙ c.if-is_stop.true) replied,
    )

pub loop-n-preserved : goal.loop-n-preserved
loop-n-preserved g c =
    let reply = c.reply_to-reply.result in
    let fits = subst (λ (line : List ℕ). Fits g.P.Reading.meaning line reply) c.split_at.ensures.front c.reply_to-reply.ensures.fits in
    let sends = rw c.reply_to-reply.ensures.settled at c.put.ensures.settled in
    let W =
    AreHeld (g.D.Desk.served c.args.desk.now) (g.D.Desk.settled c.args.desk.now) (g.D.Desk.settled c.put.new.desk)
    (g.W.Writer.written c.args.writer.now) (g.W.Writer.written c.put.new.writer) c.put.new.output.items in
    let replied =
    next_replied g.P.Reading.meaning c.args.bytes.now c.loop-n.rest.now c.in-Some.n reply _ _ _ c.in-Some.ensures fits
    (c.put.ensures.served ∙ c.reply_to-reply.ensures.served) _ W
    (λ rs made held.
    held_more _ _ _ _ _ _ _ _ _ _ rs reply held c.in_ok-put.ensures.put c.in_ok-put.ensures.some sends
    (sym c.put.ensures.served ∙ made)) c.loop-n.invariant.replied in
    record {
      writes = omega (arith, c.in_ok-put.ensures.write_failures, c.loop-n.invariant.writes);
      settles = omega (arith, c.in_ok-put.ensures.settle_failures, c.reply_to-reply.ensures.failures, c.loop-n.invariant.settles);
      replied = rw c.split_at-in-Some.ensures.back (rw (← (sym c.is_stop.ensures ∙ c.if-is_stop.false)) replied);
    }
