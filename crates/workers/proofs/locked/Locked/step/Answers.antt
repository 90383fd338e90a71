use Rattle.std.proofs.Common.{refl, sym, ap, subst, ◌∙◌, [], Ok, Option}
use Rattle.words.specs.declared.call.Reply.{Reply}
use Rattle.roll.specs.Rule.{keeper, rows_of}
use Rattle.session.specs.Requests.{IsAdvanced}
use Rattle.workers.specs.Noting.{IsBooked}
use Rattle.workers.proofs.guard.Notes.{booked_step, created_same}
use Rattle.workers.proofs.guard.Guarded.{with_rows}
use Rattle.workers.proofs.guard.SeatCalls.{guarded_answered, guarded_interrupted, guarded_more, guarded_unstepped}
use Rattle.workers.proofs.locked.Locked.step.Goals as goal

pub invariant_of-self : goal.invariant_of-self
invariant_of-self g c = (
  c.self.invariant.0,
  c.self.invariant.1,
  c.self.invariant.2,
  subst (IsBooked g.J.Naming.roll.changes g.J.Naming.first.broker.words.kept c.self.inside.session.broker c.self.inside.creating)
      (sym (c.promise.ensures.same c.if-not-promise.true)) c.self.invariant.3,
)

pub invariant_of-self-in-Ok-None : goal.invariant_of-self-in-Ok-None
invariant_of-self-in-Ok-None g c =
    let s = c.advance.ensures in
    let old = c.self.inside.session in
    let new = c.advance.new.session in
    let e = subst (λ (a : Option Reply). IsAdvanced old.broker new.broker c.last_queue-queue.result.0 c.args.seat.client (Ok a)) c.in-Ok-None.field-0-is
    (subst (IsAdvanced old.broker new.broker c.last_queue-queue.result.0 c.args.seat.client) c.in-Ok-None.is s.advanced) in (
      c.self.invariant.0,
      guarded_more g.J.Naming.clients g.J.Naming.first _ c.self.invariant.1 new
          s.promises (record { numbers = s.goes_on; queues = s.queues }) c.last_queue-queue.result.0 c.args.seat.client e,
      c.self.invariant.2,
      booked_step g.J.Naming.roll.changes g.J.Naming.first.broker.words.kept old.broker new.broker c.self.inside.creating
          c.self.inside.creating c.self.inside.book c.promise.new.book c.advance.new.book c.self.invariant.3
          c.promise.ensures.on (c.promise.ensures.more c.if-not-promise.false) s.on
          s.less (created_same c.self.inside.creating old.broker.creation new.broker.creation e.beside.creation),
    )

pub invariant_of-self-in-Ok-Some : goal.invariant_of-self-in-Ok-Some
invariant_of-self-in-Ok-Some g c =
    let s = c.advance.ensures in
    let old = c.self.inside.session in
    let new = c.advance.new.session in
    let e = subst (λ (a : Option Reply). IsAdvanced old.broker new.broker c.last_queue-queue.result.0 c.args.seat.client (Ok a)) c.in-Ok-Some.field-0-is
    (subst (IsAdvanced old.broker new.broker c.last_queue-queue.result.0 c.args.seat.client) c.in-Ok-Some.is s.advanced) in
    let w = c.with_last-seat.ensures in
    let list = c.args.seat.list.items in (
      (w.keeper.0, w.keeper.1 ∙ sym (ap (λ m. (keeper m.0.rows, [])) w.keeper.1)),
      with_rows g.J.Naming.clients g.J.Naming.first _ (rows_of c.with_last-seat.new.keeper) (ap (λ m. m.0.rows) w.keeper.1)
          (guarded_answered g.J.Naming.clients g.J.Naming.first _ c.self.invariant.1 new
          s.promises (record { numbers = s.goes_on; queues = s.queues }) c.args.seat.client list w.before c.last_queue-queue.result.0 c.requires.open
          (rw c.as_slice.ensures.value at c.last_queue-queue.ensures) c.in-Ok-Some.reply e),
      c.self.invariant.2,
      booked_step g.J.Naming.roll.changes g.J.Naming.first.broker.words.kept old.broker new.broker c.self.inside.creating
          c.self.inside.creating c.self.inside.book c.promise.new.book c.advance.new.book c.self.invariant.3
          c.promise.ensures.on (c.promise.ensures.more c.if-not-promise.false) s.on
          s.less (created_same c.self.inside.creating old.broker.creation new.broker.creation e.beside.creation),
    )

pub invariant_of-self-then-is_want_of_memory : goal.invariant_of-self-then-is_want_of_memory
invariant_of-self-then-is_want_of_memory g c =
    let s = c.advance.ensures in
    let old = c.self.inside.session in
    let new = c.advance.new.session in
    let e = subst (IsAdvanced old.broker new.broker c.last_queue-queue.result.0 c.args.seat.client) c.in-Err.is s.advanced in (
      c.self.invariant.0,
      guarded_unstepped g.J.Naming.clients g.J.Naming.first _ c.self.invariant.1 new
          s.promises (record { numbers = s.goes_on; queues = s.queues }) c.last_queue-queue.result.0 c.args.seat.client c.in-Err.refusal
          e,
      c.self.invariant.2,
      booked_step g.J.Naming.roll.changes g.J.Naming.first.broker.words.kept old.broker new.broker c.self.inside.creating
          c.self.inside.creating c.self.inside.book c.promise.new.book c.advance.new.book c.self.invariant.3
          c.promise.ensures.on (c.promise.ensures.more c.if-not-promise.false) s.on
          s.less (created_same c.self.inside.creating old.broker.creation new.broker.creation e.beside.creation),
    )

pub invariant_of-self-in-Err : goal.invariant_of-self-in-Err
invariant_of-self-in-Err g c =
    let s = c.advance.ensures in
    let old = c.self.inside.session in
    let new = c.advance.new.session in
    let e = subst (IsAdvanced old.broker new.broker c.last_queue-queue.result.0 c.args.seat.client) c.in-Err.is s.advanced in
    let w = c.with_last-seat-in-Err.ensures in
    let list = c.args.seat.list.items in (
      (w.keeper.0, w.keeper.1 ∙ sym (ap (λ m. (keeper m.0.rows, [])) w.keeper.1)),
      with_rows g.J.Naming.clients g.J.Naming.first _ (rows_of c.with_last-seat-in-Err.new.keeper)
          (ap (λ m. m.0.rows) w.keeper.1)
          (guarded_interrupted g.J.Naming.clients g.J.Naming.first _ c.self.invariant.1 new
          s.promises (record { numbers = s.goes_on; queues = s.queues }) c.args.seat.client list w.before c.last_queue-queue.result.0 c.requires.open
          (rw c.as_slice.ensures.value at c.last_queue-queue.ensures) c.in-Err.refusal
          (c.if-is_want_of_memory.ensures.other refl) e),
      c.self.invariant.2,
      booked_step g.J.Naming.roll.changes g.J.Naming.first.broker.words.kept old.broker new.broker c.self.inside.creating
          c.self.inside.creating c.self.inside.book c.promise.new.book c.advance.new.book c.self.invariant.3
          c.promise.ensures.on (c.promise.ensures.more c.if-not-promise.false) s.on
          s.less (created_same c.self.inside.creating old.broker.creation new.broker.creation e.beside.creation),
    )
