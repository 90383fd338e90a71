use Rattle.std.proofs.Common.{sym, ap, subst, ◌∙◌, [], Err, Ok}
use Rattle.directory.specs.Directory.{IsNamed}
use Rattle.workers.specs.Following.{Held}
use Rattle.workers.specs.Seen.{IsRefusedIn}
use Rattle.roll.specs.Rule.{keeper, rows_of}
use Rattle.session.specs.Requests.{answer_to, number_or_zero}
use Rattle.workers.proofs.guard.Guarded.{with_rows}
use Rattle.workers.proofs.guard.Refusals.{refused_in, settled_start, why_refused}
use Rattle.workers.proofs.guard.Notes.{booked_same, created_same}
use Rattle.workers.proofs.guard.SeatCalls.{begun_beside, guarded_begun, guarded_unbegun}
use Rattle.workers.proofs.locked.Locked.begin_in.Goals as goal

pub invariant_of-self : goal.invariant_of-self
invariant_of-self g c =
    let named = subst (λ (v : Held). IsNamed v.session.broker.directory c.args.queue.0 c.args.request.now.name) (sym c.self.view_is) c.requires.named in
    let e = c.in-Ok.ensures in
    let w = c.with_entry.ensures in
    let list = c.args.seat.list.items in (
      (w.keeper.0, w.keeper.1 ∙ sym (ap (λ m. (keeper m.0.rows, [])) w.keeper.1)),
      with_rows g.J.Naming.clients g.J.Naming.first _ (rows_of c.with_entry.new.keeper) (ap (λ m. m.0.rows) w.keeper.1)
          (rw c.entry-entry.ensures
          (guarded_begun g.J.Naming.clients g.J.Naming.first _ c.self.invariant.1 c.begin.new.self e.promises (record { numbers = e.goes_on; queues = e.queues })
          c.args.seat.client list w.before c.args.queue c.args.request.now named c.events_in-next.result c.requires.idle
          c.events_in-next.ensures c.in-Ok.began e.begun e.reply)),
      c.self.invariant.2,
      booked_same g.J.Naming.roll.changes g.J.Naming.first.broker.words.kept c.self.inside.session.broker
          c.begin.new.self.broker c.self.inside.creating c.self.inside.creating c.self.inside.book c.self.invariant.3
          e.unchanged
          (created_same c.self.inside.creating c.self.inside.session.broker.creation c.begin.new.self.broker.creation
          (begun_beside c.self.inside.session c.begin.new.self c.args.queue.0 c.args.seat.client
          (number_or_zero c.args.request.now.number) c.args.request.now.call (Ok c.in-Ok.began)
          (answer_to c.self.inside.session c.args.queue.0 c.args.seat.client c.args.request.now.number) e.begun).1),
    )

pub invariant_of-self-in-Err : goal.invariant_of-self-in-Err
invariant_of-self-in-Err g c =
    let e = c.in-Err.ensures in
    let k = c.known.ensures in
    let r = c.args.request.now in (
      (k.keeper.0, k.keeper.1 ∙ sym (ap (λ m. (keeper m.0.rows, [])) k.keeper.1)),
      with_rows g.J.Naming.clients g.J.Naming.first _ (rows_of c.known.new.keeper) (ap (λ m. m.0.rows) k.keeper.1)
          (guarded_unbegun g.J.Naming.clients g.J.Naming.first _ c.self.invariant.1 c.begin.new.self e.promises
          (record { numbers = e.goes_on; queues = e.queues }) c.args.queue.0 c.args.seat.client (number_or_zero r.number) r.call
          c.in-Err.refusal (answer_to c.self.inside.session c.args.queue.0 c.args.seat.client r.number) e.begun),
      c.self.invariant.2,
      booked_same g.J.Naming.roll.changes g.J.Naming.first.broker.words.kept c.self.inside.session.broker
          c.begin.new.self.broker c.self.inside.creating c.self.inside.creating c.self.inside.book c.self.invariant.3
          e.unchanged
          (created_same c.self.inside.creating c.self.inside.session.broker.creation c.begin.new.self.broker.creation
          (begun_beside c.self.inside.session c.begin.new.self c.args.queue.0 c.args.seat.client
          (number_or_zero r.number) r.call (Err c.in-Err.refusal)
          (answer_to c.self.inside.session c.args.queue.0 c.args.seat.client r.number) e.begun).1),
    )

pub returns-in-Err-clause-errors : goal.returns-in-Err-clause-errors
returns-in-Err-clause-errors g c =
    let named = subst (λ (v : Held). IsNamed v.session.broker.directory c.args.queue.0 c.args.request.now.name) (sym c.self.view_is) c.requires.named in
    let r = c.args.request.now in
    let e = c.in-Err.ensures in
    why_refused g.J.Naming.clients g.J.Naming.first _ c.self.invariant.1 c.args.seat.client c.args.seat.list.items
    c.known.ensures.known c.requires.idle c.args.queue r named c.begin.new.self r.call c.in-Err.refusal e.begun e.stale

pub returns-in-Err-clause-refused : goal.returns-in-Err-clause-refused
returns-in-Err-clause-refused g c =
    let r = c.args.request.now in
    subst (λ (v : Held). IsRefusedIn v.session c.args.queue.0 c.args.seat.client r c.in-Err.refusal) c.self.view_is
    (refused_in c.self.inside.session c.begin.new.self c.args.queue.0 c.args.seat.client r c.in-Err.refusal
    c.in-Err.ensures.begun)

pub returns-in-Err-clause-settled : goal.returns-in-Err-clause-settled
returns-in-Err-clause-settled g c = λ reply was.
    let named = subst (λ (v : Held). IsNamed v.session.broker.directory c.args.queue.0 c.args.request.now.name) (sym c.self.view_is) c.requires.named in
    let r = c.args.request.now in
    settled_start g.J.Naming.clients g.J.Naming.first _ c.self.invariant.1 c.args.seat.client c.args.queue r named reply was
    c.begin.new.self (number_or_zero r.number) r.call (Err c.in-Err.refusal) c.in-Err.ensures.begun

pub returns-in-Ok-clause-settled : goal.returns-in-Ok-clause-settled
returns-in-Ok-clause-settled g c = λ reply was.
    let named = subst (λ (v : Held). IsNamed v.session.broker.directory c.args.queue.0 c.args.request.now.name) (sym c.self.view_is) c.requires.named in
    let r = c.args.request.now in
    settled_start g.J.Naming.clients g.J.Naming.first _ c.self.invariant.1 c.args.seat.client c.args.queue r named reply was
    c.begin.new.self (number_or_zero r.number) r.call (Ok c.in-Ok.began) c.in-Ok.ensures.begun
