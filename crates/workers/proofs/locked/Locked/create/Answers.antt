use Rattle.std.proofs.Common.{rules, None, ap, sym, subst, ◌∙◌, ◌≡◌}
use Rattle.workers.specs.declared.locked.Creating.TheVariants.{UnderWay}
use Rattle.session.specs.Sessions.{Sessioned}
use Rattle.roll.specs.Rule.{rows_of}
use Rattle.workers.specs.Following.{Held, IsGuardedWell, guarded_in}
use Rattle.workers.specs.Noting.{IsBooked}
use Rattle.workers.proofs.guard.Notes.{booked_back, booked_more, created_first}
use Rattle.workers.proofs.guard.Guarded.{guarded_still, known_if_begun}
use Rattle.workers.specs.Seen.{IsWhyNotCreated}
use Rattle.workers.proofs.guard.Refusals.{not_created, taken_still}
use Rattle.workers.proofs.histories.Stops.{created_carried}
use Rattle.workers.proofs.locked.Locked.create.Goals as goal

pub invariant_of-self : goal.invariant_of-self
invariant_of-self g c = (
  c.self.invariant.0,
  c.self.invariant.1,
  c.self.invariant.2,
  subst (IsBooked g.J.Naming.roll.changes g.J.Naming.first.broker.words.kept c.self.inside.session.broker c.self.inside.creating)
      (sym (c.promise.ensures.same c.if-not-promise.true)) c.self.invariant.3,
)

pub invariant_of-self-in-Err : goal.invariant_of-self-in-Err
invariant_of-self-in-Err g c =
    let same = sym c.in-Err.ensures.same in (
      c.self.invariant.0,
      subst (λ (s : Sessioned). IsGuardedWell g.J.Naming.clients g.J.Naming.first (guarded_in (record {
        session = s;
        rows = rows_of c.self.inside.keeper;
        deeds = rows_of c.self.inside.register.keeper;
        creating = c.self.inside.creating;
        rotated = c.self.inside.rotated;
        marked = c.self.inside.marks;
        promised = None;
      }))) same c.self.invariant.1,
      c.self.invariant.2,
      subst (λ (s : Sessioned). IsBooked g.J.Naming.roll.changes g.J.Naming.first.broker.words.kept s.broker c.self.inside.creating c.release.new.book) same
          (booked_back g.J.Naming.roll.changes g.J.Naming.first.broker.words.kept c.self.inside.session.broker c.self.inside.creating c.self.inside.book c.promise.new.book
          c.release.new.book 12 c.self.invariant.3 c.promise.ensures.on (c.promise.ensures.more c.if-not-promise.false)
          c.release.ensures.on c.release.ensures.less),
    )

pub invariant_of-self-2 : goal.invariant_of-self-2
invariant_of-self-2 g c =
    let e = c.in_default-create.ensures in
    let old = c.self.inside.session in
    let new = c.create.new.self in (
      c.self.invariant.0,
      guarded_still g.J.Naming.clients g.J.Naming.first _ c.self.invariant.1 new UnderWay
          (λ u. created_carried c.self.inside.session new c.create.ensures.others u) c.create.ensures.promises
          (record { numbers = c.create.ensures.goes_on; queues = c.create.ensures.queues })
          (known_if_begun new.broker (ap (λ (s : Sessioned). s.broker.recovery) c.create.ensures.others ∙ e.may.ready)
          e.under_way),
      c.self.invariant.2,
      booked_more g.J.Naming.roll.changes g.J.Naming.first.broker.words.kept old.broker new.broker c.self.inside.creating
          UnderWay c.self.inside.book c.promise.new.book 12 c.self.invariant.3 c.promise.ensures.on
          (c.promise.ensures.more c.if-not-promise.false)
          (ap (λ (s : Sessioned). s.broker.words.kept) c.create.ensures.others)
          (created_first old.broker new.broker _ _ e.under_way e.begun),
    )

pub returns-then-matches-clause-errors : goal.returns-then-matches-clause-errors
returns-then-matches-clause-errors g c =
    let name = c.args.queue.now.name in
    subst (λ (v : Held). IsWhyNotCreated v.session.broker name c.why_busy.result) c.self.view_is (c.why_busy.ensures name)

pub returns-then-not-promise-clause-errors : goal.returns-then-not-promise-clause-errors
returns-then-not-promise-clause-errors g c =
    let name = c.args.queue.now.name in
    let busy = c.why_busy-then-not-promise in
    subst (λ (v : Held). IsWhyNotCreated v.session.broker name busy.result) c.self.view_is (busy.ensures name)

pub returns-in-Err-clause-errors : goal.returns-in-Err-clause-errors
returns-in-Err-clause-errors g c =
    let name = c.args.queue.now.name in
    let refusal = c.in-Err.refusal in
    let bytes : c.as_bytes.result.now ≡ name = search rules in
    subst (λ (v : Held). IsWhyNotCreated v.session.broker name refusal) c.self.view_is
    (not_created c.self.inside.session.broker name refusal (rw (← bytes) c.in-Err.ensures.errors))

pub returns-clause-taken : goal.returns-clause-taken
returns-clause-taken g c = λ has.
    let there =
    taken_still g.J.Naming.first.broker c.self.inside.session.broker c.self.inside.rotated c.args.queue.now.name
    c.self.invariant.1.came has in
    let bytes : c.as_bytes.result.now ≡ c.args.queue.now.name = search rules in
    absurd (c.in_default-create.ensures.may.is_new (rw bytes there))
