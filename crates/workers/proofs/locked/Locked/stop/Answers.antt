use Rattle.std.proofs.Common.{[], ◌≤◌, ℕ, List, ap, refl, sym, subst, ◌∙◌}
use Rattle.named.specs.Brokers.{Brokered, is_down}
use Rattle.roll.specs.Rule.{keeper}
use Rattle.workers.specs.Creating.{IsCreationKnown}
use Rattle.workers.specs.declared.locked.Creating.{Creating}
use Rattle.workers.specs.Noting.{IsBookOn, to_create}
use Rattle.workers.proofs.guard.Notes.{booked_none, booked_same, created_same, created_stopped}
use Rattle.workers.proofs.guard.Guarded.{guarded_still, guarded_stopped, known_after_crash, known_if_same}
use Rattle.workers.proofs.histories.Stops.{crash_refused_carried, crashed_carried}
use Rattle.workers.proofs.locked.Locked.stop.Goals as goal

pub invariant_of-self : goal.invariant_of-self
invariant_of-self g c =
    let e = c.in-Err.ensures in
    let old = c.self.inside.session in
    let new = c.crash.new.self in
    let well = c.self.invariant.1 in (
      c.self.invariant.0,
      guarded_still g.J.Naming.clients g.J.Naming.first _ well new c.self.inside.creating
          (λ u. crash_refused_carried old new e.same u) e.promises
          (record { numbers = e.goes_on; queues = e.queues })
          (known_if_same old.broker new.broker c.self.inside.creating (ap (λ (b : Brokered). b.recovery) e.same.same)
          (ap (λ (b : Brokered). b.creation) e.same.same) well.creation),
      c.self.invariant.2,
      booked_same g.J.Naming.roll.changes g.J.Naming.first.broker.words.kept old.broker new.broker c.self.inside.creating c.self.inside.creating c.self.inside.book
          c.self.invariant.3 (ap (λ (b : Brokered). b.words.kept) e.same.same)
          (created_same c.self.inside.creating old.broker.creation new.broker.creation
          (ap (λ (b : Brokered). b.creation) e.same.same)),
    )

pub invariant_of-self-2 : goal.invariant_of-self-2
invariant_of-self-2 g c =
    let s = c.enter_stop.ensures in
    let e = c.in_default.ensures in
    let old = c.self.inside.session in
    let new = c.crash.new.self in
    let well = c.self.invariant.1 in (
      c.self.invariant.0,
      rw (ap (λ m. m.0.rows) s.keeper.1)
          (guarded_stopped g.J.Naming.clients g.J.Naming.first _ well new c.stopped-self-inside.result c.args.operator
          s.before (λ u. crashed_carried old new well.promises (e.stopped refl) u) e.promises
          (record { numbers = e.goes_on; queues = e.queues })
          (subst (λ (creating : Creating). IsCreationKnown new.broker creating) (sym c.stopped-self-inside.ensures)
          (known_after_crash new.broker c.self.inside.creating
          (ap (λ (b : Brokered). is_down b) (e.stopped refl).same))) (e.stopped refl)),
      (s.keeper.0, s.keeper.1 ∙ sym (ap (λ m. (keeper m.0.rows, [])) s.keeper.1)),
      booked_none g.J.Naming.roll.changes g.J.Naming.first.broker.words.kept old.broker new.broker c.self.inside.creating c.stopped-self-inside.result c.self.inside.book
          c.release_all.new.book c.self.invariant.3
          (subst (λ (ws : List ℕ). IsBookOn c.self.inside.book c.release_all.new.book old.broker.words.kept ws)
          (sym (ap (λ (b : Brokered). b.words.kept) (e.stopped refl).same)) (c.release_all.ensures.on old.broker.words.kept))
          (subst (λ (creating : Creating). to_create creating new.broker.creation ≤ 0) (sym c.stopped-self-inside.ensures)
          (created_stopped c.self.inside.creating new.broker.creation 0)),
    )
