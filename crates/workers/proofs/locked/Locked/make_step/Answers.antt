use Rattle.std.proofs.Common.{subst, sym, ap, ◌∙◌, ◌+◌, ◌≤◌, Ok}
use Rattle.persist.specs.Noted.{answer_in}
use Rattle.workers.specs.Creating.{IsCreationKnown}
use Rattle.workers.specs.Following.{Held}
use Rattle.workers.specs.Noting.{to_create}
use Rattle.workers.specs.declared.locked.Creating.{Creating}
use Rattle.workers.specs.declared.locked.Creating.TheVariants.{Nothing}
use Rattle.workers.proofs.guard.Notes.{booked_less, booked_promised, created_step, one_left, promised_less}
use Rattle.workers.proofs.guard.Guarded.{guarded_still, known_after_last, known_after_step, under_way_is}
use Rattle.workers.proofs.seats.QueuesSeen.{free_before}
use Rattle.workers.proofs.histories.Stops.{creation_carried, creation_free}
use Rattle.workers.proofs.locked.Locked.make_step.Goals as goal

pub invariant_of-self : goal.invariant_of-self
invariant_of-self g c =
    let e = c.create_step_noted-act.ensures in
    let old = c.self.inside.session in
    let new = c.create_step_noted-act.new.self in
    let answer = answer_in c.create_step_noted-act.result in
    let well = c.self.invariant.1 in
    let under_way = ap (λ (s : Held). s.creating) c.self.view_is ∙ c.requires.under_way in
    let known = subst (λ (creating : Creating). IsCreationKnown old.broker creating) under_way well.creation in
    let has = under_way_is old.broker known in
    let is = sym c.noted.ensures.answer ∙ (c.in-Ok-None.is ∙ ap Ok c.in-Ok-None.field-0-is) in (
      c.self.invariant.0,
      guarded_still g.J.Naming.clients g.J.Naming.first _ well new c.self.inside.creating
          (λ u. creation_carried old new well.promises has.0 answer e.others has.1 e.step u) e.promises
          (record { numbers = e.goes_on; queues = e.queues })
          (subst (λ (creating : Creating). IsCreationKnown new.broker creating) (sym under_way)
          (known_after_step old.broker new.broker known answer is e.step)),
      c.self.invariant.2,
      booked_less g.J.Naming.roll.changes g.J.Naming.first.broker.words.kept old.broker new.broker c.self.inside.creating
          c.self.inside.creating c.self.inside.book c.noted.new.book c.self.invariant.3 (c.noted.ensures.on _ _ e.noted)
          c.noted.ensures.less
          (subst (λ (x : Creating). to_create x new.broker.creation + 1 ≤ to_create x old.broker.creation) (sym under_way)
          (created_step old.broker new.broker known answer is e.step)),
    )

pub invariant_of-self-then-not-has : goal.invariant_of-self-then-not-has
invariant_of-self-then-not-has g c =
    let e = c.create_step_noted-act.ensures in
    let old = c.self.inside.session in
    let new = c.create_step_noted-act.new.self in
    let answer = answer_in c.create_step_noted-act.result in
    let well = c.self.invariant.1 in
    let under_way = ap (λ (s : Held). s.creating) c.self.view_is ∙ c.requires.under_way in
    let known = subst (λ (creating : Creating). IsCreationKnown old.broker creating) under_way well.creation in
    let has = under_way_is old.broker known in
    let is = sym c.noted.ensures.answer ∙ (c.in-Ok-Some.is ∙ ap Ok c.in-Ok-Some.field-0-is) in (
      c.self.invariant.0,
      guarded_still g.J.Naming.clients g.J.Naming.first _ well new Nothing
          (λ u. creation_carried old new well.promises has.0 answer e.others has.1 e.step u) e.promises
          (record { numbers = e.goes_on; queues = e.queues })
          (known_after_last old.broker new.broker known answer c.in-Ok-Some.slot is e.step).0,
      c.self.invariant.2,
      booked_less g.J.Naming.roll.changes g.J.Naming.first.broker.words.kept old.broker new.broker c.self.inside.creating
          Nothing c.self.inside.book c.noted.new.book c.self.invariant.3 (c.noted.ensures.on _ _ e.noted)
          c.noted.ensures.less
          (subst (λ (x : Creating). 1 ≤ to_create x old.broker.creation) (sym under_way)
          (one_left old.broker new.broker known)),
    )

pub invariant_of-self-in-Ok-Some : goal.invariant_of-self-in-Ok-Some
invariant_of-self-in-Ok-Some g c =
    let e = c.create_step_noted-act.ensures in
    let old = c.self.inside.session in
    let new = c.create_step_noted-act.new.self in
    let answer = answer_in c.create_step_noted-act.result in
    let well = c.self.invariant.1 in
    let under_way = ap (λ (s : Held). s.creating) c.self.view_is ∙ c.requires.under_way in
    let known = subst (λ (creating : Creating). IsCreationKnown old.broker creating) under_way well.creation in
    let has = under_way_is old.broker known in
    let is = sym c.noted.ensures.answer ∙ (c.in-Ok-Some.is ∙ ap Ok c.in-Ok-Some.field-0-is) in (
      c.self.invariant.0,
      guarded_still g.J.Naming.clients g.J.Naming.first _ well new Nothing
          (λ u. creation_carried old new well.promises has.0 answer e.others has.1 e.step u) e.promises
          (record { numbers = e.goes_on; queues = e.queues })
          (known_after_last old.broker new.broker known answer c.in-Ok-Some.slot is e.step).0,
      c.self.invariant.2,
      booked_less g.J.Naming.roll.changes g.J.Naming.first.broker.words.kept old.broker new.broker c.self.inside.creating
          Nothing c.self.inside.book c.noted.new.book c.self.invariant.3 (c.noted.ensures.on _ _ e.noted)
          c.noted.ensures.less
          (subst (λ (x : Creating). 1 ≤ to_create x old.broker.creation) (sym under_way)
          (one_left old.broker new.broker known)),
    )

pub returns-else-not-has-clause-made : goal.returns-else-not-has-clause-made
returns-else-not-has-clause-made g c =
    let e = c.create_step_noted-act.ensures in
    let old = c.self.inside.session in
    let new = c.create_step_noted-act.new.self in
    let answer = answer_in c.create_step_noted-act.result in
    let well = c.self.invariant.1 in
    let first = g.J.Naming.first.broker in
    let under_way = ap (λ (s : Held). s.creating) c.self.view_is ∙ c.requires.under_way in
    let known = subst (λ (creating : Creating). IsCreationKnown old.broker creating) under_way well.creation in
    let has = under_way_is old.broker known in
    let is = sym c.noted.ensures.answer ∙ (c.in-Ok-Some.is ∙ ap Ok c.in-Ok-Some.field-0-is) in (
      (known_after_last old.broker new.broker known answer c.in-Ok-Some.slot is e.step).1,
      free_before first old.broker c.self.inside.rotated well.came well.beginning.promises.broker.well.listed
          well.promises.broker.well.listed c.in-Ok-Some.slot.0
          (creation_free old new well.promises has.0 answer e.others has.1 e.step c.in-Ok-Some.slot is),
    )

pub returns-else-not-has-clause-there : goal.returns-else-not-has-clause-there
returns-else-not-has-clause-there g c = c.has.ensures c.if-not-has.false

pub noted-requires : goal.noted-requires
noted-requires g c =
    let old = c.self.inside.session in
    let under_way = ap (λ (s : Held). s.creating) c.self.view_is ∙ c.requires.under_way in
    let known = subst (λ (creating : Creating). IsCreationKnown old.broker creating) under_way c.self.invariant.1.creation in
    promised_less 1 (to_create c.self.inside.creating old.broker.creation) _
    (subst (λ (x : Creating). 1 ≤ to_create x old.broker.creation) (sym under_way) (one_left old.broker old.broker known))
    (booked_promised g.J.Naming.roll.changes g.J.Naming.first.broker.words.kept old.broker c.self.inside.creating
    c.self.inside.book c.self.invariant.3)
