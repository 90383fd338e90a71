use Rattle.std.proofs.Common.{◌≡◌, ◌++◌, ◌∷◌, [], IfOk, OnOk, List, Option, Some, ap, sym, subst, ◌∙◌}
use Rattle.persist.specs.declared.access.Change.{Change}
use Rattle.persist.specs.Noted.{applied}
use Rattle.notes.specs.Noting.{IsMadeBy}
use Rattle.roll.specs.Rule.{IsHolder, IsKeeper, row_of}
use Rattle.roll.specs.Seated.{TableId}
use Rattle.session.specs.Sessions.{Sessioned}
use Rattle.workers.specs.Moments.{HandedOn, IsMomentOf}
use Rattle.workers.specs.Noting.{IsBooked, handed_in}
use Rattle.workers.specs.declared.book.Book.{Book}
use Rattle.workers.proofs.guard.Notes.{book_of, booked_handed}
use Rattle.workers.proofs.guard.Guarded.{with_mark}
use Rattle.workers.proofs.guard.Moments.{moment_of}
use Rattle.workers.proofs.locked.Locked.hand_on.Goals as goal

pub invariant_of-self : goal.invariant_of-self
invariant_of-self g c =
    let of = book_of g.J.Naming.roll.changes g.J.Naming.first.broker.words.kept c.self.inside.session.broker c.self.inside.creating c.in-Some.book
    (λ roll. IsHolder roll 0 (row_of c.into_parts-holder.result.0) c.into_parts-holder.result.0)
    (subst (λ (o : Option Book). IsBooked g.J.Naming.roll.changes g.J.Naming.first.broker.words.kept c.self.inside.session.broker c.self.inside.creating o) c.in-Some.is c.self.invariant.3)
    c.into_parts-holder.ensures.holder in
    let e = c.hand_on.ensures in
    let is = c.in_default-Ok.is-1 in
    let was = c.in-Some.book in
    let book = c.hand_on.new.self in
    let row = row_of c.into_parts-holder.result.0 in
    let done = booked_handed of.0 g.J.Naming.first.broker.words.kept c.self.inside.session.broker c.self.inside.creating
    was book row c.in_default-Ok.batch.items of.2
    (subst (λ r. OnOk r (row ≡ handed_in was)) is e.before)
    (subst (λ r. IfOk r (λ batch. batch.items ≡ was.notes.changes)) is e.batch)
    (subst (λ r. OnOk r (book.roll ≡ was.roll)) is e.roll)
    (subst (λ r. IfOk r (λ batch. IsKeeper was.roll ((handed_in was ++ batch.items) ∷ []) book.keeper)) is e.keeper)
    (subst (λ r. OnOk r (book.notes ≡ record was.notes { changes = [] })) is e.notes) in (
      c.self.invariant.0,
      with_mark g.J.Naming.clients g.J.Naming.first _ c.mark_further-last.new.self c.mark_further-last.ensures.marks
          c.self.invariant.1,
      c.self.invariant.2,
      subst (λ (o : Option TableId). IsBooked o g.J.Naming.first.broker.words.kept c.self.inside.session.broker
          c.self.inside.creating (let b : Option Book = Some c.hand_on.new.self in b)) (sym of.1) done.0,
    )

pub returns-in_default-Ok-clause-moment : goal.returns-in_default-Ok-clause-moment
returns-in_default-Ok-clause-moment g c =
    let of = book_of g.J.Naming.roll.changes g.J.Naming.first.broker.words.kept c.self.inside.session.broker c.self.inside.creating c.in-Some.book
    (λ roll. IsHolder roll 0 (row_of c.into_parts-holder.result.0) c.into_parts-holder.result.0)
    (subst (λ (o : Option Book). IsBooked g.J.Naming.roll.changes g.J.Naming.first.broker.words.kept c.self.inside.session.broker c.self.inside.creating o) c.in-Some.is c.self.invariant.3)
    c.into_parts-holder.ensures.holder in
    let e = c.hand_on.ensures in
    let is = c.in_default-Ok.is-1 in
    let was = c.in-Some.book in
    let book = c.hand_on.new.self in
    let row = row_of c.into_parts-holder.result.0 in
    let done = booked_handed of.0 g.J.Naming.first.broker.words.kept c.self.inside.session.broker c.self.inside.creating
    was book row c.in_default-Ok.batch.items of.2
    (subst (λ r. OnOk r (row ≡ handed_in was)) is e.before)
    (subst (λ r. IfOk r (λ batch. batch.items ≡ was.notes.changes)) is e.batch)
    (subst (λ r. OnOk r (book.roll ≡ was.roll)) is e.roll)
    (subst (λ r. IfOk r (λ batch. IsKeeper was.roll ((handed_in was ++ batch.items) ∷ []) book.keeper)) is e.keeper)
    (subst (λ r. OnOk r (book.notes ≡ record was.notes { changes = [] })) is e.notes) in
    let holder = c.hand_on.result.0 in
    let held = subst (λ r. IfOk r (λ batch. IsHolder was.roll 0 (row ++ batch.items) holder)) is e.holder in
    let changes : c.new.result.changes ≡ row ++ c.in_default-Ok.batch.items =
    ap (λ (h : HandedOn). h.changes) c.new.ensures ∙ ap (λ m. m.0.row) held.1 in
    let kept = g.J.Naming.first.broker.words.kept in
    subst (λ (s : Sessioned). IsMomentOf g.J.Naming.first s (applied c.new.result.changes kept))
    (sym (ap (λ (h : HandedOn). h.last) c.new.ensures ∙ c.mark_further-last.ensures.mark))
    (moment_of g.J.Naming.clients g.J.Naming.first _ c.new.result.changes c.self.invariant.1 c.tells_settled.ensures
    (subst (λ (cs : List Change). IsMadeBy cs kept c.self.inside.session.broker.words.kept) (sym changes) done.1))
