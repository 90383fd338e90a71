-- What is noted of kept words stays right over each act.
use Rattle.std.proofs.Common.{◌≡◌, ◌<◌, ◌≤◌, ◌+◌, ◌++◌, ◌∷◌, [], ℕ, List, Option, Some, None, Result, Ok, Bool, refl, sym, ap, ◌∙◌, append-nil, subst, arith}
use Rattle.std.specs.Prelude.{IfSome, IsSome}
use Rattle.words.specs.declared.refusal.Refusal.{Refusal}
use Rattle.persist.specs.declared.access.Change.{Change}
use Rattle.notes.specs.Noting.{IsMadeBy, Noting}
use Rattle.notes.proofs.Facts.{made_by_notes, noted_none}
use Rattle.roll.specs.Rule.{IsKeeper}
use Rattle.roll.specs.Seated.{TableId}
use Rattle.words.specs.declared.call.Kind.{Kind}
use Rattle.arena.specs.declared.broker.SlotId.{SlotId}
use Rattle.stepper.specs.declared.resume.After.{After}
use Rattle.stepper.specs.declared.resume.After.TheVariants.{Done, More}
use Rattle.directory.specs.Creation.{left_after, left_at, successor}
use Rattle.directory.proofs.Facts.{creation_less}
use Rattle.directory.specs.declared.creation.Creation.{Creation}
use Rattle.named.specs.Brokers.{Brokered, IsBegun, IsStepCreated}
use Rattle.named.specs.Stopping.{IsRecoveryStep}
use Rattle.named.specs.declared.recovery.BrokerRecovery.{BrokerRecovery}
use Rattle.workers.specs.Creating.{IsCreationKnown, creating_after_crash}
use Rattle.workers.specs.Noting.{HasPromised, IsBooked, IsBookOn, IsBookRight, OfRoll, first_row, handed_in, promised_in, to_create}
use Rattle.workers.specs.Noting.{with_promised}
use Rattle.workers.specs.declared.book.Book.{Book}
use Rattle.workers.specs.declared.locked.Creating.{Creating}
use Rattle.workers.specs.declared.locked.Creating.TheVariants.{Interrupted, Nothing, UnderWay}
use Rattle.workers.proofs.guard.Guarded.{Steps, none_is_more, under_way_is}

-- room that is promised
pub promised_less : (few many : ℕ) (o : Option ℕ) → few ≤ many → HasPromised many o → HasPromised few o
promised_less few many None less has = tt
promised_less few many (Some promised) less has = omega (arith, less, has)

promised_any : (o : Option ℕ) → HasPromised 0 o
promised_any None = tt
promised_any (Some promised) = omega arith

pub promised_more : (changes more : ℕ) (was now : Option ℕ) → now ≡ with_promised more was → HasPromised changes was
    → HasPromised (changes + more) now
promised_more changes more None now is has = subst (HasPromised (changes + more)) (sym is) tt
promised_more changes more (Some promised) now is has =
    subst (HasPromised (changes + more)) (sym is) (omega (arith, has))

pub promised_left : (changes less : ℕ) (was now : Option ℕ) → was ≡ with_promised less now → HasPromised (changes + less) was
    → HasPromised changes now
promised_left changes less was None is has = tt
promised_left changes less was (Some promised) is has =
    let there : changes + less ≤ promised + less = subst (HasPromised (changes + less)) is has in
    omega (arith, there)

-- so it is for the steps that are left, after one of them
pub promised_on : (was now : Option ℕ) (steps left : ℕ) → HasPromised (steps + 1) was → was ≡ with_promised 1 now
    → left < steps → HasPromised (left + 1) now
promised_on was now steps left has less fewer =
    promised_left (left + 1) 1 was now less
    (promised_less (left + 1 + 1) (steps + 1) was (omega (arith, fewer)) has)

-- what was promised and taken back is as before
pub promised_back : (changes : ℕ) (was now back : Option ℕ) → now ≡ with_promised changes was
    → now ≡ with_promised changes back → back ≡ was
promised_back changes None now None more less = refl
promised_back changes None now (Some k) more less = absurd (cc (sym more ∙ less))
promised_back changes (Some n) now None more less = absurd (cc (sym more ∙ less))
promised_back changes (Some n) now (Some k) more less =
    let same : n + changes ≡ k + changes = cc (sym more ∙ less) in
    ap (λ (x : ℕ). let o : Option ℕ = Some x in o) (omega (arith, same))

module _ (roll : Option TableId) (first : List ℕ) where
  -- there is room for what a creation may still change
  pub booked_promised : (now : Brokered) (creating : Creating) (book : Option Book)
      → IsBooked roll first now creating book → HasPromised (to_create creating now.creation) (promised_in book)
  booked_promised now creating book is = go roll book is
    where
      go : (r : Option TableId) (b : Option Book) → IsBooked r first now creating b
          → HasPromised (to_create creating now.creation) (promised_in b)
      go None None is = tt
      go None (Some b) is = absurd is
      go (Some r) None is = absurd is
      go (Some r) (Some b) is = is.promised

  -- an act, with what it noted
  pub booked_act : (old new : Brokered) (creating after : Creating) (was now : Option Book)
      → IsBooked roll first old creating was → IsBookOn was now old.words.kept new.words.kept
      → HasPromised (to_create after new.creation) (promised_in now) → IsBooked roll first new after now
  booked_act old new creating after was now is on has = go roll was now is on has
    where
      go : (r : Option TableId) (a b : Option Book) → IsBooked r first old creating a
          → IsBookOn a b old.words.kept new.words.kept → HasPromised (to_create after new.creation) (promised_in b)
          → IsBooked r first new after b
      go None None None is on has = tt
      go None None (Some b) is on has = absurd on
      go None (Some a) b is on has = absurd is
      go (Some r) None b is on has = absurd is
      go (Some r) (Some a) None is on has = absurd on
      go (Some r) (Some a) (Some b) is on has = record {
        same = ap (λ (x : Book). x.roll) on.0 ∙ is.same;
        keeper = subst (λ (x : Book). IsKeeper r (handed_in x ∷ []) x.keeper) (sym on.0) is.keeper;
        made = subst (λ (x : Book). IsMadeBy (handed_in x ++ b.notes.changes) first new.words.kept) (sym on.0)
            (made_by_notes (handed_in a) a.notes.changes b.notes.changes first old.words.kept new.words.kept is.made on.1);
        promised = has;
      }

  -- one that uses room up
  pub booked_spent : (old new : Brokered) (creating after : Creating) (was now : Option Book)
      → IsBooked roll first old creating was → IsBookOn was now old.words.kept new.words.kept
      → promised_in was ≡ with_promised 1 (promised_in now)
      → HasPromised (to_create after new.creation + 1) (promised_in was) → IsBooked roll first new after now
  booked_spent old new creating after was now is on less has =
      booked_act old new creating after was now is on
      (promised_left (to_create after new.creation) 1 (promised_in was) (promised_in now) less has)

  -- one that leaves a creation with a change less to make
  pub booked_less : (old new : Brokered) (creating after : Creating) (was now : Option Book)
      → IsBooked roll first old creating was → IsBookOn was now old.words.kept new.words.kept
      → promised_in was ≡ with_promised 1 (promised_in now)
      → to_create after new.creation + 1 ≤ to_create creating old.creation → IsBooked roll first new after now
  booked_less old new creating after was now is on less few =
      booked_spent old new creating after was now is on less
      (promised_less (to_create after new.creation + 1) (to_create creating old.creation) (promised_in was) few
      (booked_promised old creating was is))

  -- one for which room is promised at first
  pub booked_step : (old new : Brokered) (creating after : Creating) (was more now : Option Book)
      → IsBooked roll first old creating was → ((words : List ℕ) → IsBookOn was more words words)
      → promised_in more ≡ with_promised 1 (promised_in was) → IsBookOn more now old.words.kept new.words.kept
      → promised_in more ≡ with_promised 1 (promised_in now)
      → to_create after new.creation ≤ to_create creating old.creation → IsBooked roll first new after now
  booked_step old new creating after was more now is promised made on less few =
      let left = to_create creating old.creation in
      let has = promised_more left 1 (promised_in was) (promised_in more) made (booked_promised old creating was is) in
      booked_spent old new creating after more now
      (booked_act old old creating creating was more is (promised old.words.kept)
      (promised_less left (left + 1) (promised_in more) (omega arith) has)) on less
      (promised_less (to_create after new.creation + 1) (left + 1) (promised_in more) (omega (arith, few)) has)

  -- one that changes no kept word
  pub booked_same : (old new : Brokered) (creating after : Creating) (book : Option Book)
      → IsBooked roll first old creating book → new.words.kept ≡ old.words.kept
      → to_create after new.creation ≤ to_create creating old.creation → IsBooked roll first new after book
  booked_same old new creating after book is same few =
      booked_act old new creating after book book is (on book)
      (promised_less (to_create after new.creation) (to_create creating old.creation) (promised_in book) few
      (booked_promised old creating book is))
    where
      on : (b : Option Book) → IsBookOn b b old.words.kept new.words.kept
      on None = tt
      on (Some b) = (refl, noted_none b.notes.changes old.words.kept new.words.kept same)

  -- one after which a creation has none to make
  pub booked_none : (old new : Brokered) (creating after : Creating) (was now : Option Book)
      → IsBooked roll first old creating was → IsBookOn was now old.words.kept new.words.kept
      → to_create after new.creation ≤ 0 → IsBooked roll first new after now
  booked_none old new creating after was now is on none =
      booked_act old new creating after was now is on
      (promised_less (to_create after new.creation) 0 (promised_in now) none (promised_any (promised_in now)))

  -- one that changes no kept word, for whose changes to come room is promised
  pub booked_more : (old new : Brokered) (creating after : Creating) (was more : Option Book) (changes : ℕ)
      → IsBooked roll first old creating was → ((words : List ℕ) → IsBookOn was more words words)
      → promised_in more ≡ with_promised changes (promised_in was) → new.words.kept ≡ old.words.kept
      → to_create after new.creation ≤ changes → IsBooked roll first new after more
  booked_more old new creating after was more changes is on made same few =
      booked_act old new creating after was more is
      (subst (λ (ws : List ℕ). IsBookOn was more old.words.kept ws) (sym same) (on old.words.kept))
      (promised_less (to_create after new.creation) (0 + changes) (promised_in more) (omega (arith, few))
      (promised_more 0 changes (promised_in was) (promised_in more) made (promised_any (promised_in was))))

  -- none, for which room is promised
  pub booked_promise : (now : Brokered) (creating : Creating) (was more : Option Book) (changes : ℕ)
      → IsBooked roll first now creating was → ((words : List ℕ) → IsBookOn was more words words)
      → promised_in more ≡ with_promised changes (promised_in was)
      → IsBooked roll first now creating more × HasPromised (to_create creating now.creation + changes) (promised_in more)
  booked_promise now creating was more changes is on made =
      let left = to_create creating now.creation in
      let has = promised_more left changes (promised_in was) (promised_in more) made (booked_promised now creating was is) in (
        booked_act now now creating creating was more is (on now.words.kept)
            (promised_less left (left + changes) (promised_in more) (omega arith) has),
        has,
      )

  -- none, after which what was promised is taken back
  pub booked_back : (now : Brokered) (creating : Creating) (was more back : Option Book) (changes : ℕ)
      → IsBooked roll first now creating was → ((words : List ℕ) → IsBookOn was more words words)
      → promised_in more ≡ with_promised changes (promised_in was)
      → ((words : List ℕ) → IsBookOn more back words words)
      → promised_in more ≡ with_promised changes (promised_in back) → IsBooked roll first now creating back
  booked_back now creating was more back changes is on made off less =
      let left = to_create creating now.creation in
      let has = booked_promised now creating was is in
      booked_act now now creating creating more back
      (booked_act now now creating creating was more is (on now.words.kept)
      (promised_less left (left + changes) (promised_in more) (omega arith)
      (promised_more left changes (promised_in was) (promised_in more) made has)))
      (off now.words.kept)
      (subst (HasPromised left) (sym (promised_back changes (promised_in was) (promised_in more) (promised_in back) made less))
      has)

-- where the creation stays, its changes do
pub created_same : (creating : Creating) (old new : Option Creation) → new ≡ old
    → to_create creating new ≤ to_create creating old
created_same creating old new same =
    subst (λ (o : Option Creation). to_create creating o ≤ to_create creating old) (sym same) (omega arith)

-- after a crash there are none
pub created_stopped : (creating : Creating) (now : Option Creation) (few : ℕ)
    → to_create (creating_after_crash creating) now ≤ few
created_stopped Nothing now few = omega arith
created_stopped UnderWay now few = omega arith
created_stopped Interrupted now few = omega arith

-- nor where there is no creation
pub created_none : (creating : Creating) (now : Option Creation) (few : ℕ) → now ≡ None
    → to_create creating now ≤ few
created_none creating now few none =
    subst (λ (o : Option Creation). to_create creating o ≤ few) (sym none) (go creating)
  where
    go : (c : Creating) → to_create c None ≤ few
    go Nothing = omega arith
    go UnderWay = omega arith
    go Interrupted = omega arith

-- a step of recovery comes to none more
pub created_recovered : (old new : Brokered) (result : Result Bool Refusal) (creating : Creating)
    → IsRecoveryStep old new result old.recovery → IsCreationKnown old creating
    → to_create creating new.creation ≤ to_create creating old.creation
created_recovered old new result Nothing step known = omega arith
created_recovered old new result Interrupted step known = omega arith
created_recovered old new result UnderWay step known =
    let up = (under_way_is old known).0 in
    let same = (subst (λ (r : Option BrokerRecovery). IsRecoveryStep old new result r) up step).1 in
    created_same UnderWay old.creation new.creation (ap (λ (b : Brokered). b.creation) same)

-- a creation that its caller steps has a step left, and one less after each
module _ (old new : Brokered) (known : IsCreationKnown old UnderWay) where
  pub one_left : 1 ≤ to_create UnderWay old.creation
  one_left = go old.creation (under_way_is old known).1
    where
      go : (o : Option Creation) → IsSome o → 1 ≤ to_create UnderWay o
      go None some = absurd (cc (some))
      go (Some creation) some = omega (arith, creation_less creation)

  pub created_step : (result : Result (Option SlotId) Refusal) → result ≡ Ok None → Steps old new known result
      → to_create UnderWay new.creation + 1 ≤ to_create UnderWay old.creation
  created_step result is step =
      let up = under_way_is old known in go old.creation refl up.1 (step up.0)
    where
      more : (creation : Creation) → old.creation ≡ Some creation → (after : After Creation SlotId)
          → left_after after + 1 ≡ left_at creation.at → IsStepCreated old new creation result after
          → to_create UnderWay new.creation + 1 ≤ to_create UnderWay old.creation
      more creation here (More next) less made =
          let now : new.creation ≡ Some next = ap (λ (b : Brokered). b.creation) made.1 in
          subst (λ (o : Option Creation). to_create UnderWay o + 1 ≤ to_create UnderWay old.creation) (sym now)
          (subst (λ (o : Option Creation). left_at next.at + 1 ≤ to_create UnderWay o) (sym here) (omega (arith, less)))
      more creation here (Done slot) less made = absurd (none_is_more slot (sym is ∙ made.0))

      go : (o : Option Creation) → old.creation ≡ o → IsSome o
          → IfSome o (λ creation. IsStepCreated old new creation result (successor creation))
          → to_create UnderWay new.creation + 1 ≤ to_create UnderWay old.creation
      go None here some made = absurd (cc (some))
      go (Some creation) here some made = more creation here (successor creation) (creation_less creation) made

-- one that begins has all of its steps left
pub created_first : (b now : Brokered) (name : List ℕ) (kind : Kind) → IsSome now.creation
    → IfSome now.creation (IsBegun b name kind) → to_create UnderWay now.creation ≤ 12
created_first b now name kind some begun = go now.creation some begun
  where
    go : (o : Option Creation) → IsSome o → IfSome o (IsBegun b name kind) → to_create UnderWay o ≤ 12
    go None some begun = absurd (cc (some))
    go (Some creation) some begun =
        subst (λ (x : Creation). left_at x.at ≤ 12) (sym begun.begun) (omega arith)

-- who is of the roll that the name has, and the book beside it
pub book_of : (o : Option TableId) (first : List ℕ) (now : Brokered) (creating : Creating) (book : Book)
    (P : TableId → Type 0) → IsBooked o first now creating (Some book) → OfRoll o P
    → (roll : TableId) × (o ≡ Some roll) × IsBookRight roll first now creating book × P roll
book_of None first now creating book P is of = absurd of
book_of (Some roll) first now creating book P is of = (roll, refl, is, of)

pub no_book : (o : Option TableId) (first : List ℕ) (now : Brokered) (creating : Creating) (P : TableId → Type 0)
    → IsBooked o first now creating None → OfRoll o P → ⊥
no_book None first now creating P is of = absurd of
no_book (Some roll) first now creating P is of = absurd is

-- once all is handed on, the changes that were handed on make the kept words
pub booked_handed : (roll : TableId) (first : List ℕ) (now : Brokered) (creating : Creating) (was book : Book)
    (row batch : List Change) → IsBookRight roll first now creating was → row ≡ handed_in was
    → batch ≡ was.notes.changes → book.roll ≡ was.roll → IsKeeper was.roll ((handed_in was ++ batch) ∷ []) book.keeper
    → book.notes ≡ record was.notes { changes = [] }
    → IsBookRight roll first now creating book × IsMadeBy (row ++ batch) first now.words.kept
booked_handed roll first now creating was book row batch right same all id kept emptied =
    let made : IsMadeBy (handed_in was ++ batch) first now.words.kept =
    subst (λ (cs : List Change). IsMadeBy (handed_in was ++ cs) first now.words.kept) (sym all) right.made in
    let handed : handed_in book ≡ handed_in was ++ batch = ap (λ m. first_row m.0.rows) kept.1 in (
      record {
        same = id ∙ right.same;
        keeper = subst (λ (cs : List Change). IsKeeper roll (cs ∷ []) book.keeper) (sym handed)
            (kept.0 ∙ right.same, kept.1);
        made = subst (λ (n : Noting). IsMadeBy (handed_in book ++ n.changes) first now.words.kept) (sym emptied)
            (subst (λ (cs : List Change). IsMadeBy cs first now.words.kept) (sym (append-nil (handed_in book)))
            (subst (λ (cs : List Change). IsMadeBy cs first now.words.kept) (sym handed) made));
        promised = subst (λ (n : Noting). to_create creating now.creation ≤ n.promised) (sym emptied) right.promised;
      },
      subst (λ (cs : List Change). IsMadeBy (cs ++ batch) first now.words.kept) (sym same) made,
    )
