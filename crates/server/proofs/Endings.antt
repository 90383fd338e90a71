-- What workers have served, and what is left of the session that they shared.
use Rattle.std.proofs.Common.{◌≡◌, [], List, ℕ, Ok, Err, Result, IfOk, Vec, Global, subst, sym}
use Rattle.std.specs.Prelude.{All, None, Option}
use Rattle.std.proofs.lemmas.List.Elements.{All-weaker}
use Rattle.chronicle.specs.Chronicled.{Chronicled, entries}
use Rattle.desk.specs.Answering.{AreAnsweredInTurn, IsServedAtMark, IsServedInTurn}
use Rattle.journal_file.specs.OnDevice.{OnDevice}
use Rattle.words.specs.declared.refusal.Refusal.{Refusal}
use Rattle.persist.specs.Image.{image_of, reading}
use Rattle.named.specs.Booting.{AreBootWords}
use Rattle.named.specs.Brokers.{Brokered}
use Rattle.session.specs.Keeping.{SessionGoesOn}
use Rattle.session.specs.Promises.{KeepsNumbers}
use Rattle.session.specs.Sessions.{Sessioned}
use Rattle.wire.specs.declared.answer.Answer.{Answer}
use Rattle.wire.specs.declared.request.Request.{Request}
use Rattle.workers.specs.Moments.{GoesOnLater}
use Rattle.workers.specs.Seats.{AreSeatsRecorded}
use Rattle.workers.specs.declared.entry.Entry.{Entry}
use Rattle.workers.proofs.Facts.{later_itself, later_still}
use Rattle.serving.specs.Image.{IsImageAfter, IsImageOf, IsOpenedOver}
use Rattle.serving.specs.Journaled.{IsLeftSince}
use Rattle.server.specs.Worked.{all_told, AreKnown, AreTurns, HasWorked, HaveWorked, IsImageServed, IsLeftServed, settled_told}

-- a desk that answered in turn has its mark
pub not_unmarked : (clients : ℕ) (first : Sessioned) (served : List (Request × Answer)) (marked : Option Sessioned)
    → IsServedAtMark clients first served marked → marked ≡ None → ⊥
not_unmarked clients first served marked turn none = subst (IsServedAtMark clients first served) none turn

-- what a worker answered, up to its last mark
pub worked_to : (clients : ℕ) (first last marked : Sessioned) (served : Chronicled (Request × Answer)) → AreTurns served
    → IsServedInTurn clients first (entries served) marked → GoesOnLater marked last
    → HasWorked all_told clients first last served
worked_to clients first last marked served turns turn later =
    record { turns = turns; up_to = marked; turn = turn; later = later }

-- what it settled, up to its last token; without one it is nothing
pub settled_to : (clients : ℕ) (first last sure : Sessioned) (served : Chronicled (Request × Answer)) → AreTurns served
    → IsServedInTurn clients first served.settled sure → GoesOnLater sure last
    → HasWorked settled_told clients first last served
settled_to clients first last sure served turns turn later =
    record { turns = turns; up_to = sure; turn = turn; later = later }

pub unsettled_to : (clients : ℕ) (first last : Sessioned) (served : Chronicled (Request × Answer)) → AreTurns served
    → served.settled ≡ [] → GoesOnLater first last → HasWorked settled_told clients first last served
unsettled_to clients first last served turns none later = record {
  turns = turns;
  up_to = first;
  turn =
      subst (λ l. IsServedInTurn clients first l first) (sym none)
      (record { start = first; came = later_itself first; turn = AreAnsweredInTurn.nothing });
  later = later;
}

-- the image, where there was memory for that
pub image_served : {S : Type 0} (list : S → List Entry) (seats : List S) (first last : Sessioned) (b : Brokered)
    (clients workers : ℕ) (marked : List Sessioned) (r : Result (Vec ℕ Global) Refusal)
    → clients ≡ first.broker.counts.clients → IsOpenedOver first.broker first
    → AreKnown all_told clients first workers marked → All (λ s. GoesOnLater s last) marked → b ≡ last.broker
    → AreSeatsRecorded list first seats last → SessionGoesOn first last → KeepsNumbers last
    → IfOk r (λ bytes. bytes.items ≡ image_of b.words.kept) → IfOk r (λ bytes. reading bytes.items ≡ Ok b.words.kept)
    → AreBootWords b.words.kept → IfOk r (λ bytes. IsImageServed first.broker workers bytes.items)
image_served list seats first last b clients workers marked (Err e) all opened known later same lists on keeps image read
    boots = tt
image_served list seats first last b clients workers marked (Ok bytes) all opened known later same lists on keeps image
    read boots =
    let after : IsImageAfter first bytes.items = record {
      last = last;
      goes_on = on;
      rotated = lists.rotated;
      came = lists.came;
      promises = keeps;
      image =
          subst (λ (x : Brokered). IsImageOf x bytes.items) same
          (record { image = image; read = read; boots = boots });
    } in
    let on : GoesOnLater first last = record { numbers = on; ended = lists.rotated; came = lists.came } in
    record {
      first = first;
      opened = opened;
      left = after;
      worked = subst (λ (n : ℕ). HaveWorked all_told n first last workers) all (known last on later);
    }

-- the image and the journal, which go on from each token that was heard
pub left_served : (first last : Sessioned) (clients workers : ℕ) (sure : List Sessioned) (bytes : List ℕ) (j : OnDevice)
    → clients ≡ first.broker.counts.clients → IsOpenedOver first.broker first
    → AreKnown settled_told clients first workers sure → All (λ s. GoesOnLater s last) sure
    → IsLeftSince first last bytes j → IsLeftServed first.broker workers bytes j
left_served first last clients workers sure bytes j all opened known heard since =
    let left = since.left.image in
    let on : GoesOnLater first left.last =
    record { numbers = left.goes_on; ended = left.rotated; came = left.came } in
    record {
      first = first;
      opened = opened;
      left = since.left;
      worked =
          subst (λ (n : ℕ). HaveWorked settled_told n first left.last workers) all
          (known left.last on
          (All-weaker (λ s. GoesOnLater s last) (λ s. GoesOnLater s left.last)
          (λ s before. later_still s last left.last before since.later) sure heard));
    }

-- of the broker that the session is over
pub image_of_opened : (broker : Brokered) (first : Sessioned) (workers : ℕ) (bytes : List ℕ) → IsOpenedOver broker first
    → IsImageServed first.broker workers bytes → IsImageServed broker workers bytes
image_of_opened broker first workers bytes opened served =
    subst (λ (b : Brokered). IsImageServed b workers bytes) opened.same served

pub left_of_opened : (broker : Brokered) (first : Sessioned) (workers : ℕ) (bytes : List ℕ) (j : OnDevice)
    → IsOpenedOver broker first → IsLeftServed first.broker workers bytes j → IsLeftServed broker workers bytes j
left_of_opened broker first workers bytes j opened served =
    subst (λ (b : Brokered). IsLeftServed b workers bytes j) opened.same served
