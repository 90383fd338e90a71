-- A session goes on from an earlier one: over an act, over none, and over two stretches.
use Rattle.std.proofs.Common.{◌≡◌, ◌<◌, ℕ, Bool, true, false, List, [], ◌∷◌, ◌++◌, length, refl, subst, sym, ap, ◌∙◌, arith, length-append}
use Rattle.std.specs.Prelude.{All, Contains}
use Rattle.std.proofs.lemmas.List.{map-append}
use Rattle.std.proofs.lemmas.List.Elements.{All-contains, All-contains_itself, All-head, All-push, All-tail, All-weaker, Contains-append_left}
use Rattle.named.specs.Brokers.{Brokered}
use Rattle.named.specs.GoingOn.{BrokerGoesOn, CameOf}
use Rattle.named.specs.GoingOn.CameOf.{rotated, unrotated}
use Rattle.named.specs.Promises.{KeepsPromises}
use Rattle.named.specs.Renewing.{IsRenewedAt}
use Rattle.named.specs.Rotating.{IsRotated}
use Rattle.session.specs.Keeping.{SessionGoesOn}
use Rattle.session.specs.Sessions.{Sessioned}
use Rattle.workers.specs.Coming.{CameThrough}
use Rattle.workers.specs.Coming.CameThrough.{renewed, unrenewed}
use Rattle.witness.specs.Accounts.{Known}
use Rattle.witness.specs.Rule.{Begins}
use Rattle.workers.specs.Moments.{AreMarks, GoesOnLater, latest, marked_in}
use Rattle.workers.proofs.brokers.Comings.{through_further, through_itself, through_renewal, through_rotation}

-- what was settled once stays so over two acts
pub session_further : (old now new : Sessioned) → SessionGoesOn old now → SessionGoesOn now new → SessionGoesOn old new
session_further old now new one other = record {
  clients = λ slot client is. other.clients slot client (one.clients slot client is);
  answers = λ slot client number reply is settled.
      other.answers slot client number reply (one.clients slot client is)
      (one.answers slot client number reply is settled);
}

-- and over none
pub session_stays : (s : Sessioned) → SessionGoesOn s s
session_stays s = record { clients = λ slot client is. is; answers = λ slot client number reply is settled. settled }

-- what came of what came of a broker came of it
record Through (first new : Brokered) : Type 0 where
  ended : Bool
  came : CameThrough first ended new

through_unrenewed : (first now new : Brokered) (was ended : Bool) → CameThrough first was now → CameOf now ended new
    → Through first new
through_unrenewed first now new was false before (unrotated on) =
    record { ended = was; came = through_further first was now new before on }
through_unrenewed first now new was true before (rotated {was = w} {ended = e} {begun = b} came explained rotation on) =
    let until : Through first e = through_unrenewed first now e was w before came in
    record {
      ended = true;
      came = through_further first true b new
          (through_rotation first until.ended e b until.came explained rotation) on;
    }

through_more : (first now new : Brokered) (was ended : Bool) → CameThrough first was now → CameThrough now ended new
    → Through first new
through_more first now new was ended before (unrenewed came) = through_unrenewed first now new was ended before came
through_more first now new was true before (renewed {was = w} {old = o} {begun = b} came explained renewal on) =
    let until : Through first o = through_more first now o was w before came in
    record { ended = true; came = renewed until.came explained renewal on }

pub later_itself : (s : Sessioned) → GoesOnLater s s
later_itself s = record { numbers = session_stays s; ended = false; came = through_itself s.broker }

-- over an act that is no rotation
pub later_further : (earlier now new : Sessioned) → GoesOnLater earlier now → SessionGoesOn now new
    → BrokerGoesOn now.broker new.broker → GoesOnLater earlier new
later_further earlier now new before numbers queues = record {
  numbers = session_further earlier now new before.numbers numbers;
  ended = before.ended;
  came = through_further earlier.broker before.ended now.broker new.broker before.came queues;
}

pub later_rotated : (earlier now new : Sessioned) → GoesOnLater earlier now → SessionGoesOn now new
    → KeepsPromises now.broker → IsRotated now.broker new.broker → GoesOnLater earlier new
later_rotated earlier now new before numbers explained rotation = record {
  numbers = session_further earlier now new before.numbers numbers;
  ended = true;
  came = through_rotation earlier.broker before.ended now.broker new.broker before.came explained rotation;
}

pub later_renewed : (earlier now new : Sessioned) (slot : ℕ) → GoesOnLater earlier now → SessionGoesOn now new
    → KeepsPromises now.broker → IsRenewedAt now.broker new.broker slot → GoesOnLater earlier new
later_renewed earlier now new slot before numbers explained renewal = record {
  numbers = session_further earlier now new before.numbers numbers;
  ended = true;
  came = through_renewal earlier.broker before.ended now.broker new.broker slot before.came explained renewal;
}

-- over two stretches
pub later_still : (earlier now new : Sessioned) → GoesOnLater earlier now → GoesOnLater now new → GoesOnLater earlier new
later_still earlier now new before more =
    let through : Through earlier.broker new.broker =
    through_more earlier.broker now.broker new.broker before.ended more.ended before.came more.came in
    record {
      numbers = session_further earlier now new before.numbers more.numbers;
      ended = through.ended;
      came = through.came;
    }

-- each of these sessions
pub all_later : (marked : List Sessioned) (now new : Sessioned) → All (λ s. GoesOnLater s now) marked
    → GoesOnLater now new → All (λ s. GoesOnLater s new) marked
all_later marked now new all on =
    All-weaker (λ s. GoesOnLater s now) (λ s. GoesOnLater s new) (λ s before. later_still s now new before on) marked all

-- what is marked behind others is the last one
pub latest_is : (marked : List Sessioned) (s : Sessioned) → latest (marked ++ s ∷ []) ≡ s
latest_is [] s = refl
latest_is (x ∷ []) s = refl
latest_is (x ∷ y ∷ marked) s = latest_is (y ∷ marked) s

-- what holds of each holds of the last one
pub latest_among : (P : Sessioned → Type 0) (marked : List Sessioned) → 0 < length marked → All P marked → P (latest marked)
latest_among P [] some all = absurd (omega (arith, some))
latest_among P (x ∷ []) some all = All-head P x [] all
latest_among P (x ∷ y ∷ marked) some all = latest_among P (y ∷ marked) (omega arith) (All-tail P x (y ∷ marked) all)

-- one more
pub marks_more : (marked : List Sessioned) (s : Sessioned) → All (λ m. GoesOnLater m s) marked → AreMarks (marked ++ s ∷ [])
marks_more marked s all = record {
  some = omega (arith, length-append marked (s ∷ []));
  later = subst (λ (last : Sessioned). All (λ m. GoesOnLater m last) (marked ++ s ∷ [])) (sym (latest_is marked s))
      (All-push (λ m. GoesOnLater m s) marked s all (later_itself s));
}

-- the last one of a beginning is among all
pub latest_begins : (some all : List Sessioned) → 0 < length some → Begins some all → Contains all (latest some)
latest_begins some all one begins =
    latest_among (Contains all) some one
    (All-weaker (Contains some) (Contains all)
    (λ s there. subst (λ (xs : List Sessioned). Contains xs s) (sym begins.is) (Contains-append_left some begins.more s there))
    some (All-contains_itself some))

-- of marks that begin others the last one is of a session from which the last of those goes on
pub marks_later : (some all : List Sessioned) → AreMarks some → AreMarks all → Begins some all
    → GoesOnLater (latest some) (latest all)
marks_later some all one other begins =
    All-contains (λ s. GoesOnLater s (latest all)) all (latest some) other.later (latest_begins some all one.some begins)

-- the session of a mark that is entered behind others
pub marked_is : (marks : List (Known Sessioned)) (mark : Known Sessioned)
    → latest (marked_in (marks ++ mark ∷ [])) ≡ latest mark.entries
marked_is marks mark =
    ap latest (map-append (λ (m : Known Sessioned). latest m.entries) marks (mark ∷ []))
    ∙ latest_is (marked_in marks) (latest mark.entries)

-- marks that begin others are of sessions that begin theirs
pub marked_begins : (some all : List (Known Sessioned)) → Begins some all → Begins (marked_in some) (marked_in all)
marked_begins some all begins = record {
  more = marked_in begins.more;
  is = ap marked_in begins.is ∙ map-append (λ (mark : Known Sessioned). latest mark.entries) some begins.more;
}
