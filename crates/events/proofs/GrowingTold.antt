-- What clients were told at a Ready stays right when events are added, and when a call that begins after it enters the
-- order.
use Rattle.std.proofs.Common.{ℕ, ◌≡◌, ◌<◌, ◌≤◌, ◌+◌, List, ◌++◌, length, inl, inr, arith, ⊎_elim}
use Rattle.words.specs.declared.call.Call.{Call}
use Rattle.words.specs.declared.call.Client.{Client}
use Rattle.words.specs.declared.call.Kind.{Kind}
use Rattle.words.specs.declared.call.Kind.TheVariants.{Durable, Log}
use Rattle.words.specs.declared.call.Reply.{Reply}
use Rattle.words.specs.declared.told.Outcome.{Outcome}
use Rattle.words.specs.declared.told.Outcome.TheVariants.{NotTaken, Taken}
use Rattle.words.specs.declared.told.Row.{Row}
use Rattle.words.specs.declared.told.Row.TheVariants.{NoCall, Open, Empty as row_empty, Got as row_got}
use Rattle.words.specs.declared.told.Told.{Told}
use Rattle.words.specs.declared.told.Told.TheVariants.{None as told_none, Verdict as told_verdict, Row as told_row}
use Rattle.events.specs.declared.event.Event.{Event}
use Rattle.events.specs.declared.event.Entry.{Entry}
use Rattle.events.specs.History.{CallAt, ReadyAt}
use Rattle.events.specs.Orders.{IsTakenAs, InOrder}
use Rattle.events.specs.Telling.{HasNoneTaken, IsOutcome, IsRow, Says, TellsRightly, TellsAt}
use Rattle.events.proofs.Lists.{get_longer, get_before}

-- one order has what the other has, and beside it no call but that at p
pub record IsMoreBy (p : ℕ) (order more : List Entry) : Type 0 where
  pub kept : (q : ℕ) (reply : Reply) → IsTakenAs order q reply → IsTakenAs more q reply
  pub only : (q : ℕ) → (q ≡ p → ⊥) → InOrder more q → InOrder order q

-- an order has what it has itself
pub more_by_none : (p : ℕ) (order : List Entry) → IsMoreBy p order order
more_by_none p order = record { kept = λ q reply taken. taken; only = λ q other taken. taken }

pub none_taken_longer : (kind : Kind) (events more : List Event) (p : ℕ) (order grown : List Entry)
    (client : Client) (from to : ℕ)
    → to ≤ length events → to ≤ p → IsMoreBy p order grown → HasNoneTaken kind events order client from to
    → HasNoneTaken kind (events ++ more) grown client from to
none_taken_longer kind events more p order grown client from to within later by none = record {
  none = λ q low high taken.
      let lt : q < length events = omega arith in
      none.none q low high (record {
        number = taken.number;
        begins = record {
          call = taken.begins.call;
          begins = get_before events more q _ lt taken.begins.begins;
          told_of = taken.begins.told_of;
        };
        taken = by.only q (λ same. omega arith) taken.taken;
      });
}

pub outcome_longer : (p : ℕ) (order grown : List Entry) (q : ℕ) (outcome : Outcome) → (q ≡ p → ⊥)
    → IsMoreBy p order grown → IsOutcome order q outcome → IsOutcome grown q outcome
outcome_longer p order grown q (Taken reply) other by is = by.kept q reply is
outcome_longer p order grown q NotTaken other by is = λ taken. is (by.only q other taken)

pub row_longer : (p : ℕ) (order grown : List Entry) (q : ℕ) (row : Row) → (q ≡ p → ⊥) → IsMoreBy p order grown
    → IsRow order q row → IsRow grown q row
row_longer p order grown q (row_got value) other by is = by.kept q _ is
row_longer p order grown q row_empty other by is = by.kept q _ is
row_longer p order grown q Open other by is = λ taken. is (by.only q other taken)
row_longer p order grown q NoCall other by is = is

pub says_longer : (kind : Kind) (p : ℕ) (order grown : List Entry) (q number : ℕ) (told : Told) → (q ≡ p → ⊥)
    → IsMoreBy p order grown → Says kind order q number told → Says kind grown q number told
says_longer Log p order grown q number (told_verdict verdict) other by says =
    (says.0, outcome_longer p order grown q verdict.outcome other by says.1)
says_longer Log p order grown q number (told_row row) other by says = says
says_longer Log p order grown q number told_none other by says = says
says_longer Durable p order grown q number (told_row row) other by says = row_longer p order grown q row other by says
says_longer Durable p order grown q number (told_verdict verdict) other by says = says
says_longer Durable p order grown q number told_none other by says = says

-- what a Ready at q told is right still, where the one new call begins after it
pub rightly_longer : (kind : Kind) (base : List Told) (events more : List Event) (p : ℕ) (order grown : List Entry)
    (q : ℕ) (tells : List Told)
    → q ≤ length events → q ≤ p → IsMoreBy p order grown → TellsRightly kind base events order q tells
    → TellsRightly kind base (events ++ more) grown q tells
rightly_longer kind base events more p order grown q tells within later by rightly = record {
  each = λ client now is.
      ⊎_elim
      (λ some.
      let other : some.place ≡ p → ⊥ = λ same. omega (arith, some.before) in
      let lt : some.place < length events = omega (arith, some.before) in
      inl (record {
        place = some.place;
        before = some.before;
        tells = record {
          number = some.tells.number;
          begins = record {
            call = some.tells.begins.call;
            begins = get_longer events more some.place _ some.tells.begins.begins;
            told_of = some.tells.begins.told_of;
          };
          last = none_taken_longer kind events more p order grown client (some.place + 1) q
              (omega arith) later by some.tells.last;
          says = says_longer kind p order grown some.place some.tells.number now other by some.tells.says;
        };
      }))
      (λ old. inr (record {
        none = none_taken_longer kind events more p order grown client 0 q
            (omega arith) later by old.none;
        same = old.same;
      }))
      (rightly.each client now is);
}

-- so it is with a Ready that stands at an old place
pub tells_longer : (kind : Kind) (base : List Told) (events more : List Event) (p : ℕ) (order grown : List Entry)
    (q : ℕ)
    → q < length events → ((tells : List Told) → ReadyAt events q tells → q ≤ p) → IsMoreBy p order grown
    → TellsAt kind base events order q → TellsAt kind base (events ++ more) grown q
tells_longer kind base events more p order grown q within later by tells = record {
  told = λ told at.
      let old : ReadyAt events q told = get_before events more q _ within at in
      rightly_longer kind base events more p order grown q told (omega arith) (later told old) by (tells.told told old);
}

-- where there is no call, clients of both kinds of queue are told alike
pub tells_without_calls : (one other : Kind) (base : List Told) (events : List Event) (order : List Entry) (q : ℕ)
    → ((p number : ℕ) (client : Client) (call : Call) → CallAt events p client number call → ⊥)
    → TellsAt one base events order q → TellsAt other base events order q
tells_without_calls one other base events order q none tells = record {
  told = λ told at. record {
    each = λ client now is.
        ⊎_elim
        (λ some. absurd (none some.place some.tells.number client some.tells.begins.call some.tells.begins.begins))
        (λ old. inr (record {
          none = record {
            none =
                λ p low high taken. absurd (none p taken.number client taken.begins.call taken.begins.begins);
          };
          same = old.same;
        }))
        ((tells.told told at).each client now is);
  };
}
