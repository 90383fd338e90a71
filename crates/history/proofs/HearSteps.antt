-- What a client is told, by its last call in the order.
use Rattle.std.proofs.Common.{ℕ, ◌≡◌, ◌<◌, ◌≤◌, ◌+◌, ◌⊎◌, List, Option, Some, None, slice_get, get_or, length, inl, inr}
use Rattle.std.proofs.Common.{refl, ap, arith, subst, sym, ◌∙◌, ⊎_elim}
use Rattle.std.specs.Prelude.{EachIndex}
use Rattle.std.proofs.lemmas.Bool.{cases_lt}
use Rattle.std.proofs.lemmas.Option.{slice_get_within, slice_get-get_or, get_or_from_slice_get}
use Rattle.words.specs.declared.call.Client.{Client}
use Rattle.words.specs.declared.call.Kind.{Kind}
use Rattle.words.specs.declared.call.Kind.TheVariants.{Durable, Log}
use Rattle.words.specs.declared.call.Reply.{Reply}
use Rattle.words.specs.declared.call.Reply.TheVariants.{Got, Empty}
use Rattle.words.specs.declared.told.Outcome.{Outcome}
use Rattle.words.specs.declared.told.Outcome.TheVariants.{NotTaken, Taken}
use Rattle.words.specs.declared.told.Row.TheVariants.{NoCall, Open, Empty as row_empty, Got as row_got}
use Rattle.words.specs.declared.told.Told.{Told}
use Rattle.words.specs.declared.told.Told.TheVariants.{None as told_none, Verdict as told_verdict, Row as told_row}
use Rattle.events.specs.declared.event.Event.{Event}
use Rattle.events.specs.declared.event.Entry.{Entry}
use Rattle.events.specs.History.{BeginsAt}
use Rattle.events.specs.Orders.{IsTakenAs, InOrder, IsNew}
use Rattle.history.specs.Hearing.{IsOutcomeTaken, SaysTaken, SaysNotTaken, IsToldNotTakenIn, IsLastEntry}
use Rattle.history.specs.Hearing.{IsSaidLast, IsProgress, IsProgressTo, HasNoCall}
use Rattle.history.specs.Hearing.{IsToldOfAll, BeginsSomeTold, IsLaterEntry, TellsSixteen}
use Rattle.history.specs.Sweeps.{Ascends}
use Rattle.events.specs.Telling.{BeginsTold, BeginsTaken, HasNoneTaken, IsOutcome, IsRow, Says, IsToldSome}
use Rattle.events.specs.Telling.{TellsAt}
use Rattle.events.proofs.Facts.{in_order_from_taken, one_reply, taken_at, taken_from_in_order}

says_from_not_taken : (kind : Kind) (order : List Entry) (p number : ℕ) (told : Told) → (InOrder order p → ⊥)
    → SaysNotTaken kind number told → Says kind order p number told
says_from_not_taken Log order p number (told_verdict verdict) out says =
    (says.0, subst (IsOutcome order p) (sym says.1) out)
says_from_not_taken Log order p number (told_row row) out says = says
says_from_not_taken Log order p number told_none out says = says
says_from_not_taken Durable order p number (told_row row) out says = subst (IsRow order p) (sym says) out
says_from_not_taken Durable order p number (told_verdict verdict) out says = says
says_from_not_taken Durable order p number told_none out says = says

-- and the other way round
pub record IsSaidTaken (kind : Kind) (order : List Entry) (p number : ℕ) (told : Told) : Type 0 where
  pub reply : Reply
  pub taken : IsTakenAs order p reply
  pub says : SaysTaken kind number reply told

pub record IsSaidNotTaken (kind : Kind) (order : List Entry) (p number : ℕ) (told : Told) : Type 0 where
  pub out : InOrder order p → ⊥
  pub says : SaysNotTaken kind number told

says_cases : (kind : Kind) (order : List Entry) (p number : ℕ) (told : Told) → Says kind order p number told
    → IsSaidTaken kind order p number told ⊎ IsSaidNotTaken kind order p number told
says_cases Log order p number (told_verdict verdict) says = go verdict.outcome refl says.1
  where
    go : (outcome : Outcome) → verdict.outcome ≡ outcome → IsOutcome order p outcome
        → IsSaidTaken Log order p number (told_verdict verdict) ⊎ IsSaidNotTaken Log order p number
        (told_verdict verdict)
    go (Taken reply) same is = inl (record {
      reply = reply;
      taken = is;
      says = (says.0, subst (IsOutcomeTaken reply) (sym same) refl);
    })
    go NotTaken same is = inr (record { out = is; says = (says.0, same) })
says_cases Log order p number (told_row row) says = absurd says
says_cases Log order p number told_none says = absurd says
says_cases Durable order p number (told_row (row_got value)) says =
    inl (record { reply = Got value; taken = says; says = refl })
says_cases Durable order p number (told_row row_empty) says = inl (record { reply = Empty; taken = says; says = refl })
says_cases Durable order p number (told_row Open) says = inr (record { out = says; says = refl })
says_cases Durable order p number (told_row NoCall) says = absurd says
says_cases Durable order p number (told_verdict verdict) says = absurd says
says_cases Durable order p number told_none says = absurd says

-- fewer places, none taken
none_taken_less : (kind : Kind) (events : List Event) (order : List Entry) (client : Client) (from more to : ℕ)
    → from ≤ more → HasNoneTaken kind events order client from to
    → HasNoneTaken kind events order client more to
none_taken_less kind events order client from more to le none =
    record { none = λ p low high taken. none.none p (omega arith) high taken }

-- a client may be told of a later call than its last one in the order, which is not in it
pub some_from_not_taken : (kind : Kind) (events : List Event) (order : List Entry) (client : Client) (q from to : ℕ)
    (last : Option ℕ) (told : Told)
    → to ≤ q → IsProgress kind events order client q from last → IsToldNotTakenIn kind events client told from to
    → IsToldSome kind events order client q told
some_from_not_taken kind events order client q from to last told le progress not =
    let before : not.place < q = omega (arith, not.before) in
    record {
      place = not.place;
      before = before;
      tells = record {
        number = not.tells.number;
        begins = not.tells.begins;
        last = none_taken_less kind events order client from (not.place + 1) q (omega (arith, not.after)) progress.none;
        says = says_from_not_taken kind order not.place not.tells.number told
            (λ taken. progress.none.none not.place not.after before
            (record { number = not.tells.number; begins = not.tells.begins; taken = taken })) not.tells.says;
      };
    }

-- the last call in the order is in it
last_taken : (kind : Kind) (events : List Event) (order : List Entry) (client : Client) (from i : ℕ)
    → (is : IsLastEntry kind events order client from i) → BeginsTaken kind events order client is.entry.place
last_taken kind events order client from i is = record {
  number = is.number;
  begins = is.begins;
  taken = in_order_from_taken order is.entry.place is.entry.reply
      (taken_at order i is.entry.place is.entry.reply is.entry is.at refl refl);
}

-- a call of which a client is told is the last one in the order, or a later one
not_earlier : (kind : Kind) (events : List Event) (order : List Entry) (client : Client) (q from i p : ℕ)
    → IsProgress kind events order client q from (Some i) → HasNoneTaken kind events order client (p + 1) q
    → from ≤ p + 1
not_earlier kind events order client q from i p progress none =
    ⊎_elim
    (λ lt.
    let last : BeginsTaken kind events order client progress.is_last.entry.place =
    last_taken kind events order client from i progress.is_last in
    absurd (none.none progress.is_last.entry.place (omega (arith, lt, progress.is_last.next))
    (omega (arith, progress.low, progress.is_last.next)) last))
    (λ le. le)
    (cases_lt (p + 1) from)

pub some_cases : (kind : Kind) (events : List Event) (order : List Entry) (client : Client) (q from : ℕ)
    (last : Option ℕ) (told : Told)
    → EachIndex order (λ i. IsNew order i) → IsProgress kind events order client q from last
    → IsToldSome kind events order client q told
    → IsSaidLast kind events order client told last ⊎ IsToldNotTakenIn kind events client told from q
some_cases kind events order client q from None told once progress some =
    ⊎_elim
    (λ (said : IsSaidTaken kind order some.place some.tells.number told). absurd
    (progress.none.none some.place (omega (arith, progress.is_last)) some.before
    (record {
      number = some.tells.number;
      begins = some.tells.begins;
      taken = in_order_from_taken order some.place said.reply said.taken;
    })))
    (λ (said : IsSaidNotTaken kind order some.place some.tells.number told). inr
    (record {
      place = some.place;
      after = omega (arith, progress.is_last);
      before = some.before;
      tells = record { number = some.tells.number; begins = some.tells.begins; says = said.says };
    }))
    (says_cases kind order some.place some.tells.number told some.tells.says)
some_cases kind events order client q from (Some i) told once progress some =
    let high : from ≤ some.place + 1 = not_earlier kind events order client q from i some.place progress
    some.tells.last in
    ⊎_elim
    (λ (said : IsSaidTaken kind order some.place some.tells.number told).
    let low : some.place < from = ⊎_elim (λ lt. lt)
    (λ le. absurd (progress.none.none some.place le some.before
    (record {
      number = some.tells.number;
      begins = some.tells.begins;
      taken = in_order_from_taken order some.place said.reply said.taken;
    }))) (cases_lt some.place from) in
    let same : progress.is_last.entry.place ≡ some.place = omega (arith, high, low, progress.is_last.next) in
    let here : IsTakenAs order some.place progress.is_last.entry.reply =
    taken_at order i some.place progress.is_last.entry.reply progress.is_last.entry progress.is_last.at same refl in
    let one : progress.is_last.entry.reply ≡ said.reply =
    one_reply order once some.place progress.is_last.entry.reply said.reply here said.taken in
    inl (record {
      index = i;
      is = refl;
      says = record {
        entry = progress.is_last.entry;
        at = progress.is_last.at;
        number = some.tells.number;
        begins = subst (λ (n : ℕ). BeginsTold kind events client n some.tells.number) (sym same) some.tells.begins;
        says = subst (λ (r : Reply). SaysTaken kind some.tells.number r told) (sym one) said.says;
      };
    }))
    (λ (said : IsSaidNotTaken kind order some.place some.tells.number told).
    let after : from ≤ some.place = ⊎_elim (λ lt.
    let same : progress.is_last.entry.place ≡ some.place = omega (arith, high, lt, progress.is_last.next) in
    absurd (said.out (in_order_from_taken order some.place progress.is_last.entry.reply
    (taken_at order i some.place progress.is_last.entry.reply progress.is_last.entry progress.is_last.at same
    refl)))) (λ le. le) (cases_lt some.place from) in
    inr (record {
      place = some.place;
      after = after;
      before = some.before;
      tells = record { number = some.tells.number; begins = some.tells.begins; says = said.says };
    }))
    (says_cases kind order some.place some.tells.number told some.tells.says)

-- no call of the client from `to` on
pub not_taken_less : (kind : Kind) (events : List Event) (client : Client) (told : Told) (from to q : ℕ)
    → HasNoCall kind events client to q → IsToldNotTakenIn kind events client told from q
    → IsToldNotTakenIn kind events client told from to
not_taken_less kind events client told from to q none not =
    ⊎_elim
    (λ lt. record { place = not.place; after = not.after; before = lt; tells = not.tells })
    (λ le. absurd (none.none not.place not.tells.number le not.before not.tells.begins))
    (cases_lt not.place to)

-- no call of the client is in the order, where there is no last one
pub base_from_none : (kind : Kind) (events : List Event) (order : List Entry) (client : Client) (q from : ℕ)
    → IsProgress kind events order client q from None → HasNoneTaken kind events order client 0 q
base_from_none kind events order client q from progress =
    subst (λ (n : ℕ). HasNoneTaken kind events order client n q) progress.is_last progress.none

pub not_base_from_last : (kind : Kind) (events : List Event) (order : List Entry) (client : Client) (q from i : ℕ)
    → IsProgress kind events order client q from (Some i) → HasNoneTaken kind events order client 0 q → ⊥
not_base_from_last kind events order client q from i progress none =
    none.none progress.is_last.entry.place (omega arith) (omega (arith, progress.low, progress.is_last.next))
    (last_taken kind events order client from i progress.is_last)

-- a client of which neither is said is told of no call
pub not_some : (kind : Kind) (events : List Event) (order : List Entry) (client : Client) (q from to : ℕ)
    (last : Option ℕ) (told : Told)
    → EachIndex order (λ i. IsNew order i) → IsProgress kind events order client q from last
    → HasNoCall kind events client to q → (IsSaidLast kind events order client told last → ⊥)
    → (IsToldNotTakenIn kind events client told from to → ⊥) → IsToldSome kind events order client q told → ⊥
not_some kind events order client q from to last told once progress none no_last no_later some =
    ⊎_elim no_last (λ not. no_later (not_taken_less kind events client told from to q none not))
    (some_cases kind events order client q from last told once progress some)

-- an entry that is of no such call changes nothing
pub entry_same : (kind : Kind) (events : List Event) (order : List Entry) (client : Client) (q from i : ℕ)
    (last : Option ℕ) (d : Entry)
    → i < length order → (BeginsSomeTold kind events client (get_or order i d).place → ⊥)
    → IsProgressTo kind events order client q from last i
    → IsProgressTo kind events order client q from last (i + 1)
entry_same kind events order client q from i last d within other progress = record {
  low = progress.low;
  is_last = progress.is_last;
  below = λ j x number lt at begins.
      ⊎_elim
      (λ old. progress.below j x number old at begins)
      (λ new.
      let same : j ≡ i = omega arith in
      let is : get_or order i d ≡ x = get_or_from_slice_get order i x d (ap (slice_get order) (sym same) ∙ at) in
      absurd (other (record {
        number = number;
        begins = subst (λ (e : Entry). BeginsTold kind events client e.place number) (sym is) begins;
      })))
      (cases_lt j i);
  first = λ j is. let lt : j < i = progress.first j is in omega arith;
}

-- what is below `from` is below the next such call
below_next : (kind : Kind) (events : List Event) (order : List Entry) (client : Client) (q from i : ℕ)
    (last : Option ℕ) (place : ℕ) (entry : Entry)
    → Ascends events order client → IsProgressTo kind events order client q from last i
    → slice_get order i ≡ Some entry → BeginsAt events client entry.place → from ≤ entry.place
below_next kind events order client q from i None place entry ascends progress at begins =
    omega (arith, progress.is_last)
below_next kind events order client q from i (Some m) place entry ascends progress at begins =
    let last : IsLastEntry kind events order client from m = progress.is_last in
    let lt : last.entry.place < entry.place = ascends.each m i last.entry entry (progress.first m refl) last.at at
    (last.number, (last.begins.call, last.begins.begins)) begins in
    omega (arith, lt, last.next)

-- one that is, before the Ready, is the last
pub entry_more : (kind : Kind) (events : List Event) (order : List Entry) (client : Client) (q from i : ℕ)
    (last : Option ℕ) (d : Entry)
    → i < length order → Ascends events order client → (IsLaterEntry events order client q i → ⊥)
    → BeginsSomeTold kind events client (get_or order i d).place
    → IsProgressTo kind events order client q from last i
    → IsProgressTo kind events order client q ((get_or order i d).place + 1) (Some i) (i + 1)
entry_more kind events order client q from i last d within ascends earlier some progress =
    let at_i : slice_get order i ≡ Some (get_or order i d) = slice_get-get_or order i d within in
    let begins : BeginsAt events client (get_or order i d).place =
    (some.number, (some.begins.call, some.begins.begins)) in
    let next : from ≤ (get_or order i d).place =
    below_next kind events order client q from i last 0 (get_or order i d) ascends progress at_i begins in
    record {
      low = ⊎_elim (λ lt. omega (arith, lt))
          (λ le. absurd (earlier (record { entry = get_or order i d; at = at_i; begins = begins; late = le })))
          (cases_lt (get_or order i d).place q);
      is_last = record { entry = get_or order i d; at = at_i; number = some.number; begins = some.begins; next = refl };
      below = λ j x number lt at begun.
          ⊎_elim
          (λ old. let low : x.place < from = progress.below j x number old at begun in omega (arith, low, next))
          (λ new.
          let same : j ≡ i = omega arith in
          let is : get_or order i d ≡ x = get_or_from_slice_get order i x d (ap (slice_get order) (sym same) ∙ at) in
          omega (arith, ap (λ (e : Entry). e.place) is))
          (cases_lt j i);
      first = λ j is. let same : i ≡ j = cc is in omega arith;
    }

-- a call in the order before the Ready stands below `from`, among the entries that were looked at
none_from : (kind : Kind) (events : List Event) (order : List Entry) (client : Client) (q from n : ℕ) (last : Option ℕ)
    → IsProgressTo kind events order client q from last n
    → ((j : ℕ) (x : Entry) → n ≤ j → slice_get order j ≡ Some x → BeginsAt events client x.place → q ≤ x.place)
    → HasNoneTaken kind events order client from q
none_from kind events order client q from n last progress later = record {
  none = λ p low high taken.
      let some = taken_from_in_order order p taken.taken in
      let at : slice_get order some.1.0 ≡ Some (record { place = p; reply = some.0 }) =
      slice_get-get_or order some.1.0 _ some.1.1 ∙ ap Some some.1.2 in
      ⊎_elim
      (λ lt. let below : p < from = progress.below some.1.0 _ taken.number lt at taken.begins in omega (arith, below))
      (λ le. let late : q ≤ p = later some.1.0 _ le at (taken.number, (taken.begins.call, taken.begins.begins)) in
      omega (arith, late))
      (cases_lt some.1.0 n);
}

pub progress_at : (kind : Kind) (events : List Event) (order : List Entry) (client : Client) (q from i : ℕ)
    (last : Option ℕ)
    → Ascends events order client → IsProgressTo kind events order client q from last i
    → IsLaterEntry events order client q i → IsProgress kind events order client q from last
progress_at kind events order client q from i last ascends progress later = record {
  low = progress.low;
  is_last = progress.is_last;
  none = none_from kind events order client q from i last progress (λ j x le at begins.
      ⊎_elim
      (λ lt. let above : later.entry.place < x.place =
      ascends.each i j later.entry x lt later.at at later.begins begins in omega (arith, above, later.late))
      (λ more. let same : i ≡ j = omega arith in
      let is : later.entry ≡ x = cc (later.at, at, ap (slice_get order) same) in
      omega (arith, later.late, ap (λ (e : Entry). e.place) is))
      (cases_lt i j));
}

pub progress_end : (kind : Kind) (events : List Event) (order : List Entry) (client : Client) (q from n : ℕ)
    (last : Option ℕ)
    → length order ≤ n → IsProgressTo kind events order client q from last n
    → IsProgress kind events order client q from last
progress_end kind events order client q from n last all progress = record {
  low = progress.low;
  is_last = progress.is_last;
  none = none_from kind events order client q from n last progress
      (λ j x le at begins. let within : j < length order = slice_get_within order j x at in absurd (omega arith));
}

-- at the end all entries are looked at
pub progress_all : (kind : Kind) (events : List Event) (order : List Entry) (client : Client) (q from n : ℕ)
    (last : Option ℕ)
    → length order ≤ n → n ≤ length order → IsProgressTo kind events order client q from last n
    → IsProgressTo kind events order client q from last (length order)
progress_all kind events order client q from n last all few progress = let same : n ≡ length order = omega arith in
    subst (IsProgressTo kind events order client q from last) same progress

-- later it is so too
pub progress_later : (kind : Kind) (events : List Event) (order : List Entry) (client : Client) (q from n : ℕ)
    (last : Option ℕ)
    → IsProgressTo kind events order client q from last n
    → IsProgressTo kind events order client (q + 1) from last n
progress_later kind events order client q from n last progress =
    record {
      low = omega (arith, progress.low);
      is_last = progress.is_last;
      below = progress.below;
      first = progress.first;
    }

-- all clients are told rightly where each is
pub tells_from_clients : (kind : Kind) (base : List Told) (events : List Event) (order : List Entry)
    → EachIndex events (λ q. TellsSixteen events q)
    → ((client : Client) → client.0 < 16 → IsToldOfAll kind base events order client)
    → EachIndex events (λ q. TellsAt kind base events order q)
tells_from_clients kind base events order sixteen each q within = record {
  told = λ tells at. record {
    each = λ client told is.
        let lt : client.0 < length tells = slice_get_within tells client.0 told is in
        let small : client.0 < 16 = omega (arith, lt, (sixteen q within).sixteen tells at) in
        ((each client small).each q within).each tells told at is;
  };
}

pub clients_from_tells : (kind : Kind) (base : List Told) (events : List Event) (order : List Entry) (client : Client)
    → EachIndex events (λ q. TellsAt kind base events order q) → IsToldOfAll kind base events order client
clients_from_tells kind base events order client tells = record {
  each = λ q within. record { each = λ others told at is. ((tells q within).told others at).each client told is };
}

-- one place more without a call of the client
pub no_call_more : (kind : Kind) (events : List Event) (client : Client) (from q : ℕ)
    → HasNoCall kind events client from q → (BeginsSomeTold kind events client q → ⊥)
    → HasNoCall kind events client from (q + 1)
no_call_more kind events client from q none here = record {
  none = λ p number low high begins.
      ⊎_elim
      (λ lt. none.none p number low lt begins)
      (λ le. let same : p ≡ q = omega arith in
      here (record {
        number = number;
        begins =
            subst (λ (n : ℕ). BeginsTold kind events client n number) same begins;
      }))
      (cases_lt p q);
}
