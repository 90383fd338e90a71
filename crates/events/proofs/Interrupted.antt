-- A log queue's client that is told rightly is told of its interrupted call, where that is in the order.
use Rattle.std.proofs.Common.{ℕ, ◌≡◌, ◌<◌, ◌⊎◌, List, Some, slice_get, get_or, length, take, refl, ap, arith, subst}
use Rattle.std.proofs.Common.{◌∙◌, ⊎_elim}
use Rattle.std.specs.Prelude.{All, Contains, EachIndex}
use Rattle.std.proofs.lemmas.Bool.{cases_lt}
use Rattle.std.proofs.lemmas.List.{get_or-take, length-take}
use Rattle.std.proofs.lemmas.List.Elements.{All-weaker, All-contains_itself}
use Rattle.std.proofs.lemmas.Option.{slice_get_within, slice_get-get_or}
use Rattle.words.specs.declared.call.Call.{Call}
use Rattle.words.specs.declared.call.Client.{Client}
use Rattle.words.specs.declared.call.Kind.TheVariants.{Log}
use Rattle.words.specs.declared.call.Reply.{Reply}
use Rattle.words.specs.declared.told.Outcome.{Outcome}
use Rattle.words.specs.declared.told.Outcome.TheVariants.{NotTaken, Taken}
use Rattle.words.specs.declared.told.Told.{Told}
use Rattle.words.specs.declared.told.Told.TheVariants.{None as told_none, Verdict as told_verdict, Row as told_row}
use Rattle.events.specs.declared.event.Event.{Event}
use Rattle.events.specs.declared.event.Entry.{Entry}
use Rattle.events.specs.History.{CallAt, CrashAt, ReadyAt, BeginsAt, IsEnd, MayStand}
use Rattle.events.specs.Orders.{IsTakenAs, InOrder, IsNew}
use Rattle.events.specs.Telling.{BeginsTaken, IsOutcome, Says, TellsAt, IsNextReady, IsToldSome, IsToldBase}
use Rattle.events.specs.Telling.{IsToldIfInterrupted}
use Rattle.events.proofs.Members.{in_order_from_taken}

-- of calls none of which is twice in the order, each has one reply
pub one_reply : (order : List Entry) → EachIndex order (λ i. IsNew order i) → (p : ℕ) (one other : Reply)
    → IsTakenAs order p one → IsTakenAs order p other → one ≡ other
one_reply order once p one other (k, k_lt, k_is) (j, j_lt, j_is) =
    let x : Entry = record { place = p; reply = one } in
    let y : Entry = record { place = p; reply = other } in
    let at_k : slice_get order k ≡ Some x = slice_get-get_or order k x k_lt ∙ ap Some k_is in
    let at_j : slice_get order j ≡ Some y = slice_get-get_or order j y j_lt ∙ ap Some j_is in
    ⊎_elim
    (λ lt. absurd ((once j j_lt).none y at_j (earlier order k j x lt j_lt k_is)))
    (λ le. ⊎_elim
    (λ lt. absurd ((once k k_lt).none x at_k (earlier order j k y lt k_lt j_is)))
    (λ more. let same : k ≡ j = omega arith in let entries : x ≡ y = cc (at_k, at_j, ap (slice_get order) same) in
    ap (λ (e : Entry). e.reply) entries)
    (cases_lt j k))
    (cases_lt k j)
  where
    earlier : (order : List Entry) (k j : ℕ) (x : Entry) → k < j → j < length order → get_or order k x ≡ x
        → InOrder (take j order) x.place
    earlier order k j x lt within is = (k, x, omega (arith, length-take j order), get_or-take j order k x lt ∙ is, refl)

-- no call of the client stands between its interrupted call and the next Ready
none_between : (events : List Event)
    → ((p : ℕ) (event : Event) → slice_get events p ≡ Some event → MayStand events p event)
    → (client : Client) (p e q : ℕ) (tells : List Told) → BeginsAt events client p → IsEnd events client p e
    → CrashAt events e → IsNextReady events e q tells → (r : ℕ) → p < r → r < q → BeginsAt events client r → ⊥
none_between events places client p e q tells begins end crash next r after before later =
    ⊎_elim
    (λ lt. (places r _ later.1.1).1.0 (record {
      place = p;
      before = after;
      open_from = record { begins = begins; no_end = λ k low high. end.first k low (omega arith) };
    }))
    (λ le. ⊎_elim
    (λ lt. (places r _ later.1.1).1.1 (record {
      place = e;
      before = lt;
      crash = crash;
      no_ready = λ k told low high. next.first k told low (omega arith);
    }))
    (λ more. let same : r ≡ e = omega arith in let at : BeginsAt events client e =
    subst (BeginsAt events client) same later in cc (at.1.1, crash))
    (cases_lt e r))
    (cases_lt r e)

-- what says of a call in the order what became of it, says that it took effect
says_taken : (order : List Entry) → EachIndex order (λ i. IsNew order i)
    → (p number : ℕ) (reply : Reply) (now : Told) → IsTakenAs order p reply → Says Log order p number now
    → now ≡ told_verdict (record { number = number; outcome = Taken reply })
says_taken order once p number reply (told_verdict verdict) taken says = go verdict.outcome refl says.1
  where
    go : (outcome : Outcome) → verdict.outcome ≡ outcome → IsOutcome order p outcome
        → told_verdict verdict ≡ told_verdict (record { number = number; outcome = Taken reply })
    go (Taken other) same is =
        ap (λ (n : ℕ). told_verdict (record { number = n; outcome = verdict.outcome })) says.0
        ∙ ap (λ (o : Outcome). told_verdict (record { number = number; outcome = o }))
        (same ∙ ap Taken (one_reply order once p other reply is taken))
    go NotTaken same is = absurd (is (in_order_from_taken order p reply taken))
says_taken order once p number reply (told_row row) taken says = absurd says
says_taken order once p number reply told_none taken says = absurd says

-- a client is told of its interrupted call
told_of_interrupted : (base : List Told) (events : List Event) (order : List Entry)
    → ((p : ℕ) (event : Event) → slice_get events p ≡ Some event → MayStand events p event)
    → EachIndex order (λ i. IsNew order i) → (entry : Entry) → Contains order entry
    → (client : Client) (number e : ℕ) (call : Call) → CallAt events entry.place client number call
    → IsEnd events client entry.place e → CrashAt events e → (q : ℕ) (tells : List Told)
    → IsNextReady events e q tells → (now : Told)
    → IsToldSome Log events order client q now ⊎ IsToldBase Log base events order client q now
    → now ≡ told_verdict (record { number = number; outcome = Taken entry.reply })
told_of_interrupted base events order places once entry contained client number e call at end crash next_q tells
    next now rightly =
    let taken : BeginsTaken Log events order client entry.place =
    record {
      number = number;
      begins = record { call = call; begins = at; told_of = tt };
      taken = in_order_from_taken order entry.place entry.reply contained;
    } in
    let before : entry.place < next_q = omega (arith, end.after, next.after) in
    ⊎_elim
    (λ some. ⊎_elim
    (λ lt. absurd (some.tells.last.none entry.place (omega arith) before taken))
    (λ le. ⊎_elim
    (λ lt. absurd (none_between events places client entry.place e next_q tells
    (number, (call, at)) end crash next some.place lt some.before
    (some.tells.number, (some.tells.begins.call, some.tells.begins.begins))))
    (λ more.
    let same : some.place ≡ entry.place = omega arith in
    let same_number : some.tells.number ≡ number = cc (some.tells.begins.begins, at, ap (slice_get events) same) in
    says_taken order once entry.place number entry.reply now contained
    (subst (λ (n : ℕ). Says Log order entry.place n now) same_number
    (subst (λ (n : ℕ). Says Log order n some.tells.number now) same some.tells.says)))
    (cases_lt entry.place some.place))
    (cases_lt some.place entry.place))
    (λ old. absurd (old.none.none entry.place (omega arith) before taken))
    rightly

-- where sixteen clients are told rightly at each Ready, each entry's client is told of it if it was interrupted
pub told_if_interrupted : (base : List Told) (events : List Event) (order : List Entry)
    → ((p : ℕ) (event : Event) → slice_get events p ≡ Some event → MayStand events p event)
    → EachIndex order (λ i. IsNew order i)
    → ((q : ℕ) (tells : List Told) → ReadyAt events q tells → length tells ≡ 16)
    → EachIndex events (λ q. TellsAt Log base events order q)
    → All (λ entry. IsToldIfInterrupted events entry) order
told_if_interrupted base events order places once sixteen rightly =
    All-weaker (Contains order) (λ entry. IsToldIfInterrupted events entry) (λ entry contained. record {
      told = λ client number e call at end crash. record {
        told = λ q tells next.
            let small : client.0 < 16 = (places entry.place _ at).0 in
            let within : client.0 < length tells = omega (arith, small, sixteen q tells next.ready) in
            let now : slice_get tells client.0 ≡ Some (get_or tells client.0 told_none) =
            slice_get-get_or tells client.0 told_none within in
            now ∙ ap Some (told_of_interrupted base events order places once entry contained client number e call at
            end crash q tells next (get_or tells client.0 told_none)
            (((rightly q (slice_get_within events q _ next.ready)).told tells next.ready).each client _ now));
      };
    }) order (All-contains_itself order)
