-- How each act keeps what is so of the numbers of calls, and why none stands twice in the order.
use Rattle.std.proofs.Common.{[], ◌≡◌, ◌≢◌, ℕ, ◌<◌, ◌≤◌, ◌+◌, ◌⊎◌, inl, inr, List, ◌∷◌, ◌++◌, length, map, Some}
use Rattle.std.proofs.Common.{slice_get, slice_index, slice_set, refl, sym, ap, ◌∙◌, subst, arith, ⊎_elim, get_or}
use Rattle.std.specs.Prelude.{⊤, EachIndex, unwrap_or}
use Rattle.std.proofs.lemmas.Bool.{cases_eq, cases_lt}
use Rattle.std.proofs.lemmas.Grind.{get_or-set_at}
use Rattle.std.proofs.lemmas.List.{length-map, length-set, length-take, get_or-map, get_or-take, get_or-set_other}
use Rattle.std.proofs.lemmas.Option.{slice_get_within, slice_get-get_or, get_or_from_slice_get, unwrap_or-slice_get}
use Rattle.words.specs.PlainQueue.{Value}
use Rattle.words.specs.declared.call.Call.{Call}
use Rattle.words.specs.declared.call.Client.{Client}
use Rattle.words.specs.declared.call.Kind.{Kind}
use Rattle.words.specs.declared.call.Kind.TheVariants.{Log as log_kind}
use Rattle.words.specs.declared.call.Reply.{Reply}
use Rattle.words.specs.declared.limits.TheConstants.{MAX_CLIENTS}
use Rattle.words.specs.declared.told.Outcome.{Outcome}
use Rattle.words.specs.declared.told.Outcome.TheVariants.{NotTaken, Taken}
use Rattle.words.specs.declared.told.Told.{Told}
use Rattle.words.specs.declared.told.Told.TheVariants.{None as told_none, Verdict as told_verdict, Row as told_row}
use Rattle.interleave.specs.LogQueue.{floor_of, floor_from}
use Rattle.events.specs.Effects.{order_of}
use Rattle.events.specs.History.{CallAt, ReturnAt, ReadyAt, BeginsAt, IsOpenFrom, MayStand}
use Rattle.events.specs.Orders.{InOrder, IsNew}
use Rattle.events.specs.Telling.{BeginsTaken, IsOutcome, IsToldBase, IsToldSome, Says, TellsRightly}
use Rattle.events.specs.Trace.{IsTrace}
use Rattle.events.specs.declared.event.Effect.{Effect}
use Rattle.events.specs.declared.event.Entry.{Entry}
use Rattle.events.specs.declared.event.Event.{Event}
use Rattle.events.specs.declared.event.Event.TheVariants.{Call as call_event, Return as return_event}
use Rattle.events.specs.declared.event.Event.TheVariants.{Crash as crash_event, Ready as ready_event}
use Rattle.events.proofs.Facts.{begins_longer, get_before, get_last, get_longer, get_push_cases}
use Rattle.interleave.specs.Numbers.{HasNumber, IsEntryOf, IsInDoubt, told_floor, IsWithinFloors}
use Rattle.interleave.specs.Numbers.{NumbersAreOnce, NumbersRise}
use Rattle.interleave.specs.Queue.{told_to}
use Rattle.interleave.proofs.order.Entries.{ComesInOpen}

-- each event may stand where it stands
abbrev pub MayAllStand : List Event → Type 0
MayAllStand events = (p : ℕ) (event : Event) → slice_get events p ≡ Some event → MayStand events p event

-- a call that has neither returned nor been followed by a Ready is its client's last
pub in_doubt : (events : List Event) → MayAllStand events → (client : Client) (p : ℕ) → BeginsAt events client p
    → ((k : ℕ) (reply : Reply) → p < k → ReturnAt events k client reply → ⊥)
    → ((k : ℕ) (tells : List Told) → p < k → ReadyAt events k tells → ⊥) → IsInDoubt events client p
in_doubt events places client p begins no_return no_ready = record {
  last = λ k lt again.
      let may = places k _ again.1.1 in
      may.1.0 (record {
        place = p;
        before = lt;
        open_from = record {
          begins = begins;
          no_end = λ j low high ends. ⊎_elim
              (λ returned. no_return j returned.0 low returned.1)
              (λ crash. may.1.1 (record {
                place = j;
                before = high;
                crash = crash;
                no_ready = λ i tells after before ready. no_ready i tells (omega (arith, low, after)) ready;
              }))
              ends;
        };
      });
  no_return = no_return;
  no_ready = no_ready;
}

-- so is one that has no end yet
pub open_in_doubt : (kind : Kind) (base : List Value) (told : List Told) (events : List Event) (effects : List Effect)
    → IsTrace kind base told events effects → (client : Client) (p : ℕ)
    → IsOpenFrom events client (length events) p → IsInDoubt events client p
open_in_doubt kind base told events effects log client p open_from =
    in_doubt events log.places client p open_from.begins
    (λ k reply lt at. open_from.no_end k lt (slice_get_within events k _ at) (inl (reply, at)))
    (λ k tells lt at. (log.fresh k (slice_get_within events k _ at)).fresh tells client p at lt open_from)

-- calls without an end come into the order
pub rise_comes : (kind : Kind) (base : List Value) (told : List Told) (events : List Event) (floors : List ℕ)
    → (old new : List Effect) → IsTrace kind base told events old → ComesInOpen events old new
    → NumbersRise told events (order_of old) floors → NumbersRise told events (order_of new) floors
rise_comes kind base told events floors old new log comes v = record {
  sixteen = v.sixteen;
  rise = λ p q m n client has_m has_n lt there. ⊎_elim
      (λ before. v.rise p q m n client has_m has_n lt before)
      (λ opened. absurd ((doubt p m client has_m opened).last q lt (n, has_n)))
      (comes p there);
  within = λ p n client has there. ⊎_elim
      (λ before. v.within p n client has before)
      (λ opened. inr (doubt p n client has opened))
      (comes p there);
  base = v.base;
  base_floors = v.base_floors;
}
  where
    doubt : (p n : ℕ) (client : Client) → HasNumber events client p n
        → ((c : Client) × IsOpenFrom events c (length events) p) → IsInDoubt events client p
    doubt p n client has opened =
        let same : opened.0 ≡ client = cc (opened.1.begins.1.1, has.1) in
        open_in_doubt kind base told events old log client p
        (subst (λ (c : Client). IsOpenFrom events c (length events) p) same opened.1)

-- the event tells the client what became of its call
abbrev pub Settles : Event → Client → Type 0
Settles (call_event client number call) other = ⊥
Settles (return_event client reply) other = client ≡ other
Settles crash_event other = ⊥
Settles (ready_event told) other = ⊤

-- after another event a call is in doubt still
doubt_push : (events : List Event) (event : Event) → MayAllStand (events ++ event ∷ []) → (client : Client) (p n : ℕ)
    → HasNumber events client p n → (Settles event client → ⊥) → IsInDoubt events client p
    → IsInDoubt (events ++ event ∷ []) client p
doubt_push events event places client p n has other doubt =
    in_doubt (events ++ event ∷ []) places client p (begins_longer events (event ∷ []) client p (n, has))
    (λ k reply lt at. ⊎_elim
    (λ old. doubt.no_return k reply lt old)
    (λ new. other (subst (λ (e : Event). Settles e client) (sym new.1) refl))
    (get_push_cases events event k _ at))
    (λ k tells lt at. ⊎_elim
    (λ old. doubt.no_ready k tells lt old)
    (λ new. other (subst (λ (e : Event). Settles e client) (sym new.1) tt))
    (get_push_cases events event k _ at))

-- a client accepted a number above its floor
pub rise_called : (told : List Told) (events : List Event) (effects : List Effect) (floors : List ℕ)
    → (c : Client) (number : ℕ) (call : Call) → (InOrder (order_of effects) (length events) → ⊥)
    → MayAllStand (events ++ call_event c number call ∷ []) → c.0 < MAX_CLIENTS → slice_index floors c.0 < number
    → NumbersRise told events (order_of effects) floors
    → NumbersRise told (events ++ call_event c number call ∷ []) (order_of effects) floors
rise_called told events effects floors c number call none places few above v = record {
  sixteen = v.sixteen;
  rise = λ p q m n client has_m has_n lt there. ⊎_elim
      (λ old. v.rise p q m n client
      (before p m client (omega (arith, lt, slice_get_within events q _ old)) has_m) (has_n.0, old) lt there)
      (λ new.
      let old = before p m client (omega (arith, lt, new.0)) has_m in
      let same : c ≡ client = cc new.1 in
      let last : number ≡ n = cc new.1 in
      ⊎_elim
      (λ le.
      let high = subst (λ (d : Client). slice_index floors d.0 < number) same above in
      omega (arith, le, high, last))
      (λ doubt. absurd ((still p m client old doubt).last q lt (n, has_n)))
      (v.within p m client old there))
      (get_push_cases events event q _ has_n.1);
  within = λ p n client has there. ⊎_elim
      (λ old. ⊎_elim
      (λ le. inl le)
      (λ doubt. inr (still p n client (has.0, old) doubt))
      (v.within p n client (has.0, old) there))
      (λ new. absurd (none (subst (InOrder (order_of effects)) new.0 there)))
      (get_push_cases events event p _ has.1);
  base = λ p n client has. ⊎_elim
      (λ old. v.base p n client (has.0, old))
      (λ new.
      let same : c ≡ client = cc new.1 in
      let last : number ≡ n = cc new.1 in
      let least = subst (λ (d : Client). told_floor told d ≤ slice_index floors c.0) same (v.base_floors c few) in
      omega (arith, least, above, last))
      (get_push_cases events event p _ has.1);
  base_floors = v.base_floors;
}
  where
    event : Event
    event = call_event c number call

    before : (p n : ℕ) (client : Client) → p < length events → HasNumber (events ++ event ∷ []) client p n
        → HasNumber events client p n
    before p n client lt has = (has.0, get_before events (event ∷ []) p _ lt has.1)

    still : (p n : ℕ) (client : Client) → HasNumber events client p n → IsInDoubt events client p
        → IsInDoubt (events ++ event ∷ []) client p
    still p n client has doubt = doubt_push events event places client p n has (λ settles. settles) doubt

-- another event than a Call leaves the numbers of calls alone
module _ (told : List Told) (events : List Event) (event : Event) (order : List Entry) (floors new : List ℕ)
    (no_call : (client : Client) (number : ℕ) (call : Call) → event ≡ call_event client number call → ⊥)
    (v : NumbersRise told events order floors) where
  old_number : (p n : ℕ) (client : Client) → HasNumber (events ++ event ∷ []) client p n → HasNumber events client p n
  old_number p n client has = (
    has.0,
    ⊎_elim
        (λ old. old)
        (λ last. absurd (no_call client n has.0 last.1))
        (get_push_cases events event p _ has.1),
  )

  -- so they rise still, where the floors fit
  rise_pushed : length new ≡ MAX_CLIENTS
      → ((p n : ℕ) (client : Client) → HasNumber events client p n → InOrder order p
      → n ≤ slice_index new client.0 ⊎ IsInDoubt (events ++ event ∷ []) client p)
      → ((client : Client) → client.0 < MAX_CLIENTS → told_floor told client ≤ slice_index new client.0)
      → NumbersRise told (events ++ event ∷ []) order new
  rise_pushed sixteen within least = record {
    sixteen = sixteen;
    rise = λ p q m n client has_m has_n lt there.
        v.rise p q m n client (old_number p m client has_m) (old_number q n client has_n) lt there;
    within = λ p n client has there. within p n client (old_number p n client has) there;
    base = λ p n client has. v.base p n client (old_number p n client has);
    base_floors = least;
  }

-- the whole system stops
pub rise_crashed : (told : List Told) (events : List Event) (order : List Entry) (floors : List ℕ)
    → MayAllStand (events ++ crash_event ∷ []) → NumbersRise told events order floors
    → NumbersRise told (events ++ crash_event ∷ []) order floors
rise_crashed told events order floors places v =
    rise_pushed told events crash_event order floors floors (λ client number call e. cc) v v.sixteen
    (λ p n client has there. ⊎_elim
    (λ le. inl le)
    (λ doubt. inr (doubt_push events crash_event places client p n has (λ settles. settles) doubt))
    (v.within p n client has there))
    v.base_floors

-- a call returns: its number becomes the floor of its client
pub rise_returned : (kind : Kind) (base : List Value) (told : List Told) (events : List Event) (effects : List Effect)
    → (order : List Entry) (floors : List ℕ) (c : Client) (place number : ℕ) (reply : Reply)
    → IsTrace kind base told events effects → MayAllStand (events ++ return_event c reply ∷ [])
    → HasNumber events c place number → IsOpenFrom events c (length events) place
    → NumbersRise told events order floors
    → NumbersRise told (events ++ return_event c reply ∷ []) order (slice_set floors c.0 number)
rise_returned kind base told events effects order floors c place number reply log places has_number open_from v =
    rise_pushed told events event order floors new (λ client n call e. cc) v
    (length-set floors c.0 number ∙ v.sixteen) within least
  where
    event : Event
    event = return_event c reply

    new : List ℕ
    new = slice_set floors c.0 number

    few : c.0 < length floors
    few = let client_few = (log.places place _ has_number.1).0 in omega (arith, client_few, v.sixteen)

    floor_of_this : (client : Client) → client.0 ≡ c.0 → slice_index new client.0 ≡ number
    floor_of_this client e = get_or-set_at floors c.0 client.0 number 0 e few

    floor_of_other : (client : Client) → client.0 ≢ c.0 → slice_index new client.0 ≡ slice_index floors client.0
    floor_of_other client ne = get_or-set_other floors c.0 client.0 number 0 ne

    apart : (client : Client) → client.0 ≢ c.0 → Settles event client → ⊥
    apart client ne same = ne (ap (λ (x : Client). x.0) (sym same))

    last : IsInDoubt events c place
    last = open_in_doubt kind base told events effects log c place open_from

    -- of the client's calls in the order this one has the greatest number
    greatest : (p n : ℕ) → HasNumber events c p n → InOrder order p → n ≤ number
    greatest p n has there = ⊎_elim
        (λ lt. let less = v.rise p place n number c has has_number lt there in omega (arith, less))
        (λ ge. ⊎_elim
        (λ lt. absurd (last.last p lt (n, has)))
        (λ le.
        let same : p ≡ place = omega (arith, ge, le) in
        let at : CallAt events place c n has.0 = subst (λ (q : ℕ). CallAt events q c n has.0) same has.1 in
        let one : n ≡ number = cc (at, has_number.1) in
        omega (arith, one))
        (cases_lt place p))
        (cases_lt p place)

    within : (p n : ℕ) (client : Client) → HasNumber events client p n → InOrder order p
        → n ≤ slice_index new client.0 ⊎ IsInDoubt (events ++ event ∷ []) client p
    within p n client has there = ⊎_elim
        (λ e.
        let same : client ≡ c = ap (λ (i : ℕ). let x : Client = record { 0 = i } in x) e in
        let le = greatest p n (subst (λ (x : Client). HasNumber events x p n) same has) there in
        let at = floor_of_this client e in
        inl (omega (arith, le, at)))
        (λ ne.
        let at = floor_of_other client ne in
        ⊎_elim
        (λ le. inl (omega (arith, le, at)))
        (λ doubt. inr (doubt_push events event places client p n has (apart client ne) doubt))
        (v.within p n client has there))
        (cases_eq client.0 c.0)

    least : (client : Client) → client.0 < MAX_CLIENTS → told_floor told client ≤ slice_index new client.0
    least client client_few = ⊎_elim
        (λ e.
        let same : c ≡ client = ap (λ (i : ℕ). let x : Client = record { 0 = i } in x) (sym e) in
        let has = subst (λ (x : Client). HasNumber events x place number) same has_number in
        let above = v.base place number client has in
        let at = floor_of_this client e in
        omega (arith, above, at))
        (λ ne.
        let at = floor_of_other client ne in
        let low = v.base_floors client client_few in
        omega (arith, low, at))
        (cases_eq client.0 c.0)

-- the floor by what is told of a call is its number where it is in the order, and never less than one below it
floor_if_taken : (order : List Entry) (p number : ℕ) (told : Told) → Says log_kind order p number told
    → InOrder order p → floor_of told ≡ number
floor_if_taken order p number (told_verdict verdict) says there = go verdict.outcome says.1
  where
    go : (outcome : Outcome) → IsOutcome order p outcome → floor_from verdict.number outcome ≡ number
    go (Taken reply) is = says.0
    go NotTaken is = absurd (is there)
floor_if_taken order p number (told_row row) says there = absurd says
floor_if_taken order p number told_none says there = absurd says

pub floor_if_told : (order : List Entry) (p number : ℕ) (told : Told) → Says log_kind order p number told
    → number ≤ floor_of told + 1
floor_if_told order p number (told_verdict verdict) says = go verdict.outcome
  where
    go : (outcome : Outcome) → number ≤ floor_from verdict.number outcome + 1
    go (Taken reply) = omega (arith, says.0)
    go NotTaken = omega (arith, says.0)
floor_if_told order p number (told_row row) says = absurd says
floor_if_told order p number told_none says = absurd says

-- recovery is done: clients have their floors by what they are told
pub rise_ready : (base : List Value) (told : List Told) (events : List Event) (effects : List Effect) (floors : List ℕ)
    → (tells : List Told) → IsTrace log_kind base told (events ++ ready_event tells ∷ []) effects
    → NumbersRise told events (order_of effects) floors
    → NumbersRise told (events ++ ready_event tells ∷ []) (order_of effects) (map floor_of tells)
rise_ready base told events effects floors tells log v =
    rise_pushed told events event (order_of effects) floors new (λ client number call e. cc) v
    (length-map tells floor_of ∙ sixteen) (λ p n client has there. inl (within p n client has there)) least
  where
    event : Event
    event = ready_event tells

    new : List ℕ
    new = map floor_of tells

    more : List Event
    more = events ++ event ∷ []

    order : List Entry
    order = order_of effects

    ready : ReadyAt more (length events) tells
    ready = get_last events event

    sixteen : length tells ≡ MAX_CLIENTS
    sixteen = log.sixteen (length events) tells ready

    rightly : TellsRightly log_kind told more order (length events) tells
    rightly = (log.tells (length events) (slice_get_within more (length events) _ ready)).told tells ready

    -- what the client is told, and its floor by that
    told_at : Client → Told
    told_at client = get_or tells client.0 told_none

    is_told : (client : Client) → client.0 < MAX_CLIENTS → slice_get tells client.0 ≡ Some (told_at client)
    is_told client few = slice_get-get_or tells client.0 told_none (omega (arith, few, sixteen))

    floor_at : (client : Client) → client.0 < MAX_CLIENTS → slice_index new client.0 ≡ floor_of (told_at client)
    floor_at client few = get_or-map floor_of tells client.0 told_none 0 (omega (arith, few, sixteen))

    taken : (p n : ℕ) (client : Client) → HasNumber events client p n → InOrder order p
        → BeginsTaken log_kind more order client p
    taken p n client has there = record {
      number = n;
      begins = record { call = has.0; begins = get_longer events (event ∷ []) p _ has.1; told_of = tt };
      taken = there;
    }

    -- the call that it is told of, with its number
    told_call : (client : Client) (x : Told) → (some : IsToldSome log_kind more order client (length events) x)
        → HasNumber events client some.place some.tells.number
    told_call client x some =
        (some.tells.begins.call, get_before events (event ∷ []) some.place _ some.before some.tells.begins.begins)

    by_call : (p n : ℕ) (client : Client) (x : Told) → HasNumber events client p n → InOrder order p
        → IsToldSome log_kind more order client (length events) x → n ≤ floor_of x
    by_call p n client x has there some =
        let a = some.place in
        let m = some.tells.number in
        let at_a = told_call client x some in
        let high = floor_if_told order a m x some.tells.says in
        let within = slice_get_within events p _ has.1 in
        ⊎_elim
        (λ lt. let less = v.rise p a n m client has at_a lt there in omega (arith, less, high))
        (λ ge. ⊎_elim
        (λ lt. absurd (some.tells.last.none p (omega (arith, lt)) within (taken p n client has there)))
        (λ le.
        let same : p ≡ a = omega (arith, ge, le) in
        let at : CallAt events a client n has.0 = subst (λ (q : ℕ). CallAt events q client n has.0) same has.1 in
        let one : n ≡ m = cc (at, at_a.1) in
        let floor = floor_if_taken order a m x some.tells.says (subst (InOrder order) same there) in
        omega (arith, one, floor))
        (cases_lt a p))
        (cases_lt p a)

    within : (p n : ℕ) (client : Client) → HasNumber events client p n → InOrder order p
        → n ≤ slice_index new client.0
    within p n client has there =
        let few = (log.places p _ (get_longer events (event ∷ []) p _ has.1)).0 in
        let before = slice_get_within events p _ has.1 in
        let low : n ≤ floor_of (told_at client) = ⊎_elim
        (λ some. by_call p n client (told_at client) has there some)
        (λ none. absurd (none.none.none p (omega arith) before (taken p n client has there)))
        (rightly.each client (told_at client) (is_told client few)) in
        let floor = floor_at client few in
        omega (arith, low, floor)

    least : (client : Client) → client.0 < MAX_CLIENTS → told_floor told client ≤ slice_index new client.0
    least client few =
        let x = told_at client in
        let low : told_floor told client ≤ floor_of x = ⊎_elim
        (λ some.
        let m = some.tells.number in
        let above = v.base some.place m client (told_call client x some) in
        let high = floor_if_told order some.place m x some.tells.says in
        omega (arith, above, high))
        (λ none.
        let same : told_floor told client ≡ floor_of x = ap (λ o. floor_of (unwrap_or o told_none)) none.same in
        omega (arith, same))
        (rightly.each client x (is_told client few)) in
        let floor = floor_at client few in
        omega (arith, low, floor)

-- where a client is told rightly, its numbers in the order are at most the floor by what it is told
pub told_covers : (told : List Told) (events : List Event) (order : List Entry) (floors : List ℕ)
    → NumbersRise told events order floors → (client : Client) (x : Told)
    → IsToldSome log_kind events order client (length events) x
    ⊎ IsToldBase log_kind told events order client (length events) x
    → (p n : ℕ) → HasNumber events client p n → InOrder order p → n ≤ floor_of x
told_covers told events order floors v client x rightly p n has there = ⊎_elim
    (λ some.
    let a = some.place in
    let m = some.tells.number in
    let at_a : HasNumber events client a m = (some.tells.begins.call, some.tells.begins.begins) in
    ⊎_elim
    (λ lt.
    let less = v.rise p a n m client has at_a lt there in
    let high = floor_if_told order a m x some.tells.says in
    omega (arith, less, high))
    (λ ge. ⊎_elim
    (λ lt. absurd (some.tells.last.none p (omega (arith, lt)) within taken))
    (λ le.
    let same : p ≡ a = omega (arith, ge, le) in
    let at : CallAt events a client n has.0 = subst (λ (q : ℕ). CallAt events q client n has.0) same has.1 in
    let one : n ≡ m = cc (at, at_a.1) in
    let floor = floor_if_taken order a m x some.tells.says (subst (InOrder order) same there) in
    omega (arith, one, floor))
    (cases_lt a p))
    (cases_lt p a))
    (λ none. absurd (none.none.none p (omega arith) within taken))
    rightly
  where
    within : p < length events
    within = slice_get_within events p _ has.1

    taken : BeginsTaken log_kind events order client p
    taken = record {
      number = n;
      begins = record { call = has.0; begins = has.1; told_of = tt };
      taken = there;
    }

-- where the history begins, clients have their floors by what the base tells
pub rise_begun : (told : List Told) → length told ≡ MAX_CLIENTS → NumbersRise told [] [] (map floor_of told)
rise_begun told sixteen = record {
  sixteen = length-map told floor_of ∙ sixteen;
  rise = λ p q m n client has_m has_n lt there. cc (has_m.1);
  within = λ p n client has there. cc (has.1);
  base = λ p n client has. cc (has.1);
  base_floors = λ client few.
      let within : client.0 < length told = omega (arith, few, sixteen) in
      let floor = get_or-map floor_of told client.0 told_none 0 within in
      let same : told_to told client ≡ get_or told client.0 told_none = unwrap_or-slice_get told client.0 told_none in
      let low : told_floor told client ≡ floor_of (get_or told client.0 told_none) = ap floor_of same in
      omega (arith, floor, low);
}

-- an entry's call is in the order
pub there_at : (order : List Entry) (i : ℕ) (x : Entry) → slice_get order i ≡ Some x → InOrder order x.place
there_at order i x at = (i, x, slice_get_within order i x at, get_or_from_slice_get order i x x at, refl)

-- two entries have two places
once_in : (order : List Entry) → EachIndex order (λ i. IsNew order i) → (i j : ℕ) (x y : Entry) → i < j
    → slice_get order i ≡ Some x → slice_get order j ≡ Some y → x.place ≡ y.place → ⊥
once_in order once i j x y lt at_i at_j same =
    let within : j < length order = slice_get_within order j y at_j in
    (once j within).none y at_j (
      i,
      x,
      omega (arith, lt, within, length-take j order),
      get_or-take j order i x lt ∙ get_or_from_slice_get order i x x at_i,
      same,
    )

-- so no two entries have one client and number
pub numbers_once : (told : List Told) (events : List Event) (order : List Entry) (floors : List ℕ)
    → EachIndex order (λ i. IsNew order i) → NumbersRise told events order floors
    → NumbersAreOnce told events order floors
numbers_once told events order floors once v = record {
  once = λ i j number client x y. ⊎_elim
      (λ lt. absurd (apart i j number client x y lt))
      (λ ge. ⊎_elim
      (λ lt. absurd (apart j i number client y x lt))
      (λ le. omega (arith, ge, le))
      (cases_lt j i))
      (cases_lt i j);
  within = λ i number client x. v.within x.entry.place number client x.has_number (there_at order i x.entry x.at);
  base = λ i number client x. v.base x.entry.place number client x.has_number;
}
  where
    apart : (i j number : ℕ) (client : Client) → IsEntryOf events order i client number
        → IsEntryOf events order j client number → i < j → ⊥
    apart i j number client x y lt = ⊎_elim
        (λ before.
        let there = there_at order i x.entry x.at in
        let less = v.rise x.entry.place y.entry.place number number client x.has_number y.has_number before there in
        omega (arith, less))
        (λ ge. ⊎_elim
        (λ before.
        let there = there_at order j y.entry y.at in
        let less = v.rise y.entry.place x.entry.place number number client y.has_number x.has_number before there in
        omega (arith, less))
        (λ le. once_in order once i j x.entry y.entry lt x.at y.at (omega (arith, ge, le)))
        (cases_lt y.entry.place x.entry.place))
        (cases_lt x.entry.place y.entry.place)

-- and none of them is above its client's floor where a Ready came last
pub within_floors : (told : List Told) (events : List Event) (order : List Entry) (floors : List ℕ) (tells : List Told)
    → NumbersRise told (events ++ ready_event tells ∷ []) order floors
    → IsWithinFloors (events ++ ready_event tells ∷ []) order floors
within_floors told events order floors tells v i number client x = ⊎_elim
    (λ le. le)
    (λ doubt. absurd (doubt.no_ready (length events) tells before (get_last events (ready_event tells))))
    (v.within x.entry.place number client x.has_number (there_at order i x.entry x.at))
  where
    before : x.entry.place < length events
    before = ⊎_elim
        (λ old. slice_get_within events x.entry.place _ old)
        (λ new. cc (new.1))
        (get_push_cases events (ready_event tells) x.entry.place _ x.has_number.1)
