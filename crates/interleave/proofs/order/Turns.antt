-- A call that goes on alone, and began last, comes last in the order.
use Rattle.std.proofs.Common.{◌≡◌, ◌≢◌, ℕ, suc, ◌<◌, ◌⊎◌, inl, inr, List, [], ◌∷◌, ◌++◌, length, Some, None, slice_get, refl, sym, ap, ◌∙◌, subst, arith}
use Rattle.std.specs.Prelude.{EachIndex, IsSome, Option}
use Rattle.std.proofs.lemmas.Bool.{cases_lt}
use Rattle.std.proofs.lemmas.List.{get_or-take, length-take}
use Rattle.std.proofs.lemmas.Option.{slice_get_within, get_or_from_slice_get}
use Rattle.words.specs.declared.call.Call.{Call}
use Rattle.words.specs.declared.call.Client.{Client}
use Rattle.words.specs.declared.call.Reply.{Reply}
use Rattle.words.specs.PlainQueue.{reply_of, served, Value}
use Rattle.words.specs.declared.told.Told.{Told}
use Rattle.events.specs.Explains.{Explains}
use Rattle.events.specs.History.{CallAt, ReturnAt, BeginsAt, EndsAt, IsEnd, IsOpenFrom, IsUnderWay, Precedes, IsHistory}
use Rattle.events.specs.Orders.{IsTakenAs, InOrder, IsNew}
use Rattle.events.specs.Parts.{IsPartOf, nothing, both, more}
use Rattle.events.specs.Replay.{call_of, call_at, queue_after, queue_after_call, IsServed}
use Rattle.events.specs.declared.event.Entry.{Entry}
use Rattle.events.specs.declared.event.Event.{Event}
use Rattle.events.specs.declared.event.Event.TheVariants.{Call as call_event, Return as return_event}
use Rattle.events.specs.declared.event.Event.TheVariants.{Crash as crash_event, Ready as ready_event}
use Rattle.events.proofs.Facts.{IsIn, Runs, begins_longer, contains_from_in, get_last, get_longer, get_push_cases}
use Rattle.events.proofs.Facts.{in_from_contains, in_order_from_taken, in_part, is_end_longer, one_reply, open_once}
use Rattle.events.proofs.Facts.{queue_longer, queue_push, runs_from_replays}
use Rattle.interleave.specs.Standing.{HasEnded}
use Rattle.interleave.proofs.order.Ends.{ended_or_open, end_within}

-- an item stands at a place
place_in : {X : Type 0} (xs : List X) (x : X) → IsIn x xs → (k : ℕ) × (slice_get xs k ≡ Some x)
place_in [] x is = absurd is
place_in (y ∷ xs) x (inl is) = (0, ap Some is)
place_in (y ∷ xs) x (inr is) = let at = place_in xs x is in (suc at.0, at.1)

-- items at two places are of two calls
abbrev pub AreApart : List Entry → Type 0
AreApart order = (i j : ℕ) (x y : Entry) → i < j → slice_get order i ≡ Some x → slice_get order j ≡ Some y
    → x.place ≢ y.place

-- nothing stands after this entry
abbrev pub IsLast : List Entry → Entry → Type 0
IsLast order entry = (i j : ℕ) (y : Entry) → i < j → slice_get order i ≡ Some entry → slice_get order j ≡ Some y → ⊥

-- an order of which another is a part, and that has one entry more, which stands last
pub one_more : {old new : List Entry} (entry : Entry) → IsPartOf old new → AreApart new
    → ((x : Entry) → IsIn x new → IsIn x old ⊎ (x ≡ entry)) → IsIn entry new → (IsIn entry old → ⊥)
    → IsLast new entry → new ≡ old ++ entry ∷ []
one_more entry nothing apart only there fresh last = absurd there
one_more entry (both {xs = old} {ys = new} x rest) apart only there fresh last =
    ap (λ (xs : List Entry). x ∷ xs) (one_more entry rest
    (λ i j a b lt at_i at_j. apart (suc i) (suc j) a b (omega (arith, lt)) at_i at_j)
    (λ y is. elim (only y (inr is)) [
      | inl (inl first) ↦
          let at = place_in new y is in
          absurd (apart 0 (suc at.0) x y (omega arith) refl at.1 (ap (λ (e : Entry). e.place) first))
      | inl (inr later) ↦ inl later
      | inr same ↦ inr same
    ])
    (elim there [ inl first ↦ absurd (fresh (inl first)) | inr later ↦ later ])
    (λ is. fresh (inr is))
    (λ i j y lt at_i at_j. last (suc i) (suc j) y (omega (arith, lt)) at_i at_j))
one_more entry (more {ys = new} y rest) apart only there fresh last = elim (only y (inl refl)) [
  | inl is ↦
      let at = place_in new y (in_part y rest is) in
      absurd (apart 0 (suc at.0) y y (omega arith) refl at.1 refl)
  | inr same ↦ alone y entry same rest (λ j z at. last 0 (suc j) z (omega arith) (ap Some same) at)
]
  where
    alone : {xs ys : List Entry} (x e : Entry) → x ≡ e → IsPartOf xs ys
        → ((j : ℕ) (z : Entry) → slice_get ys j ≡ Some z → ⊥) → x ∷ ys ≡ xs ++ e ∷ []
    alone x e same nothing none = ap (λ (y : Entry). y ∷ []) same
    alone x e same (both y rest) none = absurd (none 0 y refl)
    alone x e same (more y rest) none = absurd (none 0 y refl)

-- no call stands twice in an order
apart_if_new : (order : List Entry) → EachIndex order (λ i. IsNew order i) → AreApart order
apart_if_new order once i j x y lt at_i at_j same =
    let within : j < length order = slice_get_within order j y at_j in
    (once j within).none y at_j (
      i,
      x,
      omega (arith, lt, within, length-take j order),
      get_or-take j order i x lt ∙ get_or_from_slice_get order i x x at_i,
      same,
    )

-- a call that an order may name begins at its place
pub begins_if_call : (events : List Event) (p : ℕ) → IsSome (call_at events p)
    → (client : Client) × BeginsAt events client p
begins_if_call events p some = go (slice_get events p) refl some
  where
    go : (o : Option Event) → slice_get events p ≡ o → IsSome (call_of o) → (client : Client) × BeginsAt events client p
    go None e some = absurd (cc)
    go (Some (call_event client number call)) e some = (client, (number, (call, e)))
    go (Some (return_event client reply)) e some = absurd (cc)
    go (Some crash_event) e some = absurd (cc)
    go (Some (ready_event told)) e some = absurd (cc)

-- the last entry is served by what the others leave
runs_last : (events : List Event) (queue : List Value) (order : List Entry) (entry : Entry)
    → Runs events queue (order ++ entry ∷ []) → IsServed events (queue_after events queue order) entry
runs_last events queue [] entry runs = runs.0
runs_last events queue (x ∷ order) entry runs =
    runs_last events (queue_after_call queue (call_at events x.place)) order entry runs.1

-- a client's call that began last is answered, nobody else has one, and it did not stand in the order; calls that had
-- ended come into no order
module _ (base : List Value) (told : List Told) (events : List Event) (before after : List Entry) (client : Client)
    (reply : Reply) (arises : IsHistory events) (was : Explains base told events before)
    (is : Explains base told (events ++ return_event client reply ∷ []) after) (part : IsPartOf before after)
    (stays : (p : ℕ) (r : Reply) → HasEnded events p → IsTakenAs after p r → IsTakenAs before p r)
    (place number : ℕ) (call : Call) (begins : CallAt events place client number call)
    (last : suc place ≡ length events)
    (alone : (other : Client) → IsUnderWay events other (length events) → other ≡ client)
    (fresh : InOrder before place → ⊥) where
  abbrev answer : List Event
  answer = return_event client reply ∷ []

  abbrev own : Entry
  own = record { place = place; reply = reply }

  open_now : IsOpenFrom events client (length events) place
  open_now = record { begins = (number, (call, begins)); no_end = λ k low high ends. omega (arith, low, high, last) }

  -- it stands in the order with its reply
  answered : IsTakenAs after place reply
  answered =
      let returned : ReturnAt (events ++ answer) (length events) client reply =
      get_last events (return_event client reply) in
      let within : place < length (events ++ answer) =
      slice_get_within (events ++ answer) place _ (get_longer events answer place _ begins) in
      let ends : IsEnd (events ++ answer) client place (length events) = record {
        after = omega (arith, last);
        ends = inl (reply, returned);
        first = λ k low high ends. omega (arith, low, high, last);
      } in
      (is.answers place within).taken (length events) client reply
      (begins_longer events answer client place (number, (call, begins))) ends returned

  -- each entry is of a call that began before the answer
  begun : (x : Entry) → IsIn x after → (c : Client) × BeginsAt events c x.place
  begun x there =
      let at : (k : ℕ) × (slice_get after k ≡ Some x) = place_in after x there in
      let some : IsSome (call_at (events ++ answer) x.place) =
      subst (λ (e : Entry). IsSome (call_at (events ++ answer) e.place)) (get_or_from_slice_get after at.0 x x at.1)
      (is.is_order.calls at.0 x (slice_get_within after at.0 x at.1)) in
      let b : (c : Client) × BeginsAt (events ++ answer) c x.place = begins_if_call (events ++ answer) x.place some in
      elim (get_push_cases events (return_event client reply) x.place _ b.1.1.1) [
        | inl old ↦ (b.0, (b.1.0, (b.1.1.0, old)))
        | inr new ↦ absurd (cc (new.1))
      ]

  -- and has ended, or is this one's
  whose : (x : Entry) → IsIn x after → HasEnded events x.place ⊎ (x.place ≡ place)
  whose x there =
      let b : (c : Client) × BeginsAt events c x.place = begun x there in
      elim (ended_or_open events b.0 x.place b.1) [
        | inl ended ↦ inl ended
        | inr open_from ↦
            let same : b.0 ≡ client = alone b.0 (record {
              place = x.place;
              before = slice_get_within events x.place _ b.1.1.1;
              open_from = open_from;
            }) in
            inr (open_once events arises.places client x.place place
            (subst (λ (c : Client). IsOpenFrom events c (length events) x.place) same open_from) open_now)
      ]

  taken_of : (x : Entry) → IsIn x after → IsTakenAs after x.place x.reply
  taken_of x there = contains_from_in after x there

  only : (x : Entry) → IsIn x after → IsIn x before ⊎ (x ≡ own)
  only x there = elim (whose x there) [
    | inl ended ↦ inl (in_from_contains before x (stays x.place x.reply ended (taken_of x there)))
    | inr same ↦
        let replies : x.reply ≡ reply = one_reply after is.is_order.once place x.reply reply
        (subst (λ (p : ℕ). IsTakenAs after p x.reply) same (taken_of x there)) answered in
        inr (ap (λ (p : ℕ). let e : Entry = record { place = p; reply = x.reply } in e) same
        ∙ ap (λ (r : Reply). let e : Entry = record { place = place; reply = r } in e) replies)
  ]

  in_after : (j : ℕ) (y : Entry) → slice_get after j ≡ Some y → IsIn y after
  in_after j y at = in_from_contains after y (j, slice_get_within after j y at, get_or_from_slice_get after j y y at)

  -- every other entry's call had ended before this one began
  stands_last : IsLast after own
  stands_last i j y lt at_i at_j = elim (whose y (in_after j y at_j)) [
    | inl ended ↦
        let before_it : Precedes (events ++ answer) y.place place = record {
          client = ended.client;
          begins = begins_longer events answer ended.client y.place ended.begins;
          end = ended.end;
          ends = is_end_longer events answer ended.client y.place ended.end
              (end_within events ended.client ended.end ended.ends.ends) ended.ends;
          before = elim (cases_lt ended.end place) [
            | inl lt2 ↦ lt2
            | inr ge ↦
                let here : ended.end ≡ place =
                omega (arith, ge, last, end_within events ended.client ended.end ended.ends.ends) in
                absurd (no_end_here ended.client (subst (EndsAt events ended.client) here ended.ends.ends))
          ];
        } in
        let earlier : j < i = is.precedence j i y own at_j at_i before_it in
        omega (arith, earlier, lt)
    | inr same ↦ apart_if_new after is.is_order.once i j own y lt at_i at_j (sym same)
  ]
    where
      no_end_here : (c : Client) → EndsAt events c place → ⊥
      no_end_here c (inl returned) = cc (returned.1, begins)
      no_end_here c (inr crash) = cc (crash, begins)

  -- the new order is the old one, and then this call
  comes_last : after ≡ before ++ own ∷ []
  comes_last = one_more own part (apart_if_new after is.is_order.once) only (in_from_contains after own answered)
      (λ there. fresh (in_order_from_taken before place reply (contains_from_in before own there))) stands_last

  -- so it is answered as the plain queue answers it, which then holds what it leaves
  pub turn_served : (reply ≡ reply_of (queue_after events base before) call)
      × (queue_after (events ++ return_event client reply ∷ []) base after
      ≡ served (queue_after events base before) call)
  turn_served =
      let old : queue_after (events ++ answer) base before ≡ queue_after events base before =
      queue_longer events answer base before (runs_from_replays events base before was.replays) in
      let names : call_at (events ++ answer) place ≡ Some call = ap call_of (get_longer events answer place _ begins) in
      let serves : IsServed (events ++ answer) (queue_after (events ++ answer) base before) own =
      runs_last (events ++ answer) base before own
      (subst (Runs (events ++ answer) base) comes_last (runs_from_replays (events ++ answer) base after is.replays)) in
      let same : serves.call ≡ call = cc (serves.names, names) in (
        serves.reply ∙ ap (λ (q : List Value). reply_of q serves.call) old
            ∙ ap (reply_of (queue_after events base before)) same,
        ap (queue_after (events ++ answer) base) comes_last
            ∙ queue_push (events ++ answer) base before own
            ∙ ap (queue_after_call (queue_after (events ++ answer) base before)) names
            ∙ ap (λ (q : List Value). served q call) old,
      )
