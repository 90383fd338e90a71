-- A list has as many calls that ran in a slot as the slot's history has calls of the client: both by their places, in
-- their order.
use Rattle.std.proofs.Common.{◌≡◌, ◌⊎◌, ◌+◌, ◌-◌, ◌<◌, ◌==◌, ◌&&◌, ℕ, zero, suc, Bool, true, false, cond, arith}
use Rattle.std.proofs.Common.{List, [], ◌∷◌, length, drop, Option, Some, None, slice_get}
use Rattle.std.proofs.Common.{inl, inr, refl, sym, ap, ◌∙◌, subst, eq-eqb}
use Rattle.std.specs.Prelude.{count_by, is_some}
use Rattle.std.proofs.lemmas.Bool.{eqb-true}
use Rattle.std.proofs.lemmas.List.Sums.{sum_by-cons}
use Rattle.std.proofs.lemmas.Option.{same_Some}
use Rattle.words.specs.declared.call.Client.{Client}
use Rattle.arena.specs.Chain.{IsAmong}
use Rattle.events.specs.History.{BeginsAt}
use Rattle.events.specs.declared.event.Event.{Event}
use Rattle.events.specs.declared.event.Event.TheVariants.{Call as call_event, Return as return_event}
use Rattle.events.specs.declared.event.Event.TheVariants.{Crash as crash_event, Ready as ready_event}
use Rattle.workers.specs.Accounts.{begins_call, call_count, ran_count, ran_in}
use Rattle.workers.specs.Lists.{HasEntryAt, IsListOf, RanAt}
use Rattle.workers.specs.declared.entry.Entry.{Entry}

-- each of these numbers is below all later ones
abbrev Ascends : List ℕ → Type 0
Ascends [] = Unit {0}
Ascends (x ∷ xs) = ((p : ℕ) → IsAmong p xs → x < p) × Ascends xs

-- what comes after the first of two such lists is in both, if the lists have the same numbers
rest_shared : (x : ℕ) (xs ys : List ℕ) → ((p : ℕ) → IsAmong p xs → x < p)
    → ((p : ℕ) → IsAmong p (x ∷ xs) → IsAmong p (x ∷ ys)) → (p : ℕ) → IsAmong p xs → IsAmong p ys
rest_shared x xs ys above shared p among = elim (shared p (inr among)) [
  | inl first ↦ let less : x < p = above p among in absurd (omega (arith, first, less))
  | inr later ↦ later
]

-- so they begin alike
heads_alike : (x y : ℕ) (xs ys : List ℕ) → ((p : ℕ) → IsAmong p xs → x < p) → ((p : ℕ) → IsAmong p ys → y < p)
    → IsAmong x (y ∷ ys) → IsAmong y (x ∷ xs) → x ≡ y
heads_alike x y xs ys low lower (inl same) other = same
heads_alike x y xs ys low lower (inr among) (inl same) = sym same
heads_alike x y xs ys low lower (inr among) (inr there) =
    let less : y < x = lower x among in
    let more : x < y = low y there in
    absurd (omega (arith, less, more))

-- and are as long
as_long : (xs ys : List ℕ) → Ascends xs → Ascends ys → ((p : ℕ) → IsAmong p xs → IsAmong p ys)
    → ((p : ℕ) → IsAmong p ys → IsAmong p xs) → length xs ≡ length ys
as_long [] [] up up_too to back = refl
as_long [] (y ∷ ys) up up_too to back = absurd (back y (inl refl))
as_long (x ∷ xs) [] up up_too to back = absurd (to x (inl refl))
as_long (x ∷ xs) (y ∷ ys) up up_too to back =
    let same : x ≡ y = heads_alike x y xs ys up.0 up_too.0 (to x (inl refl)) (back y (inl refl)) in
    ap suc (as_long xs ys up.1 up_too.1
    (rest_shared x xs ys up.0 (λ p among. subst (λ (z : ℕ). IsAmong p (z ∷ ys)) (sym same) (to p among)))
    (rest_shared y ys xs up_too.0 (λ p among. subst (λ (z : ℕ). IsAmong p (z ∷ xs)) same (back p among))))

-- a count, after one more at the front
count_cons : {X : Type 0} (test : X → Bool) (x : X) (xs : List X)
    → count_by test (x ∷ xs) ≡ cond (test x) 1 0 + count_by test xs
count_cons test x xs = sum_by-cons (λ y. cond (test y) 1 0) x xs

-- the place of an entry, where it has one and is of the slot
abbrev placed : Bool → Option ℕ → List ℕ → List ℕ
placed true (Some p) places = p ∷ places
placed true None places = places
placed false place places = places

-- the places of the entries that ran in the queue of a slot
abbrev places_in : ℕ → List Entry → List ℕ
places_in slot [] = []
places_in slot (e ∷ list) = placed (e.queue.0 == slot) e.place (places_in slot list)

length_placed : (b : Bool) (place : Option ℕ) (places : List ℕ)
    → length (placed b place places) ≡ cond (b && is_some place) 1 0 + length places
length_placed true (Some p) places = omega arith
length_placed true None places = omega arith
length_placed false place places = omega arith

places_counted : (slot : ℕ) (list : List Entry) → length (places_in slot list) ≡ ran_count slot list
places_counted slot [] = refl
places_counted slot (e ∷ list) =
    length_placed (e.queue.0 == slot) e.place (places_in slot list)
    ∙ ap (λ (n : ℕ). cond (ran_in slot e) 1 0 + n) (places_counted slot list)
    ∙ sym (count_cons (ran_in slot) e list)

-- what is among the places is a place of the first entry, or of a later one
among_placed : (b : Bool) (place : Option ℕ) (places : List ℕ) (p : ℕ) → IsAmong p (placed b place places)
    → ((b ≡ true) × (place ≡ Some p)) ⊎ IsAmong p places
among_placed true (Some q) places p (inl same) = inl (refl, ap (λ (n : ℕ). Some n) (sym same))
among_placed true (Some q) places p (inr later) = inr later
among_placed true None places p among = inr among
among_placed false place places p among = inr among

first_placed : (b : Bool) (place : Option ℕ) (places : List ℕ) (p : ℕ) → b ≡ true → place ≡ Some p
    → IsAmong p (placed b place places)
first_placed true (Some q) places p passes is = inl (sym (same_Some q p is))
first_placed true None places p passes is = absurd (cc (is))
first_placed false place places p passes is = absurd (cc (passes))

later_placed : (b : Bool) (place : Option ℕ) (places : List ℕ) (p : ℕ) → IsAmong p places
    → IsAmong p (placed b place places)
later_placed true (Some q) places p among = inr among
later_placed true None places p among = among
later_placed false place places p among = among

-- each of them is the place of an entry that ran there
entry_of_place : (slot : ℕ) (list : List Entry) (p : ℕ) → IsAmong p (places_in slot list) → HasEntryAt list slot p
entry_of_place slot [] p among = absurd among
entry_of_place slot (e ∷ list) p among =
    elim (among_placed (e.queue.0 == slot) e.place (places_in slot list) p among) [
      | inl first ↦ record {
        index = 0;
        entry = e;
        at = refl;
        ran = (eqb-true e.queue.0 slot first.0, first.1);
      }
      | inr later ↦
          let has = entry_of_place slot list p later in
          record { index = suc has.index; entry = has.entry; at = has.at; ran = has.ran }
    ]

-- and the place of each such entry is one of them
place_of_entry : (slot : ℕ) (list : List Entry) (k p : ℕ) (e : Entry) → slice_get list k ≡ Some e → RanAt e slot p
    → IsAmong p (places_in slot list)
place_of_entry slot [] k p e at ran = absurd (cc (at))
place_of_entry slot (x ∷ list) zero p e at ran =
    let mine : RanAt x slot p = subst (λ (z : Entry). RanAt z slot p) (sym (same_Some x e at)) ran in
    first_placed (x.queue.0 == slot) x.place (places_in slot list) p (eq-eqb x.queue.0 slot mine.0) mine.1
place_of_entry slot (x ∷ list) (suc k) p e at ran =
    later_placed (x.queue.0 == slot) x.place (places_in slot list) p (place_of_entry slot list k p e at ran)

-- the places of entries rise as the list does
abbrev RisesIn : ℕ → List Entry → Type 0
RisesIn slot list =
    (j k p q : ℕ) (e f : Entry) → j < k → slice_get list j ≡ Some e → slice_get list k ≡ Some f → RanAt e slot p
    → RanAt f slot q → p < q

ascends_placed : (b : Bool) (place : Option ℕ) (places : List ℕ) → Ascends places
    → ((p q : ℕ) → b ≡ true → place ≡ Some p → IsAmong q places → p < q) → Ascends (placed b place places)
ascends_placed true (Some p) places up above = ((λ q among. above p q refl refl among), up)
ascends_placed true None places up above = up
ascends_placed false place places up above = up

places_ascend : (slot : ℕ) (list : List Entry) → RisesIn slot list → Ascends (places_in slot list)
places_ascend slot [] rises = tt
places_ascend slot (x ∷ list) rises =
    ascends_placed (x.queue.0 == slot) x.place (places_in slot list)
    (places_ascend slot list (λ j k p q e f less. rises (suc j) (suc k) p q e f (omega (arith, less))))
    (λ p q here place among.
    let has = entry_of_place slot list q among in
    rises 0 (suc has.index) p q x has.entry (omega arith) refl has.at (eqb-true x.queue.0 slot here, place) has.ran)

-- the places of the client's calls, where the first event stands at n
abbrev calls_from : ℕ → Client → List Event → List ℕ
calls_from n client [] = []
calls_from n client (x ∷ events) =
    cond (begins_call client x) (n ∷ calls_from (suc n) client events) (calls_from (suc n) client events)

length_cond : (b : Bool) (n : ℕ) (places : List ℕ) → length (cond b (n ∷ places) places) ≡ cond b 1 0 + length places
length_cond true n places = omega arith
length_cond false n places = omega arith

calls_counted : (n : ℕ) (client : Client) (events : List Event)
    → length (calls_from n client events) ≡ count_by (begins_call client) events
calls_counted n client [] = refl
calls_counted n client (x ∷ events) =
    length_cond (begins_call client x) n (calls_from (suc n) client events)
    ∙ ap (λ (m : ℕ). cond (begins_call client x) 1 0 + m) (calls_counted (suc n) client events)
    ∙ sym (count_cons (begins_call client) x events)

-- a test that is true finds a Call of the client, and the other way round
begins_from_test : (client : Client) (x : Event) (events : List Event) → begins_call client x ≡ true
    → BeginsAt (x ∷ events) client 0
begins_from_test client (call_event other number call) events passes =
    let same : other ≡ client =
    ap (λ (i : ℕ). let c : Client = record { 0 = i } in c) (eqb-true other.0 client.0 passes) in
    (number, (call, ap (λ (c : Client). Some (call_event c number call)) same))
begins_from_test client (return_event other reply) events passes = absurd (cc (passes))
begins_from_test client crash_event events passes = absurd (cc (passes))
begins_from_test client (ready_event told) events passes = absurd (cc (passes))

test_from_begins : (client : Client) (x : Event) (events : List Event) → BeginsAt (x ∷ events) client 0
    → begins_call client x ≡ true
test_from_begins client x events begins =
    let is : call_event client begins.0 begins.1.0 ≡ x = sym (same_Some _ _ begins.1.1) in
    subst (λ (y : Event). begins_call client y ≡ true) is (eq-eqb client.0 client.0 refl)

-- what is among the places is so far from the first event, and a call begins there
record IsBegunFrom (n : ℕ) (client : Client) (events : List Event) (p : ℕ) : Type 0 where
  k : ℕ
  is : p ≡ n + k
  begins : BeginsAt events client k

later_begun : (n : ℕ) (client : Client) (x : Event) (events : List Event) (p : ℕ)
    → IsBegunFrom (suc n) client events p → IsBegunFrom n client (x ∷ events) p
later_begun n client x events p begun =
    record { k = suc begun.k; is = omega (arith, begun.is); begins = begun.begins }

begun_of_place : (n : ℕ) (client : Client) (events : List Event) (p : ℕ) → IsAmong p (calls_from n client events)
    → IsBegunFrom n client events p
begun_of_place n client [] p among = absurd among
begun_of_place n client (x ∷ events) p among =
    go (begins_call client x) refl (begun_of_place (suc n) client events p) among
  where
    go : (b : Bool) → begins_call client x ≡ b
        → (IsAmong p (calls_from (suc n) client events) → IsBegunFrom (suc n) client events p)
        → IsAmong p (cond b (n ∷ calls_from (suc n) client events) (calls_from (suc n) client events))
        → IsBegunFrom n client (x ∷ events) p
    go true passes later (inl same) =
        record { k = 0; is = omega (arith, same); begins = begins_from_test client x events passes }
    go true passes later (inr there) = later_begun n client x events p (later there)
    go false fails later there = later_begun n client x events p (later there)

place_of_begun : (n : ℕ) (client : Client) (events : List Event) (k : ℕ) → BeginsAt events client k
    → IsAmong (n + k) (calls_from n client events)
place_of_begun n client [] k begins = absurd (cc (begins.1.1))
place_of_begun n client (x ∷ events) zero begins =
    rw (test_from_begins client x events begins) (inl (omega arith))
place_of_begun n client (x ∷ events) (suc k) begins =
    go (begins_call client x)
    (subst (λ (p : ℕ). IsAmong p (calls_from (suc n) client events)) (omega arith)
    (place_of_begun (suc n) client events k begins))
  where
    go : (b : Bool) → IsAmong (n + suc k) (calls_from (suc n) client events)
        → IsAmong (n + suc k) (cond b (n ∷ calls_from (suc n) client events) (calls_from (suc n) client events))
    go true there = inr there
    go false there = there

calls_ascend : (n : ℕ) (client : Client) (events : List Event) → Ascends (calls_from n client events)
calls_ascend n client [] = tt
calls_ascend n client (x ∷ events) = go (begins_call client x) (calls_ascend (suc n) client events)
  where
    go : (b : Bool) → Ascends (calls_from (suc n) client events)
        → Ascends (cond b (n ∷ calls_from (suc n) client events) (calls_from (suc n) client events))
    go true up = (
      (λ p among.
          let begun = begun_of_place (suc n) client events p among in
          omega (arith, begun.is)),
      up,
    )
    go false up = up

-- what stands in a history from some place on
get_drop : {X : Type 0} (n : ℕ) (xs : List X) (k : ℕ) → slice_get (drop n xs) k ≡ slice_get xs (n + k)
get_drop zero xs k = let same : k ≡ 0 + k = omega arith in ap (λ (q : ℕ). slice_get xs q) same
get_drop (suc n) [] k = refl
get_drop (suc n) (x ∷ xs) k =
    let next : suc (n + k) ≡ suc n + k = omega arith in
    get_drop n xs k ∙ ap (λ (q : ℕ). slice_get (x ∷ xs) q) next

-- the list's calls are the history's
pub list_counted : (since slot : ℕ) (events : List Event) (client : Client) (list : List Entry)
    → IsListOf since slot events client list → ran_count slot list ≡ call_count since client events
list_counted since slot events client list of =
    sym (places_counted slot list)
    ∙ as_long (places_in slot list) (calls_from since client (drop since events)) (places_ascend slot list of.ascend)
    (calls_ascend since client (drop since events)) to back
    ∙ calls_counted since client (drop since events)
  where
    to : (p : ℕ) → IsAmong p (places_in slot list) → IsAmong p (calls_from since client (drop since events))
    to p among =
        let has = entry_of_place slot list p among in
        let right = of.right has.index p has.entry has.at has.ran in
        let k : ℕ = p - since in
        let there : since + k ≡ p = omega (arith, right.late) in
        subst (λ (q : ℕ). IsAmong q (calls_from since client (drop since events))) there
        (place_of_begun since client (drop since events) k
        (_, (_, get_drop since events k ∙ ap (λ (q : ℕ). slice_get events q) there ∙ right.call)))

    back : (p : ℕ) → IsAmong p (calls_from since client (drop since events)) → IsAmong p (places_in slot list)
    back p among =
        let begun = begun_of_place since client (drop since events) p among in
        let at = sym (get_drop since events begun.k) ∙ begun.begins.1.1 in
        let has = of.all (since + begun.k) (omega arith) (begun.begins.0, (begun.begins.1.0, at)) in
        subst (λ (q : ℕ). IsAmong q (places_in slot list)) (sym begun.is)
        (place_of_entry slot list has.index (since + begun.k) has.entry has.at has.ran)
