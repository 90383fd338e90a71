-- Tails and owners that were replaced never come back.
use Rattle.std.proofs.Common.{◌≡◌, ◌≢◌, ◌≤◌, ◌<◌, ◌⊎◌, inl, inr, ℕ, zero, suc, ◌∷◌, [], ◌++◌, Bool, true, false, List, Option, Some, None, refl, sym, ap, ◌∙◌, subst, arith}
use Rattle.std.specs.Prelude.{⊤}
use Rattle.std.proofs.lemmas.Bool.{cases_lt, cases_eq}
use Rattle.fenced.specs.Engine.{Engine, Tail}
use Rattle.fenced.specs.Requests.{Ask, Drop, Fresh, Place, Put, Read, Request, Take, compared, effect, is_met, longer, placed, taken}
use Rattle.fenced.specs.Run.{At, Does, IsRun, Moment, engine_at, tail_at, text_at}
use Rattle.fenced.specs.Rules.{IsSent, KeepsRules}
use Rattle.fenced.specs.Laws.{IsNoLater, TakesEffect, moves, owner_at, owner_of}
use Rattle.fenced.proofs.Steps.{as_named}
use Rattle.fenced.proofs.Turns.{Places, Puts, Same, Takes, Turn, met, turn_at, was_sent}

-- ---- later tails

abbrev pub NoLater : Option Tail → Option Tail → Type 0
NoLater None b = ⊤
NoLater (Some a) None = ⊥
NoLater (Some a) (Some b) = IsNoLater a b

pub no_later_itself : (a : Option Tail) → NoLater a a
no_later_itself None = tt
no_later_itself (Some a) = inr (refl, omega arith)

no_later_tails : (a b c : Tail) → IsNoLater a b → IsNoLater b c → IsNoLater a c
no_later_tails a b c (inl one) (inl other) = inl (omega (arith, one, other))
no_later_tails a b c (inl one) (inr other) = inl (omega (arith, one, other.0))
no_later_tails a b c (inr one) (inl other) = inl (omega (arith, one.0, other))
no_later_tails a b c (inr one) (inr other) = inr (one.0 ∙ other.0, omega (arith, one.1, other.1))

pub no_later_both : (a b c : Option Tail) → NoLater a b → NoLater b c → NoLater a c
no_later_both None b c one other = tt
no_later_both (Some a) None c one other = absurd one
no_later_both (Some a) (Some b) None one other = other
no_later_both (Some a) (Some b) (Some c) one other = no_later_tails a b c one other

no_later_longer : (a b : Tail) → a ≡ longer b → IsNoLater a b → ⊥
no_later_longer a b is (inl less) =
    let generation : a.generation ≡ b.generation = ap (λ (t : Tail). t.generation) is in
    absurd (omega (arith, less, generation))
no_later_longer a b is (inr less) =
    let count : a.count ≡ suc b.count = ap (λ (t : Tail). t.count) is in
    absurd (omega (arith, less.1, count))

no_later_placed : (a b : Tail) (generation count : ℕ) → a ≡ placed b generation count → b.generation < generation → IsNoLater a b → ⊥
no_later_placed a b generation count is later (inl less) =
    let same : a.generation ≡ generation = ap (λ (t : Tail). t.generation) is in
    absurd (omega (arith, less, same, later))
no_later_placed a b generation count is later (inr less) =
    let same : a.generation ≡ generation = ap (λ (t : Tail). t.generation) is in
    absurd (omega (arith, less.0, same, later))

no_later_taken : (seen : Option Tail) (owner : List ℕ) → NoLater seen (Some (taken seen owner))
no_later_taken None owner = tt
no_later_taken (Some tail) owner = inr (refl, omega arith)

pub taken_owner : (seen : Option Tail) (owner : List ℕ) → (taken seen owner).owner ≡ owner
taken_owner None owner = refl
taken_owner (Some tail) owner = refl

pub some_same : (a b : Tail) → Some a ≡ Some b → a ≡ b
some_same a b same = cc

pub none_some : {X : Type 0} → (a : Tail) → None ≡ Some a → X
none_some a same = absurd cc

step_rises : (was now mid last : Option Tail) → was ≡ mid → now ≡ last → NoLater mid last → NoLater was now
step_rises was now mid last one other rises =
    subst (λ (t : Option Tail). NoLater t now) (sym one) (subst (λ (t : Option Tail). NoLater mid t) (sym other) rises)

-- the owner whose log it is there
pub owned_tail : (state : Option Tail) (owner : List ℕ) → owner_of state ≡ Some owner → (tail : Tail) × (state ≡ Some tail) × (tail.owner ≡ owner)
owned_tail None owner owned = absurd cc
owned_tail (Some tail) owner owned = (tail, refl, cc)

module _ (run : List Moment) (is : IsRun run) (rules : KeepsRules run) where
  rises_once : (i : ℕ) → Turn run i → NoLater (tail_at run i) (tail_at run (suc i))
  rises_once i (Same tail text) = subst (λ (t : Option Tail). NoLater (tail_at run i) t) (sym tail) (no_later_itself (tail_at run i))
  rises_once i (Puts number tail bytes at was now text) =
      step_rises (tail_at run i) (tail_at run (suc i)) (Some tail) (Some (longer tail)) was now (inr (refl, omega arith))
  rises_once i (Places number tail generation count at was now later) =
      step_rises (tail_at run i) (tail_at run (suc i)) (Some tail) (Some (placed tail generation count)) was now (inl later)
  rises_once i (Takes number seen owner at was now text) =
      step_rises (tail_at run i) (tail_at run (suc i)) seen (Some (taken seen owner)) was now (no_later_taken seen owner)

  pub rises : (i j : ℕ) → i ≤ j → NoLater (tail_at run i) (tail_at run j)
  rises i zero before =
      let same : i ≡ zero = omega (arith, before) in
      subst (λ (k : ℕ). NoLater (tail_at run k) (tail_at run zero)) (sym same) (no_later_itself (tail_at run zero))
  rises i (suc j) before = elim (cases_lt j i) [
    | inl past ↦
        let same : i ≡ suc j = omega (arith, past, before) in
        subst (λ (k : ℕ). NoLater (tail_at run k) (tail_at run (suc j))) (sym same) (no_later_itself (tail_at run (suc j)))
    | inr within ↦
        no_later_both (tail_at run i) (tail_at run j) (tail_at run (suc j)) (rises i j within) (rises_once j (turn_at run is rules j))
  ]

  -- ---- whoever has the log took it

  pub record Took (j : ℕ) (owner : List ℕ) : Type 0 where
    pub place : ℕ
    pub before : place < j
    pub number : ℕ
    pub seen : Option Tail
    pub at : At run place (Does number (Take seen owner))
    pub was : tail_at run place ≡ seen
    pub now : tail_at run (suc place) ≡ Some (taken seen owner)

  took_later : (j : ℕ) (owner : List ℕ) → Took j owner → Took (suc j) owner
  took_later j owner took = record {
    place = took.place;
    before = let b = took.before in omega (arith, b);
    number = took.number;
    seen = took.seen;
    at = took.at;
    was = took.was;
    now = took.now;
  }

  took_by : (j : ℕ) → ((t : Tail) → tail_at run j ≡ Some t → Took j t.owner) → (tail : Tail) → tail_at run (suc j) ≡ Some tail → Turn run j → Took (suc j) tail.owner
  took_by j before tail is_tail (Same same text) = took_later j tail.owner (before tail (sym same ∙ is_tail))
  took_by j before tail is_tail (Puts number other bytes at was now text) =
      let same : longer other ≡ tail = some_same (longer other) tail (sym now ∙ is_tail) in
      let owner : other.owner ≡ tail.owner = ap (λ (t : Tail). t.owner) same in
      subst (λ (o : List ℕ). Took (suc j) o) owner (took_later j other.owner (before other was))
  took_by j before tail is_tail (Places number other generation count at was now later) =
      let same : placed other generation count ≡ tail = some_same (placed other generation count) tail (sym now ∙ is_tail) in
      let owner : other.owner ≡ tail.owner = ap (λ (t : Tail). t.owner) same in
      subst (λ (o : List ℕ). Took (suc j) o) owner (took_later j other.owner (before other was))
  took_by j before tail is_tail (Takes number seen owner at was now text) =
      let same : taken seen owner ≡ tail = some_same (taken seen owner) tail (sym now ∙ is_tail) in
      let owned : owner ≡ tail.owner = sym (taken_owner seen owner) ∙ ap (λ (t : Tail). t.owner) same in
      subst (λ (o : List ℕ). Took (suc j) o) owned
      (record { place = j; before = omega arith; number = number; seen = seen; at = at; was = was; now = now })

  pub took : (j : ℕ) (tail : Tail) → tail_at run j ≡ Some tail → Took j tail.owner
  took zero tail is_tail = absurd cc
  took (suc j) tail is_tail = took_by j (λ t had. took j t had) tail is_tail (turn_at run is rules j)

  -- nobody takes the log from himself
  pub not_himself : (p : ℕ) (seen : Option Tail) (owner : List ℕ) (tail : Tail) → IsSent run p (Take seen owner) → seen ≡ Some tail → tail.owner ≡ owner → ⊥
  not_himself p seen owner tail sent same owned =
      rules.from_other p tail owner (subst (λ (s : Option Tail). IsSent run p (Take s owner)) same sent) owned

  -- up to the place k no tail comes back
  abbrev pub Unreturned : ℕ → Type 0
  Unreturned k = (i j : ℕ) → i ≤ j → j ≤ k → tail_at run i ≡ tail_at run k → tail_at run j ≡ tail_at run k

  -- so nobody takes it whose it was
  no_second_take : (k : ℕ) → Unreturned k → (number : ℕ) (seen : Option Tail) (owner : List ℕ) → At run k (Does number (Take seen owner)) → tail_at run k ≡ seen
      → (i : ℕ) (tail : Tail) → i ≤ k → tail_at run i ≡ Some tail → tail.owner ≡ owner → ⊥
  no_second_take k unreturned number seen owner at was i tail before had owned =
      let first : Took i owner = subst (λ (o : List ℕ). Took i o) owned (took i tail had) in
      let one = was_sent run is rules first.place first.number (Take first.seen owner) first.at in
      let two = was_sent run is rules k number (Take seen owner) at in
      let seen_same : first.seen ≡ seen = rules.one_take one.0 two.0 first.seen seen owner one.2 two.2 in
      let b : first.place < i = first.before in
      let back : tail_at run (suc first.place) ≡ tail_at run k =
      unreturned first.place (suc first.place) (omega arith) (omega (arith, before)) (first.was ∙ seen_same ∙ sym was) in
      let itself : seen ≡ Some (taken first.seen owner) = sym was ∙ sym back ∙ first.now in
      not_himself two.0 seen owner (taken first.seen owner) two.2 itself (taken_owner first.seen owner)

  not_before : (k : ℕ) → Unreturned k → Turn run k → (i : ℕ) → i ≤ k → tail_at run i ≡ tail_at run (suc k) → tail_at run (suc k) ≡ tail_at run k
  not_before k unreturned (Same same text) i before back = same
  not_before k unreturned (Puts number tail bytes at was now text) i before back =
      let rise : NoLater (tail_at run i) (tail_at run k) = rises i k before in
      let low : IsNoLater (longer tail) tail = subst (λ (t : Option Tail). NoLater t (Some tail)) (back ∙ now) (subst (λ (t : Option Tail). NoLater (tail_at run i) t) was rise) in
      absurd (no_later_longer (longer tail) tail refl low)
  not_before k unreturned (Places number tail generation count at was now later) i before back =
      let rise : NoLater (tail_at run i) (tail_at run k) = rises i k before in
      let low : IsNoLater (placed tail generation count) tail = subst (λ (t : Option Tail). NoLater t (Some tail)) (back ∙ now) (subst (λ (t : Option Tail). NoLater (tail_at run i) t) was rise) in
      absurd (no_later_placed (placed tail generation count) tail generation count refl later low)
  not_before k unreturned (Takes number seen owner at was now text) i before back =
      absurd (no_second_take k unreturned number seen owner at was i (taken seen owner) before (back ∙ now) (taken_owner seen owner))

  pub unreturned : (k : ℕ) → Unreturned k
  unreturned zero i j one two back =
      let same : j ≡ zero = omega (arith, two) in
      ap (tail_at run) same
  unreturned (suc k) i j one two back = elim (cases_lt k j) [
    | inl past ↦
        let same : j ≡ suc k = omega (arith, past, two) in
        ap (tail_at run) same
    | inr within ↦
        let stays : tail_at run (suc k) ≡ tail_at run k = not_before k (unreturned k) (turn_at run is rules k) i (omega (arith, one, within)) back in
        unreturned k i j one within (back ∙ stays) ∙ sym stays
  ]

  -- ---- and no owner does

  pub not_taken_again : (k number : ℕ) (seen : Option Tail) (owner : List ℕ) → At run k (Does number (Take seen owner)) → tail_at run k ≡ seen
      → (i : ℕ) → i ≤ k → owner_at run i ≡ Some owner → ⊥
  not_taken_again k number seen owner at was i before owned =
      let has = owned_tail (tail_at run i) owner owned in
      no_second_take k (unreturned k) number seen owner at was i has.0 before has.1 has.2

  owned_back : (i k : ℕ) (owner : List ℕ) → i ≤ k → owner_at run i ≡ Some owner → owner_at run (suc k) ≡ Some owner → Turn run k → owner_at run k ≡ Some owner
  owned_back i k owner before first last (Same same text) = ap owner_of (sym same) ∙ last
  owned_back i k owner before first last (Puts number tail bytes at was now text) = ap owner_of was ∙ sym (ap owner_of now) ∙ last
  owned_back i k owner before first last (Places number tail generation count at was now later) = ap owner_of was ∙ sym (ap owner_of now) ∙ last
  owned_back i k owner before first last (Takes number seen other at was now text) =
      let named : Some (taken seen other).owner ≡ Some owner = sym (ap owner_of now) ∙ last in
      let same : other ≡ owner = sym (taken_owner seen other) ∙ cc in
      absurd (not_taken_again k number seen other at was i before (first ∙ ap (λ (o : List ℕ). Some o) (sym same)))

  pub owners_unreturned : (k i j : ℕ) (owner : List ℕ) → i ≤ j → j ≤ k → owner_at run i ≡ Some owner → owner_at run k ≡ Some owner → owner_at run j ≡ Some owner
  owners_unreturned zero i j owner one two first last =
      let same : j ≡ zero = omega (arith, two) in
      ap (owner_at run) same ∙ last
  owners_unreturned (suc k) i j owner one two first last = elim (cases_lt k j) [
    | inl past ↦
        let same : j ≡ suc k = omega (arith, past, two) in
        ap (owner_at run) same ∙ last
    | inr within ↦
        owners_unreturned k i j owner one within first (owned_back i k owner (omega (arith, one, within)) first last (turn_at run is rules k))
  ]

  -- ---- what takes effect moves the tail

  pub effect_at : (i : ℕ) (request : Request) → TakesEffect run i request → engine_at run (suc i) ≡ effect request (engine_at run i)
  effect_at i request effective = met run i effective.number request effective.at effective.met

  pub named_at : (i : ℕ) (request : Request) → TakesEffect run i request → compared request ≡ Some (tail_at run i)
  named_at i request effective = as_named (tail_at run i) (compared request) effective.met

  inner : (a b : Option Tail) → Some a ≡ Some b → b ≡ a
  inner a b same = cc

  pub count_apart : (a : Tail) → Some (longer a) ≡ Some a → ⊥
  count_apart a same =
      let count : suc a.count ≡ a.count = ap (λ (t : Tail). t.count) (some_same (longer a) a same) in
      absurd (omega (arith, count))

  pub generation_apart : (a : Tail) (generation count : ℕ) → a.generation < generation → Some (placed a generation count) ≡ Some a → ⊥
  generation_apart a generation count later same =
      let generations : generation ≡ a.generation = ap (λ (t : Tail). t.generation) (some_same (placed a generation count) a same) in
      absurd (omega (arith, generations, later))

  pub moved : (i : ℕ) (request : Request) → moves request ≡ true → TakesEffect run i request → tail_at run (suc i) ≡ tail_at run i → ⊥
  moved i (Take seen owner) yes_moves effective same =
      let was : tail_at run i ≡ seen = inner seen (tail_at run i) (named_at i (Take seen owner) effective) in
      let now : tail_at run (suc i) ≡ Some (taken seen owner) = ap (λ (e : Engine). e.tail) (effect_at i (Take seen owner) effective) in
      let sent = was_sent run is rules i effective.number (Take seen owner) effective.at in
      not_himself sent.0 seen owner (taken seen owner) sent.2 (sym was ∙ sym same ∙ now) (taken_owner seen owner)
  moved i (Put tail bytes) yes_moves effective same =
      let was : tail_at run i ≡ Some tail = inner (Some tail) (tail_at run i) (named_at i (Put tail bytes) effective) in
      let now : tail_at run (suc i) ≡ Some (longer tail) = ap (λ (e : Engine). e.tail) (effect_at i (Put tail bytes) effective) in
      count_apart tail (sym now ∙ same ∙ was)
  moved i (Place tail generation count) yes_moves effective same =
      let was : tail_at run i ≡ Some tail = inner (Some tail) (tail_at run i) (named_at i (Place tail generation count) effective) in
      let now : tail_at run (suc i) ≡ Some (placed tail generation count) = ap (λ (e : Engine). e.tail) (effect_at i (Place tail generation count) effective) in
      let sent = was_sent run is rules i effective.number (Place tail generation count) effective.at in
      generation_apart tail generation count (rules.place_later sent.0 tail generation count sent.2) (sym now ∙ same ∙ was)
  moved i (Fresh tail generation number bytes) yes_moves effective same = absurd cc
  moved i (Drop tail) yes_moves effective same = absurd cc
  moved i Ask yes_moves effective same = absurd cc
  moved i (Read generation number) yes_moves effective same = absurd cc

  pub not_later_again : (i j : ℕ) (request : Request) → moves request ≡ true → TakesEffect run i request → TakesEffect run j request → i < j → ⊥
  not_later_again i j request yes_moves one other less =
      let names : Some (tail_at run i) ≡ Some (tail_at run j) = sym (named_at i request one) ∙ named_at j request other in
      let same : tail_at run i ≡ tail_at run j = inner (tail_at run j) (tail_at run i) (sym names) in
      let stays : tail_at run (suc i) ≡ tail_at run j = unreturned j i (suc i) (omega arith) (omega (arith, less)) same in
      moved i request yes_moves one (stays ∙ sym same)

  pub once : (i j : ℕ) (request : Request) → moves request ≡ true → TakesEffect run i request → TakesEffect run j request → i ≡ j
  once i j request yes_moves one other = elim (cases_lt i j) [
    | inl less ↦ absurd (not_later_again i j request yes_moves one other less)
    | inr past ↦ elim (cases_lt j i) [
      | inl less ↦ absurd (not_later_again j i request yes_moves other one less)
      | inr same ↦ omega (arith, past, same)
    ]
  ]
