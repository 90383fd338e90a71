-- Links that are made of a list: what follows each of different numbers. They walk that very list.
use Rattle.std.proofs.Common.{◌≡◌, ◌≢◌, ℕ, zero, suc, ◌≤◌, ◌⊎◌, inl, inr, ◌<◌, ◌+◌, List, [], ◌∷◌, ◌++◌, length, take, drop, set, get_or, if◌then◌else◌, ◌==◌, refl, sym, ◌∙◌, ap, subst, arith}
use Rattle.std.proofs.lemmas.Bool.{cases_eq, eq-eqb, ne_eqb}
use Rattle.std.proofs.lemmas.List.{get_or-set_other, get_or-set_same, take-append-drop, take_more}
use Rattle.arena.specs.Chain.{IsAmong, IsChain, LeadsTo, walk}
use Rattle.arena.specs.Chain.LeadsTo.{there, on}
use Rattle.arena.proofs.Facts.{Distinct, distinct, in_left, in_right, not_again}
use Rattle.renewal.specs.Renewed.{follower}
use Rattle.renewal.proofs.Lists.{front_distinct}

-- a number that comes later is not the one that these follow
later : (from n : ℕ) (xs : List ℕ) → Distinct (from ∷ xs) → IsAmong n xs → n ≢ from
later from n xs d h e = d.0 (subst (λ (x : ℕ). IsAmong x xs) e h)

pub follower_past : (n from x : ℕ) (xs : List ℕ) → n ≢ from → follower n from (x ∷ xs) ≡ follower n x xs
follower_past n from x xs ne = rw (ne_eqb n from ne) refl

pub follower_here : (from x : ℕ) (xs : List ℕ) → follower from from (x ∷ xs) ≡ x
follower_here from x xs = rw (eq-eqb from from refl) refl

-- nothing follows a number that is not there
pub follower_off : (n from : ℕ) (xs : List ℕ) → (IsAmong n (from ∷ xs) → ⊥) → follower n from xs ≡ 0
follower_off n from [] off = refl
follower_off n from (x ∷ xs) off = follower_past n from x xs (λ e. off (inl e)) ∙ follower_off n x xs (λ h. off (inr h))

-- what follows one is one of these
pub follower_among : (n from : ℕ) (xs : List ℕ) → (follower n from xs ≡ 0) ⊎ IsAmong (follower n from xs) xs
follower_among n from [] = inl refl
follower_among n from (x ∷ xs) = elim (cases_eq n from) [
  | inl e ↦ inr (inl (rw (eq-eqb n from e) refl))
  | inr ne ↦ elim (follower_among n x xs) [
    | inl z ↦ inl (follower_past n from x xs ne ∙ z)
    | inr h ↦ inr (inr (subst (λ (y : ℕ). IsAmong y xs) (sym (follower_past n from x xs ne)) h))
  ]
]

-- of two parts the second follows itself
pub follower_second : (n from : ℕ) (xs ys : List ℕ) → Distinct (from ∷ xs ++ ys) → IsAmong n ys
    → (follower n from (xs ++ ys) ≡ 0) ⊎ IsAmong (follower n from (xs ++ ys)) ys
follower_second n from [] ys d h = follower_among n from ys
follower_second n from (x ∷ xs) ys d h =
    let past : follower n from (x ∷ xs ++ ys) ≡ follower n x (xs ++ ys) =
    follower_past n from x (xs ++ ys) (later from n (x ∷ xs ++ ys) d (in_right n (x ∷ xs) ys h)) in
    elim (follower_second n x xs ys d.1 h) [
      | inl z ↦ inl (past ∙ z)
      | inr i ↦ inr (subst (λ (y : ℕ). IsAmong y ys) (sym past) i)
    ]

-- links that are so are a chain
pub chained : (link : ℕ → ℕ) (from : ℕ) (xs : List ℕ) → Distinct (from ∷ xs) → (IsAmong 0 xs → ⊥)
    → ((n : ℕ) → IsAmong n (from ∷ xs) → link n ≡ follower n from xs) → IsChain link from xs
chained link from [] d none same = same from (inl refl)
chained link from (x ∷ xs) d none same = (
  same from (inl refl) ∙ follower_here from x xs,
  λ z. none (inl (sym z)),
  chained link x xs d.1 (λ h. none (inr h)) (λ n h. same n (inr h) ∙ follower_past n from x xs (later from n (x ∷ xs) d h)),
)

-- and a walk along a chain is the chain
pub chain_walked : (link : ℕ → ℕ) (fuel from : ℕ) (xs : List ℕ) → IsChain link from xs → length xs ≤ fuel → walk fuel link from ≡ xs
chain_walked link zero from [] c short = refl
chain_walked link (suc fuel) from [] c short = rw (eq-eqb (link from) 0 c) refl
chain_walked link zero from (x ∷ xs) c short = absurd (omega arith)
chain_walked link (suc fuel) from (x ∷ xs) c short =
    let rest : walk fuel link x ≡ xs = chain_walked link fuel x xs c.2 (omega arith) in
    rw (c.0, ne_eqb x 0 c.1, rest) refl

-- no link leads to node 0
pub leads_nowhere : (link : ℕ → ℕ) (to n : ℕ) → to ≡ 0 → LeadsTo link to n → n ≡ 0
leads_nowhere link to n z there = z
leads_nowhere link to n z (on x some p) = absurd (some (leads_nowhere link to (link x) z p))

-- the last of these, where they follow `from`
abbrev pub last_of : ℕ → List ℕ → ℕ
last_of from [] = from
last_of from (x ∷ xs) = last_of x xs

pub last_among : (from : ℕ) (xs : List ℕ) → IsAmong (last_of from xs) (from ∷ xs)
last_among from [] = inl refl
last_among from (x ∷ xs) = inr (last_among x xs)

pub last_more : (from x : ℕ) (xs : List ℕ) → last_of from (xs ++ x ∷ []) ≡ x
last_more from x [] = refl
last_more from x (y ∷ ys) = last_more y x ys

-- one more follows the last
pub follower_more : (n from x : ℕ) (xs : List ℕ) → Distinct (from ∷ xs)
    → follower n from (xs ++ x ∷ []) ≡ (if n == last_of from xs then x else follower n from xs)
follower_more n from x [] d = refl
follower_more n from x (y ∷ ys) d = elim (cases_eq n from) [
  | inl e ↦
      let other : n ≢ last_of y ys = λ same. d.0 (subst (λ (z : ℕ). IsAmong z (y ∷ ys)) (sym same ∙ e) (last_among y ys)) in
      rw (eq-eqb n from e, ne_eqb n (last_of y ys) other) refl
  | inr ne ↦ rw (ne_eqb n from ne) (follower_more n y x ys d.1)
]

-- links with one more
pub link_added : (links nodes : List ℕ) (i x : ℕ) → Distinct (0 ∷ nodes) → i < length nodes → x ≡ get_or nodes i 0 → last_of 0 (take i nodes) < length links
    → ((n : ℕ) → get_or links n 0 ≡ follower n 0 (take i nodes))
    → (n : ℕ) → get_or (set links (last_of 0 (take i nodes)) x) n 0 ≡ follower n 0 (take (i + 1) nodes)
link_added links nodes i x d below is within so_far n =
    let more : take (i + 1) nodes ≡ take i nodes ++ x ∷ [] = take_more nodes i 0 below ∙ ap (λ (y : ℕ). take i nodes ++ y ∷ []) (sym is) in
    let last : ℕ = last_of 0 (take i nodes) in
    let front : Distinct (0 ∷ take i nodes) = front_distinct (0 ∷ take i nodes) (drop i nodes) (subst (λ (xs : List ℕ). Distinct (0 ∷ xs)) (sym (take-append-drop i nodes)) d) in
    elim (cases_eq n last) [
      | inl e ↦
          ap (λ (m : ℕ). get_or (set links last x) m 0) e ∙ get_or-set_same links last x 0 within
          ∙ sym (ap (follower n 0) more ∙ follower_more n 0 x (take i nodes) front ∙ rw (eq-eqb n last e) refl)
      | inr ne ↦
          get_or-set_other links last n x 0 ne ∙ so_far n
          ∙ sym (ap (follower n 0) more ∙ follower_more n 0 x (take i nodes) front ∙ rw (ne_eqb n last ne) refl)
    ]

pub last_within : (nodes : List ℕ) (i count : ℕ) → ((n : ℕ) → IsAmong n (0 ∷ nodes) → n < count) → last_of 0 (take i nodes) < count
last_within nodes i count within =
    within (last_of 0 (take i nodes))
    (subst (λ (xs : List ℕ). IsAmong (last_of 0 (take i nodes)) (0 ∷ xs)) (take-append-drop i nodes)
    (in_left (last_of 0 (take i nodes)) (0 ∷ take i nodes) (drop i nodes) (last_among 0 (take i nodes))))

pub last_taken : (nodes : List ℕ) (i x : ℕ) → i < length nodes → x ≡ get_or nodes i 0 → x ≡ last_of 0 (take (i + 1) nodes)
last_taken nodes i x below is =
    is ∙ sym (ap (last_of 0) (take_more nodes i 0 below) ∙ last_more 0 (get_or nodes i 0) (take i nodes))

-- the nodes of a chain from node 0 are different, and none is node 0
pub chain_distinct : (xs : List ℕ) → IsChain (λ n. follower n 0 xs) 0 xs → Distinct (0 ∷ xs)
chain_distinct xs c = (not_again (λ n. follower n 0 xs) 0 xs c, distinct (λ n. follower n 0 xs) 0 xs c)
