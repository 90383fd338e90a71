-- Laws of changed functions, and further laws of chains of nodes and of the ways along their links.
use Rattle.std.proofs.Common.{drop, ◌≡◌, ◌≢◌, ℕ, zero, suc, ◌≤◌, ◌⊎◌, inl, inr, List, [], ◌∷◌, ◌++◌, length, map, true, false, if◌then◌else◌, ◌==◌, refl, sym, ◌∙◌, ap, subst, arith}
use Rattle.std.specs.Prelude.{nat_eq}
use Rattle.std.specs.List.{IsDistinct, list_any, AllByRecursion}
use Rattle.std.proofs.lemmas.Bool.{cases_eq, eq-eqb, eqb-true, ne_eqb, or_cases}
use Rattle.std.proofs.lemmas.Map.Steps.{length-le_from_distinct_below}
use Rattle.arena.specs.Chain.{IsChain, IsAmong, IsFirst, LeadsTo, walk}
use Rattle.arena.specs.Chain.LeadsTo.{there, on}
use Rattle.arena.proofs.Facts.{Distinct, distinct, in_left, leads_at, parts_apart}
use Rattle.protocol.specs.Recovered.{end_of}

-- f with v at i
abbrev pub upd : {A : Type 0} → (ℕ → A) → ℕ → A → ℕ → A
upd f i v j = if i == j then v else f j

pub upd_same : {A : Type 0} (f : ℕ → A) (i : ℕ) (v : A) → upd f i v i ≡ v
upd_same f i v = rw (eq-eqb i i refl) refl

pub upd_other : {A : Type 0} (f : ℕ → A) (i : ℕ) (v : A) (j : ℕ) → j ≢ i → upd f i v j ≡ f j
upd_other f i v j ne = rw (ne_eqb i j (λ e. ne (sym e))) refl

pub upd_at : {A : Type 0} (f : ℕ → A) (i : ℕ) (v : A) (j : ℕ) → j ≡ i → upd f i v j ≡ v
upd_at f i v j e = rw (eq-eqb i j (sym e)) refl

-- the two cases of a changed function
pub upd_cases : {A : Type 0} (f : ℕ → A) (i : ℕ) (v : A) (j : ℕ) → ((j ≡ i) × (upd f i v j ≡ v)) ⊎ ((j ≢ i) × (upd f i v j ≡ f j))
upd_cases f i v j = elim (cases_eq j i) [ inl e ↦ inl (e, upd_at f i v j e) | inr d ↦ inr (d, upd_other f i v j d) ]

pub in_parts : (x : ℕ) (xs ys : List ℕ) → IsAmong x (xs ++ ys) → IsAmong x xs ⊎ IsAmong x ys
in_parts x [] ys h = inr h
in_parts x (y ∷ xs) ys (inl e) = inl (inl e)
in_parts x (y ∷ xs) ys (inr h) = elim (in_parts x xs ys h) [ inl a ↦ inl (inr a) | inr b ↦ inr b ]

-- what follows a node of the chain is a node of the chain
pub in_chain : (link : ℕ → ℕ) (from : ℕ) (ns : List ℕ) (m : ℕ) → IsChain link from ns → IsAmong m (from ∷ ns) → link m ≢ 0 → IsAmong (link m) ns
in_chain link from [] m c (inl e) ne = absurd (ne (ap link e ∙ c))
in_chain link from [] m c (inr h) ne = absurd h
in_chain link from (n ∷ ns) m c (inl e) ne = inl (ap link e ∙ c.0)
in_chain link from (n ∷ ns) m c (inr h) ne = inr (in_chain link n ns m c.2 h ne)

-- only one node of the chain has no next
pub one_end : (link : ℕ → ℕ) (from : ℕ) (ns : List ℕ) → IsChain link from ns → (m : ℕ) → IsAmong m (from ∷ ns) → link m ≡ 0 → m ≡ end_of from ns
one_end link from [] c m (inl e) z = e
one_end link from [] c m (inr h) z = absurd h
one_end link from (n ∷ ns) c m (inl e) z = absurd (c.1 (sym c.0 ∙ ap link (sym e) ∙ z))
one_end link from (n ∷ ns) c m (inr h) z = one_end link n ns c.2 m h z

-- the last node has no next
pub end_is_last : (link : ℕ → ℕ) (from : ℕ) (ns : List ℕ) → IsChain link from ns → link (end_of from ns) ≡ 0
end_is_last link from [] c = c
end_is_last link from (n ∷ ns) c = end_is_last link n ns c.2

-- each node of the chain is the next of one
pub linked_by : (link : ℕ → ℕ) (from : ℕ) (ns : List ℕ) → IsChain link from ns → (m : ℕ) → IsAmong m ns → (p : ℕ) × (link p ≡ m) × (m ≢ 0)
linked_by link from [] c m h = absurd h
linked_by link from (n ∷ ns) c m (inl e) = (from, c.0 ∙ sym e, λ z. c.1 (sym e ∙ z))
linked_by link from (n ∷ ns) c m (inr h) = linked_by link n ns c.2 m h

-- a chain with a node more at its end
pub grown : (old new : ℕ → ℕ) (from : ℕ) (ns : List ℕ) (last x : ℕ) → IsChain old from ns → IsAmong last (from ∷ ns) → old last ≡ 0
    → new last ≡ x → x ≢ 0 → new x ≡ 0 → ((m : ℕ) → m ≢ last → new m ≡ old m) → IsChain new from (ns ++ x ∷ [])
grown old new from [] last x c (inl e) z at ne end same = (ap new (sym e) ∙ at, ne, end)
grown old new from [] last x c (inr h) z at ne end same = absurd h
grown old new from (n ∷ ns) last x c (inl e) z at ne end same = absurd (c.1 (sym c.0 ∙ ap old (sym e) ∙ z))
grown old new from (n ∷ ns) last x c (inr h) z at ne end same =
    (same from (λ e. c.1 (sym c.0 ∙ ap old e ∙ z)) ∙ c.0, c.1, grown old new n ns last x c.2 h z at ne end same)

pub chain_like : (old new : ℕ → ℕ) (from : ℕ) (ns : List ℕ) → ((m : ℕ) → new m ≡ old m) → IsChain old from ns → IsChain new from ns
chain_like old new from [] same c = same from ∙ c
chain_like old new from (n ∷ ns) same c = (same from ∙ c.0, c.1, chain_like old new n ns same c.2)

-- what a walk gives
pub walked : (link : ℕ → ℕ) (fuel from : ℕ) (ns : List ℕ) → IsChain link from ns → length ns ≤ fuel → walk fuel link from ≡ ns
walked link zero from [] c l = refl
walked link (suc fuel) from [] c l = rw (eq-eqb (link from) 0 c) refl
walked link zero from (n ∷ ns) c l = absurd (omega arith)
walked link (suc fuel) from (n ∷ ns) c l =
    let rest : walk fuel link n ≡ ns = walked link fuel n ns c.2 (omega arith) in
    rw (c.0, ne_eqb n 0 c.1, rest) refl

pub in_end_of : (from : ℕ) (ns : List ℕ) → IsAmong (end_of from ns) (from ∷ ns)
in_end_of from [] = inl refl
in_end_of from (n ∷ ns) = inr (in_end_of n ns)

-- links that stand lead where they led
pub leads_grows : (k l : ℕ → ℕ) (b a : ℕ) → ((n : ℕ) → k n ≢ 0 → l n ≡ k n) → LeadsTo k b a → LeadsTo l b a
leads_grows k l b a g there = there
leads_grows k l b a g (on x ne p) = on a (λ z. ne (sym (g a ne) ∙ z)) (subst (λ x. LeadsTo l b x) (sym (g a ne)) (leads_grows k l b (k a) g p))

-- where it is another node, there is a link, and it comes after the next one too
pub leads_next : (k : ℕ → ℕ) (a b : ℕ) → LeadsTo k b a → a ≢ b → (k a ≢ 0) × LeadsTo k b (k a)
leads_next k a b there ne = absurd (ne refl)
leads_next k a b (on x some p) ne = (some, p)

-- what a node of the chain leads to is on the chain
pub leads_in : (k : ℕ → ℕ) (from : ℕ) (ns : List ℕ) (b a : ℕ) → IsChain k from ns → LeadsTo k b a → IsAmong a (from ∷ ns) → IsAmong b (from ∷ ns)
leads_in k from ns b a c there h = h
leads_in k from ns b a c (on x some p) h = leads_in k from ns b (k a) c p (inr (in_chain k from ns a c h some))

-- the first node of a chain leads to each
pub leads_from : (k : ℕ → ℕ) (from : ℕ) (ns : List ℕ) (x : ℕ) → IsChain k from ns → IsAmong x (from ∷ ns) → LeadsTo k x from
leads_from k from ns x c (inl e) = leads_at k from x (sym e)
leads_from k from [] x c (inr h) = absurd h
leads_from k from (n ∷ ns) x c (inr h) = on from (λ z. c.1 (sym c.0 ∙ z)) (subst (λ y. LeadsTo k x y) (sym c.0) (leads_from k n ns x c.2 h))

-- the end of a chain's first part leads to its end
pub leads_end : (k : ℕ → ℕ) (from : ℕ) (xs ys : List ℕ) → IsChain k from (xs ++ ys) → LeadsTo k (end_of from (xs ++ ys)) (end_of from xs)
leads_end k from [] [] c = there
leads_end k from [] (y ∷ ys) c = on from (λ z. c.1 (sym c.0 ∙ z)) (subst (λ x. LeadsTo k (end_of y ys) x) (sym c.0) (leads_end k y [] ys c.2))
leads_end k from (x ∷ xs) ys c = leads_end k x xs ys c.2

-- a chain in two parts: a node of the first has a next one unless the second is empty
pub has_next : (k : ℕ → ℕ) (from : ℕ) (ns : List ℕ) (q : ℕ) (qs : List ℕ) → IsChain k from (ns ++ q ∷ qs) → (m : ℕ) → IsAmong m (from ∷ ns) → k m ≢ 0
has_next k from [] q qs c m (inl e) = λ z. c.1 (sym c.0 ∙ ap k (sym e) ∙ z)
has_next k from [] q qs c m (inr h) = absurd h
has_next k from (n ∷ ns) q qs c m (inl e) = λ z. c.1 (sym c.0 ∙ ap k (sym e) ∙ z)
has_next k from (n ∷ ns) q qs c m (inr h) = has_next k n ns q qs c.2 m h

-- the next of a node of the first part is in that part, or is the first of the second
pub next_in : (k : ℕ → ℕ) (from : ℕ) (ns : List ℕ) (q : ℕ) (qs : List ℕ) → IsChain k from (ns ++ q ∷ qs) → (m : ℕ) → IsAmong m (from ∷ ns) → IsAmong (k m) ns ⊎ (k m ≡ q)
next_in k from [] q qs c m (inl e) = inr (ap k e ∙ c.0)
next_in k from [] q qs c m (inr h) = absurd h
next_in k from (n ∷ ns) q qs c m (inl e) = inl (inl (ap k e ∙ c.0))
next_in k from (n ∷ ns) q qs c m (inr h) = elim (next_in k n ns q qs c.2 m h) [ inl a ↦ inl (inr a) | inr b ↦ inr b ]

pub any_in : (q : ℕ) (xs : List ℕ) → list_any (nat_eq q) xs ≡ true → IsAmong q xs
any_in q [] h = absurd (cc)
any_in q (x ∷ xs) h = elim (or_cases (nat_eq q x) (list_any (nat_eq q) xs) h) [ inl e ↦ inl (eqb-true q x e) | inr t ↦ inr (any_in q xs t) ]

all_apart : (x : ℕ) (xs : List ℕ) → (IsAmong x xs → ⊥) → AllByRecursion (λ y. nat_eq x y ≡ false) xs
all_apart x [] h = tt
all_apart x (y ∷ ys) h = (ne_eqb x y (λ e. h (inl e)), all_apart x ys (λ t. h (inr t)))

is_distinct : (xs : List ℕ) → Distinct xs → IsDistinct nat_eq xs
unfolding IsDistinct
is_distinct [] d = tt
is_distinct (x ∷ xs) d = (all_apart x xs d.0, is_distinct xs d.1)

-- numbers of which none is twice and none is above n are at most n, if none is 0
pub few : (xs : List ℕ) (n : ℕ) → Distinct xs → (IsAmong 0 xs → ⊥) → ((q : ℕ) → IsAmong q xs → q ≤ n) → length xs ≤ n
few xs n d none below =
    let l : length (0 ∷ xs) ≤ suc n = length-le_from_distinct_below (0 ∷ xs) (suc n) (is_distinct (0 ∷ xs) (none, d))
    (λ q h. elim (any_in q (0 ∷ xs) h) [ inl e ↦ omega arith | inr t ↦ omega (arith, below q t) ]) in
    omega arith

pub map_agree : {X : Type 0} (f g : ℕ → X) (xs : List ℕ) → ((x : ℕ) → IsAmong x xs → f x ≡ g x) → map f xs ≡ map g xs
map_agree f g [] h = refl
map_agree f g (x ∷ xs) h =
    let e : f x ≡ g x = h x (inl refl) in
    let rest : map f xs ≡ map g xs = map_agree f g xs (λ y i. h y (inr i)) in
    cc

-- a node without a link leads to itself alone
pub leads_last : (k : ℕ → ℕ) (a b : ℕ) → LeadsTo k b a → k a ≡ 0 → b ≡ a
leads_last k a b there none = refl
leads_last k a b (on x some p) none = absurd (some none)

pub first_among : (n : ℕ) (q : List ℕ) → IsFirst n q → IsAmong n q
first_among n [] h = absurd h
first_among n (x ∷ xs) h = inl h

-- the second part of a chain is a chain from its first node
pub rest_chain : (k : ℕ → ℕ) (from : ℕ) (xs ys : List ℕ) (y : ℕ) → IsChain k from (xs ++ ys) → IsFirst y ys → IsChain k y (drop 1 ys)
rest_chain k from [] [] y c h = absurd h
rest_chain k from [] (x ∷ ys) y c h = subst (λ z. IsChain k z ys) (sym h) c.2
rest_chain k from (x ∷ xs) ys y c h = rest_chain k x xs ys y c.2 h

-- what follows the end of a chain's first part is not in that part
pub after_end : (k : ℕ → ℕ) (from : ℕ) (xs ys : List ℕ) → IsChain k from (xs ++ ys) → IsAmong (k (end_of from xs)) xs → ⊥
after_end k from xs [] c i = go (in_left (k (end_of from xs)) xs [] i)
  where
    ended : (from : ℕ) (xs : List ℕ) → IsChain k from (xs ++ []) → k (end_of from xs) ≡ 0
    ended from [] c = c
    ended from (x ∷ xs) c = ended x xs c.2

    go : IsAmong (k (end_of from xs)) (xs ++ []) → ⊥
    go i = (linked_by k from (xs ++ []) c (k (end_of from xs)) i).2 (ended from xs c)
after_end k from xs (y ∷ ys) c i =
    let next : k (end_of from xs) ≡ y = follows from xs c in
    parts_apart xs (y ∷ ys) (k (end_of from xs)) (distinct k from (xs ++ y ∷ ys) c) i (inl next)
  where
    follows : (from : ℕ) (xs : List ℕ) → IsChain k from (xs ++ y ∷ ys) → k (end_of from xs) ≡ y
    follows from [] c = c.0
    follows from (x ∷ xs) c = follows x xs c.2
