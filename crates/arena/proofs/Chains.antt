-- Laws of chains of nodes, and of the ways along their links.
use Rattle.std.proofs.Common.{◌≡◌, ◌≢◌, ℕ, ◌<◌, ◌⊎◌, inl, inr, List, [], ◌∷◌, ◌++◌, length, refl, sym, ◌∙◌, subst, arith}
use Rattle.arena.specs.Chain.{IsChain, IsAmong, LeadsTo}
use Rattle.arena.specs.Chain.LeadsTo.{there, on}

-- no number stands twice
abbrev pub Distinct : List ℕ → Type 0
Distinct [] = Unit {0}
Distinct (x ∷ xs) = (IsAmong x xs → ⊥) × Distinct xs

pub in_left : (x : ℕ) (xs ys : List ℕ) → IsAmong x xs → IsAmong x (xs ++ ys)
in_left x [] ys h = absurd h
in_left x (y ∷ xs) ys (inl e) = inl e
in_left x (y ∷ xs) ys (inr h) = inr (in_left x xs ys h)

pub in_right : (x : ℕ) (xs ys : List ℕ) → IsAmong x ys → IsAmong x (xs ++ ys)
in_right x [] ys h = h
in_right x (y ∷ xs) ys h = inr (in_right x xs ys h)

pub in_end : (x : ℕ) (xs : List ℕ) → IsAmong x (xs ++ x ∷ [])
in_end x [] = inl refl
in_end x (y ∷ xs) = inr (in_end x xs)

pub in_end_cases : (x y : ℕ) (xs : List ℕ) → IsAmong x (xs ++ y ∷ []) → IsAmong x xs ⊎ (x ≡ y)
in_end_cases x y [] (inl e) = inr e
in_end_cases x y [] (inr h) = absurd h
in_end_cases x y (z ∷ xs) (inl e) = inl (inl e)
in_end_cases x y (z ∷ xs) (inr h) = elim (in_end_cases x y xs h) [ inl a ↦ inl (inr a) | inr b ↦ inr b ]

-- a chain is the only one from there
pub same_chain : (link : ℕ → ℕ) (from : ℕ) (ns ms : List ℕ) → IsChain link from ns → IsChain link from ms → ns ≡ ms
same_chain link from [] [] c d = refl
same_chain link from [] (m ∷ ms) c d = absurd (d.1 (sym d.0 ∙ c))
same_chain link from (n ∷ ns) [] c d = absurd (c.1 (sym c.0 ∙ d))
same_chain link from (n ∷ ns) (m ∷ ms) c d =
    let e : n ≡ m = sym c.0 ∙ d.0 in
    let rest : ns ≡ ms = same_chain link n ns ms c.2 (subst (λ x. IsChain link x ms) (sym e) d.2) in
    cc

-- from a node of the chain its rest is a chain that is no longer
pub rest_of : (link : ℕ → ℕ) (from : ℕ) (ns : List ℕ) → IsChain link from ns → (m : ℕ) → IsAmong m ns → (ms : List ℕ) × (IsChain link m ms) × (length ms < length ns)
rest_of link from [] c m h = absurd h
rest_of link from (n ∷ ns) c m (inl e) = (ns, rw e c.2, omega arith)
rest_of link from (n ∷ ns) c m (inr h) =
    let r : (ms : List ℕ) × (IsChain link m ms) × (length ms < length ns) = rest_of link n ns c.2 m h in
    (r.0, r.1, omega arith)

pub not_again : (link : ℕ → ℕ) (from : ℕ) (ns : List ℕ) → IsChain link from ns → IsAmong from ns → ⊥
not_again link from ns c h =
    let r : (ms : List ℕ) × (IsChain link from ms) × (length ms < length ns) = rest_of link from ns c from h in
    let e : ns ≡ r.0 = same_chain link from ns r.0 c r.1 in
    grind arith

-- no node stands twice on a chain
pub distinct : (link : ℕ → ℕ) (from : ℕ) (ns : List ℕ) → IsChain link from ns → Distinct ns
distinct link from [] c = tt
distinct link from (n ∷ ns) c = (not_again link n ns c.2, distinct link n ns c.2)

-- no number of the second part of a list with none twice is in the first
pub parts_apart : (xs ys : List ℕ) (x : ℕ) → Distinct (xs ++ ys) → IsAmong x xs → IsAmong x ys → ⊥
parts_apart [] ys x d h g = h
parts_apart (y ∷ xs) ys x d (inl e) g = d.0 (in_right y xs ys (subst (λ z. IsAmong z ys) e g))
parts_apart (y ∷ xs) ys x d (inr h) g = parts_apart xs ys x d.1 h g

-- ways along links
pub leads_at : (k : ℕ → ℕ) (a b : ℕ) → a ≡ b → LeadsTo k b a
leads_at k a b e = subst (λ x. LeadsTo k b x) (sym e) there

pub leads_trans : (k : ℕ → ℕ) (b c a : ℕ) → LeadsTo k b a → LeadsTo k c b → LeadsTo k c a
leads_trans k b c a there q = q
leads_trans k b c a (on x ne p) q = on a ne (leads_trans k b c (k a) p q)

pub leads_one : (k : ℕ → ℕ) (a b : ℕ) → k a ≡ b → b ≢ 0 → LeadsTo k b a
leads_one k a b e ne = on a (λ z. ne (sym e ∙ z)) (leads_at k (k a) b e)
