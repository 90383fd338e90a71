-- What the change of one word makes of links and marks.
use Rattle.std.proofs.Common.{◌≡◌, ◌≢◌, ℕ, inl, inr, List, [], ◌∷◌, ◌++◌, drop, refl, sym, ◌∙◌, ap, subst, arith, append_assoc}
use Rattle.std.proofs.lemmas.Bool.{cases_eq}
use Rattle.arena.specs.Chain.{IsChain, IsAmong, IsFirst}
use Rattle.arena.proofs.Facts.{in_end, in_end_cases, in_left}
use Rattle.protocol.proofs.chain.Chains.{upd, upd_same, upd_other, upd_cases, one_end, linked_by, grown, in_parts}
use Rattle.protocol.proofs.chain.Chains.{in_chain, next_in, has_next}
use Rattle.protocol.specs.invariants.Links.{Links, Marks}

-- a kept word that stands is the cached one: where the cached one is 0, or another, there is none
pub kept_none : (c k : ℕ → ℕ) (n : ℕ) → (k n ≢ 0 → c n ≡ k n) → c n ≡ 0 → k n ≡ 0
kept_none c k n stands z = elim (cases_eq (k n) 0) [ inl e ↦ e | inr ne ↦ sym (stands ne) ∙ z ]

pub kept_apart : (c k : ℕ → ℕ) (n : ℕ) → (k n ≢ 0 → c n ≡ k n) → k n ≢ c n → k n ≡ 0
kept_apart c k n stands apart = elim (cases_eq (k n) 0) [ inl e ↦ e | inr ne ↦ absurd (apart (sym (stands ne))) ]

-- a link becomes kept: the chain is longer by its node
pub keep_new_link : (c k : ℕ → ℕ) (order : List ℕ) (n : ℕ) → k n ≢ c n → Links c k order → Links c (upd k n (c n)) (order ++ c n ∷ [])
keep_new_link c k order n d l =
    let none : k n ≡ 0 = grind (arith, l.kept n) in
    let some : c n ≢ 0 = λ z. d (none ∙ sym z) in
    let last : c (c n) ≡ 0 = l.ahead n some none in
    let last_kept : upd k n (c n) (c n) ≡ 0 = grind (arith, upd_cases k n (c n) (c n), l.kept (c n)) in
    record {
      chain = grown k (upd k n (c n)) 0 order n (c n) l.chain (l.on n some) none (upd_same k n (c n)) some last_kept (upd_other k n (c n));
      kept = λ m h. grind (arith, upd_cases k n (c n) m, l.kept m, h);
      on = λ m h. in_left m (0 ∷ order) (c n ∷ []) (l.on m h);
      ahead = λ m h z. grind (arith, upd_cases k n (c n) m, l.ahead m, h, z);
    }

-- once the link of n is kept, no link is ahead
pub no_link_ahead : (c k : ℕ → ℕ) (order : List ℕ) (n : ℕ) → k n ≢ c n → Links c k order → (j : ℕ) → c j ≢ 0 → upd k n (c n) j ≡ 0 → ⊥
no_link_ahead c k order n d l j h z =
    let none : k n ≡ 0 = grind (arith, l.kept n) in
    let some : c n ≢ 0 = λ z. d (none ∙ sym z) in
    elim (upd_cases k n (c n) j) [
      | inl s ↦ some (sym s.1 ∙ z)
      | inr s ↦ s.0 (one_end k 0 order l.chain j (l.on j h) (sym s.1 ∙ z) ∙ sym (one_end k 0 order l.chain n (l.on n some) none))
    ]

-- a node that nothing leads to is not on the chain
pub off_chain : (c k : ℕ → ℕ) (order : List ℕ) (node : ℕ) → Links c k order → node ≢ 0 → ((m : ℕ) → c m ≢ node) → IsAmong node (0 ∷ order) → ⊥
off_chain c k order node l some free (inl e) = some e
off_chain c k order node l some free (inr h) =
    let p : (p : ℕ) × (k p ≡ node) × (node ≢ 0) = linked_by k 0 order l.chain node h in
    free p.0 (l.kept p.0 (λ z. some (sym p.1 ∙ z)) ∙ p.1)

-- a node that nothing leads to has no next one
pub no_link_of : (c k : ℕ → ℕ) (order : List ℕ) (node : ℕ) → Links c k order → node ≢ 0 → ((m : ℕ) → c m ≢ node) → c node ≡ 0
no_link_of c k order node l some free = elim (cases_eq (c node) 0) [ inl z ↦ z | inr d ↦ absurd (off_chain c k order node l some free (l.on node d)) ]

-- a node is linked behind the last
pub new_link : (c k : ℕ → ℕ) (order : List ℕ) (last node : ℕ) → Links c k order → IsAmong last (0 ∷ order) → c last ≡ 0 → node ≢ 0 → ((m : ℕ) → c m ≢ node)
    → Links (upd c last node) k order
new_link c k order last node l here empty some free =
    let none : k last ≡ 0 = grind (arith, l.kept last) in
    let apart : node ≢ last = λ e. off_chain c k order node l some free (subst (λ x. IsAmong x (0 ∷ order)) (sym e) here) in
    let bare : c node ≡ 0 = no_link_of c k order node l some free in
    record {
      chain = l.chain;
      kept = λ m h. grind (arith, upd_cases c last node m, l.kept m, h);
      on = λ m h. elim (upd_cases c last node m) [
        | inl s ↦ subst (λ x. IsAmong x (0 ∷ order)) (sym s.0) here
        | inr s ↦ l.on m (λ z. h (s.1 ∙ z))
      ];
      ahead = λ m h z. elim (upd_cases c last node m) [
        | inl s ↦ ap (upd c last node) s.1 ∙ upd_other c last node node apart ∙ bare
        | inr s ↦ absurd (s.0 (one_end k 0 order l.chain m (l.on m (λ q. h (s.1 ∙ q))) z ∙ sym (one_end k 0 order l.chain last here none)))
      ];
    }

-- the first of a list, and what is left of it
pub first_split : (n : ℕ) (q : List ℕ) → IsFirst n q → q ≡ n ∷ drop 1 q
first_split n [] h = absurd h
first_split n (x ∷ xs) h = ap (λ y. y ∷ xs) (sym h)

pub first_more : (n x : ℕ) (q : List ℕ) → IsFirst n q → IsFirst n (q ++ x ∷ [])
first_more n x [] h = absurd h
first_more n x (y ∷ ys) h = h

pub first_one : (n x : ℕ) (q : List ℕ) → IsFirst n q → IsFirst x q → n ≡ x
first_one n x [] h g = absurd h
first_one n x (y ∷ ys) h g = h ∙ sym g

-- the claimed node moves from the waiting ones to the claimed ones
pub claimed_split : (n : ℕ) (claimed waiting : List ℕ) → IsFirst n waiting → (claimed ++ n ∷ []) ++ drop 1 waiting ≡ claimed ++ waiting
claimed_split n claimed waiting h = append_assoc claimed (n ∷ []) (drop 1 waiting) ∙ ap (λ q. claimed ++ q) (sym (first_split n waiting h))

-- a longer queue behind the waiting nodes
pub more_waiting : (c k : ℕ → ℕ) (claimed waiting : List ℕ) (x : ℕ) → Marks c k claimed waiting → Marks c k claimed (waiting ++ x ∷ [])
more_waiting c k claimed waiting x b = record {
  kept = b.kept;
  back = b.back;
  on = b.on;
  ahead = λ j h z. first_more j x waiting (b.ahead j h z);
}

-- a mark becomes kept: the first waiting node is claimed
pub keep_new_mark : (c k : ℕ → ℕ) (claimed waiting : List ℕ) (n : ℕ) → k n ≢ c n → Marks c k claimed waiting
    → Marks c (upd k n (c n)) (claimed ++ n ∷ []) (drop 1 waiting) × IsFirst n waiting × ((j : ℕ) → c j ≢ 0 → upd k n (c n) j ≡ 0 → ⊥)
keep_new_mark c k claimed waiting n d b =
    let none : k n ≡ 0 = grind (arith, b.kept n) in
    let some : c n ≢ 0 = λ z. d (none ∙ sym z) in
    let first : IsFirst n waiting = b.ahead n some none in
    let only : (j : ℕ) → c j ≢ 0 → upd k n (c n) j ≡ 0 → ⊥ = λ j h z. elim (upd_cases k n (c n) j) [
      | inl s ↦ some (sym s.1 ∙ z)
      | inr s ↦ s.0 (first_one j n waiting (b.ahead j h (sym s.1 ∙ z)) first)
    ] in (
      record {
        kept = λ j h. grind (arith, upd_cases k n (c n) j, b.kept j, h);
        back = λ j h. elim (upd_cases k n (c n) j) [
          | inl s ↦ subst (λ x. IsAmong x (claimed ++ n ∷ [])) (sym s.0) (in_end n claimed)
          | inr s ↦ in_left j claimed (n ∷ []) (b.back j (λ z. h (s.1 ∙ z)))
        ];
        on = λ j h z. elim (upd_cases k n (c n) j) [
          | inl s ↦ some (sym s.1 ∙ z)
          | inr s ↦ elim (in_end_cases j n claimed h) [ inl t ↦ b.on j t (sym s.1 ∙ z) | inr e ↦ s.0 e ]
        ];
        ahead = λ j h z. absurd (only j h z);
      },
      first,
      only,
    )

-- the first waiting node gets a mark
pub new_mark : (c k : ℕ → ℕ) (claimed waiting : List ℕ) (n token : ℕ) → Marks c k claimed waiting → IsFirst n waiting → c n ≡ 0 → Marks (upd c n token) k claimed waiting
new_mark c k claimed waiting n token b first empty = record {
  kept = λ j h. grind (arith, upd_cases c n token j, b.kept j, h, b.kept n, empty);
  back = b.back;
  on = b.on;
  ahead = λ j h z. elim (upd_cases c n token j) [
    | inl s ↦ subst (λ x. IsFirst x waiting) (sym s.0) first
    | inr s ↦ b.ahead j (λ q. h (s.1 ∙ q)) z
  ];
}

-- the node behind a claimed one, or behind node 0, is the first waiting one, if it has no kept mark
pub first_waiting : (links c k : ℕ → ℕ) (claimed waiting : List ℕ) (first : ℕ) → IsChain links 0 (claimed ++ waiting) → Marks c k claimed waiting
    → IsAmong first (0 ∷ claimed) → links first ≢ 0 → k (links first) ≡ 0 → IsFirst (links first) waiting
first_waiting links c k claimed [] first chain b h some none =
    let there : IsAmong (links first) (claimed ++ []) = in_chain links 0 (claimed ++ []) first chain (in_left first (0 ∷ claimed) [] h) some in
    elim (in_parts (links first) claimed [] there) [ inl s ↦ absurd (b.on (links first) s none) | inr s ↦ absurd s ]
first_waiting links c k claimed (x ∷ xs) first chain b h some none = elim (next_in links 0 claimed x xs chain first h) [
  | inl s ↦ absurd (b.on (links first) s none)
  | inr e ↦ e
]

-- a claimed node, or node 0, that has no next one: none is waiting
pub none_waiting : (links : ℕ → ℕ) (claimed waiting : List ℕ) (first : ℕ) → IsChain links 0 (claimed ++ waiting) → IsAmong first (0 ∷ claimed) → links first ≡ 0 → waiting ≡ []
none_waiting links claimed [] first chain h none = refl
none_waiting links claimed (x ∷ xs) first chain h none = absurd (has_next links 0 claimed x xs chain first h none)
