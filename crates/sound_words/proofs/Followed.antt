-- The walk along the chain that notes where each node stands.
use Rattle.std.proofs.Common.{◌≡◌, ◌≢◌, ℕ, ◌+◌, ◌-◌, ◌≤◌, ◌<◌, ◌⊎◌, inl, inr, List, [], ◌∷◌, ◌++◌, refl, sym, ◌∙◌, ap, subst, arith, append_assoc}
use Rattle.std.proofs.lemmas.Bool.{cases_eq}
use Rattle.std.proofs.lemmas.List.{append-nil}
use Rattle.arena.specs.Shape.{Shape, greatest}
use Rattle.arena.specs.Words.{links}
use Rattle.arena.specs.Chain.{IsChain, IsAmong, LeadsTo, walk}
use Rattle.arena.specs.Chain.LeadsTo.{there, on}
use Rattle.arena.specs.Content.{chain_of}
use Rattle.arena.specs.declared.place.Place.{Place}
use Rattle.sound_words.specs.Sound.{IsIssued, IsOnChain}
use Rattle.sound_words.specs.Order.{IsRun, IsOrder}
use Rattle.arena.proofs.Facts.{in_end, in_end_cases, in_left, in_right, leads_at, leads_one, leads_trans}
use Rattle.sound_words.proofs.Chains.{not_twice, walk_end, walk_next}

-- after i links the walk is at this node, and the nodes that it passed have their places
pub record IsFollowed (s : Shape) (kept : Place → ℕ) (place : ℕ → ℕ) (i node : ℕ) : Type 0 where
  pub passed : List ℕ
  pub rest : chain_of s kept ≡ passed ++ walk (greatest s - i) (links kept) node
  pub onward : (ns : List ℕ) → IsChain (links kept) node ns → IsChain (links kept) 0 (passed ++ ns)
  pub back : (ns : List ℕ) → IsChain (links kept) 0 (passed ++ ns) → IsChain (links kept) node ns
  pub issued : (n : ℕ) → IsAmong n passed → IsIssued s kept n
  pub at_node : place node ≡ i
  pub on_chain : (n : ℕ) → place n ≢ 0 → IsAmong n passed
  pub noted : (n : ℕ) → IsAmong n passed → place n ≢ 0
  pub up_to : (n : ℕ) → place n ≤ i
  pub next : (n : ℕ) → place n ≢ 0 → n ≢ node → place (links kept n) ≡ place n + 1
  pub leads : (n to : ℕ) → place n ≢ 0 → place n ≤ place to → LeadsTo (links kept) to n

-- where it begins
pub followed_none : (s : Shape) (kept : Place → ℕ) (place : ℕ → ℕ) → ((n : ℕ) → place n ≡ 0) → IsFollowed s kept place 0 0
followed_none s kept place zeros = record {
  passed = [];
  rest = ap (λ k. walk k (links kept) 0) (omega arith);
  onward = λ ns c. c;
  back = λ ns c. c;
  issued = λ n h. absurd h;
  at_node = zeros 0;
  on_chain = λ n some. absurd (some (zeros n));
  noted = λ n h. absurd h;
  up_to = λ n. omega (arith, zeros n);
  next = λ n some other. absurd (some (zeros n));
  leads = λ n to some up. absurd (some (zeros n));
}

-- the places with one more
abbrev pub IsPlaced : (ℕ → ℕ) → ℕ → ℕ → (ℕ → ℕ) → Type 0
IsPlaced place next i after = (n : ℕ) → ((n ≡ next) × (after n ≡ i)) ⊎ ((n ≢ next) × (after n ≡ place n))

-- the node that is next is on the chain
pub next_on_chain : (s : Shape) (kept : Place → ℕ) (place : ℕ → ℕ) (i node next : ℕ) → IsFollowed s kept place i node → i < greatest s → links kept node ≡ next → next ≢ 0 → IsOnChain s kept next
next_on_chain s kept place i node next f few at ne =
    let w : walk (greatest s - i) (links kept) node ≡ next ∷ walk (greatest s - (i + 1)) (links kept) next =
    walk_next (links kept) (greatest s - i) (greatest s - (i + 1)) node next (omega arith) at ne in
    subst (IsAmong next) (sym f.rest) (in_right next f.passed (walk (greatest s - i) (links kept) node) (subst (IsAmong next) (sym w) (inl refl)))

-- a chain that comes to a node again does not end
pub next_again : (s : Shape) (kept : Place → ℕ) (place : ℕ → ℕ) (i node next : ℕ) → IsFollowed s kept place i node → i < greatest s → links kept node ≡ next → next ≢ 0 → place next ≢ 0 → IsChain (links kept) 0 (chain_of s kept) → ⊥
next_again s kept place i node next f few at ne again c =
    let w : walk (greatest s - i) (links kept) node ≡ next ∷ walk (greatest s - (i + 1)) (links kept) next =
    walk_next (links kept) (greatest s - i) (greatest s - (i + 1)) node next (omega arith) at ne in
    not_twice (links kept) 0 f.passed (walk (greatest s - i) (links kept) node) next (subst (IsChain (links kept) 0) f.rest c) (f.on_chain next again)
    (subst (IsAmong next) (sym w) (inl refl))

-- it goes on
pub followed_more : (s : Shape) (kept : Place → ℕ) (place after : ℕ → ℕ) (i node next : ℕ) → IsFollowed s kept place i node → i < greatest s → links kept node ≡ next → next ≢ 0 → IsIssued s kept next → place next ≡ 0 → IsPlaced place next (i + 1) after → IsFollowed s kept after (i + 1) next
followed_more s kept place after i node next f few at ne issued fresh placed =
    let w : walk (greatest s - i) (links kept) node ≡ next ∷ walk (greatest s - (i + 1)) (links kept) next =
    walk_next (links kept) (greatest s - i) (greatest s - (i + 1)) node next (omega arith) at ne in
    record {
      passed = f.passed ++ next ∷ [];
      rest = f.rest ∙ ap (λ xs. f.passed ++ xs) w ∙ sym (append_assoc f.passed (next ∷ []) (walk (greatest s - (i + 1)) (links kept) next));
      onward = λ ns c. subst (IsChain (links kept) 0) (sym (append_assoc f.passed (next ∷ []) ns)) (f.onward (next ∷ ns) (at, ne, c));
      back = λ ns c. (f.back (next ∷ ns) (subst (IsChain (links kept) 0) (append_assoc f.passed (next ∷ []) ns) c)).2;
      issued = λ n h. elim (in_end_cases n next f.passed h) [ inl t ↦ f.issued n t | inr e ↦ subst (IsIssued s kept) (sym e) issued ];
      at_node = elim (placed next) [ inl p ↦ p.1 | inr p ↦ absurd (p.0 refl) ];
      on_chain = λ n some. elim (placed n) [
        | inl p ↦ subst (λ x. IsAmong x (f.passed ++ next ∷ [])) (sym p.0) (in_end next f.passed)
        | inr p ↦ in_left n f.passed (next ∷ []) (f.on_chain n (λ z. some (p.1 ∙ z)))
      ];
      noted = λ n h. elim (placed n) [
        | inl p ↦ λ z. omega (arith, p.1, z)
        | inr p ↦ λ z. elim (in_end_cases n next f.passed h) [ inl t ↦ f.noted n t (sym p.1 ∙ z) | inr e ↦ p.0 e ]
      ];
      up_to = λ n. elim (placed n) [ inl p ↦ omega (arith, p.1) | inr p ↦ omega (arith, p.1, f.up_to n) ];
      next = λ n some other. elim (placed n) [
        | inl p ↦ absurd (other p.0)
        | inr p ↦ elim (cases_eq n node) [
          | inl e ↦ elim (placed next) [
            | inl q ↦ ap after (ap (links kept) e ∙ at) ∙ (let h : after next ≡ after n + 1 = omega (arith, q.1, p.1, ap place e, f.at_node) in h)
            | inr q ↦ absurd (q.0 refl)
          ]
          | inr d ↦
              let step : place (links kept n) ≡ place n + 1 = f.next n (λ z. some (p.1 ∙ z)) d in
              elim (placed (links kept n)) [
                | inl q ↦ absurd (let z : place (links kept n) ≡ 0 = ap place q.0 ∙ fresh in omega (arith, z, step))
                | inr q ↦ omega (arith, q.1, step, p.1)
              ]
        ]
      ];
      leads = λ n to some up. elim (placed n) [
        | inl p ↦ elim (placed to) [
          | inl q ↦ leads_at (links kept) n to (p.0 ∙ sym q.0)
          | inr q ↦ absurd (omega (arith, p.1, q.1, up, f.up_to to))
        ]
        | inr p ↦
            let was : place n ≢ 0 = λ z. some (p.1 ∙ z) in
            elim (placed to) [
              | inl q ↦ leads_trans (links kept) node to n (f.leads n node was (omega (arith, f.at_node, f.up_to n))) (leads_one (links kept) node to (at ∙ sym q.0) (λ z. ne (sym q.0 ∙ z)))
              | inr q ↦ f.leads n to was (omega (arith, p.1, q.1, up))
            ]
      ];
    }

-- where no node is next the chain is what was passed
all_passed : (s : Shape) (kept : Place → ℕ) (place : ℕ → ℕ) (i node : ℕ) (f : IsFollowed s kept place i node) → links kept node ≡ 0 → chain_of s kept ≡ f.passed
all_passed s kept place i node f end = f.rest ∙ ap (λ xs. f.passed ++ xs) (walk_end (links kept) (greatest s - i) node end) ∙ append-nil f.passed

pub followed_run : (s : Shape) (kept : Place → ℕ) (place : ℕ → ℕ) (i node : ℕ) → IsFollowed s kept place i node → links kept node ≡ 0 → IsRun s kept
followed_run s kept place i node f end =
    let all : chain_of s kept ≡ f.passed = all_passed s kept place i node f end in
    record {
      ends = subst (IsChain (links kept) 0) (append-nil f.passed ∙ sym all) (f.onward [] end);
      issued = λ n h. f.issued n (subst (IsAmong n) all h);
    }

pub followed_order : (s : Shape) (kept : Place → ℕ) (place : ℕ → ℕ) (i node : ℕ) → IsFollowed s kept place i node → links kept node ≡ 0 → IsOrder s kept place
followed_order s kept place i node f end =
    let all : chain_of s kept ≡ f.passed = all_passed s kept place i node f end in
    record {
      on_chain = λ n some. subst (IsAmong n) (sym all) (f.on_chain n some);
      noted = λ n h. f.noted n (subst (IsAmong n) all h);
      next = λ n some linked. f.next n some (λ e. linked (ap (links kept) e ∙ end));
      leads = f.leads;
    }

-- with all links followed, a chain that ends has no node next
pub followed_all : (s : Shape) (kept : Place → ℕ) (place : ℕ → ℕ) (i node : ℕ) → IsFollowed s kept place i node → greatest s ≤ i → IsChain (links kept) 0 (chain_of s kept) → links kept node ≡ 0
followed_all s kept place i node f most c =
    let none : greatest s - i ≡ 0 = omega arith in
    f.back [] (subst (IsChain (links kept) 0) (f.rest ∙ ap (λ k. f.passed ++ walk k (links kept) node) none) c)

-- a node leads to another exactly where it stands before it, or is it
pub leads_up : (s : Shape) (kept : Place → ℕ) (place : ℕ → ℕ) → IsOrder s kept place → (to n : ℕ) → LeadsTo (links kept) to n → place n ≢ 0 → place n ≤ place to
leads_up s kept place o to n there some = omega arith
leads_up s kept place o to n (on x linked p) some =
    let step : place (links kept n) ≡ place n + 1 = o.next n some linked in
    let rest : place (links kept n) ≤ place to = leads_up s kept place o to (links kept n) p (λ z. omega (arith, z, step)) in
    omega (arith, step, rest)
