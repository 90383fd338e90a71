-- How what waits goes on from a node.
use Rattle.std.proofs.Common.{◌≡◌, ◌≢◌, ℕ, ◌-◌, ◌+◌, ◌<◌, ◌≤◌, List, [], ◌∷◌, ◌++◌, map, filter, length, ◌==◌, refl, sym, ◌∙◌, ap, arith}
use Rattle.std.proofs.lemmas.Bool.{eq-eqb, ne_eqb}
use Rattle.std.proofs.lemmas.List.{append-nil, append_assoc, length-append, map-append}
use Rattle.words.specs.PlainQueue.{Value}
use Rattle.arena.specs.Chain.{walk}
use Rattle.arena.specs.Content.{waiting_of}
use Rattle.arena.specs.Shape.{Shape, greatest}
use Rattle.arena.specs.Place.{IsNode}
use Rattle.arena.specs.Words.{links, marks, values}
use Rattle.arena.specs.declared.place.Place.{Place}
use Rattle.arena.specs.declared.place.Place.TheVariants.{Next}
use Rattle.sound_words.specs.Sound.{IsSound}
use Rattle.sound_words.proofs.Facts.{sound_fits, walk_end, walk_next}

-- the unclaimed nodes that so many links from a node on reach
abbrev pub waiting_from : (Place → ℕ) → ℕ → ℕ → List ℕ
waiting_from k fuel n = filter (λ x. marks k x == 0) (walk fuel (links k) n)

-- the walk is at this node after i links: what it found before, and what it will find from there on
pub record IsFoundUpTo (s : Shape) (k : Place → ℕ) (links_in_all i node : ℕ) (found : List ℕ) : Type 0 where
  pub all : links_in_all ≡ greatest s
  pub within : IsNode s node
  pub few : length found ≤ i
  pub rest : found ++ waiting_from k (links_in_all - i) node ≡ waiting_of s k

module _ (s : Shape) (k : Place → ℕ) (total i n : ℕ) (found : List ℕ) (f : IsFoundUpTo s k total i n found) where
  -- nothing follows the last node
  pub found_end : links k n ≡ 0 → found ≡ waiting_of s k
  found_end end =
      let none : waiting_from k (total - i) n ≡ [] = ap (filter (λ x. marks k x == 0)) (walk_end (links k) (total - i) n end) in
      sym (append-nil found) ∙ ap (λ (xs : List ℕ). found ++ xs) (sym none) ∙ f.rest

  -- nor is more found once all links were followed
  pub found_all : total ≤ i → found ≡ waiting_of s k
  found_all past =
      let none : waiting_from k (total - i) n ≡ [] = ap (λ (fuel : ℕ). waiting_from k fuel n) (zero_fuel past) in
      sym (append-nil found) ∙ ap (λ (xs : List ℕ). found ++ xs) (sym none) ∙ f.rest
    where
      zero_fuel : total ≤ i → total - i ≡ 0
      zero_fuel h = omega arith

  -- else the next one is found, or is claimed
  module _ (next : ℕ) (below : i < total) (at : links k n ≡ next) (some : next ≢ 0) (within : IsNode s next) where
    step : walk (total - i) (links k) n ≡ next ∷ walk (total - (i + 1)) (links k) next
    step = walk_next (links k) (total - i) (total - (i + 1)) n next (omega (arith, below)) at some

    pub found_next : marks k next ≡ 0 → IsFoundUpTo s k total (i + 1) next (found ++ next ∷ [])
    found_next free =
        let here : waiting_from k (total - i) n ≡ next ∷ waiting_from k (total - (i + 1)) next =
        ap (filter (λ x. marks k x == 0)) step ∙ rw (eq-eqb (marks k next) 0 free) refl in
        record {
          all = f.all;
          within = within;
          few = omega (arith, f.few, length-append found (next ∷ []));
          rest = append_assoc found (next ∷ []) (waiting_from k (total - (i + 1)) next) ∙ ap (λ (xs : List ℕ). found ++ xs) (sym here) ∙ f.rest;
        }

    pub found_claimed : marks k next ≢ 0 → IsFoundUpTo s k total (i + 1) next found
    found_claimed taken =
        let here : waiting_from k (total - i) n ≡ waiting_from k (total - (i + 1)) next =
        ap (filter (λ x. marks k x == 0)) step ∙ rw (ne_eqb (marks k next) 0 taken) refl in
        record { all = f.all; within = within; few = omega (arith, f.few); rest = ap (λ (xs : List ℕ). found ++ xs) (sym here) ∙ f.rest }

-- links of sound words lead to nodes
pub link_within : (s : Shape) (k : Place → ℕ) → IsSound s k → (n : ℕ) → IsNode s n → links k n ≤ greatest s
link_within s k h n node = sound_fits s k h (Next (record { 0 = n })) node tt

-- where it begins
pub found_none : (s : Shape) (k : Place → ℕ) (total : ℕ) → total ≡ greatest s → IsFoundUpTo s k total 0 0 []
found_none s k total all = record {
  all = all;
  within = omega arith;
  few = omega arith;
  rest = ap (λ (fuel : ℕ). waiting_from k fuel 0) (less total) ∙ ap (λ (fuel : ℕ). waiting_from k fuel 0) all;
}
  where
    less : (x : ℕ) → x - 0 ≡ x
    less x = omega arith

-- the items of one node more
pub one_more : (k : Place → ℕ) (found : List ℕ) (node : ℕ) (old new : List Value) (item : Value) → old ≡ map (values k) found → item ≡ values k node
    → new ≡ old ++ item ∷ [] → new ≡ map (values k) (found ++ node ∷ [])
one_more k found node old new item so_far is added =
    added ∙ ap (λ (vs : List Value). vs ++ item ∷ []) so_far ∙ ap (λ (v : Value). map (values k) found ++ v ∷ []) is
    ∙ sym (map-append (values k) found (node ∷ []))
