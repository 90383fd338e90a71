-- Lists that begin others.
use Rattle.std.proofs.Common.{◌≡◌, ◌≤◌, ◌⊎◌, inl, inr, List, [], ◌∷◌, ◌++◌, length, length-append, refl, sym, ap, ◌∙◌, append-nil, arith}
use Rattle.witness.specs.Rule.{Begins}

module _ {E : Type 0} where
  appended_twice : (a b c : List E) → (a ++ b) ++ c ≡ a ++ (b ++ c)
  appended_twice [] b c = refl
  appended_twice (x ∷ a) b c = ap (λ (t : List E). x ∷ t) (appended_twice a b c)

  abbrev tail_of : List E → List E
  tail_of [] = []
  tail_of (x ∷ xs) = xs

  abbrev head_or : E → List E → E
  head_or d [] = d
  head_or d (x ∷ xs) = x

  pub begins_all : (all : List E) → Begins [] all
  begins_all all = record { more = all; is = refl }

  pub begins_itself : (all : List E) → Begins all all
  begins_itself all = record { more = []; is = sym (append-nil all) }

  pub begins_more : (some more : List E) → Begins some (some ++ more)
  begins_more some more = record { more = more; is = refl }

  pub begins_further : (some most all : List E) → Begins some most → Begins most all → Begins some all
  begins_further some most all first second = record {
    more = first.more ++ second.more;
    is = second.is ∙ (ap (λ (xs : List E). xs ++ second.more) first.is ∙ appended_twice some first.more second.more);
  }

  under : (x y : E) (a b : List E) → x ≡ y → Begins a b ⊎ Begins b a → Begins (x ∷ a) (y ∷ b) ⊎ Begins (y ∷ b) (x ∷ a)
  under x y a b same (inl begins) = inl (record {
    more = begins.more;
    is = ap (λ (z : E). z ∷ b) (sym same) ∙ ap (λ (t : List E). x ∷ t) begins.is;
  })
  under x y a b same (inr begins) = inr (record {
    more = begins.more;
    is = ap (λ (z : E). z ∷ a) same ∙ ap (λ (t : List E). y ∷ t) begins.is;
  })

  -- of two beginnings of one list the one begins the other
  pub one_begins : (a b all : List E) → Begins a all → Begins b all → Begins a b ⊎ Begins b a
  one_begins [] b all first second = inl (begins_all b)
  one_begins (x ∷ a) [] all first second = inr (begins_all (x ∷ a))
  one_begins (x ∷ a) (y ∷ b) all first second =
      let same : x ∷ (a ++ first.more) ≡ y ∷ (b ++ second.more) = sym first.is ∙ second.is in
      let heads : x ≡ y = ap (head_or x) same in
      let tails : a ++ first.more ≡ b ++ second.more = ap tail_of same in
      under x y a b heads
      (one_begins a b (a ++ first.more) (begins_more a first.more) (record { more = second.more; is = tails }))

module _ {E : Type 0} where
  none_more : (more : List E) → length more ≡ 0 → more ≡ []
  none_more [] none = refl
  none_more (x ∷ more) none = absurd cc

  -- of two beginnings the one that has no more begins the other
  pub shorter_begins : (a b : List E) → Begins b a ⊎ Begins a b → length a ≤ length b → Begins a b
  shorter_begins a b (inr begins) few = begins
  shorter_begins a b (inl begins) few = record {
    more = [];
    is = sym (append-nil a ∙ begins.is ∙ ap (λ (xs : List E). b ++ xs) (none_more begins.more
        (omega (arith, few, ap (λ (xs : List E). length xs) begins.is, length-append b begins.more))) ∙ append-nil b);
  }
