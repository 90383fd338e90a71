-- The effect of a call that waits to count: there is one at most, and none before the call.
use Rattle.std.proofs.Common.{◌≡◌, ◌≢◌, ℕ, zero, suc, ◌≤◌, ◌+◌, ◌⊎◌, inl, inr, Bool, true, false, not, ◌&&◌, ◌==◌, List, [], ◌∷◌, slice_get, slice_set, remove, Some, refl, ap, sym, ◌∙◌, subst, arith}
use Rattle.std.proofs.lemmas.Bool.{eqb-true, cases_eq, cases_lt}
use Rattle.std.proofs.lemmas.Option.{slice_get_within}
use Rattle.events.specs.Effects.{without_pending, with_settled, effect_settled_at, is_pending_at}
use Rattle.events.specs.declared.event.Effect.{Effect}
use Rattle.interleave.specs.Effects.{AreInSequence, HasNoneUnsettled, IsUnsettledAt}

-- from here on no effect of the call waits to count
pub record HasNoneFrom (place : ℕ) (effects : List Effect) (i : ℕ) : Type 0 where
  pub none : (k : ℕ) (e : Effect) → i ≤ k → slice_get effects k ≡ Some e → is_pending_at place e ≡ false

-- an effect that does not wait stays as it is
counted : (place : ℕ) (e : Effect) (t s : Bool) → (e.place == place) ≡ t → e.settled ≡ s → is_pending_at place e ≡ false → effect_settled_at place e ≡ e
counted place e true true h g u = rw h (ap (λ b. let x : Effect = record e { settled = b } in x) (sym g))
counted place e true false h g u = cc
counted place e false s h g u = rw h refl

stays : (place : ℕ) (e : Effect) → is_pending_at place e ≡ false → effect_settled_at place e ≡ e
stays place e u = counted place e (e.place == place) e.settled refl refl u

-- one that waits counts then
counts_now : (place : ℕ) (e : Effect) (t : Bool) → (e.place == place) ≡ t → is_pending_at place e ≡ true → effect_settled_at place e ≡ record e { settled = true }
counts_now place e true h u = rw h refl
counts_now place e false h u = cc

none_forgotten : (place : ℕ) (xs : List Effect) → ((k : ℕ) (e : Effect) → slice_get xs k ≡ Some e → is_pending_at place e ≡ false) → without_pending place xs ≡ xs
none_forgotten place [] h = refl
none_forgotten place (x ∷ xs) h = rw (h 0 x refl) (ap (λ ys. x ∷ ys) (none_forgotten place xs (λ k e. h (suc k) e)))

none_settled : (place : ℕ) (xs : List Effect) → ((k : ℕ) (e : Effect) → slice_get xs k ≡ Some e → is_pending_at place e ≡ false) → with_settled place xs ≡ xs
none_settled place [] h = refl
none_settled place (x ∷ xs) h = rw (stays place x (h 0 x refl)) (ap (λ ys. x ∷ ys) (none_settled place xs (λ k e. h (suc k) e)))

pub none_at_all : (place : ℕ) (xs : List Effect) → HasNoneFrom place xs 0 → HasNoneUnsettled place xs
none_at_all place xs h = record {
  without_pending = none_forgotten place xs (λ k e. h.none k e (omega arith));
  settled = none_settled place xs (λ k e. h.none k e (omega arith));
}

one_forgotten : (place : ℕ) (xs : List Effect) (i : ℕ) (e : Effect) → slice_get xs i ≡ Some e → is_pending_at place e ≡ true → ((k : ℕ) (x : Effect) → k ≢ i → slice_get xs k ≡ Some x → is_pending_at place x ≡ false) → without_pending place xs ≡ remove xs i
one_forgotten place [] i e at u others = cc
one_forgotten place (x ∷ xs) zero e at u others =
    let same : x ≡ e = cc in
    rw (ap (is_pending_at place) same ∙ u) (none_forgotten place xs (λ k y. others (suc k) y (λ h. cc)))
one_forgotten place (x ∷ xs) (suc i) e at u others =
    rw (others 0 x (λ h. cc) refl) (ap (λ ys. x ∷ ys) (one_forgotten place xs i e at u (λ k y ne. others (suc k) y (λ h. ne (cc)))))

one_settled : (place : ℕ) (xs : List Effect) (i : ℕ) (e : Effect) → slice_get xs i ≡ Some e → is_pending_at place e ≡ true → ((k : ℕ) (x : Effect) → k ≢ i → slice_get xs k ≡ Some x → is_pending_at place x ≡ false) → with_settled place xs ≡ slice_set xs i (record e { settled = true })
one_settled place [] i e at u others = cc
one_settled place (x ∷ xs) zero e at u others =
    let same : x ≡ e = cc in
    rw (ap (effect_settled_at place) same ∙ counts_now place e (e.place == place) refl u) (ap (λ ys. record e { settled = true } ∷ ys) (none_settled place xs (λ k y. others (suc k) y (λ h. cc))))
one_settled place (x ∷ xs) (suc i) e at u others =
    rw (stays place x (others 0 x (λ h. cc) refl)) (ap (λ ys. x ∷ ys) (one_settled place xs i e at u (λ k y ne. others (suc k) y (λ h. ne (cc)))))

-- another place is nothing to the call
elsewhere : (place : ℕ) (e : Effect) → e.place ≢ place → is_pending_at place e ≡ false
elsewhere place e ne = go (e.place == place) refl
  where
    go : (t : Bool) → (e.place == place) ≡ t → (t && not e.settled) ≡ false
    go true h = absurd (ne (eqb-true e.place place h))
    go false h = refl

waits_there : (place : ℕ) (e : Effect) → is_pending_at place e ≡ true → e.place ≡ place
waits_there place e u = go (e.place == place) refl
  where
    go : (t : Bool) → (e.place == place) ≡ t → e.place ≡ place
    go true h = eqb-true e.place place h
    go false h = cc

-- an effect whose moment is not after the call: none from the beginning
pub none_before : (place : ℕ) (xs : List Effect) (n i : ℕ) (e : Effect) → n ≡ i + 1 → AreInSequence xs → HasNoneFrom place xs n → slice_get xs i ≡ Some e → e.moment ≤ place → HasNoneUnsettled place xs
none_before place xs n i e next s rest at le = none_at_all place xs (record {
  none = λ k x low get. elim (cases_lt i k) [
    | inl lt ↦ rest.none k x (omega (arith, lt, next)) get
    | inr ge ↦ elsewhere place x (earlier k x get (cases_eq k i) (omega (arith, ge)))
  ];
})
  where
    earlier : (k : ℕ) (x : Effect) → slice_get xs k ≡ Some x → (k ≡ i) ⊎ (k ≢ i) → k ≤ i → x.place ≢ place
    earlier k x get (inl same) le2 h =
        let one : x ≡ e = cc (same, get, at) in
        omega (arith, s.after k x get, ap (λ (y : Effect). y.moment) one, le, h)
    earlier k x get (inr other) le2 h =
        omega (arith, s.after k x get, s.ascending k i x e (omega (arith, other, le2)) get at, le, h)

-- the effect at i waits, and none after it: it is the only one
pub only_one : (place : ℕ) (xs : List Effect) (i : ℕ) (e : Effect) → AreInSequence xs → slice_get xs i ≡ Some e → is_pending_at place e ≡ true → IsUnsettledAt place xs i
only_one place xs i e s at u = record {
  within = slice_get_within xs i e at;
  without_pending = one_forgotten place xs i e at u others;
  settled = λ x get. let one : x ≡ e = cc (get, at) in subst (λ y. with_settled place xs ≡ slice_set xs i (record y { settled = true })) (sym one) (one_settled place xs i e at u others);
}
  where
    there : e.place ≡ place
    there = waits_there place e u

    others : (k : ℕ) (x : Effect) → k ≢ i → slice_get xs k ≡ Some x → is_pending_at place x ≡ false
    others k x ne get = elim (cases_lt k i) [
      | inl lt ↦ elsewhere place x (λ h. s.once k i x e lt get at (h ∙ sym there))
      | inr ge ↦ elsewhere place x (λ h. s.once i k e x (omega (arith, ne, ge)) at get (there ∙ sym h))
    ]

-- nor does the effect at i wait
pub none_more : (place : ℕ) (xs : List Effect) (n i : ℕ) (e : Effect) → n ≡ i + 1 → HasNoneFrom place xs n → slice_get xs i ≡ Some e → is_pending_at place e ≡ false → HasNoneFrom place xs i
none_more place xs n i e next rest at u = record {
  none = λ k x low get. elim (cases_eq k i) [
    | inl same ↦ let one : x ≡ e = cc (same, get, at) in ap (is_pending_at place) one ∙ u
    | inr other ↦ rest.none k x (omega (arith, low, other, next)) get
  ];
}
