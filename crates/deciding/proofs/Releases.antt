-- The release of a value, found by one walk.
use Rattle.std.proofs.Common.{ℕ, ◌≡◌, ◌<◌, ◌≤◌, ◌+◌, ◌⊎◌, inl, inr, refl, arith, sym, ◌∙◌, subst}
use Rattle.std.proofs.lemmas.Bool.{cases_lt}
use Rattle.windows.specs.Calls.{Calls, AreCalls}
use Rattle.windows.proofs.Facts.{take_of, IsOut, out_if_below, has_release, release}

pub record ReleaseSo (calls : Calls) (v k r : ℕ) : Type 0 where
  pub own : v ≤ r
  pub each : (u : ℕ) → u < k → take_of calls u < calls.places → calls.end u < v → take_of calls u ≤ r
  pub how : (r ≡ v) ⊎ ((u : ℕ) × ((u < calls.places) × ((take_of calls u < calls.places)
      × ((calls.end u < v) × (take_of calls u ≡ r)))))

pub release_none : (calls : Calls) (v : ℕ) → ReleaseSo calls v 0 v
release_none calls v = record { own = omega arith; each = λ u lt out ahead. absurd (omega (arith, lt)); how = inl refl }

-- one more value
pub release_more : (calls : Calls) (v k r s : ℕ) → ReleaseSo calls v k r → k < calls.places → r ≤ s
    → (take_of calls k < calls.places → calls.end k < v → take_of calls k ≤ s)
    → (s ≡ r) ⊎ (((take_of calls k < calls.places) × (calls.end k < v)) × (s ≡ take_of calls k))
    → ReleaseSo calls v (k + 1) s
release_more calls v k r s so lt le each how = record {
  own = omega (arith, so.own, le);
  each = λ u below out ahead. at u below out ahead (cases_lt u k);
  how = by how;
}
  where
    at : (u : ℕ) → u < k + 1 → take_of calls u < calls.places → calls.end u < v → (u < k) ⊎ (k ≤ u)
        → take_of calls u ≤ s
    at u below out ahead (inl less) =
        let was : take_of calls u ≤ r = so.each u less out ahead in omega (arith, was, le)
    at u below out ahead (inr more) =
        let same : k ≡ u = omega (arith, below, more) in
        subst (λ (w : ℕ). take_of calls w < calls.places → calls.end w < v → take_of calls w ≤ s) same each out ahead

    by : (s ≡ r) ⊎ (((take_of calls k < calls.places) × (calls.end k < v)) × (s ≡ take_of calls k))
        → (s ≡ v) ⊎ ((u : ℕ) × ((u < calls.places) × ((take_of calls u < calls.places)
        × ((calls.end u < v) × (take_of calls u ≡ s)))))
    by (inr (both, same)) = inr (k, (lt, (both.0, (both.1, sym same))))
    by (inl same) = old so.how
      where
        old : (r ≡ v) ⊎ ((u : ℕ) × ((u < calls.places) × ((take_of calls u < calls.places)
            × ((calls.end u < v) × (take_of calls u ≡ r)))))
            → (s ≡ v) ⊎ ((u : ℕ) × ((u < calls.places) × ((take_of calls u < calls.places)
            × ((calls.end u < v) × (take_of calls u ≡ s)))))
        old (inl own) = inl (same ∙ own)
        old (inr (u, (below, (out, (ahead, is))))) = inr (u, (below, (out, (ahead, is ∙ sym same))))

pub release_all : (calls : Calls) (v r : ℕ) → AreCalls calls → ReleaseSo calls v calls.places r → r ≡ release calls v
release_all calls v r are so = go (cases_lt r (release calls v)) (cases_lt (release calls v) r)
  where
    not_less : r < release calls v
        → (release calls v ≡ v)
        ⊎ ((u : ℕ) × (IsOut calls u × ((calls.end u < v) × (take_of calls u ≡ release calls v)))) → ⊥
    not_less less (inl is) = let own : v ≤ r = so.own in omega (arith, less, own, is)
    not_less less (inr (u, (out, (ahead, is)))) =
        let le : take_of calls u ≤ r =
        so.each u (are.sources (take_of calls u) u out.within out.got).0 out.within ahead in omega (arith, less, le, is)

    not_more : release calls v < r
        → (r ≡ v) ⊎ ((u : ℕ) × ((u < calls.places) × ((take_of calls u < calls.places)
        × ((calls.end u < v) × (take_of calls u ≡ r))))) → ⊥
    not_more more (inl is) = let own : v ≤ release calls v = (has_release calls v).own in omega (arith, more, own, is)
    not_more more (inr (u, (below, (out, (ahead, is))))) =
        let le : take_of calls u ≤ release calls v =
        (has_release calls v).each u (out_if_below calls u out) below ahead in omega (arith, more, le, is)

    go : (r < release calls v) ⊎ (release calls v ≤ r) → (release calls v < r) ⊎ (r ≤ release calls v)
        → r ≡ release calls v
    go (inl less) side = absurd (not_less less (has_release calls v).how)
    go (inr le) (inl more) = absurd (not_more more so.how)
    go (inr le) (inr ge) = omega (arith, le, ge)
