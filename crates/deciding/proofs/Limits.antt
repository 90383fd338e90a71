-- The limit of a value, found by one walk.
use Rattle.std.proofs.Common.{ℕ, suc, ◌≡◌, ◌<◌, ◌≤◌, ◌+◌, ◌⊎◌, inl, inr, arith, sym, ◌∙◌, subst}
use Rattle.std.proofs.lemmas.Bool.{cases_lt}
use Rattle.windows.specs.Calls.{Calls, AreCalls}
use Rattle.windows.proofs.Facts.{take_of, IsOut, out_if_below, has_limit, limit}

pub record LimitSo (calls : Calls) (v k r : ℕ) : Type 0 where
  pub each : (w : ℕ) → w < k → take_of calls w < calls.places → calls.end v < w → r ≤ calls.end (take_of calls w)
  pub how : (r ≡ suc calls.places) ⊎ ((w : ℕ) × ((w < calls.places) × ((take_of calls w < calls.places)
      × ((calls.end v < w) × (calls.end (take_of calls w) ≡ r)))))

pub limit_none : (calls : Calls) (v r : ℕ) → r ≡ calls.places + 1 → LimitSo calls v 0 r
limit_none calls v r is = record { each = λ w lt out behind. absurd (omega (arith, lt)); how = inl (omega (arith, is)) }

-- one more value
pub limit_more : (calls : Calls) (v k r s : ℕ) → LimitSo calls v k r → k < calls.places → s ≤ r
    → (take_of calls k < calls.places → calls.end v < k → s ≤ calls.end (take_of calls k))
    → (s ≡ r) ⊎ (((take_of calls k < calls.places) × (calls.end v < k)) × (s ≡ calls.end (take_of calls k)))
    → LimitSo calls v (k + 1) s
limit_more calls v k r s so lt le each how = record {
  each = λ u below out behind. at u below out behind (cases_lt u k);
  how = by how;
}
  where
    at : (u : ℕ) → u < k + 1 → take_of calls u < calls.places → calls.end v < u → (u < k) ⊎ (k ≤ u)
        → s ≤ calls.end (take_of calls u)
    at u below out behind (inl less) =
        let was : r ≤ calls.end (take_of calls u) = so.each u less out behind in omega (arith, was, le)
    at u below out behind (inr more) =
        let same : k ≡ u = omega (arith, below, more) in
        subst (λ (w : ℕ). take_of calls w < calls.places → calls.end v < w → s ≤ calls.end (take_of calls w)) same each
        out behind

    by : (s ≡ r) ⊎ (((take_of calls k < calls.places) × (calls.end v < k)) × (s ≡ calls.end (take_of calls k)))
        → (s ≡ suc calls.places) ⊎ ((w : ℕ) × ((w < calls.places) × ((take_of calls w < calls.places)
        × ((calls.end v < w) × (calls.end (take_of calls w) ≡ s)))))
    by (inr (both, same)) = inr (k, (lt, (both.0, (both.1, sym same))))
    by (inl same) = old so.how
      where
        old : (r ≡ suc calls.places) ⊎ ((w : ℕ) × ((w < calls.places) × ((take_of calls w < calls.places)
            × ((calls.end v < w) × (calls.end (take_of calls w) ≡ r)))))
            → (s ≡ suc calls.places) ⊎ ((w : ℕ) × ((w < calls.places) × ((take_of calls w < calls.places)
            × ((calls.end v < w) × (calls.end (take_of calls w) ≡ s)))))
        old (inl is) = inl (same ∙ is)
        old (inr (w, (below, (out, (behind, is))))) = inr (w, (below, (out, (behind, is ∙ sym same))))

pub limit_all : (calls : Calls) (v k r : ℕ) → AreCalls calls → calls.places ≤ k → LimitSo calls v k r
    → r ≡ limit calls v
limit_all calls v k r are enough so = go (cases_lt r (limit calls v)) (cases_lt (limit calls v) r)
  where
    most : (r ≡ suc calls.places) ⊎ ((w : ℕ) × ((w < calls.places) × ((take_of calls w < calls.places)
        × ((calls.end v < w) × (calls.end (take_of calls w) ≡ r))))) → r ≤ suc calls.places
    most (inl is) = omega (arith, is)
    most (inr (w, (below, (out, (behind, is))))) =
        let within : calls.end (take_of calls w) ≤ calls.places = are.within (take_of calls w) out in
        omega (arith, within, is)

    limit_most : (limit calls v ≡ suc calls.places)
        ⊎ ((w : ℕ) × (IsOut calls w × ((calls.end v < w) × (calls.end (take_of calls w) ≡ limit calls v))))
        → limit calls v ≤ suc calls.places
    limit_most (inl is) = omega (arith, is)
    limit_most (inr (w, (out, (behind, is)))) =
        let within : calls.end (take_of calls w) ≤ calls.places = are.within (take_of calls w) out.within in
        omega (arith, within, is)

    not_less : r < limit calls v
        → (r ≡ suc calls.places) ⊎ ((w : ℕ) × ((w < calls.places) × ((take_of calls w < calls.places)
        × ((calls.end v < w) × (calls.end (take_of calls w) ≡ r))))) → ⊥
    not_less less (inl is) =
        let le : limit calls v ≤ suc calls.places = limit_most (has_limit calls v).how in omega (arith, less, le, is)
    not_less less (inr (w, (below, (out, (behind, is))))) =
        let le : limit calls v ≤ calls.end (take_of calls w) =
        (has_limit calls v).each w (out_if_below calls w out) below behind in omega (arith, less, le, is)

    not_more : limit calls v < r
        → (limit calls v ≡ suc calls.places)
        ⊎ ((w : ℕ) × (IsOut calls w × ((calls.end v < w) × (calls.end (take_of calls w) ≡ limit calls v)))) → ⊥
    not_more more (inl is) = let le : r ≤ suc calls.places = most so.how in omega (arith, more, le, is)
    not_more more (inr (w, (out, (behind, is)))) =
        let le : r ≤ calls.end (take_of calls w) =
        so.each w (let lt : w < calls.places = (are.sources (take_of calls w) w out.within out.got).0 in
        omega (arith, lt, enough)) out.within behind in omega (arith, more, le, is)

    go : (r < limit calls v) ⊎ (limit calls v ≤ r) → (limit calls v < r) ⊎ (r ≤ limit calls v) → r ≡ limit calls v
    go (inl less) side = absurd (not_less less so.how)
    go (inr le) (inl more) = absurd (not_more more (has_limit calls v).how)
    go (inr le) (inr ge) = omega (arith, le, ge)
