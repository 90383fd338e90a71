-- Takes that are sorted by begin and by end: those that fit are a range.
use Rattle.std.proofs.Common.{ℕ, zero, suc, ◌≡◌, ◌<◌, ◌≤◌, ◌⊎◌, ◌↔◌, Bool, true, false, inl, inr, refl, arith, sym}
use Rattle.std.proofs.Common.{ap, ◌∙◌, leb, ltb}
use Rattle.std.specs.Prelude.{if◌then◌else◌}
use Rattle.std.proofs.lemmas.Bool.{cases_lt, cases_Bool, leb-true, ltb-true, le-leb, lt-ltb}
use Rattle.windows.specs.Counting.{how_many}
use Rattle.windows.specs.Takes.{AreSorted, over_by, begun_before}
use Rattle.windows.proofs.Counts.{no_more_than}

abbrev one_if : Bool → ℕ
one_if b = if b then 1 else 0

-- those that pass come first
pub record IsFront (p : ℕ → Bool) (m : ℕ) : Type 0 where
  pub front : (i j : ℕ) → i < j → j < m → p j ≡ true → p i ≡ true

all_pass : (p : ℕ → Bool) (m : ℕ) → ((i : ℕ) → i < m → p i ≡ true) → how_many p m ≡ m
all_pass p zero so = refl
all_pass p (suc m) so =
    let before : how_many p m ≡ m = all_pass p m (λ i lt. so i (omega arith)) in
    let here : ◌≡◌ {A = ℕ} (if p m then 1 else 0) 1 = ap one_if (so m (omega arith)) in
    omega (arith, before, here)

-- then they are those below their count
pub front_passes : (p : ℕ → Bool) (m k : ℕ) → IsFront p m → k < m
    → ((p k ≡ true) → k < how_many p m) × (k < how_many p m → p k ≡ true)
front_passes p zero k front lt = absurd (omega arith)
front_passes p (suc m) k front lt =
    go (cases_Bool (p m)) (cases_lt k m)
    (λ less. front_passes p m k (record { front = λ i j low high. front.front i j low (omega arith) }) less)
  where
    go : (p m ≡ true) ⊎ (p m ≡ false) → (k < m) ⊎ (m ≤ k)
        → (k < m → ((p k ≡ true) → k < how_many p m) × (k < how_many p m → p k ≡ true))
        → ((p k ≡ true) → k < how_many p (suc m)) × (k < how_many p (suc m) → p k ≡ true)
    go (inl pass) side again =
        let whole : how_many p (suc m) ≡ suc m = all_pass p (suc m) (λ i below. at i below (cases_lt i m)) in
        ((λ passes. omega (arith, whole, lt)), (λ below. at k lt (cases_lt k m)))
      where
        at : (i : ℕ) → i < suc m → (i < m) ⊎ (m ≤ i) → p i ≡ true
        at i below (inl less) = front.front i m less (omega arith) pass
        at i below (inr more) = let same : i ≡ m = omega arith in ap p same ∙ pass
    go (inr fail) (inl less) again =
        let here : ◌≡◌ {A = ℕ} (if p m then 1 else 0) 0 = ap one_if fail in
        let both : ((p k ≡ true) → k < how_many p m) × (k < how_many p m → p k ≡ true) = again less in (
          (λ passes. let so : k < how_many p m = both.0 passes in omega (arith, so, here)),
          (λ below. both.1 (omega (arith, below, here))),
        )
    go (inr fail) (inr more) again =
        let here : ◌≡◌ {A = ℕ} (if p m then 1 else 0) 0 = ap one_if fail in
        let few : how_many p m ≤ m = no_more_than p m in
        let same : k ≡ m = omega arith in (
          (λ passes. let other : p m ≡ true = ap p (sym same) ∙ passes in cc),
          (λ below. absurd (omega (arith, below, here, few, same))),
        )

over_front : (m : ℕ) (ends : ℕ → ℕ) (place : ℕ) → ((i j : ℕ) → i < j → j < m → ends i ≤ ends j)
    → IsFront (λ k. leb (ends k) place) m
over_front m ends place sorted = record {
  front = λ i j low high pass.
      let le : ends j ≤ place = leb-true (ends j) place pass in
      let less : ends i ≤ ends j = sorted i j low high in
      le-leb (ends i) place (omega (arith, le, less));
}

begun_front : (m : ℕ) (begins : ℕ → ℕ) (place : ℕ) → ((i j : ℕ) → i < j → j < m → begins i ≤ begins j)
    → IsFront (λ k. ltb (begins k) place) m
begun_front m begins place sorted = record {
  front = λ i j low high pass.
      let lt : begins j < place = ltb-true (begins j) place pass in
      let less : begins i ≤ begins j = sorted i j low high in
      lt-ltb (begins i) place (omega (arith, lt, less));
}

-- a take is over by a place exactly if its number is below the count of those that are
pub over : (m : ℕ) (begins ends : ℕ → ℕ) (place k : ℕ) → AreSorted m begins ends → k < m
    → (ends k ≤ place → k < over_by m ends place) × (k < over_by m ends place → ends k ≤ place)
over m begins ends place k sorted lt =
    let both = front_passes (λ i. leb (ends i) place) m k (over_front m ends place sorted.by_end) lt in
    ((λ le. both.0 (le-leb (ends k) place le)), (λ below. leb-true (ends k) place (both.1 below)))

pub begun : (m : ℕ) (begins ends : ℕ → ℕ) (place k : ℕ) → AreSorted m begins ends → k < m
    → (begins k < place → k < begun_before m begins place) × (k < begun_before m begins place → begins k < place)
begun m begins ends place k sorted lt =
    let both = front_passes (λ i. ltb (begins i) place) m k (begun_front m begins place sorted.by_begin) lt in
    ((λ less. both.0 (lt-ltb (begins k) place less)), (λ below. ltb-true (begins k) place (both.1 below)))

pub fitting : (m : ℕ) (begins ends : ℕ → ℕ) (release limit k : ℕ) → AreSorted m begins ends → k < m
    → ((release < ends k) × (begins k < limit))
    ↔ ((over_by m ends release ≤ k) × (k < begun_before m begins limit))
fitting m begins ends release limit k sorted lt =
    let outs = over m begins ends release k sorted lt in
    let ins = begun m begins ends limit k sorted lt in (
      (λ fits. (not_over fits.0 (cases_lt k (over_by m ends release)), ins.0 fits.1)),
      (λ within. (not_ended within.0 (cases_lt release (ends k)), ins.1 within.1)),
    )
  where
    not_over : release < ends k → (k < over_by m ends release) ⊎ (over_by m ends release ≤ k)
        → over_by m ends release ≤ k
    not_over later (inl below) =
        absurd (let le : ends k ≤ release = (over m begins ends release k sorted lt).1 below in omega (arith, le, later))
    not_over later (inr more) = more

    not_ended : over_by m ends release ≤ k → (release < ends k) ⊎ (ends k ≤ release) → release < ends k
    not_ended le (inl later) = later
    not_ended le (inr over_then) =
        absurd (let below : k < over_by m ends release = (over m begins ends release k sorted lt).0 over_then in
        omega (arith, below, le))
