-- Where nothing is wrong with calls, some steps explain them; and whatever is wrong is a pattern.
use Rattle.std.proofs.Common.{ℕ, ◌≡◌, ◌<◌, ◌≤◌, ◌⊎◌, inl, inr, arith, List}
use Rattle.std.proofs.lemmas.Bool.{cases_lt, cases_eq}
use Rattle.windows.specs.Runs.{Step}
use Rattle.windows.specs.Calls.{Calls, AreCalls, Explain, Pattern, put_not, took}
use Rattle.windows.specs.Takes.{IsOverfull}
use Rattle.windows.proofs.Facts.{take_of, ArePaired, paired_or, low, high, missing, IsGiving, explained, short_pattern}
use Rattle.windows.proofs.Facts.{IsClear, NotClear, IsStuck, Moments, moments_or, given_or, clear_or_not, not_both_clear}
use Rattle.windows.proofs.Facts.{stuck_pattern, out_if_below}
use Rattle.deciding.specs.Bad.{IsBadTake, DoCross, IsNeverEmpty}

paired_if : (calls : Calls) → AreCalls calls → ((t : ℕ) → t < calls.places → IsBadTake calls t → ⊥)
    → ((v w : ℕ) → v < calls.places → w < calls.places → DoCross calls v w → ⊥) → ArePaired calls
paired_if calls are no_bad no_cross = record {
  put = λ t v lt got. (
    (λ refused. no_bad t lt (v, (got, inl refused))),
    early t v lt got (cases_lt (calls.end t) v),
  );
  once = λ t v lt got. once t v lt got (cases_eq (take_of calls v) t);
  in_turn = λ v w out_v out_w ahead before.
      no_cross v w (are.sources (take_of calls v) v out_v.within out_v.got).0
      (are.sources (take_of calls w) w out_w.within out_w.got).0 ((out_v.within, out_w.within), (ahead, before));
}
  where
    early : (t v : ℕ) → t < calls.places → calls.known t ≡ took v → (calls.end t < v) ⊎ (v ≤ calls.end t)
        → v ≤ calls.end t
    early t v lt got (inl later) = absurd (no_bad t lt (v, (got, inr (inl later))))
    early t v lt got (inr le) = le

    once : (t v : ℕ) → t < calls.places → calls.known t ≡ took v → (take_of calls v ≡ t) ⊎ (take_of calls v ≡ t → ⊥)
        → take_of calls v ≡ t
    once t v lt got (inl same) = same
    once t v lt got (inr differ) = absurd (no_bad t lt (v, (got, inr (inr differ))))

pub decided_order : (calls : Calls) → AreCalls calls → ((t : ℕ) → t < calls.places → IsBadTake calls t → ⊥)
    → ((v w : ℕ) → v < calls.places → w < calls.places → DoCross calls v w → ⊥)
    → ((a b : ℕ) → IsOverfull calls.places (missing calls) (low calls) (high calls) a b → ⊥)
    → ((e : ℕ) → e < calls.places → IsNeverEmpty calls e → ⊥) → (steps : List Step) × Explain calls steps
decided_order calls are no_bad no_cross no_full no_stuck = go (moments_or calls are calls.places (omega arith))
  where
    with_moments : (moments : Moments calls calls.places)
        → ((give : ℕ → ℕ) × IsGiving calls moments give)
        ⊎ ((a : ℕ) × ((b : ℕ) × IsOverfull calls.places (missing calls) (low calls) (high calls) a b))
        → (steps : List Step) × Explain calls steps
    with_moments moments (inl (give, given)) =
        explained calls are (paired_if calls are no_bad no_cross) moments give given
    with_moments moments (inr (a, (b, full))) = absurd (no_full a b full)

    go : Moments calls calls.places ⊎ IsStuck calls → (steps : List Step) × Explain calls steps
    go (inl moments) = with_moments moments (given_or calls are calls.places moments)
    go (inr stuck) = absurd (no_stuck stuck.take stuck.within (
      stuck.empty,
      (λ place since before clear. not_both_clear calls place (stuck.none place since before) clear),
    ))

bad_pattern : (calls : Calls) → AreCalls calls → (ArePaired calls → ⊥) → Pattern calls
bad_pattern calls are fail = go (paired_or calls are)
  where
    go : ArePaired calls ⊎ Pattern calls → Pattern calls
    go (inl paired) = absurd (fail paired)
    go (inr pattern) = pattern

pub bad_take_pattern : (calls : Calls) → AreCalls calls → (t : ℕ) → t < calls.places → IsBadTake calls t → Pattern calls
bad_take_pattern calls are t lt (v, (got, bad)) = bad_pattern calls are (λ paired. fails paired bad)
  where
    fails : ArePaired calls → (calls.known v ≡ put_not) ⊎ ((calls.end t < v) ⊎ (take_of calls v ≡ t → ⊥)) → ⊥
    fails paired (inl refused) = (paired.put t v lt got).0 refused
    fails paired (inr (inl later)) =
        let le : v ≤ calls.end t = (paired.put t v lt got).1 in omega (arith, le, later)
    fails paired (inr (inr differ)) = differ (paired.once t v lt got)

pub cross_pattern : (calls : Calls) → AreCalls calls → (v w : ℕ) → DoCross calls v w → Pattern calls
cross_pattern calls are v w cross = bad_pattern calls are (λ paired.
    paired.in_turn v w (out_if_below calls v cross.0.0) (out_if_below calls w cross.0.1) cross.1.0 cross.1.1)

pub never_pattern : (calls : Calls) → AreCalls calls → (e : ℕ) → e < calls.places → IsNeverEmpty calls e
    → Pattern calls
never_pattern calls are e lt never = stuck_pattern calls are (record {
  take = e;
  within = lt;
  empty = never.0;
  none = λ place since before. by place since before (clear_or_not calls are place);
})
  where
    by : (place : ℕ) → e ≤ place → place < calls.end e → IsClear calls place ⊎ NotClear calls place
        → NotClear calls place
    by place since before (inl clear) = absurd (never.1 place since before clear)
    by place since before (inr fail) = fail

pub full_pattern : (calls : Calls) → AreCalls calls → (a b : ℕ)
    → IsOverfull calls.places (missing calls) (low calls) (high calls) a b → Pattern calls
full_pattern calls are a b full = short_pattern calls are a b full
