-- What was answered stays so when a client's next number is answered.
use Rattle.std.proofs.Common.{◌≡◌, inl, inr, ℕ, ◌+◌, ◌-◌, ◌<◌, ◌≤◌, ◌==◌, Bool, true, false, if◌then◌else◌, Option, None, Some, Result, Ok, Err, refl, sym, ap, ◌∙◌, arith}
use Rattle.std.specs.Prelude.{nat_lt}
use Rattle.std.proofs.lemmas.Bool.{eqb-false, eqb-true}
use Rattle.words.specs.declared.call.Reply.{Reply}
use Rattle.words.specs.declared.refusal.Refusal.{Refusal}
use Rattle.words.specs.declared.refusal.Refusal.TheVariants.{Gap, Old}
use Rattle.words.specs.declared.told.Outcome.{Outcome}
use Rattle.words.specs.declared.told.Outcome.TheVariants.{NotTaken, Taken}
use Rattle.words.specs.declared.told.Verdict.{Verdict}
use Rattle.interleave.specs.LogQueue.{floor_from}
use Rattle.named.specs.Brokers.{answer_if}
use Rattle.interleave.specs.Verdicts.{floor_by}
use Rattle.session.specs.Keeping.{IsSettled}
use Rattle.session.specs.Numbers.{by_last, by_number, by_outcome, by_reply, missed}

-- a number that is not served is refused
pub misses : (last number : ℕ) (answer : Option Reply) → missed last number ≡ Ok answer → ⊥
misses last number answer e = go (nat_lt number last) e
  where
    go : (b : Bool) → (if b then (let r : Result (Option Reply) Refusal = Err Old in r) else Err Gap) ≡ Ok answer → ⊥
    go true e = absurd (cc)
    go false e = absurd (cc)

-- a number that may run is the next one, or that of a verdict of none
next_by_reply : (kept : Reply) (last number : ℕ) → by_reply kept last number ≡ Ok None → number ≡ last + 1
next_by_reply kept last number e = go (number == last) (number == last + 1) refl e
  where
    go : (a b : Bool) → (number == last + 1) ≡ b
        → (if a then (let r : Result (Option Reply) Refusal = Ok (Some kept) in r) else (if b then Ok None else missed last number)) ≡ Ok None
        → number ≡ last + 1
    go true b is e = absurd (cc)
    go false true is e = eqb-true number (last + 1) is
    go false false is e = absurd (misses last number None e)

same_by_none : (last number : ℕ) → by_outcome NotTaken last number ≡ Ok None → number ≡ last
same_by_none last number e = go (number == last) refl e
  where
    go : (a : Bool) → (number == last) ≡ a
        → (if a then (let r : Result (Option Reply) Refusal = Ok None in r) else missed last number) ≡ Ok None → number ≡ last
    go true is e = eqb-true number last is
    go false is e = absurd (misses last number None e)

by_last_of : (last : Option Verdict) (number : ℕ) → by_number last number ≡ Ok None → by_last last number ≡ Ok None
by_last_of last number e = go (number == 0) e
  where
    go : (a : Bool) → (if a then (let r : Result (Option Reply) Refusal = Err Old in r) else by_last last number) ≡ Ok None
        → by_last last number ≡ Ok None
    go true e = absurd (cc)
    go false e = e

below : (last : Verdict) (number was : ℕ) (reply : Reply) (outcome : Outcome) → last.outcome ≡ outcome
    → by_outcome outcome last.number number ≡ Ok None → IsSettled (Some last) was reply → was < number
below last number was reply (Taken kept) is e (inl same) =
    let n : last.number ≡ was = ap (λ (v : Verdict). v.number) same in
    omega (arith, next_by_reply kept last.number number e, n)
below last number was reply (Taken kept) is e (inr less) = omega (arith, next_by_reply kept last.number number e, less)
below last number was reply NotTaken is e (inl same) =
    let o : NotTaken ≡ Taken reply = sym is ∙ ap (λ (v : Verdict). v.outcome) same in
    absurd (cc)
below last number was reply NotTaken is e (inr less) = omega (arith, same_by_none last.number number e, less)

-- what was answered is below a number that may run
pub answered_below : (last : Option Verdict) (number was : ℕ) (reply : Reply) → by_number last number ≡ Ok None
    → IsSettled last was reply → was < number
answered_below None number was reply e answered = absurd answered
answered_below (Some last) number was reply e answered =
    below last number was reply last.outcome refl (by_last_of (Some last) number e) answered

-- and at most the floor by what is kept
pub answered_by_floor : (last : Option Verdict) (was : ℕ) (reply : Reply) → IsSettled last was reply → was ≤ floor_by last
answered_by_floor None was reply answered = absurd answered
answered_by_floor (Some last) was reply answered = go last.outcome refl answered
  where
    go : (outcome : Outcome) → last.outcome ≡ outcome → IsSettled (Some last) was reply → was ≤ floor_by (Some last)
    go (Taken kept) is (inl same) =
        let n : last.number ≡ was = ap (λ (v : Verdict). v.number) same in
        let floor : floor_by (Some last) ≡ last.number = ap (floor_from last.number) is in
        omega (arith, n, floor)
    go (Taken kept) is (inr less) =
        let floor : floor_by (Some last) ≡ last.number = ap (floor_from last.number) is in
        omega (arith, less, floor)
    go NotTaken is (inl same) =
        let o : NotTaken ≡ Taken reply = sym is ∙ ap (λ (v : Verdict). v.outcome) same in
        absurd (cc)
    go NotTaken is (inr less) =
        let floor : floor_by (Some last) ≡ last.number - 1 = ap (floor_from last.number) is in
        omega (arith, less, floor)

-- a number that may run is above the floor by what is kept
pub runs_above_floor : (last : Option Verdict) (number : ℕ) → by_number last number ≡ Ok None → floor_by last < number
runs_above_floor last number e = go (number == 0) refl e
  where
    by_verdict : (outcome : Outcome) (kept : ℕ) → (number == 0) ≡ false → by_outcome outcome kept number ≡ Ok None
        → floor_from kept outcome < number
    by_verdict (Taken reply) kept some e = omega (arith, next_by_reply reply kept number e)
    by_verdict NotTaken kept some e = let positive = eqb-false number 0 some in omega (arith, same_by_none kept number e, positive)

    first : (a : Bool) → (number == 1) ≡ a
        → (if a then (let r : Result (Option Reply) Refusal = Ok None in r) else Err Gap) ≡ Ok None → number ≡ 1
    first true is e = eqb-true number 1 is
    first false is e = absurd (cc (e))

    above : (v : Option Verdict) → (number == 0) ≡ false → by_last v number ≡ Ok None → floor_by v < number
    above (Some verdict) some e = by_verdict verdict.outcome verdict.number some e
    above None some e = omega (arith, first (number == 1) refl e)

    go : (a : Bool) → (number == 0) ≡ a
        → (if a then (let r : Result (Option Reply) Refusal = Err Old in r) else by_last last number) ≡ Ok None
        → floor_by last < number
    go true is e = absurd (cc (e))
    go false is e = above last is e

-- an admitted request runs if it does by its number
pub answer_runs : (r : Result Unit Refusal) (answer : Result (Option Reply) Refusal) → answer_if r answer ≡ Ok None → answer ≡ Ok None
answer_runs (Ok u) answer e = e
answer_runs (Err refusal) answer e = absurd (cc)
