-- Points that are made side by side, one batch after another, are all points, and none is bad.
use Rattle.std.proofs.Common.{◌≡◌, refl, sym, subst, ap, ◌∙◌, arith, ℕ, zero, suc, ◌+◌, ◌-◌, ◌<◌, ◌≤◌, List, [], ◌∷◌, ◌++◌, length, map, get_or, length-append, Vec, Global}
use Rattle.std.proofs.lemmas.List.{length-map, map-append}
use Rattle.std.proofs.lemmas.List.Elements.{All-append, All-cons, All-head, All-nil, All-tail}
use Rattle.std.proofs.lemmas.Slice.Zip.{AllZip-long}
use Rattle.std.proofs.lemmas.List.FromFn.{length-range_with_len}
use Rattle.std.proofs.lemmas.List.Sums.{sum_by-cons}
use Rattle.std.specs.List.{AllZip, range_with_len, Contains}
use Rattle.std.specs.Prelude.{cond, not, sum_by, IsTrue, Result, Ok, Err, IfOk, IfErr, MatchResult, count_by}
use Rattle.words.specs.declared.refusal.Refusal.{Refusal}
use Rattle.words.specs.declared.refusal.Refusal.TheVariants.{NoMemory}
use Rattle.rayon.specs.Shown.{run-append}
use Rattle.rayon.proofs.ListFacts.{AllZip-append}
use Rattle.broker_points.specs.Sweep.{text_of, AreOk}
use Rattle.broker_points.specs.declared.point.Point.{Point}

-- a point that is ok is made at a number, or there is no memory
abbrev pub Makes : (ℕ → List ℕ → Type 0) → ℕ → Result Point Refusal → Type 0
Makes P n r = IfOk r (λ point. P n point.text.items) × (IfOk r (λ point. IsTrue point.ok) × IfErr r (λ e. e ≡ NoMemory))

all_made : (P : ℕ → List ℕ → Type 0) (ns : List ℕ) (points : List Point) → AllZip (Makes P) ns (map Ok points)
    → AllZip P ns (map text_of points) × AreOk points
all_made P [] [] each = (tt, All-nil (λ (p : Point). IsTrue p.ok))
all_made P [] (p ∷ ps) each = absurd each
all_made P (n ∷ ns) [] each = absurd each
all_made P (n ∷ ns) (p ∷ ps) each =
    let rest = all_made P ns ps each.1 in
    ((each.0.0, rest.0), All-cons (λ (p : Point). IsTrue p.ok) p ps each.0.1.0 rest.1)

no_other : (P : ℕ → List ℕ → Type 0) (ns : List ℕ) (rs : List (Result Point Refusal)) (k : ℕ) (e : Refusal)
    → AllZip (Makes P) ns rs → k < length rs → get_or rs k (Err e) ≡ Err e → e ≡ NoMemory
no_other P [] [] k e each within is = absurd (omega (arith, within))
no_other P [] (r ∷ rs) k e each within is = absurd each
no_other P (n ∷ ns) [] k e each within is = absurd each
no_other P (n ∷ ns) (r ∷ rs) zero e each within is =
    subst (λ (x : Result Point Refusal). IfErr x (λ why. why ≡ NoMemory)) is each.0.1.1
no_other P (n ∷ ns) (r ∷ rs) (suc k) e each within is = no_other P ns rs k e each.1 (omega (arith, within)) is

-- a batch that was made, or want of memory
pub batch_made : (P : ℕ → List ℕ → Type 0) (ms ns : List ℕ) (rs : List (Result Point Refusal)) (r : Result (Vec Point Global) Refusal)
    → ms ≡ ns → AllZip (Makes P) ms rs
    → MatchResult r (λ v. (points : List Point) × (rs ≡ map Ok points) × (v.items ≡ points)) (λ e. Contains rs (Err e))
    → IfOk r (λ v. AllZip P ns (map text_of v.items) × AreOk v.items)
batch_made P ms ns rs (Ok v) same each is =
    let zipped : AllZip (Makes P) ns (map Ok is.0) =
    subst (λ (l : List ℕ). AllZip (Makes P) l (map Ok is.0)) same
    (subst (λ (l : List (Result Point Refusal)). AllZip (Makes P) ms l) is.1 each) in
    subst (λ (l : List Point). AllZip P ns (map text_of l) × AreOk l) (sym is.2) (all_made P ns is.0 zipped)
batch_made P ms ns rs (Err e) same each is = tt

pub batch_refused : (P : ℕ → List ℕ → Type 0) (ms : List ℕ) (rs : List (Result Point Refusal)) (r : Result (Vec Point Global) Refusal)
    → AllZip (Makes P) ms rs
    → MatchResult r (λ v. (points : List Point) × (rs ≡ map Ok points) × (v.items ≡ points)) (λ e. Contains rs (Err e))
    → IfErr r (λ e. e ≡ NoMemory)
batch_refused P ms rs (Ok v) each is = tt
batch_refused P ms rs (Err e) each is = no_other P ms rs is.0 e each is.1 is.2

-- the points so far: as many as these, and all of them ok
pub record AreMade (P : ℕ → List ℕ → Type 0) (points : List Point) : Type 0 where
  pub each : AllZip P (range_with_len 0 (length points)) (map text_of points)
  pub ok : AreOk points

-- one batch more
pub more_made : (P : ℕ → List ℕ → Type 0) (old more new : List Point) (to : ℕ) → new ≡ old ++ more → length old ≤ to
    → AreMade P old → AllZip P (range_with_len (length old) (to - length old)) (map text_of more) → AreOk more
    → AreMade P new × (length new ≡ to)
more_made P old more new to grown up before each ok =
    let count : to - length old ≡ length more =
    sym (length-range_with_len (length old) (to - length old))
    ∙ sym (AllZip-long P (range_with_len (length old) (to - length old)) (map text_of more) each) ∙ length-map more text_of in
    let all : length new ≡ to = ap length grown ∙ length-append old more ∙ omega (arith, count, up) in
    let from : length old ≡ 0 + length old = omega arith in
    let whole : length old + (to - length old) ≡ length new = omega (arith, all, up) in
    let zipped : AllZip P (range_with_len 0 (length old) ++ range_with_len (length old) (to - length old)) (map text_of old ++ map text_of more) =
    AllZip-append P (range_with_len 0 (length old)) (range_with_len (length old) (to - length old)) (map text_of old) (map text_of more) before.each each in
    let numbers : range_with_len 0 (length old) ++ range_with_len (length old) (to - length old) ≡ range_with_len 0 (length new) =
    ap (λ n. range_with_len 0 (length old) ++ range_with_len n (to - length old)) from
    ∙ run-append 0 (length old) (to - length old) ∙ ap (range_with_len 0) whole in
    let texts : map text_of old ++ map text_of more ≡ map text_of new =
    sym (map-append text_of old more) ∙ ap (map text_of) (sym grown) in (
      record {
        each =
            subst (λ (l : List (List ℕ)). AllZip P (range_with_len 0 (length new)) l) texts
            (subst (λ (l : List ℕ). AllZip P l (map text_of old ++ map text_of more)) numbers zipped);
        ok = subst AreOk (sym grown) (All-append (λ (p : Point). IsTrue p.ok) old more before.ok ok);
      },
      all,
    )

-- where each is ok, none is not
pub none_bad : (points : List Point) → AreOk points → count_by (λ (p : Point). not p.ok) points ≡ 0
none_bad [] ok = refl
none_bad (p ∷ ps) ok =
    let pass : Point → ℕ = λ q. cond (not q.ok) 1 0 in
    let here : IsTrue p.ok = All-head (λ (q : Point). IsTrue q.ok) p ps ok in
    let none : pass p ≡ 0 = ap (λ b. cond (not b) 1 0) here in
    let others : sum_by pass ps ≡ 0 = none_bad ps (All-tail (λ (q : Point). IsTrue q.ok) p ps ok) in
    sum_by-cons pass p ps ∙ omega (arith, none, others)
