-- Points that are made side by side, one batch after another, are the script's, and none is bad.
use Rattle.std.proofs.Common.{◌≡◌, refl, sym, subst, ap, ◌∙◌, arith, inl, inr, ℕ, zero, suc, ◌+◌, ◌-◌, ◌*◌, ◌<◌, ◌≤◌, min, List, [], ◌∷◌, ◌++◌, length, map, get_or, take, drop, length-append, Vec, Global}
use Rattle.std.proofs.lemmas.Bool.{cases_lt}
use Rattle.std.proofs.lemmas.Grind.{flat_map-append}
use Rattle.std.proofs.lemmas.List.{append-nil, drop-map, map-append, take-map}
use Rattle.std.proofs.lemmas.List.FromFn.{length-map-range_with_len, map-range_with_len_more}
use Rattle.std.proofs.lemmas.List.{length-map}
use Rattle.std.proofs.lemmas.List.Sums.{sum_by-cons}
use Rattle.std.specs.List.{AllZip, flat_map, range_with_len, Contains}
use Rattle.std.specs.Prelude.{true, cond, not, sum_by, IsTrue, Result, Ok, Err, IfOk, IfErr, MatchResult, Option, None, Some, count_by}
use Rattle.words.specs.declared.refusal.Refusal.{Refusal}
use Rattle.words.specs.declared.refusal.Refusal.TheVariants.{NoMemory}
use Rattle.rayon.specs.Shown.{run-append}
use Rattle.arena.specs.Shape.{Shape}
use Rattle.protocol.specs.declared.acts.Act.{Act}
use Rattle.interleave.specs.State.{after_acts, taken_of}
use Rattle.grammar.specs.Grammar.{shape_by}
use Rattle.explore.specs.Acts.{acts_of}
use Rattle.explore.specs.Pieces.{piece_range}
use Rattle.explore.specs.Points.{Found, crashed_world, first_of, found_of, found_at, part_of, points_on, points_of, recovery_of}
use Rattle.grammar.specs.declared.commands.Command.{Command}
use Rattle.grammar.specs.declared.commands.QueueLine.{QueueLine}
use Rattle.explore.specs.declared.evictions.Evictions.{Evictions}
use Rattle.explore.specs.declared.part.Part.{Part}
use Rattle.explore.specs.declared.part.Wanted.{Wanted}
use Rattle.explore.specs.declared.sweep.TheConstants.{PIECE}
use Rattle.explore.proofs.Explained.{found_ok}
use Rattle.explore.specs.declared.point.Point.{Point}

-- what is to be made at some numbers, or want of memory
abbrev pub Makes : (ℕ → Found) → List ℕ → Result (Vec Point Global) Refusal → Type 0
Makes f ns r = IfOk r (λ points. map found_of points.items ≡ map f ns) × IfErr r (λ e. e ≡ NoMemory)

-- the points of pieces, one after another
abbrev pub points_in : List (Vec Point Global) → List Point
points_in pieces = flat_map (λ piece. piece.items) pieces

pub all_made : (f : ℕ → Found) (r : ℕ → List ℕ) (ns : List ℕ) (pieces : List (Vec Point Global))
    → AllZip (λ n made. Makes f (r n) made) ns (map Ok pieces) → map found_of (points_in pieces) ≡ map f (flat_map r ns)
all_made f r [] [] each = refl
all_made f r [] (p ∷ ps) each = absurd each
all_made f r (n ∷ ns) [] each = absurd each
all_made f r (n ∷ ns) (p ∷ ps) each =
    map-append found_of p.items (points_in ps)
    ∙ ap (λ l. l ++ map found_of (points_in ps)) each.0.0
    ∙ ap (λ l. map f (r n) ++ l) (all_made f r ns ps each.1)
    ∙ sym (map-append f (r n) (flat_map r ns))

pub no_other : (f : ℕ → Found) (r : ℕ → List ℕ) (ns : List ℕ) (rs : List (Result (Vec Point Global) Refusal)) (k : ℕ)
    (e : Refusal) → AllZip (λ n made. Makes f (r n) made) ns rs → k < length rs → get_or rs k (Err e) ≡ Err e → e ≡ NoMemory
no_other f r [] [] k e each within is = absurd (omega (arith, within))
no_other f r [] (x ∷ xs) k e each within is = absurd each
no_other f r (n ∷ ns) [] k e each within is = absurd each
no_other f r (n ∷ ns) (x ∷ xs) zero e each within is =
    subst (λ (y : Result (Vec Point Global) Refusal). IfErr y (λ why. why ≡ NoMemory)) is each.0.1
no_other f r (n ∷ ns) (x ∷ xs) (suc k) e each within is =
    no_other f r ns xs k e each.1 (omega (arith, within)) is

-- pieces that were made, or want of memory
abbrev pub PiecesMade : (ℕ → Found) → (ℕ → List ℕ) → List ℕ → Result (Vec (Vec Point Global) Global) Refusal → Type 0
PiecesMade f r ns made = IfOk made (λ v. map found_of (points_in v.items) ≡ map f (flat_map r ns))

pub pieces_made : (f : ℕ → Found) (r : ℕ → List ℕ) (ms ns : List ℕ) (rs : List (Result (Vec Point Global) Refusal))
    (made : Result (Vec (Vec Point Global) Global) Refusal)
    → ms ≡ ns → AllZip (λ n x. Makes f (r n) x) ms rs
    → MatchResult made (λ v. (pieces : List (Vec Point Global)) × (rs ≡ map Ok pieces) × (v.items ≡ pieces)) (λ e. Contains rs (Err e))
    → PiecesMade f r ns made
pieces_made f r ms ns rs (Ok v) same each is =
    ap (λ l. map found_of (points_in l)) is.2
    ∙ all_made f r ms is.0 (subst (λ (l : List (Result (Vec Point Global) Refusal)). AllZip (λ n x. Makes f (r n) x) ms l) is.1 each)
    ∙ ap (λ l. map f (flat_map r l)) same
pieces_made f r ms ns rs (Err e) same each is = tt

pub pieces_refused : (f : ℕ → Found) (r : ℕ → List ℕ) (ms : List ℕ) (rs : List (Result (Vec Point Global) Refusal))
    (made : Result (Vec (Vec Point Global) Global) Refusal) → AllZip (λ n x. Makes f (r n) x) ms rs
    → MatchResult made (λ v. (pieces : List (Vec Point Global)) × (rs ≡ map Ok pieces) × (v.items ≡ pieces)) (λ e. Contains rs (Err e))
    → IfErr made (λ e. e ≡ NoMemory)
pieces_refused f r ms rs (Ok v) each is = tt
pieces_refused f r ms rs (Err e) each is = no_other f r ms rs is.0 e each is.1 is.2

-- so many pieces are the points up to where the last one ends
piece_more : (from to n : ℕ)
    → range_with_len from (min (n * PIECE) (to - from)) ++ piece_range from to n
    ≡ range_with_len from (min (suc n * PIECE) (to - from))
piece_more from to n = elim (cases_lt (n * PIECE) (to - from)) [
  | inl lt ↦
      let here : min (n * PIECE) (to - from) ≡ n * PIECE = omega (arith, lt) in
      let more : n * PIECE + min PIECE (to - (from + n * PIECE)) ≡ min (suc n * PIECE) (to - from) = omega (arith, lt) in
      ap (λ k. range_with_len from k ++ piece_range from to n) here
      ∙ run-append from (n * PIECE) (min PIECE (to - (from + n * PIECE))) ∙ ap (range_with_len from) more
  | inr ge ↦
      let none : min PIECE (to - (from + n * PIECE)) ≡ 0 = omega (arith, ge) in
      let same : min (n * PIECE) (to - from) ≡ min (suc n * PIECE) (to - from) = omega (arith, ge) in
      ap (λ k. range_with_len from (min (n * PIECE) (to - from)) ++ range_with_len (from + n * PIECE) k) none
      ∙ append-nil (range_with_len from (min (n * PIECE) (to - from))) ∙ ap (range_with_len from) same
]

pub pieces_are : (from to n : ℕ)
    → flat_map (piece_range from to) (range_with_len 0 n) ≡ range_with_len from (min (n * PIECE) (to - from))
pieces_are from to zero =
    let none : min (0 * PIECE) (to - from) ≡ 0 = omega arith in ap (range_with_len from) (sym none)
pieces_are from to (suc n) =
    let one : n + 1 ≡ suc n = omega arith in
    let here : 0 + n ≡ n = omega arith in
    ap (flat_map (piece_range from to))
    (sym (run-append 0 n 1 ∙ ap (range_with_len 0) one) ∙ ap (λ k. range_with_len 0 n ++ range_with_len k 1) here)
    ∙ flat_map-append (piece_range from to) (range_with_len 0 n) (n ∷ [])
    ∙ ap (λ l. l ++ flat_map (piece_range from to) (n ∷ [])) (pieces_are from to n)
    ∙ ap (λ l. range_with_len from (min (n * PIECE) (to - from)) ++ l) (append-nil (piece_range from to n))
    ∙ piece_more from to n

-- one point more
pub next_found : (f : ℕ → Found) (founds new : List Found) (found : Found) (from number : ℕ) → from ≤ number
    → founds ≡ map f (range_with_len from (number - from)) → found ≡ f number → new ≡ founds ++ found ∷ []
    → new ≡ map f (range_with_len from (number + 1 - from))
next_found f founds new found from number up made is grown =
    let last : from + (number - from) ≡ number = omega (arith, up) in
    let more : number - from + 1 ≡ number + 1 - from = omega (arith, up) in
    grown ∙ ap (λ l. l ++ found ∷ []) made
    ∙ ap (λ x. map f (range_with_len from (number - from)) ++ x ∷ []) is
    ∙ sym (map-range_with_len_more f from (number - from) number last)
    ∙ ap (λ n. map f (range_with_len from n)) more

pub point_more : (f : ℕ → Found) (points : List Point) (point : Point) (from number : ℕ) → from ≤ number
    → map found_of points ≡ map f (range_with_len from (number - from)) → found_of point ≡ f number
    → map found_of (points ++ point ∷ []) ≡ map f (range_with_len from (number + 1 - from))
point_more f points point from number up made is =
    next_found f (map found_of points) (map found_of (points ++ point ∷ [])) (found_of point) from number up made is
    (map-append found_of points (point ∷ []))

-- one batch more
pub more_made : (f : ℕ → Found) (old more new : List Point) (from begun to : ℕ) → new ≡ old ++ more
    → begun ≡ from + length old → begun ≤ to
    → map found_of old ≡ map f (range_with_len from (length old))
    → map found_of more ≡ map f (range_with_len begun (to - begun))
    → (map found_of new ≡ map f (range_with_len from (length new))) × (from + length new ≡ to)
more_made f old more new from begun to grown here up before then =
    let count : length more ≡ to - begun =
    sym (length-map more found_of) ∙ ap length then ∙ length-map-range_with_len f begun (to - begun) in
    let both : length new ≡ length old + length more = ap length grown ∙ length-append old more in
    let all : from + length new ≡ to = omega (arith, both, count, up, here) in
    let whole : length old + (to - begun) ≡ length new = omega (arith, both, count) in (
      ap (map found_of) grown ∙ map-append found_of old more
          ∙ ap (λ l. l ++ map found_of more) before
          ∙ ap (λ l. map f (range_with_len from (length old)) ++ l) then
          ∙ sym (map-append f (range_with_len from (length old)) (range_with_len begun (to - begun)))
          ∙ ap (λ n. map f (range_with_len from (length old) ++ range_with_len n (to - begun))) here
          ∙ ap (map f) (run-append from (length old) (to - begun) ∙ ap (range_with_len from) whole),
      all,
    )

-- where each is found to be ok, none is not
pub none_bad : (f : ℕ → Found) (ns : List ℕ) (points : List Point) → ((n : ℕ) → IsTrue (f n).ok)
    → map found_of points ≡ map f ns → count_by (λ (p : Point). not p.ok) points ≡ 0
none_bad f ns [] ok same = refl
none_bad f [] (p ∷ ps) ok same = absurd (cc)
none_bad f (n ∷ ns) (p ∷ ps) ok same =
    let here : found_of p ≡ f n = cc in
    let rest : map found_of ps ≡ map f ns = cc in
    let right : p.ok ≡ true = ap (λ (x : Found). x.ok) here ∙ ok n in
    let pass : Point → ℕ = λ q. cond (not q.ok) 1 0 in
    let none : pass p ≡ 0 = ap (λ b. cond (not b) 1 0) right in
    let others : sum_by pass ps ≡ 0 = none_bad f ns ps ok rest in
    sum_by-cons pass p ps ∙ omega (arith, none, others)

-- of no points a part has none
pub part_of-none : (part : Part) → part_of part (let none : List Found = [] in none) ≡ []
part_of-none part = ap (first_of part.count) (no_drop part.from) ∙ no_first part.count
  where
    no_drop : (n : ℕ) → drop n (let none : List Found = [] in none) ≡ []
    no_drop zero = refl
    no_drop (suc n) = refl

    no_take : (n : ℕ) → take n (let none : List Found = [] in none) ≡ []
    no_take zero = refl
    no_take (suc n) = refl

    no_first : (count : Option ℕ) → first_of count (let none : List Found = [] in none) ≡ []
    no_first None = refl
    no_first (Some n) = no_take n

-- a part of what is made of some numbers is made of a part of them
part_of-map : {X Y : Type 0} (f : X → Y) (part : Part) (xs : List X) → part_of part (map f xs) ≡ map f (part_of part xs)
part_of-map f part xs = ap (first_of part.count) (drop-map f part.from xs) ∙ first part.count (drop part.from xs)
  where
    first : (count : Option ℕ) (ys : List _) → first_of count (map f ys) ≡ map f (first_of count ys)
    first None ys = refl
    first (Some n) ys = take-map f n ys

-- the points of a part of acts that are a script's are the script's
pub points_are : (s : Shape) (acts : List (Act ℕ)) (wanted : Wanted) (commands : List Command) (q : Option QueueLine)
    (queue : QueueLine) (founds : List Found) (from to : ℕ)
    → founds ≡ map (found_at s acts wanted.evictions) (range_with_len from (to - from))
    → part_of wanted.part (range_with_len 0 (length acts + 1)) ≡ range_with_len from (to - from)
    → acts ≡ acts_of s commands
    → s ≡ shape_by queue → q ≡ Some queue → founds ≡ part_of wanted.part (points_of q commands wanted.evictions)
points_are s acts wanted commands q queue founds from to are part accepted shape is =
    let evictions : Evictions = wanted.evictions in
    are ∙ ap (map (found_at s acts evictions)) (sym part)
    ∙ sym (part_of-map (found_at s acts evictions) wanted.part (range_with_len 0 (length acts + 1)))
    ∙ ap (λ a. part_of wanted.part (map (found_at s a evictions) (range_with_len 0 (length a + 1)))) accepted
    ∙ ap (λ t. part_of wanted.part (points_on t commands evictions)) shape
    ∙ ap (λ r. part_of wanted.part (points_of r commands evictions)) (sym is)

-- and each is ok
pub all_ok : (s : Shape) (acts : List (Act ℕ)) (evictions : Evictions) (points : List Point) (ns : List ℕ)
    → map found_of points ≡ map (found_at s acts evictions) ns
    → count_by (λ (p : Point). not p.ok) points ≡ 0
all_ok s acts evictions points ns are =
    none_bad (found_at s acts evictions) ns points
    (λ n. found_ok (after_acts (crashed_world s (take n acts) evictions n) (recovery_of s))
    (taken_of (crashed_world s (take n acts) evictions n) (recovery_of s))) are
