-- The bytes that are held, of the input and of the output.
use Rattle.std.proofs.Common.{◌≡◌, ℕ, ◌+◌, ◌-◌, ◌≤◌, min, List, [], ◌++◌, length, take, drop, Option, refl, sym, ap, subst, ◌∙◌, append_assoc, arith, inl, inr}
use Rattle.std.proofs.lemmas.Bool.{cases_lt}
use Rattle.std.proofs.lemmas.List.{append-nil, length-take, length-drop, take_all, take-take, take-append-le}
use Rattle.std.proofs.lemmas.Slice.{between_is}
use Rattle.std.proofs.Math.Seq.{take-append-add, take-append_seam}
use Rattle.std.proofs.KnownBytes.{Appends-nil, Appends-trans}
use Rattle.std.specs.Io.KnownBytes.{Appends}
use Rattle.std.specs.List.{copy_within}
use borrow.Rule.Slice.PartMut.{put_mid, post_of}
use Rattle.devices.specs.Devices.{AppendsBeginning}
use Rattle.engine.specs.Output.{Moves}

-- after a read behind the bytes that are held
pub filled : (len room n : ℕ) (xs ys : List ℕ) → len ≤ length xs → n ≤ length ys → take (len + n) (put_mid len room xs ys) ≡ take len xs ++ take n ys
filled len room n xs ys within few =
    let front : length (take len xs) ≡ len = omega (arith, length-take len xs) in
    ap (λ (k : ℕ). take (k + n) (put_mid len room xs ys)) (sym front)
    ∙ take-append-add (take len xs) (ys ++ post_of len room xs) n
    ∙ ap (λ (zs : List ℕ). take len xs ++ zs) (take-append-le n ys (post_of len room xs) few)

-- after the bytes from a place on were moved to the front
pub moved : (used len kept : ℕ) (xs : List ℕ) → kept ≡ min (len - used) 513 → used ≤ len → len ≤ length xs
    → take kept (copy_within xs used (used + kept) 0) ≡ take 513 (drop used (take len xs))
moved used len kept xs e le within =
    let count : used + kept - used ≡ kept = omega arith in
    let front = take kept (drop used xs) in
    let front_length : length front ≡ kept = omega (arith, length-take kept (drop used xs), length-drop used xs) in
    let left : take kept (copy_within xs used (used + kept) 0) ≡ front =
    ap (λ (k : ℕ). take kept (take k (drop used xs) ++ drop (0 + k) xs)) count
    ∙ ap (λ (k : ℕ). take k (front ++ drop (0 + kept) xs)) (sym front_length) ∙ take-append_seam front (drop (0 + kept) xs) in
    let right : front ≡ take 513 (take (len - used) (drop used xs)) =
    elim (cases_lt 513 (len - used)) [
      | inl long ↦
          let all : kept ≡ 513 = omega arith in
          ap (λ (k : ℕ). take k (drop used xs)) all ∙ sym (take-take 513 (len - used) (drop used xs) (omega arith))
      | inr few ↦
          let all : kept ≡ len - used = omega arith in
          let short : length (take (len - used) (drop used xs)) ≤ 513 = omega (arith, length-take (len - used) (drop used xs)) in
          ap (λ (k : ℕ). take k (drop used xs)) all ∙ sym (take_all 513 (take (len - used) (drop used xs)) short)
    ] in
    left ∙ right ∙ ap (take 513) (between_is xs used len)

pub Moves-none : (old : Option (List ℕ)) (held : List ℕ) → Moves old old held held []
Moves-none old held = ([], Appends-nil old, append-nil held)

pub Moves-trans : (a b c : Option (List ℕ)) (held mid new first second : List ℕ) → Moves a b held mid first → Moves b c mid new second → Moves a c held new (first ++ second)
Moves-trans a b c held mid new first second p q = (
  p.0 ++ q.0,
  Appends-trans a b c p.0 q.0 p.1 q.1,
  sym (append_assoc held first second) ∙ ap (λ (xs : List ℕ). xs ++ second) p.2 ∙ append_assoc p.0 mid second
      ∙ ap (λ (xs : List ℕ). p.0 ++ xs) q.2 ∙ sym (append_assoc p.0 q.0 new),
)

-- what was held was written, and a text is held
pub Moves-sent : (old new : Option (List ℕ)) (held text : List ℕ) → Appends old new held → Moves old new held text text
Moves-sent old new held text p = (held, p, refl)

-- a text is held too
pub Moves-held : (old : Option (List ℕ)) (held text : List ℕ) → Moves old old held (held ++ text) text
Moves-held old held text = ([], Appends-nil old, refl)

-- all that is held is written
pub all_sent : (a b c : Option (List ℕ)) (mid text : List ℕ) → Moves a b [] mid text → Appends b c mid → Appends a c text
all_sent a b c mid text p q = subst (Appends a c) (sym p.2) (Appends-trans a b c p.0 mid p.1 q)

-- a beginning of what is held is written
pub some_sent : (a b c : Option (List ℕ)) (held mid first second : List ℕ) → Moves a b held mid first → AppendsBeginning b c mid → AppendsBeginning a c (held ++ (first ++ second))
some_sent a b c held mid first second p q = (
  p.0 ++ q.0,
  q.1 ++ second,
  sym (append_assoc held first second) ∙ ap (λ (xs : List ℕ). xs ++ second) (p.2 ∙ ap (λ (xs : List ℕ). p.0 ++ xs) q.2)
      ∙ ap (λ (xs : List ℕ). xs ++ second) (sym (append_assoc p.0 q.0 q.1)) ∙ append_assoc (p.0 ++ q.0) q.1 second,
  Appends-trans a b c p.0 q.0 p.1 q.3,
)

-- a beginning of what is held, and nothing was before
pub part_sent : (a b c : Option (List ℕ)) (mid text : List ℕ) → Moves a b [] mid text → AppendsBeginning b c mid → AppendsBeginning a c text
part_sent a b c mid text p q = (
  p.0 ++ q.0,
  q.1,
  p.2 ∙ ap (λ (xs : List ℕ). p.0 ++ xs) q.2 ∙ sym (append_assoc p.0 q.0 q.1),
  Appends-trans a b c p.0 q.0 p.1 q.3,
)
