-- Whole lines, and the lines of an input that begins with them.
use Rattle.std.proofs.Common.{◌≡◌, ℕ, List, [], ◌∷◌, ◌++◌, drop, get_or, refl, sym, ap, ◌∙◌, append_assoc}
use Rattle.std.proofs.lemmas.Bool.{ne_eqb}
use Rattle.engine.specs.Lines.{before_first, lines_of, last_line_of, HasNoNewline, HaveNoNewline, ended_lines}

first_line : (line rest : List ℕ) → HasNoNewline line → lines_of (line ++ 10 ∷ rest) ≡ line ∷ lines_of rest
first_line [] rest one = refl
first_line (b ∷ bs) rest one = rw (ne_eqb b 10 one.0) (ap (before_first b) (first_line bs rest one.1))

pub lines_of-ended : (lines : List (List ℕ)) (rest : List ℕ) → HaveNoNewline lines → lines_of (ended_lines lines ++ rest) ≡ lines ++ lines_of rest
lines_of-ended [] rest are = refl
lines_of-ended (line ∷ lines) rest are =
    ap lines_of (append_assoc line (10 ∷ ended_lines lines) rest) ∙ first_line line (ended_lines lines ++ rest) are.0
    ∙ ap (λ (xs : List (List ℕ)). line ∷ xs) (lines_of-ended lines rest are.1)

pub lines_of-last : (bytes : List ℕ) → HasNoNewline bytes → lines_of bytes ≡ last_line_of bytes
lines_of-last [] one = refl
lines_of-last (b ∷ []) one = rw (ne_eqb b 10 one.0) refl
lines_of-last (b ∷ c ∷ cs) one = rw (ne_eqb b 10 one.0) (ap (before_first b) (lines_of-last (c ∷ cs) one.1))

pub ended_lines-append : (xs ys : List (List ℕ)) → ended_lines (xs ++ ys) ≡ ended_lines xs ++ ended_lines ys
ended_lines-append [] ys = refl
ended_lines-append (x ∷ xs) ys =
    ap (λ (zs : List ℕ). x ++ 10 ∷ zs) (ended_lines-append xs ys) ∙ sym (append_assoc x (10 ∷ ended_lines xs) (ended_lines ys))

pub HaveNoNewline-append : (xs ys : List (List ℕ)) → HaveNoNewline xs → HaveNoNewline ys → HaveNoNewline (xs ++ ys)
HaveNoNewline-append [] ys p q = q
HaveNoNewline-append (x ∷ xs) ys p q = (p.0, HaveNoNewline-append xs ys p.1 q)

-- where the first line of what two pieces make ends, if the first piece has no newline
pub record EndsBehind (front line back rest : List ℕ) : Type 0 where
  pub end : List ℕ
  pub line_is : line ≡ front ++ end
  pub back_is : back ≡ end ++ 10 ∷ rest

pub ends_behind : (front line back rest : List ℕ) → HasNoNewline front → front ++ back ≡ line ++ 10 ∷ rest → EndsBehind front line back rest
ends_behind [] line back rest one e = record { end = line; line_is = refl; back_is = e }
ends_behind (b ∷ bs) [] back rest one e = absurd (one.0 (ap (λ (xs : List ℕ). get_or xs 0 0) e))
ends_behind (b ∷ bs) (c ∷ cs) back rest one e =
    let same : b ≡ c = ap (λ (xs : List ℕ). get_or xs 0 0) e in
    let more = ends_behind bs cs back rest one.1 (ap (λ (xs : List ℕ). drop 1 xs) e) in
    record { end = more.end; line_is = ap (λ (x : ℕ). x ∷ cs) (sym same) ∙ ap (λ (xs : List ℕ). b ∷ xs) more.line_is; back_is = more.back_is }
