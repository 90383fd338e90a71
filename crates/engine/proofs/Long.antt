-- A part of a line, of which no more is kept than tells that the line is too long.
use Rattle.std.proofs.Common.{◌≡◌, ℕ, ◌<◌, Bool, List, [], ◌∷◌, ◌++◌, length, take, refl, sym, ap, subst, ◌∙◌, append_assoc, arith, inl, inr}
use Rattle.std.proofs.lemmas.Bool.{cases_lt}
use Rattle.std.proofs.lemmas.List.{length-append, length-take, take_all, take-take, take-append-le}
use Rattle.engine.specs.declared.reply.Reply.{Reply}
use Rattle.engine.specs.Lines.{HasNoNewline, HaveNoNewline, ended_lines, last_line_of}
use Rattle.engine.specs.Replies.{Meaning}
use Rattle.engine.specs.Handled.{Matches, Handled}
use Rattle.engine.specs.Serving.{Answers}
use Rattle.engine.proofs.Fitting.{Fits-long}
use Rattle.engine.proofs.Newlines.{HasNoNewline-append, HasNoNewline-back}
use Rattle.engine.proofs.WholeLines.{ends_behind}

-- what was handled of the kept bytes and a piece is handled of the part and the piece
pub record HandledWhole (m : Meaning) (stopped : Bool) (bytes rest : List ℕ) (replies : List Reply) : Type 0 where
  pub left : List ℕ
  pub handled : Handled m stopped bytes left replies
  pub kept : take 513 left ≡ take 513 rest
  pub one : HasNoNewline rest → HasNoNewline left

-- a long part
module _ (m : Meaning) (stopped : Bool) (part piece rest : List ℕ) (one : HasNoNewline part) (long : 513 < length part) where
  kept_length : length (take 513 part) ≡ 513
  kept_length = omega (arith, length-take 513 part)

  no_line : (replies : List Reply) → take 513 part ++ piece ≡ rest → Matches m stopped [] replies → HandledWhole m stopped (part ++ piece) rest replies
  no_line replies e fit =
      let kept : take 513 (part ++ piece) ≡ take 513 rest =
      take-append-le 513 part piece (omega arith) ∙ sym (take-take 513 513 part (omega arith))
      ∙ sym (take-append-le 513 (take 513 part) piece (omega (arith, kept_length))) ∙ ap (take 513) e in
      record {
        left = part ++ piece;
        handled = record { lines = []; are_lines = tt; parts = refl; fit = fit };
        kept = kept;
        one = λ h. HasNoNewline-append part piece one (HasNoNewline-back (take 513 part) piece (subst HasNoNewline (sym e) h));
      }

  some_lines : (line : List ℕ) (lines : List (List ℕ)) (replies : List Reply) → HasNoNewline (take 513 part) → HaveNoNewline (line ∷ lines)
      → take 513 part ++ piece ≡ ended_lines (line ∷ lines) ++ rest → Matches m stopped (line ∷ lines) replies → HandledWhole m stopped (part ++ piece) rest replies
  some_lines line lines [] short are e fit = absurd fit
  some_lines line lines (reply ∷ replies) short are e fit =
      let more = ended_lines lines ++ rest in
      let behind = ends_behind (take 513 part) line piece more short (e ∙ append_assoc line (10 ∷ ended_lines lines) rest) in
      let line_long : 512 < length line =
      omega (arith, kept_length, ap length behind.line_is, length-append (take 513 part) behind.end) in
      let whole_long : 512 < length (part ++ behind.end) = omega (arith, length-append part behind.end) in
      let end_one = HasNoNewline-back (take 513 part) behind.end (subst HasNoNewline behind.line_is are.0) in
      record {
        left = rest;
        handled = record {
          lines = (part ++ behind.end) ∷ lines;
          are_lines = (HasNoNewline-append part behind.end one end_one, are.1);
          parts =
              ap (λ (xs : List ℕ). part ++ xs) behind.back_is ∙ sym (append_assoc part behind.end (10 ∷ more))
              ∙ sym (append_assoc (part ++ behind.end) (10 ∷ ended_lines lines) rest);
          fit = (Fits-long m line (part ++ behind.end) reply line_long whole_long fit.0, fit.1);
        };
        kept = refl;
        one = λ h. h;
      }

  by_lines : (lines : List (List ℕ)) (replies : List Reply) → HasNoNewline (take 513 part) → HaveNoNewline lines
      → take 513 part ++ piece ≡ ended_lines lines ++ rest → Matches m stopped lines replies → HandledWhole m stopped (part ++ piece) rest replies
  by_lines [] replies short are e fit = no_line replies e fit
  by_lines (line ∷ lines) replies short are e fit = some_lines line lines replies short are e fit

pub handled_whole : (m : Meaning) (stopped : Bool) (part piece rest : List ℕ) (replies : List Reply) → HasNoNewline part → HasNoNewline (take 513 part)
    → Handled m stopped (take 513 part ++ piece) rest replies → HandledWhole m stopped (part ++ piece) rest replies
handled_whole m stopped part piece rest replies one short h =
    elim (cases_lt 513 (length part)) [
      | inl long ↦ by_lines m stopped part piece rest one long h.lines replies short h.are_lines h.parts h.fit
      | inr few ↦
          let all : take 513 part ≡ part = take_all 513 part few in
          record {
            left = rest;
            handled = subst (λ (xs : List ℕ). Handled m stopped (xs ++ piece) rest replies) all h;
            kept = refl;
            one = λ x. x;
          }
    ]

long_last : (m : Meaning) (whole : Bool) (line other : List ℕ) (replies : List Reply) → 512 < length line → 512 < length other
    → Answers m whole (last_line_of line) replies → Answers m whole (last_line_of other) replies
long_last m whole [] other replies long also h = absurd (omega arith)
long_last m whole (b ∷ bs) [] replies long also h = absurd (omega arith)
long_last m whole (b ∷ bs) (c ∷ cs) [] long also h = h
long_last m whole (b ∷ bs) (c ∷ cs) (r ∷ rs) long also h = (Fits-long m (b ∷ bs) (c ∷ cs) r long also h.0, h.1)

-- what was replied to the kept bytes of a last line is replied to the line
pub last_whole : (m : Meaning) (whole : Bool) (part : List ℕ) (replies : List Reply) → Answers m whole (last_line_of (take 513 part)) replies → Answers m whole (last_line_of part) replies
last_whole m whole part replies h =
    elim (cases_lt 513 (length part)) [
      | inl long ↦ long_last m whole (take 513 part) part replies (omega (arith, length-take 513 part)) (omega arith) h
      | inr few ↦ subst (λ (xs : List ℕ). Answers m whole (last_line_of xs) replies) (take_all 513 part few) h
    ]
