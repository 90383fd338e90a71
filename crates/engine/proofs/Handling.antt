-- Lines that are handled one after the other.
use Rattle.std.proofs.Common.{◌≡◌, ℕ, Bool, false, List, [], ◌∷◌, ◌++◌, refl, sym, ap, ◌∙◌, append_assoc}
use Rattle.engine.specs.declared.reply.Reply.{Reply}
use Rattle.engine.specs.Lines.{HasNoNewline, ended_lines}
use Rattle.engine.specs.Replies.{Meaning, Fits, is_stop}
use Rattle.engine.specs.Handled.{Handled}
use Rattle.engine.proofs.Fitting.{Matches-one, Matches-append}
use Rattle.engine.proofs.WholeLines.{ended_lines-append, HaveNoNewline-append}

pub none_handled : (m : Meaning) (bytes : List ℕ) → Handled m false bytes bytes []
none_handled m bytes = record { lines = []; are_lines = tt; parts = refl; fit = refl }

-- what is handled of the rest is handled of the whole
pub both_handled : (m : Meaning) (stopped : Bool) (bytes rest more behind : List ℕ) (rs ss : List Reply)
    → Handled m false bytes (rest ++ behind) rs → Handled m stopped rest more ss → Handled m stopped bytes (more ++ behind) (rs ++ ss)
both_handled m stopped bytes rest more behind rs ss p q =
    record {
      lines = p.lines ++ q.lines;
      are_lines = HaveNoNewline-append p.lines q.lines p.are_lines q.are_lines;
      parts =
          p.parts ∙ ap (λ (xs : List ℕ). ended_lines p.lines ++ (xs ++ behind)) q.parts
          ∙ ap (λ (xs : List ℕ). ended_lines p.lines ++ xs) (append_assoc (ended_lines q.lines) more behind)
          ∙ sym (append_assoc (ended_lines p.lines) (ended_lines q.lines) (more ++ behind))
          ∙ ap (λ (xs : List ℕ). xs ++ (more ++ behind)) (sym (ended_lines-append p.lines q.lines));
      fit = Matches-append m stopped p.lines q.lines rs ss p.fit q.fit;
    }

-- a line more
pub line_handled : (m : Meaning) (bytes rest line after : List ℕ) (rs : List Reply) (reply : Reply)
    → Handled m false bytes rest rs → HasNoNewline line → rest ≡ line ++ 10 ∷ after → Fits m line reply
    → Handled m (is_stop reply) bytes after (rs ++ reply ∷ [])
line_handled m bytes rest line after rs reply p one e fits =
    record {
      lines = p.lines ++ line ∷ [];
      are_lines = HaveNoNewline-append p.lines (line ∷ []) p.are_lines (one, tt);
      parts =
          p.parts ∙ ap (λ (xs : List ℕ). ended_lines p.lines ++ xs) (e ∙ sym (append_assoc line (10 ∷ []) after))
          ∙ sym (append_assoc (ended_lines p.lines) (line ++ 10 ∷ []) after)
          ∙ ap (λ (xs : List ℕ). xs ++ after) (sym (ended_lines-append p.lines (line ∷ [])));
      fit = Matches-append m (is_stop reply) p.lines (line ∷ []) rs (reply ∷ []) p.fit (Matches-one m line reply fits);
    }
