-- Replies, one after the other.
use Rattle.std.proofs.Common.{◌≡◌, ◌≢◌, ℕ, ◌+◌, Bool, true, false, List, [], ◌∷◌, ◌++◌, take, drop, Some, Result, Ok, Err, refl, sym, ap, subst, ◌∙◌, append_assoc}
use Rattle.std.specs.Prelude.{OnOk, OnErr, MatchBool}
use Rattle.std.proofs.lemmas.List.{append-nil}
use Rattle.std.proofs.lemmas.List.Concat.{flat_map-append}
use Rattle.engine.specs.declared.lines.Progress.{Progress}
use Rattle.engine.specs.declared.lines.Progress.TheVariants.{Replied, Stopped}
use Rattle.engine.specs.declared.reply.Reply.{Reply}
use Rattle.engine.specs.Lines.{last_line_of, IsFirstNewline}
use Rattle.engine.specs.Replies.{Meaning, Served, Fits, is_stop, reply_line, output_of, made_of}
use Rattle.engine.specs.Handled.{RepliesTo, RepliesAsFar, RepliesUntilFault}
use Rattle.engine.specs.Serving.{Serves}
use Rattle.engine.proofs.Fitting.{made_of-append}
use Rattle.engine.proofs.Handling.{none_handled, line_handled}

pub on_err : {A E P : Type 0} (r : Result A E) → P → OnErr r P
on_err (Ok x) p = tt
on_err (Err e) p = p

pub on_ok_both : {A E P Q S : Type 0} (r : Result A E) → (P → Q → S) → OnOk r P → OnOk r Q → OnOk r S
on_ok_both (Ok x) f p q = f p q
on_ok_both (Err e) f p q = tt

pub on_err_map : {A E P Q : Type 0} (r : Result A E) → (P → Q) → OnErr r P → OnErr r Q
on_err_map (Ok x) f p = tt
on_err_map (Err e) f p = f p

pub output_of-append : (rs ss : List Reply) → output_of (rs ++ ss) ≡ output_of rs ++ output_of ss
output_of-append rs ss = flat_map-append reply_line rs ss

pub output_of-one : (reply : Reply) → output_of (reply ∷ []) ≡ reply_line reply
output_of-one reply = append-nil (reply_line reply)

pub none_replied : (m : Meaning) (bytes : List ℕ) (served : Served) (W : List Reply → Type 0) → W []
    → RepliesTo m false bytes bytes served served W
none_replied m bytes served W p =
    record { replies = []; handled = none_handled m bytes; written = p; served = sym (append-nil served) }

-- the same replies, of which something else is known
pub change_written : (m : Meaning) (stopped : Bool) (bytes rest : List ℕ) (old new : Served) (W V : List Reply → Type 0)
    → ((rs : List Reply) → new ≡ old ++ made_of rs → W rs → V rs) → RepliesTo m stopped bytes rest old new W
    → RepliesTo m stopped bytes rest old new V
change_written m stopped bytes rest old new W V f p =
    record { replies = p.replies; handled = p.handled; written = f p.replies p.served p.written; served = p.served }

pub change_as_far : (m : Meaning) (progress : Progress) (bytes : List ℕ) (old new : Served) (W V : List Reply → Type 0)
    → ((rs : List Reply) → new ≡ old ++ made_of rs → W rs → V rs) → RepliesAsFar m progress bytes old new W
    → RepliesAsFar m progress bytes old new V
change_as_far m (Replied used) bytes old new W V f p =
    (p.0, p.1, change_written m false bytes (drop used bytes) old new W V f p.2)
change_as_far m Stopped bytes old new W V f p = (p.0, change_written m true bytes p.0 old new W V f p.1)

pub until_fault : (m : Meaning) (progress : Progress) (bytes : List ℕ) (old new : Served) (W V : List Reply → Type 0)
    → ((rs : List Reply) → new ≡ old ++ made_of rs → W rs → V rs) → RepliesAsFar m progress bytes old new W
    → RepliesUntilFault m bytes old new V
until_fault m (Replied used) bytes old new W V f p =
    (false, drop used bytes, change_written m false bytes (drop used bytes) old new W V f p.2)
until_fault m Stopped bytes old new W V f p = (true, p.0, change_written m true bytes p.0 old new W V f p.1)

-- a line more, and its reply
module _ (m : Meaning) (bytes rest : List ℕ) (n : ℕ) (reply : Reply) (old mid new : Served)
    (newline : IsFirstNewline rest (Some n)) (fits : Fits m (take n rest) reply)
    (served : new ≡ mid ++ made_of (reply ∷ [])) where
  more_served : (rs : List Reply) → mid ≡ old ++ made_of rs → new ≡ old ++ made_of (rs ++ reply ∷ [])
  more_served rs e =
      served ∙ ap (λ (xs : Served). xs ++ made_of (reply ∷ [])) e ∙ append_assoc old (made_of rs) (made_of (reply ∷ []))
      ∙ ap (λ (xs : Served). old ++ xs) (sym (made_of-append rs (reply ∷ [])))

  pub next_replied : (W V : List Reply → Type 0)
      → ((rs : List Reply) → new ≡ old ++ made_of (rs ++ reply ∷ []) → W rs → V (rs ++ reply ∷ []))
      → RepliesTo m false bytes rest old mid W → RepliesTo m (is_stop reply) bytes (drop (n + 1) rest) old new V
  next_replied W V f p =
      record {
        replies = p.replies ++ reply ∷ [];
        handled = line_handled m bytes rest (take n rest) (drop (n + 1) rest) p.replies reply p.handled newline.1 newline.2 fits;
        written = f p.replies (more_served p.replies p.served) p.written;
        served = more_served p.replies p.served;
      }

-- the last line and its reply
pub last_replied : (m : Meaning) (whole : Bool) (bytes : List ℕ) (reply : Reply) (old new : Served)
    (W : List Reply → Type 0) → bytes ≢ [] → Fits m bytes reply → new ≡ old ++ made_of (reply ∷ []) → W (reply ∷ [])
    → Serves m whole (last_line_of bytes) old new W
last_replied m whole [] reply old new W some fits served p = absurd (some refl)
last_replied m whole (b ∷ bs) reply old new W some fits served p =
    record {
      replies = reply ∷ [];
      answers = (fits, both (is_stop reply));
      written = p;
      served = served;
    }
  where
    both : (b : Bool) → MatchBool b (◌≡◌ {A = List Reply} [] []) (Unit {0})
    both true = refl
    both false = tt

-- there is no last line
pub no_line_replied : (m : Meaning) (whole : Bool) (bytes : List ℕ) (old new : Served) (W : List Reply → Type 0)
    → bytes ≡ [] → new ≡ old → W [] → Serves m whole (last_line_of bytes) old new W
no_line_replied m whole bytes old new W none same p =
    subst (λ (xs : List ℕ). Serves m whole (last_line_of xs) old new W) (sym none)
    (record { replies = []; answers = tt; written = p; served = same ∙ sym (append-nil old) })
