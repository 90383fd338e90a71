-- What was written so far.
use Rattle.std.proofs.Common.{◌≡◌, ℕ, List, [], ◌++◌, Option, take, drop, sym, ap, ◌∙◌, append_assoc}
use Rattle.std.proofs.lemmas.List.{append-nil, take-append-drop}
use Rattle.std.proofs.KnownBytes.{Appends-trans, Appends-kept}
use Rattle.std.specs.Io.KnownBytes.{Appends, Keeps}
use Rattle.devices.specs.Devices.{AppendsBeginning}

-- some of the bytes were written, and these are left
pub record HasWritten (bytes rest : List ℕ) (old new : Option (List ℕ)) : Type 0 where
  pub sent : List ℕ
  pub parts : bytes ≡ sent ++ rest
  pub appends : Appends old new sent

-- a write takes some more of them
pub more_written : (n : ℕ) (bytes rest : List ℕ) (old mid new : Option (List ℕ))
    → HasWritten bytes rest old mid → Appends mid new (take n rest) → HasWritten bytes (drop n rest) old new
more_written n bytes rest old mid new had more =
    record {
      sent = had.sent ++ take n rest;
      parts =
          had.parts ∙ ap (λ (xs : List ℕ). had.sent ++ xs) (sym (take-append-drop n rest))
          ∙ sym (append_assoc had.sent (take n rest) (drop n rest));
      appends = Appends-trans old mid new had.sent (take n rest) had.appends more;
    }

-- all of the bytes are a beginning of them
pub all_is_beginning : (old mid new : Option (List ℕ)) (bytes : List ℕ)
    → Appends old mid bytes → Keeps mid new → AppendsBeginning old new bytes
all_is_beginning old mid new bytes all kept =
    (bytes, [], sym (append-nil bytes), Appends-kept old mid new bytes all kept)
