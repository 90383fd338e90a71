-- What a broker begins on goes on from the text that was read of its log.
use Rattle.std.proofs.Common.{◌≡◌, ◌∙◌, ℕ, List, [], ◌∷◌, Option, Some, None, subst, sym}
use Rattle.std.specs.Prelude.{IfSome}
use Rattle.named.specs.Brokers.{Brokered}
use Rattle.journal_store.specs.Found.{IsFoundIn}
use Rattle.journal_store.specs.declared.found.Found.{Found}
use Rattle.options.specs.declared.asked.Options.{Options}
use Rattle.pqd.specs.Keeping.{GoesOnFrom, GoesOnFromBytes, GoesOnFromText}

of_bytes : (asked : Options) (bytes : List ℕ) (found : Found) (b : Brokered) → IsFoundIn bytes found
    → GoesOnFrom asked found.words.items b → GoesOnFromBytes asked bytes b
of_bytes asked [] found b there on = tt
of_bytes asked (first ∷ rest) found b there on = (found, there, on)

pub of_text : (asked : Options) (text : Option (List ℕ)) (bytes : List ℕ) (found : Found) (b : Brokered)
    → IfSome text (λ known. known ≡ bytes) → IsFoundIn bytes found → GoesOnFrom asked found.words.items b
    → GoesOnFromText asked text b
of_text asked None bytes found b read there on = tt
of_text asked (Some known) bytes found b read there on =
    subst (λ (it : List ℕ). GoesOnFromBytes asked it b) (sym read) (of_bytes asked bytes found b there on)

-- where it is empty, a new one does
pub of_no_text : (asked : Options) (text : Option (List ℕ)) (bytes : List ℕ) (b : Brokered)
    → IfSome text (λ known. known ≡ bytes) → bytes ≡ [] → GoesOnFromText asked text b
of_no_text asked None bytes b read empty = tt
of_no_text asked (Some known) bytes b read empty =
    subst (λ (it : List ℕ). GoesOnFromBytes asked it b) (sym (read ∙ empty)) tt
