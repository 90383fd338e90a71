-- A broker begins on the words of an image, of either form.
use Rattle.std.proofs.Common.{ℕ, Bool, true, false, List, Result, Ok, Err}
use Rattle.std.specs.Prelude.{IfOk}
use Rattle.words.specs.declared.refusal.Refusal.{Refusal}
use Rattle.persist.specs.Memory.{Words, words_at_rest}
use Rattle.migration.specs.Words.{broker_migrated}
use Rattle.named.specs.Brokers.{Brokered}
use Rattle.named.proofs.Facts.{migrated_is}
use Rattle.opening.specs.Opening.{HasBegunFrom, HasBegunOn, IsOpened, IsOpenedBy}

-- it began on some words, and it is opened once it has recovered
pub begun_on : (first : Bool) (image : List ℕ) (b : Brokered) → HasBegunFrom first image b → (ws : Words) × HasBegunOn ws b
begun_on false image b h = (words_at_rest h.words, h.begun)
begun_on true image b h = (words_at_rest (broker_migrated h.words), h.begun)

pub opened_from : (first : Bool) (image : List ℕ) (start : Brokered) (r : Result Brokered Refusal) → HasBegunFrom first image start
    → IfOk r (λ b. (ws : Words) → HasBegunOn ws start → IsOpened ws b) → IfOk r (IsOpenedBy first image)
opened_from false image start (Ok b) h opened = record { words = h.words; read = h.read; opened = opened (words_at_rest h.words) h.begun }
opened_from true image start (Ok b) h opened =
    let o : IsOpened (words_at_rest (broker_migrated h.words)) b = opened (words_at_rest (broker_migrated h.words)) h.begun in record {
      words = h.words;
      read = h.read;
      opened = o;
      migrated = migrated_is h.words h.sound o.start o.booted;
    }
opened_from first image start (Err e) h opened = tt
