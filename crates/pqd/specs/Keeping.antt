-- What a broker with a journal begins on, and when the journal is kept.
use Rattle.std.specs.Prelude.{◌≡◌, ℕ, ⊤, Bool, true, false, List, [], ◌∷◌, Option, Some, None, IfSome}
use Rattle.persist.specs.Memory.{words_at_rest}
use Rattle.named.specs.Brokers.{Brokered, counts_of}
use Rattle.opening.specs.Opening.{IsOpened, IsReopenedAnew}
use Rattle.journal_store.specs.Folder.{File, Files, bytes_of}
use Rattle.journal_store.specs.Found.{IsFoundIn}
use Rattle.journal_store.specs.declared.found.Found.{Found}
use Rattle.lasting.specs.declared.policy.Policy.{Policy}
use Rattle.lasting.specs.declared.policy.Policy.TheVariants as policy
use Rattle.options.specs.declared.asked.Options.{Options}
use Rattle.options.specs.declared.asked.Syncing.{Syncing}
use Rattle.options.specs.declared.asked.Syncing.TheVariants as syncing

-- when a journal is kept that is asked for so
abbrev pub policy_for : Syncing → Policy
policy_for syncing.Always = policy.Always
policy_for syncing.EachSecond = policy.EachSecond
policy_for syncing.Never = policy.Never

-- the broker goes on from these words, in fresh records of the counts that are asked for, or not
abbrev pub GoesOnAnew : Bool → Options → List ℕ → Brokered → Type 0
GoesOnAnew false asked words b = IsOpened (words_at_rest words) b
GoesOnAnew true asked words b = IsReopenedAnew words (counts_of asked.clients asked.records) b

-- it goes on from these words, as it is asked to
abbrev pub GoesOnFrom : Options → List ℕ → Brokered → Type 0
GoesOnFrom asked words b = GoesOnAnew asked.renew asked words b

-- it goes on from the words of the journal in this file, if there is one
abbrev pub GoesOnFromFile : Options → Option File → Brokered → Type 0
GoesOnFromFile asked None b = ⊤
GoesOnFromFile asked (Some f) b = (found : Found) × IsFoundIn (bytes_of f) found × GoesOnFrom asked found.words.items b

-- so it does where the files are known
abbrev pub GoesOnFromFiles : Options → Option Files → Brokered → Type 0
GoesOnFromFiles asked files b = IfSome files (λ fs. GoesOnFromFile asked fs.place.file b)

-- it goes on from the words of the journal that has these bytes, if there are any
abbrev pub GoesOnFromBytes : Options → List ℕ → Brokered → Type 0
GoesOnFromBytes asked [] b = ⊤
GoesOnFromBytes asked (first ∷ rest) b =
    (found : Found) × IsFoundIn (first ∷ rest) found × GoesOnFrom asked found.words.items b

-- so it does where the text of the log is known
abbrev pub GoesOnFromText : Options → Option (List ℕ) → Brokered → Type 0
GoesOnFromText asked text b = IfSome text (λ bytes. GoesOnFromBytes asked bytes b)
