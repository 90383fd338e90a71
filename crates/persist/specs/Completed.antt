-- What a memory does where a request of a port is completed that may be for a word outside the part that is lent.
use Rattle.std.specs.Prelude.{ℕ, Option, Some, None, Result, Ok, Err, if◌then◌else◌}
use Rattle.words.specs.declared.refusal.Refusal.{Refusal}
use Rattle.words.specs.declared.refusal.Refusal.TheVariants.{NoWord}
use Rattle.persist.specs.Changes.{change_of}
use Rattle.persist.specs.Memory.{Words, Fence, after, is_within, words_after_access}
use Rattle.persist.specs.declared.access.Change.{Change}

-- what it answers, of the word in the memory
abbrev pub completed_result : ℕ → ℕ → Option ℕ → Words → Result (Option Change) Refusal
completed_result from len None ws = Ok None
completed_result from len (Some word) ws = if is_within from len word then Ok (change_of ws word) else Err NoWord

-- and what it leaves: of the words, and of the request
abbrev pub completed_words : ℕ → ℕ → Option ℕ → Words → Words
completed_words from len None ws = words_after_access ws
completed_words from len (Some word) ws = if is_within from len word then after (Fence word) ws else ws

abbrev pub completed_request : ℕ → ℕ → Option ℕ → Option ℕ
completed_request from len None = None
completed_request from len (Some word) = if is_within from len word then None else Some word
