-- Which words are changed, and what a fence, an eviction and a compare-and-swap answer.
use Rattle.std.specs.Prelude.{◌≡◌, ◌≢◌, ℕ, ◌-◌, ◌<◌, ◌≤◌, List, length, Option, Some, None, Result, Ok, Err, filter, not, slice_index, slice_index_or, if◌then◌else◌, ◌==◌}
use Rattle.std.specs.List.{enumerate_from}
use Rattle.words.specs.declared.refusal.Refusal.{Refusal}
use Rattle.words.specs.declared.refusal.Refusal.TheVariants.{NoWord}
use Rattle.persist.specs.Memory.{Words, Request, Nothing, Word, Elsewhere}
use Rattle.persist.specs.ChangeList.{Entries, Listing, get, IsAscending}
use Rattle.persist.specs.declared.memory.TheConstants.{MAX_WORDS, PORTS}
use Rattle.persist.specs.declared.access.Change.{Change}
use Rattle.persist.specs.declared.access.Swap.{Swap}
use Rattle.persist.specs.declared.access.Swap.TheVariants.{Done, Found}

-- the change of the kept value, where it changes
abbrev pub change_of : Words → ℕ → Option Change
change_of ws word =
    if slice_index ws.kept word == slice_index ws.cached word
    then None
    else Some (record { word = word; old = slice_index ws.kept word; new = slice_index ws.cached word })

-- what a compare-and-swap answers
abbrev pub swap_of : Words → ℕ → ℕ → Swap
swap_of ws word old =
    if slice_index ws.cached word == old then Done else Found (slice_index ws.cached word)

-- what a fence answers
abbrev pub fence_result : Request → Words → Result (Option Change) Refusal
fence_result Nothing ws = Ok None
fence_result (Word word) ws = Ok (change_of ws word)
fence_result (Elsewhere word) ws = Err NoWord

-- the same change, of the word of this number
abbrev pub change_at : ℕ → Option Change → Option Change
change_at word None = None
change_at word (Some change) = Some (record { word = word; old = change.old; new = change.new })

-- the same change, of the word as it is numbered from a word on
abbrev pub change_from : ℕ → Option Change → Option Change
change_from from None = None
change_from from (Some change) = Some (record { word = change.word - from; old = change.old; new = change.new })

-- the words that the lists have different values of, ascending, each with its value in the first list
abbrev pub differences : List ℕ → List ℕ → List (ℕ × ℕ)
differences xs ys = filter (λ (word : ℕ × ℕ). not (word.1 == slice_index ys word.0)) (enumerate_from 0 xs)

-- each entry is of a word of the memory, and its value is not the kept one
pub record IsExact (kept : List ℕ) (entries : Entries) : Type 0 where
  pub within : (word value : ℕ) → get entries word ≡ Some value → word < length kept
  pub other : (word value : ℕ) → get entries word ≡ Some value → value ≢ slice_index kept word

-- what holds of the words of a memory at every moment
pub record IsSound (kept : List ℕ) (listing : Listing) : Type 0 where
  pub some : 0 < length kept
  pub few : length kept ≤ MAX_WORDS
  pub exact : IsExact kept listing.entries
  pub ascending : IsAscending listing.entries
  pub room : length kept ≤ listing.room

-- each request is for a word of the memory
pub record AreAskedWithin (size : ℕ) (asked : List (Option ℕ)) : Type 0 where
  pub within : (port word : ℕ) → slice_index_or asked port None ≡ Some word → word < size

-- what holds of the parts of a memory at every moment
pub record IsWhole (kept : List ℕ) (listing : Listing) (asked : List (Option ℕ)) : Type 0 where
  pub words : IsSound kept listing
  pub ports : length asked ≡ PORTS
  pub requests : AreAskedWithin (length kept) asked
