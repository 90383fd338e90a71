-- Entries of words and values in ascending order of the words: how a memory lists what its cache changed.
use Rattle.std.specs.Prelude.{◌≡◌, ◌≢◌, ℕ, suc, ◌<◌, ◌≤◌, List, [], ◌∷◌, length, slice_index_or, if◌then◌else◌, ◌==◌, Option, Some, None}

-- a word, then its value
abbrev pub Entries : Type 0
Entries = List (ℕ × ℕ)

-- the entries, and for how many there is room
pub record Listing : Type 0 where
  pub entries : Entries
  pub room : ℕ

-- the value of the first entry of the word
abbrev pub get : Entries → ℕ → Option ℕ
get [] word = None
get ((w, v) ∷ rest) word = if w == word then Some v else get rest word

-- a listed value, else the kept one
abbrev pub or_kept : Option ℕ → ℕ → ℕ
or_kept (Some v) x = v
or_kept None x = x

-- the values of the words from `at` on, of which xs are kept, with the entries laid over
abbrev pub overlay : ℕ → List ℕ → Entries → List ℕ
overlay at [] entries = []
overlay at (x ∷ xs) entries = or_kept (get entries at) x ∷ overlay (suc at) xs entries

-- the cached values: the listed ones, and else the kept ones
abbrev pub overlaid : List ℕ → Entries → List ℕ
overlaid kept entries = overlay 0 kept entries

-- the word of the entry at place i
abbrev pub word_at : Entries → ℕ → ℕ
word_at entries i = let entry = slice_index_or entries i (0, 0) in entry.0

-- and its value
abbrev pub value_of : Entries → ℕ → ℕ
value_of entries i = let entry = slice_index_or entries i (0, 0) in entry.1

-- the words ascend, so none comes twice
abbrev pub IsAscending : Entries → Type 0
IsAscending entries = (i j : ℕ) → i < j → j < length entries → word_at entries i < word_at entries j

-- the entry at place i is the word's
pub record IsEntryOf (entries : Entries) (word i : ℕ) : Type 0 where
  pub in_range : i < length entries
  pub has_word : word_at entries i ≡ word

-- the word's entry would go to place i: lower words before it, and higher ones from it on
pub record IsGapFor (entries : Entries) (word i : ℕ) : Type 0 where
  pub in_range : i ≤ length entries
  pub lower_before : (j : ℕ) → j < i → word_at entries j < word
  pub higher_after : (j : ℕ) → i ≤ j → j < length entries → word < word_at entries j

-- new has the value at the word, and at every other word what old has
pub record SetsOnly (old new : Entries) (word value : ℕ) : Type 0 where
  pub this_word : get new word ≡ Some value
  pub other_words : (w : ℕ) → w ≢ word → get new w ≡ get old w

-- new has no such word, and at every other word what old has
pub record RemovesOnly (old new : Entries) (word : ℕ) : Type 0 where
  pub this_word : get new word ≡ None
  pub other_words : (w : ℕ) → w ≢ word → get new w ≡ get old w
