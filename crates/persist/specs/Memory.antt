-- The memory model: words with a cached and a kept value, ports through which flushes are asked for, and what becomes
-- of both.
use Rattle.std.specs.Prelude.{◌≡◌, ℕ, ◌+◌, ◌-◌, Bool, ◌&&◌, min, nat_le, nat_lt, List, [], ◌++◌, length, Option, Some, None, take, drop, replicate, slice_index, slice_index_or, slice_set, if◌then◌else◌, ◌==◌, ◌<◌, ◌≤◌, ◌⊎◌}

-- two values for each word, and how many accesses there were
pub record Words : Type 0 where
  pub cached : List ℕ
  pub kept : List ℕ
  pub accesses : ℕ

-- a memory: its words, and for each port the word whose flush was asked for through it, if one was
pub record MemoryState : Type 0 where
  pub words : Words
  pub asked : List (Option ℕ)

-- a port's request, as words that are lent through it show it: for nothing, for one of these words, or for a word of
-- the memory that is none of them
pub data Request : Type 0 where
  Nothing : Request
  Word : (word : ℕ) → Request
  Elsewhere : (word : ℕ) → Request

-- what lies around words that are lent: the name of the memory that lends them, and through which port; from which word
-- on and how many, where they are a part of it; the memory's words before and after them, and the other ports' requests
pub record Around : Type 0 where
  pub lender : ℕ
  pub port : ℕ
  pub from : ℕ
  pub len : ℕ
  pub cached_before : List ℕ
  pub cached_after : List ℕ
  pub kept_before : List ℕ
  pub kept_after : List ℕ
  pub others : List (Option ℕ)

-- how words are lent: their port's request, and what lies around, which no access changes
pub record Lent : Type 0 where
  pub request : Request
  pub around : Around

-- an access to a word, by whatever names a word
pub data Access (A : Type 0) : Type 0 where
  Load : (word : A) → Access A
  Store : (word : A) (value : ℕ) → Access A
  Cas : (word : A) (old new : ℕ) → Access A
  Flush : (word : A) → Access A
  -- it completes the request of this word
  Fence : (word : A) → Access A

-- one access more; the count stays at its greatest value
abbrev pub words_after_access : Words → Words
words_after_access ws = record ws { accesses = min (ws.accesses + 1) 18446744073709551615 }

-- a store changes the cached value
abbrev pub words_after_store : ℕ → ℕ → Words → Words
words_after_store word value ws = record ws { cached = slice_set ws.cached word value }

-- an eviction makes the kept value of the word its cached one
abbrev pub words_after_eviction : ℕ → Words → Words
words_after_eviction word ws = record ws { kept = slice_set ws.kept word (slice_index ws.cached word) }

-- what an access to a word below the size leaves
abbrev pub after : Access ℕ → Words → Words
after (Load word) ws = words_after_access ws
after (Store word value) ws = words_after_access (words_after_store word value ws)
after (Cas word old new) ws =
    words_after_access (if slice_index ws.cached word == old then words_after_store word new ws else ws)
after (Flush word) ws = words_after_access ws
after (Fence word) ws = words_after_access (words_after_eviction word ws)

-- the port's request becomes this one
abbrev pub asking : Request → Lent → Lent
asking request lent = record lent { request = request }

-- a flush asks, in place of an earlier request, and a fence clears
abbrev pub lent_after : Access ℕ → Lent → Lent
lent_after (Load word) lent = lent
lent_after (Store word value) lent = lent
lent_after (Cas word old new) lent = lent
lent_after (Flush word) lent = asking (Word word) lent
lent_after (Fence word) lent = asking Nothing lent

-- a fence completes the request, whatever the word has cached by now; without one it is an access that changes nothing.
-- A request for a word that is not lent stays, and then the fence is no access
abbrev pub after_fence : Request → Words → Words
after_fence Nothing ws = words_after_access ws
after_fence (Word word) ws = after (Fence word) ws
after_fence (Elsewhere word) ws = ws

abbrev pub request_after_fence : Request → Request
request_after_fence Nothing = Nothing
request_after_fence (Word word) = Nothing
request_after_fence (Elsewhere word) = Elsewhere word

-- a crash makes every cached value the kept one
abbrev pub words_after_crash : Words → Words
words_after_crash ws = record ws { cached = ws.kept }

-- n words, all zero
abbrev pub zero_words : ℕ → Words
zero_words n = record { cached = replicate n 0; kept = replicate n 0; accesses = 0 }

-- words whose cached values are these kept ones, never accessed
abbrev pub words_at_rest : List ℕ → Words
words_at_rest kept = record { cached = kept; kept = kept; accesses = 0 }

-- the words with others over them, from this one on
abbrev pub overwritten : ℕ → List ℕ → List ℕ → List ℕ
overwritten from words ws = take from ws ++ (words ++ drop (from + length words) ws)

-- the words of a part, numbered from 0
abbrev pub words_in : ℕ → ℕ → Words → Words
words_in from len ws = record {
  cached = take len (drop from ws.cached);
  kept = take len (drop from ws.kept);
  accesses = ws.accesses;
}

-- what was asked for through a port
abbrev pub asked_through : MemoryState → ℕ → Option ℕ
asked_through m port = slice_index_or m.asked port None

-- nothing is asked for: so it is of a new memory, and after a crash
pub record IsUnasked (m : MemoryState) : Type 0 where
  pub none : (port : ℕ) → asked_through m port ≡ None

-- a request as the whole memory shows it, and as a part does
abbrev pub seen_whole : Option ℕ → Request
seen_whole None = Nothing
seen_whole (Some word) = Word word

abbrev pub is_within : ℕ → ℕ → ℕ → Bool
is_within from len word = nat_le from word && nat_lt word (from + len)

abbrev pub seen_in : ℕ → ℕ → Option ℕ → Request
seen_in from len None = Nothing
seen_in from len (Some word) = if is_within from len word then Word (word - from) else Elsewhere word

-- how the whole memory of this name is lent through a port
abbrev pub lent_whole : ℕ → ℕ → MemoryState → Lent
lent_whole lender port m = record {
  request = seen_whole (asked_through m port);
  around = record {
    lender = lender;
    port = port;
    from = 0;
    len = 0;
    cached_before = [];
    cached_after = [];
    kept_before = [];
    kept_after = [];
    others = slice_set m.asked port None;
  };
}

-- how a part of it is
abbrev pub lent_part : ℕ → ℕ → ℕ → ℕ → MemoryState → Lent
lent_part lender port from len m = record {
  request = seen_in from len (asked_through m port);
  around = record {
    lender = lender;
    port = port;
    from = from;
    len = len;
    cached_before = take from m.words.cached;
    cached_after = drop (from + len) m.words.cached;
    kept_before = take from m.words.kept;
    kept_after = drop (from + len) m.words.kept;
    others = slice_set m.asked port None;
  };
}

-- there is a word of this number, or none
abbrev pub HasWord : Words → ℕ → Type 0
HasWord ws word = word < length ws.cached

abbrev pub LacksWord : Words → ℕ → Type 0
LacksWord ws word = length ws.cached ≤ word

-- no part of the words: it is empty, or not inside
abbrev pub IsNoPart : ℕ → ℕ → Words → Type 0
IsNoPart from len ws = (len ≡ 0) ⊎ (length ws.cached < from + len)

-- the words outside a part are as they were
pub record IsSameOutside (from len : ℕ) (old new : Words) : Type 0 where
  pub cached_before : take from new.cached ≡ take from old.cached
  pub cached_after : drop (from + len) new.cached ≡ drop (from + len) old.cached
  pub kept_before : take from new.kept ≡ take from old.kept
  pub kept_after : drop (from + len) new.kept ≡ drop (from + len) old.kept
