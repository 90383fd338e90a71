-- What `get` finds in a list of entries, and what an edit of the list does to it.
use Rattle.std.proofs.Common.{◌≡◌, ℕ, zero, suc, ◌<◌, eqb, ◌≢◌, [], ◌∷◌, length, get_or, set, if◌then◌else◌, Some, None, refl, arith}
use Rattle.std.specs.List.{insert, remove}
use Rattle.std.proofs.lemmas.Bool.Decides.{nat_tests}
use Rattle.persist.specs.ChangeList.{Entries, get, word_at, IsEntryOf}

-- no entry before place i has the word
abbrev pub NoWordBefore : Entries → ℕ → ℕ → Type 0
NoWordBefore l k i = (j : ℕ) → j < i → word_at l j ≢ k

-- `get` on new answers v at the word k, and as on old at any other
abbrev pub GetsAfterSet : Entries → Entries → ℕ → ℕ → Type 0
GetsAfterSet old new k v = (q : ℕ) → get new q ≡ (if eqb k q then Some v else get old q)

-- no entry of the tail has the word either
no_word_before_tail : (x : ℕ × ℕ) (l : Entries) (k i : ℕ) → NoWordBefore (x ∷ l) k (suc i) → NoWordBefore l k i
no_word_before_tail x l k i no_word j lt = no_word (suc j) (omega arith)

-- in the tail, an entry is one place lower
is_at_tail : (x : ℕ × ℕ) (l : Entries) (k i : ℕ) → IsEntryOf (x ∷ l) k (suc i) → IsEntryOf l k i
is_at_tail x l k i is_at = record { in_range = omega (arith, is_at.in_range); has_word = is_at.has_word }

-- a word that no entry has is not found
pub get_absent : (l : Entries) (k : ℕ) → NoWordBefore l k (length l) → get l k ≡ None
get_absent [] k no_word = refl
get_absent (x ∷ l) k no_word = grind (arith, nat_tests, no_word 0 (omega arith), get_absent l k (no_word_before_tail x l k _ no_word))

-- the first entry that has the word gives the value
pub get_present : (l : Entries) (k i : ℕ) → IsEntryOf l k i → NoWordBefore l k i → get l k ≡ Some (get_or l i (0, 0)).1
get_present [] k i is_at no_word = absurd (omega (arith, is_at.in_range))
get_present (x ∷ l) k zero is_at no_word = grind (arith, nat_tests, is_at.has_word)
get_present (x ∷ l) k (suc i) is_at no_word = grind (arith, nat_tests, no_word 0 (omega arith), get_present l k i (is_at_tail x l k i is_at) (no_word_before_tail x l k i no_word))

-- writing over the first entry that has the word sets its value
pub get_set : (l : Entries) (k v i : ℕ) → IsEntryOf l k i → NoWordBefore l k i → GetsAfterSet l (set l i (k, v)) k v
get_set [] k v i is_at no_word q = absurd (omega (arith, is_at.in_range))
get_set (x ∷ l) k v zero is_at no_word q = grind (arith, nat_tests, is_at.has_word)
get_set (x ∷ l) k v (suc i) is_at no_word q = grind (arith, nat_tests, no_word 0 (omega arith), get_set l k v i (is_at_tail x l k i is_at) (no_word_before_tail x l k i no_word) q)

-- so does a new entry before any that has the word
pub get-insert : (l : Entries) (k v i : ℕ) → NoWordBefore l k i → GetsAfterSet l (insert l i (k, v)) k v
get-insert l k v zero no_word q = refl
get-insert [] k v (suc i) no_word q = refl
get-insert (x ∷ l) k v (suc i) no_word q = grind (arith, nat_tests, no_word 0 (omega arith), get-insert l k v i (no_word_before_tail x l k i no_word) q)

-- without the word's entry, every other word has what it had
pub get-remove : (l : Entries) (k i : ℕ) → IsEntryOf l k i → (q : ℕ) → q ≢ k → get (remove l i) q ≡ get l q
get-remove [] k i is_at q ne = absurd (omega (arith, is_at.in_range))
get-remove (x ∷ l) k zero is_at q ne = grind (arith, nat_tests, is_at.has_word, ne)
get-remove (x ∷ l) k (suc i) is_at q ne = grind (arith, nat_tests, get-remove l k i (is_at_tail x l k i is_at) q ne)
