-- What a search finds among ascending entries, and what an edit at that place does.
use Rattle.std.proofs.Common.{◌≡◌, ℕ, zero, suc, ◌+◌, ◌-◌, ◌<◌, ◌≤◌, length, get_or, set, Some, None, Result, Ok, Err, IfOk, IfErr, refl, sym, ap, subst, arith}
use Rattle.std.specs.List.{insert, remove}
use Rattle.std.specs.List.Sorted.{IsSearchInRange, IsBinarySearchResult, IsNonDecreasingBy}
use Rattle.std.specs.Ordering.{nat_cmp, ordering_index}
use Rattle.std.proofs.lemmas.Cmp.{ranked}
use Rattle.std.proofs.lemmas.List.Sorted.{IsNonDecreasingBy-from_default}
use Rattle.std.proofs.lemmas.List.Edits.{length-remove, get_or-remove_below, get_or-remove_above, length-insert, get_or-insert_below, get_or-insert_at, get_or-insert_above}
use Rattle.std.proofs.lemmas.Bool.Decides.{nat_tests}
use Rattle.std.proofs.lemmas.Grind.{common_steps}
use Rattle.persist.specs.ChangeList.{Entries, get, word_at, IsAscending, IsEntryOf, IsGapFor, SetsOnly, RemovesOnly}
use Rattle.persist.proofs.Entries.{NoWordBefore, GetsAfterSet, get_absent, get_present, get_set, get-insert, get-remove}

-- one equation for every word gives the contract's two facts
sets_only_from_gets : (old new : Entries) (k v : ℕ) → GetsAfterSet old new k v → SetsOnly old new k v
sets_only_from_gets old new k v gets = record { this_word = grind (arith, nat_tests, gets k); other_words = λ q differs. grind (arith, nat_tests, gets q) }

module _ (l : Entries) (up : IsAscending l) (k : ℕ) where
  -- the comparisons with k rise along the list, as a binary search asks
  comparisons_rise : IsNonDecreasingBy (λ entry. ordering_index (nat_cmp entry.0 k)) l
  comparisons_rise = IsNonDecreasingBy-from_default (λ entry. ordering_index (nat_cmp entry.0 k)) l (0, 0) (λ i j le in_range.
      let words_rise : word_at l i ≤ word_at l j = grind (arith, up i j, λ (same : i ≡ j). ap (word_at l) same) in
      grind (arith, nat_tests))

  -- a binary search ends at the word's entry, or at the gap for it
  pub searched : (r : Result ℕ ℕ) → IsSearchInRange r (length l) → IsBinarySearchResult (λ entry. nat_cmp entry.0 k) l r → record { found : IfOk r (IsEntryOf l k); absent : IfErr r (IsGapFor l k) }
  searched (Ok at) in_range equal = record { found = record { in_range = in_range; has_word = ranked _ k _ (sym (equal (0, 0))) }; absent = tt }
  searched (Err at) in_range parted = record {
    found = tt;
    absent = record {
      in_range = in_range;
      lower_before = λ j lt. ranked _ k _ (sym ((parted comparisons_rise).0 j (0, 0) (omega arith) lt));
      higher_after = λ j le lt. ranked _ k _ (sym ((parted comparisons_rise).1 j (0, 0) le lt));
    };
  }

-- each of the entries before a place has a lower word of its own
pub place_is_below_word : (l : Entries) → IsAscending l → (i : ℕ) → i < length l → i ≤ word_at l i
place_is_below_word l up zero h = omega arith
place_is_below_word l up (suc i) h = omega (arith, place_is_below_word l up i (omega (arith, h)), up i (suc i) (omega arith) h)

module _ (l : Entries) (up : IsAscending l) (k at : ℕ) (is_at : IsEntryOf l k at) where
  -- the words before the place are lower, so none is k
  no_word_before_at : NoWordBefore l k at
  no_word_before_at j lt same = omega (arith, up j at lt is_at.in_range, is_at.has_word)

  -- the word is found at its place
  pub get_at : get l k ≡ Some (get_or l at (0, 0)).1
  get_at = get_present l k at is_at no_word_before_at

  -- writing over its entry changes that word alone
  pub sets_only_set : (v : ℕ) → SetsOnly l (set l at (k, v)) k v
  sets_only_set v = sets_only_from_gets _ _ k v (get_set l k v at is_at no_word_before_at)

  -- and keeps the order, since every word stays
  pub ascending_set : (v : ℕ) → IsAscending (set l at (k, v))
  ascending_set v i j lt in_range = grind (arith, common_steps, up i j, up i at, up at j, is_at.in_range, is_at.has_word)

module _ (l : Entries) (k at : ℕ) (gap : IsGapFor l k at) where
  -- a word that has a gap is not found
  pub get_in_gap : get l k ≡ None
  get_in_gap = get_absent l k (λ j lt same. grind (arith, gap.lower_before j, gap.higher_after j))

  -- a new entry in the gap changes that word alone
  pub sets_only_insert : (v : ℕ) → SetsOnly l (insert l at (k, v)) k v
  sets_only_insert v = sets_only_from_gets _ _ k v (get-insert l k v at (λ j lt same. omega (arith, gap.lower_before j lt)))

  -- it keeps the order: each word of the new list is an old one below the gap, k at it, or an old one moved up by one
  pub ascending_insert : (v : ℕ) → IsAscending l → IsAscending (insert l at (k, v))
  ascending_insert v up i j lt in_range =
      let new = insert l at (k, v) in
      let word = λ (x : ℕ × ℕ). x.0 in
      let length_new = length-insert l at (k, v) gap.in_range in
      let word_below : (i : ℕ) → i < at → word_at new i ≡ word_at l i = λ i below. ap word (get_or-insert_below l at (k, v) (0, 0) i below gap.in_range) in
      let word_here : (i : ℕ) → i ≡ at → word_at new i ≡ k = λ i here. rw here (ap word (get_or-insert_at l at (k, v) (0, 0) gap.in_range)) in
      let word_above : (i : ℕ) → at < i → word_at new i ≡ word_at l (i - 1) = λ i above. subst (λ q. word_at new q ≡ word_at l (i - 1)) {x = i - 1 + 1} (omega arith) (ap word (get_or-insert_above l at (k, v) (0, 0) (i - 1) (omega arith) gap.in_range)) in
      grind (arith, word_below i, word_here i, word_above i, word_below j, word_here j, word_above j, up i j, up i (j - 1), up (i - 1) (j - 1), gap.lower_before i, gap.higher_after (j - 1))

module _ (l : Entries) (up : IsAscending l) (k at : ℕ) (is_at : IsEntryOf l k at) where
  -- a list without the entry has no such word
  absent_after : NoWordBefore (remove l at) k (length (remove l at))
  absent_after j lt same =
      let shorter = length-remove l at is_at.in_range in
      let below : j < at → word_at (remove l at) j ≡ word_at l j = λ h. ap (λ (x : ℕ × ℕ). x.0) (get_or-remove_below l at (0, 0) j h is_at.in_range) in
      let above : at ≤ j → word_at (remove l at) j ≡ word_at l (j + 1) = λ h. ap (λ (x : ℕ × ℕ). x.0) (get_or-remove_above l at (0, 0) j h is_at.in_range) in
      grind (arith, shorter, below, above, up j at, up at (j + 1), is_at.has_word, is_at.in_range)

  pub removes_only : RemovesOnly l (remove l at) k
  removes_only = record { this_word = get_absent (remove l at) k absent_after; other_words = λ q ne. get-remove l k at is_at q ne }

  -- the order stays
  pub ascending_remove : IsAscending (remove l at)
  ascending_remove i j lt in_range =
      let shorter = length-remove l at is_at.in_range in
      let word = λ (x : ℕ × ℕ). x.0 in
      let below : (q : ℕ) → q < at → word_at (remove l at) q ≡ word_at l q = λ q h. ap word (get_or-remove_below l at (0, 0) q h is_at.in_range) in
      let above : (q : ℕ) → at ≤ q → word_at (remove l at) q ≡ word_at l (q + 1) = λ q h. ap word (get_or-remove_above l at (0, 0) q h is_at.in_range) in
      grind (arith, shorter, below i, above i, below j, above j, up i j, up i (j + 1), up (i + 1) (j + 1), is_at.in_range)

-- a word that has a gap is not there to be removed
pub removes_nothing : (l : Entries) (k at : ℕ) → IsGapFor l k at → RemovesOnly l l k
removes_nothing l k at gap = record { this_word = get_in_gap l k at gap; other_words = λ q ne. refl }
