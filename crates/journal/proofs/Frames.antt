-- When bytes begin with a whole frame.
use Rattle.std.proofs.Common.{◌≡◌, ℕ, ◌+◌, ◌*◌, ◌<◌, ◌≤◌, Bool, true, false, List, [], ◌∷◌, length, take, drop, arith, ap, sym, ◌∙◌}
use Rattle.std.specs.Prelude.{All, nat_lt}
use Rattle.std.specs.List.{list_all}
use Rattle.std.specs.Str.{bytes_eq}
use Rattle.std.proofs.lemmas.Bool.{and_left, and_right, and_from, and_parts, lt-ltb, le-ltb, le-leb, lt-leb, ltb-true, leb-true}
use Rattle.std.proofs.lemmas.List.{length-drop, drop-drop}
use Rattle.std.proofs.lemmas.List.Elements.{All-nil, All-cons}
use Rattle.journal.specs.declared.format.TheConstants.{MAX_CHANGES}
use Rattle.journal.specs.Sum.{sum_of}
use Rattle.journal.specs.Frame.{frame_size}
use Rattle.journal.specs.Reading.{count_in, kept_in, sum_in, front_in, before_in, changes_in, word_in, behind, is_whole, are_within, goes_on, knows_kept}

-- ---- one of the tests fails

pub whole_of_none : (key bytes : List ℕ) → count_in bytes ≡ 0 → is_whole key bytes ≡ false
unfolding is_whole
whole_of_none key bytes none = and_left _ _ (and_left _ _ (and_left _ _ (le-ltb 0 (count_in bytes) (omega arith))))

pub whole_of_many : (key bytes : List ℕ) → MAX_CHANGES < count_in bytes → is_whole key bytes ≡ false
unfolding is_whole
whole_of_many key bytes many = and_left _ _ (and_left _ _ (and_right _ _ (lt-leb (count_in bytes) MAX_CHANGES many)))

pub whole_of_short : (key bytes : List ℕ) → length bytes < frame_size (count_in bytes) → is_whole key bytes ≡ false
unfolding is_whole
whole_of_short key bytes short = and_left _ _ (and_right _ _ (lt-leb (frame_size (count_in bytes)) (length bytes) short))

pub whole_of_another : (key bytes : List ℕ) → bytes_eq (sum_in bytes) (sum_of key (front_in bytes)) ≡ false → is_whole key bytes ≡ false
unfolding is_whole
whole_of_another key bytes another = and_right _ _ another

-- ---- none fails

-- what a whole frame has
pub record IsWhole (key bytes : List ℕ) : Type 0 where
  pub some : 0 < count_in bytes
  pub few : count_in bytes ≤ MAX_CHANGES
  pub long : frame_size (count_in bytes) ≤ length bytes
  pub summed : bytes_eq (sum_in bytes) (sum_of key (front_in bytes)) ≡ true

pub whole_from : (key bytes : List ℕ) → IsWhole key bytes → is_whole key bytes ≡ true
unfolding is_whole
whole_from key bytes parts =
    and_from _ _
    (and_from _ _ (and_from _ _ (lt-ltb 0 (count_in bytes) parts.some) (le-leb (count_in bytes) MAX_CHANGES parts.few)) (le-leb (frame_size (count_in bytes)) (length bytes) parts.long))
    parts.summed

pub whole_parts : (key bytes : List ℕ) → is_whole key bytes ≡ true → IsWhole key bytes
unfolding is_whole
whole_parts key bytes whole =
    let last = and_parts _ _ whole in
    let third = and_parts _ _ last.0 in
    let second = and_parts _ _ third.0 in
    record {
      some = ltb-true 0 (count_in bytes) second.0;
      few = leb-true (count_in bytes) MAX_CHANGES second.1;
      long = leb-true (frame_size (count_in bytes)) (length bytes) third.1;
      summed = last.1;
    }

-- ---- what was split off from the bytes

-- behind the front
pub tail_is : (bytes rest tail : List ℕ) (size : ℕ) → rest ≡ drop 20 bytes → tail ≡ drop size rest → tail ≡ drop (20 + size) bytes
tail_is bytes rest tail size first second = second ∙ ap (drop size) first ∙ drop-drop size 20 bytes

pub rest_long : (bytes rest : List ℕ) → 20 ≤ length bytes → rest ≡ drop 20 bytes → length rest + 20 ≡ length bytes
rest_long bytes rest long first = omega (arith, long, ap (λ (xs : List ℕ). length xs) first, length-drop 20 bytes)

pub sum_is : (bytes tail sum : List ℕ) (count : ℕ) → count ≡ count_in bytes → tail ≡ drop (20 + 12 * count) bytes → sum ≡ take 8 tail → sum ≡ sum_in bytes
sum_is bytes tail sum count counted there split = split ∙ ap (take 8) there ∙ ap (λ (n : ℕ). take 8 (drop (20 + 12 * n) bytes)) counted

pub rest_is : (bytes tail rest : List ℕ) (count : ℕ) → count ≡ count_in bytes → tail ≡ drop (20 + 12 * count) bytes → rest ≡ drop 8 tail → rest ≡ behind bytes
rest_is bytes tail rest count counted there split =
    split
    ∙ ap (drop 8) there
    ∙ drop-drop 8 (20 + 12 * count) bytes
    ∙ ap (λ (n : ℕ). drop (20 + 12 * n + 8) bytes) counted

pub sum_compared : (key bytes sum check : List ℕ) (count : ℕ) (same : Bool) → count ≡ count_in bytes → sum ≡ sum_in bytes → check ≡ sum_of key (take (20 + 12 * count) bytes) → same ≡ bytes_eq sum check → bytes_eq (sum_in bytes) (sum_of key (front_in bytes)) ≡ same
sum_compared key bytes sum check count same counted there checked compared =
    ap (λ (found : List ℕ). bytes_eq found (sum_of key (front_in bytes))) (sym there)
    ∙ ap (bytes_eq sum) (ap (λ (n : ℕ). sum_of key (take (20 + 12 * n) bytes)) (sym counted) ∙ sym checked)
    ∙ sym compared

-- ---- a journal goes on

pub goes_on_from : (key before : List ℕ) (size : ℕ) (bytes : List ℕ) → is_whole key bytes ≡ true → bytes_eq (before_in bytes) before ≡ true → are_within size (changes_in bytes) ≡ true → goes_on key before size bytes ≡ true
unfolding goes_on
goes_on_from key before size bytes whole follows within = and_from _ _ (and_from _ _ whole follows) within

pub goes_on_not_whole : (key before : List ℕ) (size : ℕ) (bytes : List ℕ) → is_whole key bytes ≡ false → goes_on key before size bytes ≡ false
unfolding goes_on
goes_on_not_whole key before size bytes not_whole = and_left _ _ (and_left _ _ not_whole)

pub goes_on_elsewhere : (key before : List ℕ) (size : ℕ) (bytes : List ℕ) → bytes_eq (before_in bytes) before ≡ false → goes_on key before size bytes ≡ false
unfolding goes_on
goes_on_elsewhere key before size bytes elsewhere = and_left _ _ (and_right _ _ elsewhere)

pub goes_on_outside : (key before : List ℕ) (size : ℕ) (bytes : List ℕ) → are_within size (changes_in bytes) ≡ false → goes_on key before size bytes ≡ false
unfolding goes_on
goes_on_outside key before size bytes outside = and_right _ _ outside

-- with a whole frame, of its words
pub record GoesOn (key before : List ℕ) (size : ℕ) (bytes : List ℕ) : Type 0 where
  pub whole : IsWhole key bytes
  pub follows : bytes_eq (before_in bytes) before ≡ true
  pub within : are_within size (changes_in bytes) ≡ true

pub goes_on_parts : (key before : List ℕ) (size : ℕ) (bytes : List ℕ) → goes_on key before size bytes ≡ true → GoesOn key before size bytes
unfolding goes_on
goes_on_parts key before size bytes on =
    let outer = and_parts _ _ on in
    let inner = and_parts _ _ outer.0 in
    record { whole = whole_parts key bytes inner.0; follows = inner.1; within = outer.1 }

-- what is behind a frame is shorter
pub behind_shorter : (key before : List ℕ) (size : ℕ) (bytes : List ℕ) → goes_on key before size bytes ≡ true → length (behind bytes) < length bytes
behind_shorter key before size bytes on =
    let parts = goes_on_parts key before size bytes on in
    let long : frame_size (count_in bytes) ≤ length bytes = parts.whole.long in
    omega (arith, length-drop (frame_size (count_in bytes)) bytes)

-- too few bytes for any frame
pub goes_on_short : (key before : List ℕ) (size : ℕ) (bytes : List ℕ) → length bytes < 28 → goes_on key before size bytes ≡ false
goes_on_short key before size bytes short = goes_on_not_whole key before size bytes (whole_of_short key bytes (omega arith))

-- ---- frames that tell what was kept

pub knows_not_above : (key : List ℕ) (place at : ℕ) (bytes : List ℕ) → kept_in bytes ≤ place → knows_kept key place at bytes ≡ false
unfolding knows_kept
knows_not_above key place at bytes low = and_left _ _ (and_left _ _ (le-ltb place (kept_in bytes) low))

pub knows_not_before : (key : List ℕ) (place at : ℕ) (bytes : List ℕ) → at < kept_in bytes → knows_kept key place at bytes ≡ false
unfolding knows_kept
knows_not_before key place at bytes high = and_left _ _ (and_right _ _ (lt-leb (kept_in bytes) at high))

pub knows_not_whole : (key : List ℕ) (place at : ℕ) (bytes : List ℕ) → is_whole key bytes ≡ false → knows_kept key place at bytes ≡ false
unfolding knows_kept
knows_not_whole key place at bytes not_whole = and_right _ _ not_whole

-- where the place lies between, it is as the frame is
pub knows_whole : (key : List ℕ) (place at : ℕ) (bytes : List ℕ) (whole : Bool) → place < kept_in bytes → kept_in bytes ≤ at → whole ≡ is_whole key bytes → whole ≡ knows_kept key place at bytes
unfolding knows_kept
knows_whole key place at bytes true above before is = sym (and_from _ _ (and_from _ _ (lt-ltb place (kept_in bytes) above) (le-leb (kept_in bytes) at before)) (sym is))
knows_whole key place at bytes false above before is = sym (and_right _ _ (sym is))

-- ---- what the tests of a next frame say

pub before_compared : (found before bytes : List ℕ) (same : Bool) → found ≡ before_in bytes → same ≡ bytes_eq found before → bytes_eq (before_in bytes) before ≡ same
before_compared found before bytes same there compared = ap (λ (xs : List ℕ). bytes_eq xs before) (sym there) ∙ sym compared

pub within_each : (size : ℕ) (changes : List (List ℕ)) → are_within size changes ≡ true → All (λ change. word_in change < size) changes
unfolding are_within
within_each size [] within = All-nil (λ change. word_in change < size)
within_each size (change ∷ changes) within =
    let parts = and_parts (nat_lt (word_in change) size) (list_all (λ c. nat_lt (word_in c) size) changes) within in
    All-cons (λ change. word_in change < size) change changes (ltb-true (word_in change) size parts.0) (within_each size changes parts.1)
