-- Written frames are read again.
use Rattle.std.proofs.Common.{◌≡◌, ℕ, ◌+◌, ◌*◌, ◌^◌, ◌<◌, ◌≤◌, true, false, List, [], ◌∷◌, ◌++◌, length, map, take, drop, arith, refl, sym, ap, ◌∙◌, subst}
use Rattle.std.specs.Prelude.{All, nat_lt}
use Rattle.std.specs.Int.{w32, w64, from_le_bytes, to_le_bytes}
use Rattle.std.specs.List.{flat_map, list_all}
use Rattle.std.specs.Simd.{first_chunks}
use Rattle.std.specs.Str.{bytes_eq}
use Rattle.std.proofs.lemmas.Bool.{and_from, lt-ltb}
use Rattle.std.proofs.lemmas.List.{append_assoc, drop_at, drop-drop, length-append, length-set, take_at}
use Rattle.std.proofs.lemmas.List.Concat.{flat_map-cons}
use Rattle.std.proofs.lemmas.List.Elements.{All-head, All-tail}
use Rattle.std.proofs.lemmas.Nat.{from_le_bytes-to_le_bytes_4, from_le_bytes-to_le_bytes_8}
use Rattle.std.proofs.lemmas.Slice.Eq.{bytes_eq-Decides}
use Rattle.persist.specs.declared.access.Change.{Change}
use Rattle.persist.specs.declared.memory.TheConstants.{MAX_WORDS}
use Rattle.journal.specs.declared.format.TheConstants.{MAX_CHANGES}
use Rattle.journal.specs.Sum.{sum_of}
use Rattle.journal.specs.Frame.{Batch, IsBatchIn, IsChangeIn, change_bytes, frame_sum, frames_of, front_of, last_sum}
use Rattle.persist.specs.Noted.{applied}
use Rattle.journal.specs.Journal.{words_after}
use Rattle.journal.specs.Reading.{are_within, before_in, behind, changes_in, count_in, front_in, goes_on, replay, sum_in, value_in, values_set, word_in}
use Rattle.journal.proofs.Chunks.{chunks_again}
use Rattle.journal.proofs.Frames.{goes_on_from, whole_from}
use Rattle.journal.proofs.Replays.{replay_ends, replay_stepped}

-- ---- the parts of a frame, in whatever bytes

-- four texts, and what follows them
abbrev pub parts : List ℕ → List ℕ → List ℕ → List ℕ → List ℕ
parts before kept count changes = before ++ kept ++ count ++ changes

nested : (before kept count changes rest : List ℕ) → parts before kept count changes ++ rest ≡ before ++ (kept ++ (count ++ (changes ++ rest)))
nested before kept count changes rest =
    append_assoc (before ++ kept ++ count) changes rest
    ∙ append_assoc (before ++ kept) count (changes ++ rest)
    ∙ append_assoc before kept (count ++ (changes ++ rest))

drop_8 : (before kept count changes rest : List ℕ) → length before ≡ 8 → drop 8 (parts before kept count changes ++ rest) ≡ kept ++ (count ++ (changes ++ rest))
drop_8 before kept count changes rest b =
    ap (drop 8) (nested before kept count changes rest) ∙ drop_at before (kept ++ (count ++ (changes ++ rest))) 8 b

drop_16 : (before kept count changes rest : List ℕ) → length before ≡ 8 → length kept ≡ 8 → drop 16 (parts before kept count changes ++ rest) ≡ count ++ (changes ++ rest)
drop_16 before kept count changes rest b k =
    sym (drop-drop 8 8 (parts before kept count changes ++ rest))
    ∙ ap (drop 8) (drop_8 before kept count changes rest b)
    ∙ drop_at kept (count ++ (changes ++ rest)) 8 k

drop_20 : (before kept count changes rest : List ℕ) → length before ≡ 8 → length kept ≡ 8 → length count ≡ 4 → drop 20 (parts before kept count changes ++ rest) ≡ changes ++ rest
drop_20 before kept count changes rest b k c =
    sym (drop-drop 4 16 (parts before kept count changes ++ rest))
    ∙ ap (drop 4) (drop_16 before kept count changes rest b k)
    ∙ drop_at count (changes ++ rest) 4 c

pub length_parts : (before kept count changes : List ℕ) → length before ≡ 8 → length kept ≡ 8 → length count ≡ 4 → length (parts before kept count changes) ≡ 20 + length changes
length_parts before kept count changes b k c =
    omega (arith, b, k, c, length-append (before ++ kept ++ count) changes, length-append (before ++ kept) count, length-append before kept)

-- ---- the changes of a frame

pub length-change_bytes : (change : Change) → length (change_bytes change) ≡ 12
length-change_bytes change = refl

length-flat : (changes : List Change) → length (flat_map change_bytes changes) ≡ 12 * length changes
length-flat [] = refl
length-flat (change ∷ changes) =
    ap (λ (xs : List ℕ). length xs) (flat_map-cons change_bytes change changes)
    ∙ omega (arith, length-append (change_bytes change) (flat_map change_bytes changes), length-change_bytes change, length-flat changes)

word_again : (change : Change) → change.word < 2 ^ 32 → word_in (change_bytes change) ≡ change.word
unfolding word_in
word_again change fits = from_le_bytes-to_le_bytes_4 change.word fits

value_again : (change : Change) → change.new < 2 ^ 64 → value_in (change_bytes change) ≡ change.new
unfolding value_in
value_again change fits = from_le_bytes-to_le_bytes_8 change.new fits

within_again : (size : ℕ) (changes : List Change) → size ≤ MAX_WORDS → All (IsChangeIn size) changes → are_within size (map change_bytes changes) ≡ true
unfolding are_within
within_again size [] few all = refl
within_again size (change ∷ changes) few all =
    let is = All-head (IsChangeIn size) change changes all in
    let low : change.word < size = is.word in
    let fits : change.word < 2 ^ 32 = omega (arith, low, few) in
    let again : word_in (change_bytes change) ≡ change.word = word_again change fits in
    and_from (nat_lt (word_in (change_bytes change)) size) (list_all (λ c. nat_lt (word_in c) size) (map change_bytes changes))
    (lt-ltb (word_in (change_bytes change)) size (omega (arith, again, low)))
    (within_again size changes few (All-tail (IsChangeIn size) change changes all))

pub length-applied : (changes : List Change) (words : List ℕ) → length (applied changes words) ≡ length words
length-applied [] words = refl
length-applied (change ∷ changes) words =
    length-applied changes (applied (change ∷ []) words) ∙ length-set words change.word change.new

applied_again : (size : ℕ) (changes : List Change) (words : List ℕ) → size ≤ MAX_WORDS → All (IsChangeIn size) changes → values_set words (map change_bytes changes) ≡ applied changes words
applied_again size [] words few all = refl
applied_again size (change ∷ changes) words few all =
    let is = All-head (IsChangeIn size) change changes all in
    let low : change.word < size = is.word in
    let fits : change.word < 2 ^ 32 = omega (arith, low, few) in
    ap (λ (word : ℕ). values_set (applied (record { word = word; old = 0; new = value_in (change_bytes change) } ∷ []) words) (map change_bytes changes)) (word_again change fits)
    ∙ ap (λ (value : ℕ). values_set (applied (record { word = change.word; old = 0; new = value } ∷ []) words) (map change_bytes changes)) (value_again change is.value)
    ∙ applied_again size changes (applied (change ∷ []) words) few (All-tail (IsChangeIn size) change changes all)

-- ---- a frame, and whatever follows

pub length-sum_of : (key bytes : List ℕ) → length (sum_of key bytes) ≡ 8
unfolding sum_of
length-sum_of key bytes = refl

pub length-front_of : (before : List ℕ) (batch : Batch) → length before ≡ 8 → length (front_of before batch) ≡ 20 + 12 * length batch.changes
length-front_of before batch b =
    length_parts before (to_le_bytes w64 batch.kept) (to_le_bytes w32 (length batch.changes)) (flat_map change_bytes batch.changes) b refl refl
    ∙ ap (λ (n : ℕ). 20 + n) (length-flat batch.changes)

-- the bytes begin with the frame of a batch
pub record HasFrame (key before : List ℕ) (batch : Batch) (rest bytes : List ℕ) : Type 0 where
  pub counted : count_in bytes ≡ length batch.changes
  pub follows : before_in bytes ≡ before
  pub changes : changes_in bytes ≡ map change_bytes batch.changes
  pub front : front_in bytes ≡ front_of before batch
  pub sum : sum_in bytes ≡ frame_sum key before batch
  pub left : behind bytes ≡ rest

pub count_again : (before : List ℕ) (batch : Batch) (rest : List ℕ) → length before ≡ 8 → length batch.changes ≤ MAX_CHANGES → count_in (front_of before batch ++ rest) ≡ length batch.changes
unfolding count_in
count_again before batch rest b few =
    let kept = to_le_bytes w64 batch.kept in
    let count = to_le_bytes w32 (length batch.changes) in
    let changes = flat_map change_bytes batch.changes in
    ap (λ (xs : List ℕ). from_le_bytes w32 (take 4 xs)) (drop_16 before (to_le_bytes w64 batch.kept) (to_le_bytes w32 (length batch.changes)) (flat_map change_bytes batch.changes) rest b refl)
    ∙ ap (from_le_bytes w32) (take_at (to_le_bytes w32 (length batch.changes)) (flat_map change_bytes batch.changes ++ rest) 4 refl)
    ∙ from_le_bytes-to_le_bytes_4 (length batch.changes) (omega (arith, few))

has_frame : (key before : List ℕ) (batch : Batch) (rest : List ℕ) → length before ≡ 8 → length batch.changes ≤ MAX_CHANGES → HasFrame key before batch rest (front_of before batch ++ (frame_sum key before batch ++ rest))
has_frame key before batch rest b few =
    let kept = to_le_bytes w64 batch.kept in
    let count = to_le_bytes w32 (length batch.changes) in
    let changes = flat_map change_bytes batch.changes in
    let front = front_of before batch in
    let sum = frame_sum key before batch in
    let counted = count_again before batch (frame_sum key before batch ++ rest) b few in
    let size : length (front_of before batch) ≡ 20 + 12 * length batch.changes = length-front_of before batch b in
    let eight : length (frame_sum key before batch) ≡ 8 = length-sum_of key (front_of before batch) in
    let at_sum : drop (20 + 12 * length batch.changes) (front_of before batch ++ (frame_sum key before batch ++ rest)) ≡ frame_sum key before batch ++ rest = drop_at (front_of before batch) (frame_sum key before batch ++ rest) (20 + 12 * length batch.changes) size in
    record {
      counted = counted;
      follows =
          ap (take 8) (nested before (to_le_bytes w64 batch.kept) (to_le_bytes w32 (length batch.changes)) (flat_map change_bytes batch.changes) (frame_sum key before batch ++ rest))
          ∙ take_at before (to_le_bytes w64 batch.kept ++ (to_le_bytes w32 (length batch.changes) ++ (flat_map change_bytes batch.changes ++ (frame_sum key before batch ++ rest)))) 8 b;
      changes =
          ap (λ (n : ℕ). first_chunks 12 n (drop 20 (front_of before batch ++ (frame_sum key before batch ++ rest)))) counted
          ∙ ap (first_chunks 12 (length batch.changes)) (drop_20 before (to_le_bytes w64 batch.kept) (to_le_bytes w32 (length batch.changes)) (flat_map change_bytes batch.changes) (frame_sum key before batch ++ rest) b refl refl)
          ∙ chunks_again 12 change_bytes length-change_bytes batch.changes (frame_sum key before batch ++ rest);
      front =
          ap (λ (n : ℕ). take (20 + 12 * n) (front_of before batch ++ (frame_sum key before batch ++ rest))) counted
          ∙ take_at (front_of before batch) (frame_sum key before batch ++ rest) (20 + 12 * length batch.changes) size;
      sum =
          ap (λ (n : ℕ). take 8 (drop (20 + 12 * n) (front_of before batch ++ (frame_sum key before batch ++ rest)))) counted
          ∙ ap (take 8) at_sum
          ∙ take_at (frame_sum key before batch) rest 8 eight;
      left =
          ap (λ (n : ℕ). drop (20 + 12 * n + 8) (front_of before batch ++ (frame_sum key before batch ++ rest))) counted
          ∙ sym (drop-drop 8 (20 + 12 * length batch.changes) (front_of before batch ++ (frame_sum key before batch ++ rest)))
          ∙ ap (drop 8) at_sum
          ∙ drop_at (frame_sum key before batch) rest 8 eight;
    }

pub bytes_same : (xs ys : List ℕ) → xs ≡ ys → bytes_eq xs ys ≡ true
bytes_same xs ys same = (bytes_eq-Decides xs ys).1 same

-- a journal goes on with it
frame_goes_on : (key before : List ℕ) (size : ℕ) (batch : Batch) (rest bytes : List ℕ) → size ≤ MAX_WORDS → IsBatchIn size batch → length before ≡ 8 → bytes ≡ front_of before batch ++ (frame_sum key before batch ++ rest) → HasFrame key before batch rest bytes → goes_on key before size bytes ≡ true
frame_goes_on key before size batch rest bytes small is b text has =
    let long : length bytes ≡ length (front_of before batch) + (length (frame_sum key before batch) + length rest) =
    ap (λ (xs : List ℕ). length xs) text ∙ omega (arith, length-append (front_of before batch) (frame_sum key before batch ++ rest), length-append (frame_sum key before batch) rest) in
    let some : 0 < length batch.changes = is.some in
    let few : length batch.changes ≤ MAX_CHANGES = is.few in
    goes_on_from key before size bytes
    (whole_from key bytes (record {
      some = omega (arith, has.counted, some);
      few = omega (arith, has.counted, few);
      long = omega (arith, has.counted, long, length-front_of before batch b, length-sum_of key (front_of before batch));
      summed = bytes_same (sum_in bytes) (sum_of key (front_in bytes)) (has.sum ∙ ap (sum_of key) (sym has.front));
    }))
    (bytes_same (before_in bytes) before has.follows)
    (ap (are_within size) has.changes ∙ within_again size batch.changes small is.within)

-- ---- frames

-- so the words are those after all batches, and what follows is left
pub frames_replayed : (key before words : List ℕ) (batches : List Batch) (tail : List ℕ) → length before ≡ 8 → length words ≤ MAX_WORDS → All (IsBatchIn (length words)) batches → goes_on key (last_sum key before batches) (length words) tail ≡ false
    → replay key before words (frames_of key before batches ++ tail) ≡ record { words = words_after batches words; tail = tail }
frames_replayed key before words [] tail b small all not_on = replay_ends key before words tail not_on
frames_replayed key before words (batch ∷ batches) tail b small all not_on =
    let sum = frame_sum key before batch in
    let frames = frames_of key (frame_sum key before batch) batches in
    let is = All-head (IsBatchIn (length words)) batch batches all in
    let rest : List ℕ = frames_of key (frame_sum key before batch) batches ++ tail in
    let bytes : List ℕ = front_of before batch ++ (frame_sum key before batch ++ (frames_of key (frame_sum key before batch) batches ++ tail)) in
    let has = has_frame key before batch (frames_of key (frame_sum key before batch) batches ++ tail) b is.few in
    let text : frames_of key before (batch ∷ batches) ++ tail ≡ bytes =
    append_assoc (front_of before batch ++ frame_sum key before batch) (frames_of key (frame_sum key before batch) batches) tail
    ∙ append_assoc (front_of before batch) (frame_sum key before batch) (frames_of key (frame_sum key before batch) batches ++ tail) in
    let after : List ℕ = applied batch.changes words in
    let same : length (applied batch.changes words) ≡ length words = length-applied batch.changes words in
    ap (replay key before words) text
    ∙ sym (replay_stepped key before words bytes (frame_sum key before batch) (applied batch.changes words) rest
    (frame_goes_on key before (length words) batch rest bytes small is b refl has)
    (sym (ap (values_set words) has.changes ∙ applied_again (length words) batch.changes words small is.within))
    (sym has.sum) (sym has.left))
    ∙ frames_replayed key (frame_sum key before batch) (applied batch.changes words) batches tail
    (length-sum_of key (front_of before batch))
    (omega (arith, same, small))
    (subst (λ (n : ℕ). All (IsBatchIn n) batches) (sym same) (All-tail (IsBatchIn (length words)) batch batches all))
    (ap (λ (n : ℕ). goes_on key (last_sum key (frame_sum key before batch) batches) n tail) same ∙ not_on)
