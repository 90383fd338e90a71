-- What is read is a journal.
use Rattle.std.proofs.Common.{◌≡◌, ℕ, zero, suc, ◌+◌, ◌*◌, ◌^◌, ◌<◌, ◌≤◌, inl, inr, true, false, List, [], ◌∷◌, ◌++◌, length, get_or, map, take, drop, arith, refl, sym, ap, ◌∙◌, subst}
use Rattle.std.specs.Prelude.{All, nat_lt}
use Rattle.std.specs.Int.{w32, w64, from_le_bytes, to_le_bytes}
use Rattle.std.specs.List.{flat_map, list_all}
use Rattle.std.specs.Simd.{first_chunks}
use Rattle.std.proofs.lemmas.Bool.{and_parts, cases_Bool, cases_lt, ltb-true}
use Rattle.std.proofs.lemmas.List.{append_assoc, drop-take, get_or_past, length-drop, length-map, length-take-le, take_all, take-append-drop, take-take}
use Rattle.std.proofs.lemmas.List.Concat.{flat_map-cons}
use Rattle.std.proofs.lemmas.List.Elements.{All-cons, All-drop, All-get_or, All-head, All-nil, All-tail, All-take}
use Rattle.std.proofs.lemmas.Nat.{le_bytes_4, le_bytes_8}
use Rattle.std.proofs.lemmas.Slice.Eq.{bytes_eq-Decides}
use Rattle.persist.specs.Image.{AreBytes}
use Rattle.persist.specs.declared.access.Change.{Change}
use Rattle.journal.specs.Sum.{sum_of}
use Rattle.journal.specs.Frame.{Batch, IsBatchIn, IsChangeIn, change_bytes, frame_of, frame_size, frame_sum, frames_of, front_of, last_sum}
use Rattle.persist.specs.Noted.{applied}
use Rattle.journal.specs.Journal.{words_after}
use Rattle.journal.specs.Reading.{Replay, are_within, before_in, behind, changes_in, count_in, front_in, goes_on, kept_in, replay, replayed, sum_in, value_in, values_set, word_in}
use Rattle.journal.proofs.Frames.{GoesOn, behind_shorter, goes_on_parts, goes_on_short}
use Rattle.journal.proofs.FramesRead.{length-applied}
use Rattle.journal.proofs.Replays.{steps, stops}

-- ---- parts of a list

pub take_more_of : (n m : ℕ) (xs : List ℕ) → take n xs ++ take m (drop n xs) ≡ take (n + m) xs
take_more_of n m xs =
    ap (λ (back : List ℕ). take n xs ++ back) (sym (drop-take n m xs))
    ∙ ap (λ (front : List ℕ). front ++ drop n (take (n + m) xs)) (sym (take-take n (n + m) xs (omega arith)))
    ∙ take-append-drop n (take (n + m) xs)

take_all_of : (n : ℕ) (xs : List ℕ) → length xs ≡ n → take n xs ≡ xs
take_all_of n xs long = take_all n xs (omega (arith, long))

-- a byte, or the 0 past the end
pub byte_at : (bytes : List ℕ) → AreBytes bytes → (i : ℕ) → get_or bytes i 0 < 256
byte_at bytes are i =
    elim (cases_lt i (length bytes)) [
      | inl inside ↦ All-get_or (λ byte. byte < 256) bytes i 0 inside are
      | inr past ↦ rw (get_or_past bytes i 0 past) (omega arith)
    ]

-- numbers in eight bytes, and in four
pub eight_written : (bytes : List ℕ) → AreBytes bytes → 8 ≤ length bytes → to_le_bytes w64 (from_le_bytes w64 (take 8 bytes)) ≡ take 8 bytes
eight_written bytes are long =
    le_bytes_8 (take 8 bytes) _ (length-take-le 8 bytes long) (byte_at (take 8 bytes) (All-take (λ byte. byte < 256) 8 bytes are)) refl

four_written : (bytes : List ℕ) → AreBytes bytes → 4 ≤ length bytes → to_le_bytes w32 (from_le_bytes w32 (take 4 bytes)) ≡ take 4 bytes
four_written bytes are long =
    le_bytes_4 (take 4 bytes) _ (length-take-le 4 bytes long) (byte_at (take 4 bytes) (All-take (λ byte. byte < 256) 4 bytes are)) refl

pub eight_fits : (bytes : List ℕ) → AreBytes bytes → from_le_bytes w64 bytes < 2 ^ 64
eight_fits bytes are =
    let at = byte_at bytes are in
    omega (arith, at 0, at 1, at 2, at 3, at 4, at 5, at 6, at 7)

pub length-chunks : (k count : ℕ) (xs : List ℕ) → length (first_chunks k count xs) ≡ count
length-chunks k zero xs = refl
length-chunks k (suc count) xs = ap suc (length-chunks k count (drop k xs))

-- chunks that are read and written again are the bytes that they were cut from
pub chunks_written : {X : Type 0} (k : ℕ) (write : X → List ℕ) (read : List ℕ → X) (each : (chunk : List ℕ) → AreBytes chunk → length chunk ≡ k → write (read chunk) ≡ chunk) (count : ℕ) (xs : List ℕ) → AreBytes xs → k * count ≤ length xs
    → flat_map write (map read (first_chunks k count xs)) ≡ take (k * count) xs
chunks_written k write read each zero xs are long =
    let none : 0 ≡ k * 0 = omega arith in
    ap (λ (n : ℕ). take n xs) none
chunks_written k write read each (suc count) xs are long =
    let size : k * suc count ≡ k + k * count = omega arith in
    let here : k ≤ length xs = omega (arith, size, long) in
    flat_map-cons write (read (take k xs)) (map read (first_chunks k count (drop k xs)))
    ∙ ap (λ (front : List ℕ). front ++ flat_map write (map read (first_chunks k count (drop k xs)))) (each (take k xs) (All-take (λ byte. byte < 256) k xs are) (length-take-le k xs here))
    ∙ ap (λ (back : List ℕ). take k xs ++ back) (chunks_written k write read each count (drop k xs) (All-drop (λ byte. byte < 256) k xs are) (omega (arith, length-drop k xs, size, long)))
    ∙ take_more_of k (k * count) xs
    ∙ ap (λ (n : ℕ). take n xs) (sym size)

-- what holds of each chunk that is read
pub chunks_all : {X : Type 0} (k : ℕ) (P : X → Type 0) (read : List ℕ → X) (each : (chunk : List ℕ) → AreBytes chunk → P (read chunk)) (count : ℕ) (xs : List ℕ) → AreBytes xs → All P (map read (first_chunks k count xs))
chunks_all k P read each zero xs are = All-nil P
chunks_all k P read each (suc count) xs are =
    All-cons P (read (take k xs)) (map read (first_chunks k count (drop k xs)))
    (each (take k xs) (All-take (λ byte. byte < 256) k xs are)) (chunks_all k P read each count (drop k xs) (All-drop (λ byte. byte < 256) k xs are))

-- ---- a frame

-- the change in twelve bytes
change_in : List ℕ → Change
change_in chunk = record { word = word_in chunk; old = 0; new = value_in chunk }

change_written : (chunk : List ℕ) → AreBytes chunk → length chunk ≡ 12 → change_bytes (change_in chunk) ≡ chunk
unfolding change_in word_in value_in
change_written chunk are long =
    let rest : length (drop 4 chunk) ≡ 8 = omega (arith, length-drop 4 chunk, long) in
    ap (λ (front : List ℕ). front ++ to_le_bytes w64 (from_le_bytes w64 (take 8 (drop 4 chunk)))) (four_written chunk are (omega (arith, long)))
    ∙ ap (λ (back : List ℕ). take 4 chunk ++ back) (eight_written (drop 4 chunk) (All-drop (λ byte. byte < 256) 4 chunk are) (omega (arith, rest)))
    ∙ take_more_of 4 8 chunk
    ∙ take_all_of 12 chunk long

value_fits : (chunk : List ℕ) → AreBytes chunk → value_in chunk < 2 ^ 64
unfolding value_in
value_fits chunk are = eight_fits (take 8 (drop 4 chunk)) (All-take (λ byte. byte < 256) 8 (drop 4 chunk) (All-drop (λ byte. byte < 256) 4 chunk are))

-- the batch of the frame that bytes begin with
batch_in : List ℕ → Batch
batch_in bytes = record { kept = kept_in bytes; changes = map change_in (changes_in bytes) }

kept_written : (bytes : List ℕ) → AreBytes bytes → 16 ≤ length bytes → to_le_bytes w64 (kept_in bytes) ≡ take 8 (drop 8 bytes)
unfolding kept_in
kept_written bytes are long = eight_written (drop 8 bytes) (All-drop (λ byte. byte < 256) 8 bytes are) (omega (arith, length-drop 8 bytes, long))

count_written : (bytes : List ℕ) → AreBytes bytes → 20 ≤ length bytes → to_le_bytes w32 (count_in bytes) ≡ take 4 (drop 16 bytes)
unfolding count_in
count_written bytes are long = four_written (drop 16 bytes) (All-drop (λ byte. byte < 256) 16 bytes are) (omega (arith, length-drop 16 bytes, long))

length-batch : (bytes : List ℕ) → length (map change_in (changes_in bytes)) ≡ count_in bytes
length-batch bytes = length-map (changes_in bytes) change_in ∙ length-chunks 12 (count_in bytes) (drop 20 bytes)

front_written : (before bytes : List ℕ) → AreBytes bytes → take 8 bytes ≡ before → 28 + 12 * count_in bytes ≤ length bytes → front_of before (batch_in bytes) ≡ front_in bytes
unfolding batch_in
front_written before bytes are follows long =
    let changes : flat_map change_bytes (map change_in (changes_in bytes)) ≡ take (12 * count_in bytes) (drop 20 bytes) =
    chunks_written 12 change_bytes change_in change_written (count_in bytes) (drop 20 bytes) (All-drop (λ byte. byte < 256) 20 bytes are) (omega (arith, length-drop 20 bytes, long)) in
    ap (λ (b : List ℕ). b ++ to_le_bytes w64 (kept_in bytes) ++ to_le_bytes w32 (length (map change_in (changes_in bytes))) ++ flat_map change_bytes (map change_in (changes_in bytes))) (sym follows)
    ∙ ap (λ (k : List ℕ). take 8 bytes ++ k ++ to_le_bytes w32 (length (map change_in (changes_in bytes))) ++ flat_map change_bytes (map change_in (changes_in bytes))) (kept_written bytes are (omega (arith, long)))
    ∙ ap (λ (n : ℕ). take 8 bytes ++ take 8 (drop 8 bytes) ++ to_le_bytes w32 n ++ flat_map change_bytes (map change_in (changes_in bytes))) (length-batch bytes)
    ∙ ap (λ (c : List ℕ). take 8 bytes ++ take 8 (drop 8 bytes) ++ c ++ flat_map change_bytes (map change_in (changes_in bytes))) (count_written bytes are (omega (arith, long)))
    ∙ ap (λ (m : List ℕ). take 8 bytes ++ take 8 (drop 8 bytes) ++ take 4 (drop 16 bytes) ++ m) changes
    ∙ ap (λ (front : List ℕ). front ++ take 4 (drop 16 bytes) ++ take (12 * count_in bytes) (drop 20 bytes)) (take_more_of 8 8 bytes)
    ∙ ap (λ (front : List ℕ). front ++ take (12 * count_in bytes) (drop 20 bytes)) (take_more_of 16 4 bytes)
    ∙ take_more_of 20 (12 * count_in bytes) bytes

within_all : (size : ℕ) (changes : List (List ℕ)) → are_within size changes ≡ true → All (λ change. value_in change < 2 ^ 64) changes → All (IsChangeIn size) (map change_in changes)
unfolding change_in are_within
within_all size [] within values = All-nil (IsChangeIn size)
within_all size (change ∷ changes) within values =
    let parts = and_parts (nat_lt (word_in change) size) (list_all (λ c. nat_lt (word_in c) size) changes) within in
    All-cons (IsChangeIn size) (change_in change) (map change_in changes)
    (record { word = ltb-true (word_in change) size parts.0; value = All-head (λ c. value_in c < 2 ^ 64) change changes values })
    (within_all size changes parts.1 (All-tail (λ c. value_in c < 2 ^ 64) change changes values))

values_are_applied : (changes : List (List ℕ)) (words : List ℕ) → values_set words changes ≡ applied (map change_in changes) words
unfolding change_in
values_are_applied [] words = refl
values_are_applied (change ∷ changes) words = values_are_applied changes (applied (change_in change ∷ []) words)

chunk_values : (count : ℕ) (xs : List ℕ) → AreBytes xs → All (λ change. value_in change < 2 ^ 64) (first_chunks 12 count xs)
chunk_values zero xs are = All-nil (λ change. value_in change < 2 ^ 64)
chunk_values (suc count) xs are =
    All-cons (λ change. value_in change < 2 ^ 64) (take 12 xs) (first_chunks 12 count (drop 12 xs))
    (value_fits (take 12 xs) (All-take (λ byte. byte < 256) 12 xs are)) (chunk_values count (drop 12 xs) (All-drop (λ byte. byte < 256) 12 xs are))

-- what a whole frame that a journal goes on with is
record IsWritten (key before : List ℕ) (size : ℕ) (bytes : List ℕ) : Type 0 where
  batch : Batch
  is_in : IsBatchIn size batch
  sum : frame_sum key before batch ≡ sum_in bytes
  text : frame_of key before batch ++ behind bytes ≡ bytes
  made : (words : List ℕ) → values_set words (changes_in bytes) ≡ applied batch.changes words

frame_is_written : (key before : List ℕ) (size : ℕ) (bytes : List ℕ) → AreBytes bytes → goes_on key before size bytes ≡ true → IsWritten key before size bytes
unfolding batch_in
frame_is_written key before size bytes are on =
    let parts : GoesOn key before size bytes = goes_on_parts key before size bytes on in
    let whole = parts.whole in
    let some : 0 < count_in bytes = whole.some in
    let few = whole.few in
    let long : 28 + 12 * count_in bytes ≤ length bytes = omega (arith, whole.long) in
    let follows : take 8 bytes ≡ before = (bytes_eq-Decides (before_in bytes) before).0 parts.follows in
    let summed : sum_in bytes ≡ sum_of key (front_in bytes) = (bytes_eq-Decides (sum_in bytes) (sum_of key (front_in bytes))).0 whole.summed in
    let front : front_of before (batch_in bytes) ≡ front_in bytes = front_written before bytes are follows long in
    let sum : frame_sum key before (batch_in bytes) ≡ sum_in bytes = ap (sum_of key) front ∙ sym summed in
    record {
      batch = batch_in bytes;
      is_in = record {
        some = omega (arith, length-batch bytes, some);
        few = omega (arith, length-batch bytes, few);
        within = within_all size (changes_in bytes) parts.within (chunk_values (count_in bytes) (drop 20 bytes) (All-drop (λ byte. byte < 256) 20 bytes are));
      };
      sum = sum;
      text =
          ap (λ (xs : List ℕ). xs ++ frame_sum key before (batch_in bytes) ++ behind bytes) front
          ∙ ap (λ (xs : List ℕ). front_in bytes ++ xs ++ behind bytes) sum
          ∙ ap (λ (xs : List ℕ). xs ++ behind bytes) (take_more_of (20 + 12 * count_in bytes) 8 bytes)
          ∙ take-append-drop (20 + 12 * count_in bytes + 8) bytes;
      made = values_are_applied (changes_in bytes);
    }

-- ---- frames

-- what is left of the bytes, and how it came of frames
pub record IsReplayOf (key before words bytes : List ℕ) (replay : Replay) : Type 0 where
  pub batches : List Batch
  pub each : All (IsBatchIn (length words)) batches
  pub text : frames_of key before batches ++ replay.tail ≡ bytes
  pub made : replay.words ≡ words_after batches words
  pub torn : goes_on key (last_sum key before batches) (length words) replay.tail ≡ false

rests_of : (key before words bytes : List ℕ) → goes_on key before (length words) bytes ≡ false → IsReplayOf key before words bytes (record { words = words; tail = bytes })
rests_of key before words bytes off = record { batches = []; each = All-nil (IsBatchIn (length words)); text = refl; made = refl; torn = off }

-- with one frame in front
one_more : (key before words bytes : List ℕ) (first : IsWritten key before (length words) bytes) (r : Replay) → IsReplayOf key (sum_in bytes) (values_set words (changes_in bytes)) (behind bytes) r → IsReplayOf key before words bytes r
one_more key before words bytes first r others =
    let made : values_set words (changes_in bytes) ≡ applied first.batch.changes words = first.made words in
    let same : length (values_set words (changes_in bytes)) ≡ length words = ap (λ (ws : List ℕ). length ws) made ∙ length-applied first.batch.changes words in
    record {
      batches = first.batch ∷ others.batches;
      each = All-cons (IsBatchIn (length words)) first.batch others.batches first.is_in (subst (λ (n : ℕ). All (IsBatchIn n) others.batches) same others.each);
      text =
          ap (λ (s : List ℕ). frame_of key before first.batch ++ frames_of key s others.batches ++ r.tail) first.sum
          ∙ append_assoc (frame_of key before first.batch) (frames_of key (sum_in bytes) others.batches) r.tail
          ∙ ap (λ (xs : List ℕ). frame_of key before first.batch ++ xs) others.text
          ∙ first.text;
      made = others.made ∙ ap (words_after others.batches) made;
      torn =
          ap (λ (s : List ℕ). goes_on key (last_sum key s others.batches) (length words) r.tail) first.sum
          ∙ ap (λ (n : ℕ). goes_on key (last_sum key (sum_in bytes) others.batches) n r.tail) (sym same)
          ∙ others.torn;
    }

replayed_of : (n : ℕ) (key before words bytes : List ℕ) → AreBytes bytes → length bytes ≤ n → IsReplayOf key before words bytes (replayed n key before words bytes)
replayed_of zero key before words bytes are most =
    let off : goes_on key before (length words) bytes ≡ false = goes_on_short key before (length words) bytes (omega arith) in
    subst (IsReplayOf key before words bytes) (sym (stops zero key before words bytes off)) (rests_of key before words bytes off)
replayed_of (suc n) key before words bytes are most =
    elim (cases_Bool (goes_on key before (length words) bytes)) [
      | inl on ↦
          let first : IsWritten key before (length words) bytes = frame_is_written key before (length words) bytes are on in
          let shorter : length (behind bytes) < length bytes = behind_shorter key before (length words) bytes on in
          let others : IsReplayOf key (sum_in bytes) (values_set words (changes_in bytes)) (behind bytes) (replayed n key (sum_in bytes) (values_set words (changes_in bytes)) (behind bytes)) =
          replayed_of n key (sum_in bytes) (values_set words (changes_in bytes)) (behind bytes) (All-drop (λ byte. byte < 256) (frame_size (count_in bytes)) bytes are) (omega arith) in
          subst (IsReplayOf key before words bytes) (sym (steps n key before words bytes on)) (one_more key before words bytes first (replayed n key (sum_in bytes) (values_set words (changes_in bytes)) (behind bytes)) others)
      | inr off ↦ subst (IsReplayOf key before words bytes) (sym (stops (suc n) key before words bytes off)) (rests_of key before words bytes off)
    ]

pub replay_is_of : (key before words bytes : List ℕ) → AreBytes bytes → IsReplayOf key before words bytes (replay key before words bytes)
replay_is_of key before words bytes are = replayed_of (length bytes) key before words bytes are (omega arith)
