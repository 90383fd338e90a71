-- A head that is read is one that was written.
use Rattle.std.proofs.Common.{◌≡◌, ℕ, ◌+◌, ◌*◌, ◌^◌, ◌<◌, ◌≤◌, true, List, ◌++◌, length, map, take, drop, arith, refl, sym, ap, ◌∙◌, subst}
use Rattle.std.specs.Int.{w64, from_le_bytes, to_le_bytes}
use Rattle.std.specs.List.{flat_map}
use Rattle.std.specs.Simd.{first_chunks}
use Rattle.std.proofs.lemmas.List.{append_assoc, drop-drop, length-drop, length-map, length-take-le, take_all, take-append-drop}
use Rattle.std.proofs.lemmas.List.Elements.{All-drop}
use Rattle.std.proofs.lemmas.Nat.{le_bytes_8}
use Rattle.std.proofs.lemmas.Slice.Eq.{bytes_eq-Decides}
use Rattle.persist.specs.Image.{AreBytes, AreWords}
use Rattle.persist.specs.declared.memory.TheConstants.{MAX_WORDS}
use Rattle.journal.specs.Sum.{sum_of}
use Rattle.journal.specs.Journal.{head_front, head_sum}
use Rattle.journal.specs.Reading.{Head, begins_as_journal, first_bytes, head_in, head_size, key_at, sum_at, words_count}
use Rattle.journal.proofs.FramesWritten.{byte_at, chunks_all, chunks_written, eight_fits, eight_written, length-chunks, take_more_of}
use Rattle.journal.proofs.Heads.{HasCount, HasHead}
use Rattle.journal.proofs.HeadsRead.{with_rest}

chunk_written : (chunk : List ℕ) → AreBytes chunk → length chunk ≡ 8 → to_le_bytes w64 (from_le_bytes w64 chunk) ≡ chunk
chunk_written chunk are long = le_bytes_8 chunk _ long (byte_at chunk are) refl

-- the numbers of so many chunks
abbrev numbers : ℕ → List ℕ → List ℕ
numbers count xs = map (from_le_bytes w64) (first_chunks 8 count xs)

length-numbers : (count : ℕ) (xs : List ℕ) → length (numbers count xs) ≡ count
length-numbers count xs = length-map (first_chunks 8 count xs) (from_le_bytes w64) ∙ length-chunks 8 count xs

-- the bytes of a head, with its words as they were read
pub record IsHeadOf (bytes : List ℕ) (h : Head) : Type 0 where
  pub long : length h.key ≡ 8
  pub words : AreWords h.words
  pub sum : h.sum ≡ head_sum h.key h.words
  pub text : with_rest h.key h.words h.rest ≡ bytes
  pub rest : AreBytes h.rest

first_eight : (bytes : List ℕ) → begins_as_journal bytes ≡ true → 16 ≤ length bytes → first_bytes ≡ take 8 bytes
first_eight bytes right long =
    sym ((bytes_eq-Decides (take 8 bytes) (take (length bytes) first_bytes)).0 right ∙ take_all (length bytes) first_bytes (omega (arith, long)))

sum_place : (n : ℕ) → 16 + 8 * n + 8 ≡ sum_at n
sum_place n = omega arith

front_is : (bytes : List ℕ) (n : ℕ) → AreBytes bytes → HasCount bytes → words_count bytes ≡ n → head_size n ≤ length bytes
    → head_front (take 8 (drop (key_at n) bytes)) (numbers n (drop 12 (drop 4 bytes))) ≡ take (sum_at n) bytes
front_is bytes n are has counted long =
    let size : 32 + 8 * n ≤ length bytes = omega (arith, long) in
    let behind : drop 12 (drop 4 bytes) ≡ drop 16 bytes = drop-drop 12 4 bytes in
    let place : key_at n ≡ 16 + 8 * n = omega arith in
    let first : first_bytes ≡ take 8 bytes = first_eight bytes has.right has.long in
    let eight : from_le_bytes w64 (take 8 (drop 8 bytes)) ≡ n = ap (λ (xs : List ℕ). from_le_bytes w64 (take 8 xs)) (sym (drop-drop 4 4 bytes)) ∙ counted in
    let count : to_le_bytes w64 (length (numbers n (drop 12 (drop 4 bytes)))) ≡ take 8 (drop 8 bytes) =
    ap (to_le_bytes w64) (length-numbers n (drop 12 (drop 4 bytes)) ∙ sym eight)
    ∙ eight_written (drop 8 bytes) (All-drop (λ byte. byte < 256) 8 bytes are) (omega (arith, length-drop 8 bytes, size)) in
    let text : flat_map (to_le_bytes w64) (numbers n (drop 12 (drop 4 bytes))) ≡ take (8 * n) (drop 16 bytes) =
    ap (λ (xs : List ℕ). flat_map (to_le_bytes w64) (numbers n xs)) behind
    ∙ chunks_written 8 (to_le_bytes w64) (from_le_bytes w64) chunk_written n (drop 16 bytes) (All-drop (λ byte. byte < 256) 16 bytes are) (omega (arith, length-drop 16 bytes, size)) in
    ap (λ (xs : List ℕ). first_bytes ++ xs ++ flat_map (to_le_bytes w64) (numbers n (drop 12 (drop 4 bytes))) ++ take 8 (drop (key_at n) bytes)) count
    ∙ ap (λ (xs : List ℕ). xs ++ take 8 (drop 8 bytes) ++ flat_map (to_le_bytes w64) (numbers n (drop 12 (drop 4 bytes))) ++ take 8 (drop (key_at n) bytes)) first
    ∙ ap (λ (xs : List ℕ). take 8 bytes ++ take 8 (drop 8 bytes) ++ xs ++ take 8 (drop (key_at n) bytes)) text
    ∙ ap (λ (xs : List ℕ). xs ++ take (8 * n) (drop 16 bytes) ++ take 8 (drop (key_at n) bytes)) (take_more_of 8 8 bytes)
    ∙ ap (λ (xs : List ℕ). xs ++ take 8 (drop (key_at n) bytes)) (take_more_of 16 (8 * n) bytes)
    ∙ ap (λ (m : ℕ). take (16 + 8 * n) bytes ++ take 8 (drop m bytes)) place
    ∙ take_more_of (16 + 8 * n) 8 bytes
    ∙ ap (λ (m : ℕ). take m bytes) (sum_place n)

-- of the head that is found in so many words' bytes
head_in_is : (bytes : List ℕ) (n : ℕ) → AreBytes bytes → HasCount bytes → words_count bytes ≡ n → head_size n ≤ length bytes
    → take 8 (drop (sum_at n) bytes) ≡ sum_of (take 8 (drop (key_at n) bytes)) (take (sum_at n) bytes) → IsHeadOf bytes (head_in n bytes)
head_in_is bytes n are has counted long summed =
    let front = front_is bytes n are has counted long in
    let some : 0 < words_count bytes = has.some in
    let few : words_count bytes ≤ MAX_WORDS = has.few in
    let same = length-numbers n (drop 12 (drop 4 bytes)) in
    let sum : take 8 (drop (sum_at n) bytes) ≡ head_sum (take 8 (drop (key_at n) bytes)) (numbers n (drop 12 (drop 4 bytes))) =
    summed ∙ ap (sum_of (take 8 (drop (key_at n) bytes))) (sym front) in
    record {
      long = length-take-le 8 (drop (key_at n) bytes) (omega (arith, length-drop (key_at n) bytes, long));
      words = record {
        some = omega (arith, same, counted, some);
        few = omega (arith, same, counted, few);
        fit = chunks_all 8 (λ word. word < 2 ^ 64) (from_le_bytes w64) eight_fits n (drop 12 (drop 4 bytes)) (All-drop (λ byte. byte < 256) 12 (drop 4 bytes) (All-drop (λ byte. byte < 256) 4 bytes are));
      };
      sum = sum;
      text =
          ap (λ (xs : List ℕ). xs ++ (head_sum (take 8 (drop (key_at n) bytes)) (numbers n (drop 12 (drop 4 bytes))) ++ drop (head_size n) bytes)) front
          ∙ ap (λ (xs : List ℕ). take (sum_at n) bytes ++ (xs ++ drop (head_size n) bytes)) (sym sum)
          ∙ sym (append_assoc (take (sum_at n) bytes) (take 8 (drop (sum_at n) bytes)) (drop (head_size n) bytes))
          ∙ ap (λ (xs : List ℕ). xs ++ drop (head_size n) bytes) (take_more_of (sum_at n) 8 bytes)
          ∙ take-append-drop (head_size n) bytes;
      rest = All-drop (λ byte. byte < 256) (head_size n) bytes are;
    }

pub head_is_of : (bytes : List ℕ) (h : Head) → AreBytes bytes → HasHead bytes h → IsHeadOf bytes h
head_is_of bytes h are has =
    subst (IsHeadOf bytes) has.found
    (head_in_is bytes (words_count bytes) are has.count refl has.long
    ((bytes_eq-Decides (take 8 (drop (sum_at (words_count bytes)) bytes)) (sum_of (take 8 (drop (key_at (words_count bytes)) bytes)) (take (sum_at (words_count bytes)) bytes))).0 has.own))
