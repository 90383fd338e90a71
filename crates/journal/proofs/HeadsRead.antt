-- Written heads are read again.
use Rattle.std.proofs.Common.{◌≡◌, ℕ, ◌+◌, ◌*◌, ◌^◌, ◌<◌, ◌≤◌, true, List, [], ◌∷◌, ◌++◌, Ok, length, map, take, drop, arith, refl, sym, ap, ◌∙◌}
use Rattle.std.specs.Prelude.{All}
use Rattle.std.specs.Int.{w64, from_le_bytes, to_le_bytes}
use Rattle.std.specs.List.{flat_map}
use Rattle.std.specs.Simd.{first_chunks}
use Rattle.std.proofs.lemmas.List.{append_assoc, drop_at, drop-drop, length-append, take_all, take_at}
use Rattle.std.proofs.lemmas.List.Concat.{flat_map-cons}
use Rattle.std.proofs.lemmas.List.Elements.{All-head, All-tail}
use Rattle.std.proofs.lemmas.Nat.{from_le_bytes-to_le_bytes_8}
use Rattle.persist.specs.Image.{AreWords}
use Rattle.persist.specs.Image as image
use Rattle.persist.specs.declared.memory.TheConstants.{MAX_WORDS}
use Rattle.journal.specs.Sum.{sum_of}
use Rattle.journal.specs.Journal.{head_front, head_sum, magic}
use Rattle.journal.specs.Reading.{begins_as_journal, first_bytes, has_its_sum, head_in, head_reading, head_size, key_at, sum_at, words_count}
use Rattle.journal.proofs.Chunks.{chunks_again}
use Rattle.journal.proofs.FramesRead.{bytes_same, length-sum_of}
use Rattle.journal.proofs.Heads.{HasCount, head_found, head_is_read, read_as}

-- ---- the parts of a head, in whatever bytes

abbrev pub parts : List ℕ → List ℕ → List ℕ → List ℕ → List ℕ → List ℕ
parts first second count words key = first ++ (second ++ count ++ words) ++ key

nested : (first second count words key rest : List ℕ) → parts first second count words key ++ rest ≡ first ++ (second ++ (count ++ (words ++ (key ++ rest))))
nested first second count words key rest =
    append_assoc (first ++ (second ++ count ++ words)) key rest
    ∙ append_assoc first (second ++ count ++ words) (key ++ rest)
    ∙ ap (λ (xs : List ℕ). first ++ xs) (append_assoc (second ++ count) words (key ++ rest) ∙ append_assoc second count (words ++ (key ++ rest)))

drop_4 : (first second count words key rest : List ℕ) → length first ≡ 4 → drop 4 (parts first second count words key ++ rest) ≡ second ++ (count ++ (words ++ (key ++ rest)))
drop_4 first second count words key rest a =
    ap (drop 4) (nested first second count words key rest) ∙ drop_at first (second ++ (count ++ (words ++ (key ++ rest)))) 4 a

drop_4_4 : (first second count words key rest : List ℕ) → length first ≡ 4 → length second ≡ 4 → drop 4 (drop 4 (parts first second count words key ++ rest)) ≡ count ++ (words ++ (key ++ rest))
drop_4_4 first second count words key rest a b =
    ap (drop 4) (drop_4 first second count words key rest a) ∙ drop_at second (count ++ (words ++ (key ++ rest))) 4 b

drop_12_4 : (first second count words key rest : List ℕ) → length first ≡ 4 → length second ≡ 4 → length count ≡ 8 → drop 12 (drop 4 (parts first second count words key ++ rest)) ≡ words ++ (key ++ rest)
drop_12_4 first second count words key rest a b c =
    sym (drop-drop 8 4 (drop 4 (parts first second count words key ++ rest)))
    ∙ ap (drop 8) (drop_4_4 first second count words key rest a b)
    ∙ drop_at count (words ++ (key ++ rest)) 8 c

drop_words : (first second count words key rest : List ℕ) (n : ℕ) → length first ≡ 4 → length second ≡ 4 → length count ≡ 8 → length words ≡ 8 * n → drop (key_at n) (parts first second count words key ++ rest) ≡ key ++ rest
drop_words first second count words key rest n a b c w =
    let place : key_at n ≡ 4 + 12 + 8 * n = omega arith in
    ap (λ (m : ℕ). drop m (parts first second count words key ++ rest)) place
    ∙ sym (drop-drop (8 * n) 16 (parts first second count words key ++ rest))
    ∙ ap (drop (8 * n)) (sym (drop-drop 12 4 (parts first second count words key ++ rest)) ∙ drop_12_4 first second count words key rest a b c)
    ∙ drop_at words (key ++ rest) (8 * n) w

length_parts : (first second count words key : List ℕ) → length first ≡ 4 → length second ≡ 4 → length count ≡ 8 → length (parts first second count words key) ≡ 16 + length words + length key
length_parts first second count words key a b c =
    omega (arith, a, b, c, length-append (first ++ (second ++ count ++ words)) key, length-append first (second ++ count ++ words), length-append (second ++ count) words, length-append second count)

begins : (first second count words key rest : List ℕ) → length first ≡ 4 → length second ≡ 4 → take 8 (parts first second count words key ++ rest) ≡ first ++ second
begins first second count words key rest a b =
    let eight : length (first ++ second) ≡ 8 = omega (arith, a, b, length-append first second) in
    ap (take 8) (nested first second count words key rest ∙ sym (append_assoc first second (count ++ (words ++ (key ++ rest)))))
    ∙ take_at (first ++ second) (count ++ (words ++ (key ++ rest))) 8 eight

-- ---- a head, and whatever follows

length-words : (words : List ℕ) → length (flat_map (to_le_bytes w64) words) ≡ 8 * length words
length-words [] = refl
length-words (word ∷ words) =
    ap (λ (xs : List ℕ). length xs) (flat_map-cons (to_le_bytes w64) word words)
    ∙ omega (arith, length-append (to_le_bytes w64 word) (flat_map (to_le_bytes w64) words), length-words words)

words_again : (words : List ℕ) → All (λ word. word < 2 ^ 64) words → map (from_le_bytes w64) (map (to_le_bytes w64) words) ≡ words
words_again [] fit = refl
words_again (word ∷ words) fit =
    ap (λ (w : ℕ). w ∷ map (from_le_bytes w64) (map (to_le_bytes w64) words)) (from_le_bytes-to_le_bytes_8 word (All-head (λ w. w < 2 ^ 64) word words fit))
    ∙ ap (λ (ws : List ℕ). word ∷ ws) (words_again words (All-tail (λ w. w < 2 ^ 64) word words fit))

eight_each : (word : ℕ) → length (to_le_bytes w64 word) ≡ 8
eight_each word = refl

pub length-head_front : (key base : List ℕ) → length key ≡ 8 → length (head_front key base) ≡ 24 + 8 * length base
length-head_front key base k =
    length_parts magic image.magic (to_le_bytes w64 (length base)) (flat_map (to_le_bytes w64) base) key refl refl refl
    ∙ omega (arith, k, length-words base)

-- the bytes of a head and of what follows it
abbrev pub with_rest : List ℕ → List ℕ → List ℕ → List ℕ
with_rest key base rest = head_front key base ++ (head_sum key base ++ rest)

pub head_again : (key base rest : List ℕ) → length key ≡ 8 → AreWords base → head_reading (with_rest key base rest) ≡ Ok (record { words = base; key = key; sum = head_sum key base; rest = rest })
head_again key base rest k are =
    let count = to_le_bytes w64 (length base) in
    let words = flat_map (to_le_bytes w64) base in
    let bytes : List ℕ = with_rest key base rest in
    let after : List ℕ = head_sum key base ++ rest in
    let n : ℕ = length base in
    let few : length base ≤ MAX_WORDS = are.few in
    let some : 0 < length base = are.some in
    let long_words : length (flat_map (to_le_bytes w64) base) ≡ 8 * length base = length-words base in
    let front_long : length (head_front key base) ≡ 24 + 8 * length base = length-head_front key base k in
    let sum_long : length (head_sum key base) ≡ 8 = length-sum_of key (head_front key base) in
    let size : sum_at (length base) ≡ 24 + 8 * length base = omega arith in
    let long : length (with_rest key base rest) ≡ 24 + 8 * length base + (8 + length rest) =
    omega (arith, length-append (head_front key base) (head_sum key base ++ rest), length-append (head_sum key base) rest, front_long, sum_long) in
    let counted : words_count (with_rest key base rest) ≡ length base =
    ap (λ (xs : List ℕ). from_le_bytes w64 (take 8 xs)) (drop_4_4 magic image.magic (to_le_bytes w64 (length base)) (flat_map (to_le_bytes w64) base) key (head_sum key base ++ rest) refl refl)
    ∙ ap (from_le_bytes w64) (take_at (to_le_bytes w64 (length base)) (flat_map (to_le_bytes w64) base ++ (key ++ (head_sum key base ++ rest))) 8 refl)
    ∙ from_le_bytes-to_le_bytes_8 (length base) (omega (arith, few)) in
    let at_key : drop (key_at (length base)) (with_rest key base rest) ≡ key ++ (head_sum key base ++ rest) =
    drop_words magic image.magic (to_le_bytes w64 (length base)) (flat_map (to_le_bytes w64) base) key (head_sum key base ++ rest) (length base) refl refl refl long_words in
    let at_sum : drop (sum_at (length base)) (with_rest key base rest) ≡ head_sum key base ++ rest =
    drop_at (head_front key base) (head_sum key base ++ rest) (sum_at (length base)) (front_long ∙ sym size) in
    let keyed : key ≡ take 8 (drop (key_at (length base)) (with_rest key base rest)) = sym (ap (take 8) at_key ∙ take_at key (head_sum key base ++ rest) 8 k) in
    let summed : head_sum key base ≡ take 8 (drop (sum_at (length base)) (with_rest key base rest)) = sym (ap (take 8) at_sum ∙ take_at (head_sum key base) rest 8 sum_long) in
    let left : rest ≡ drop (head_size (length base)) (with_rest key base rest) =
    sym (sym (drop-drop 8 (sum_at (length base)) (with_rest key base rest)) ∙ ap (drop 8) at_sum ∙ drop_at (head_sum key base) rest 8 sum_long) in
    let front : take (sum_at (length base)) (with_rest key base rest) ≡ head_front key base =
    take_at (head_front key base) (head_sum key base ++ rest) (sum_at (length base)) (front_long ∙ sym size) in
    let worded : base ≡ map (from_le_bytes w64) (first_chunks 8 (length base) (drop 12 (drop 4 (with_rest key base rest)))) =
    sym (ap (λ (xs : List ℕ). map (from_le_bytes w64) (first_chunks 8 (length base) xs)) (drop_12_4 magic image.magic (to_le_bytes w64 (length base)) (flat_map (to_le_bytes w64) base) key (head_sum key base ++ rest) refl refl refl)
    ∙ ap (λ (chunks : List (List ℕ)). map (from_le_bytes w64) chunks) (chunks_again 8 (to_le_bytes w64) eight_each base (key ++ (head_sum key base ++ rest)))
    ∙ words_again base are.fit) in
    let right : begins_as_journal (with_rest key base rest) ≡ true =
    bytes_same (take 8 (with_rest key base rest)) (take (length (with_rest key base rest)) first_bytes)
    (begins magic image.magic (to_le_bytes w64 (length base)) (flat_map (to_le_bytes w64) base) key (head_sum key base ++ rest) refl refl
    ∙ sym (take_all (length (with_rest key base rest)) first_bytes (omega (arith, long)))) in
    let has : HasCount (with_rest key base rest) = record {
      right = right;
      long = omega (arith, long);
      some = omega (arith, counted, some);
      few = omega (arith, counted, few);
    } in
    let own : has_its_sum (length base) (with_rest key base rest) ≡ true =
    bytes_same (take 8 (drop (sum_at (length base)) (with_rest key base rest))) (sum_of (take 8 (drop (key_at (length base)) (with_rest key base rest))) (take (sum_at (length base)) (with_rest key base rest)))
    (sym summed ∙ ap (λ (k' : List ℕ). sum_of k' (head_front key base)) keyed ∙ ap (sum_of (take 8 (drop (key_at (length base)) (with_rest key base rest)))) (sym front)) in
    head_is_read (with_rest key base rest) has (omega (arith, counted, long)) (ap (λ (m : ℕ). has_its_sum m (with_rest key base rest)) counted ∙ own)
    ∙ ap (λ (m : ℕ). read_as (head_in m (with_rest key base rest))) counted
    ∙ ap read_as (head_found (with_rest key base rest) base key (head_sum key base) rest (length base) worded keyed summed left)
