-- A journal that is cut off anywhere behind its head.
use Rattle.std.proofs.Common.{◌≡◌, ℕ, zero, suc, ◌+◌, ◌-◌, ◌*◌, ◌<◌, ◌≤◌, inl, inr, false, List, [], ◌∷◌, ◌++◌, Ok, length, take, drop, arith, refl, sym, ap, ◌∙◌}
use Rattle.std.specs.Prelude.{All}
use Rattle.std.specs.Int.{w32, from_le_bytes}
use Rattle.std.proofs.Math.Seq.{take-append-add}
use Rattle.std.proofs.lemmas.Bool.{cases_lt}
use Rattle.std.proofs.lemmas.List.{append_assoc, drop-take, length-append, length-take, take_all, take-take}
use Rattle.std.proofs.lemmas.List.Elements.{All-head, All-tail, All-take}
use Rattle.journal.specs.declared.format.TheConstants.{MAX_CHANGES}
use Rattle.journal.specs.Frame.{Batch, IsBatchIn, frame_of, frame_sum, frames_of, front_of, last_sum}
use Rattle.journal.specs.Journal.{IsJournal, head_front, head_of, head_sum, journal_of, words_after}
use Rattle.journal.specs.Reading.{count_in, goes_on, reading}
use Rattle.journal.specs.Stops.{LeavesBatches, LeftByStop}
use Rattle.journal.proofs.Frames.{goes_on_not_whole, goes_on_short, whole_of_short}
use Rattle.journal.proofs.FramesRead.{count_again, length-front_of, length-sum_of}
use Rattle.journal.proofs.JournalsRead.{journal_is_read}

-- ---- a frame that is cut off

count_of_cut : (n : ℕ) (bytes : List ℕ) → 20 ≤ n → count_in (take n bytes) ≡ count_in bytes
unfolding count_in
count_of_cut n bytes long =
    let split : n ≡ 16 + (n - 16) = omega arith in
    ap (λ (m : ℕ). from_le_bytes w32 (take 4 (drop 16 (take m bytes)))) split
    ∙ ap (λ (xs : List ℕ). from_le_bytes w32 (take 4 xs)) (drop-take 16 (n - 16) bytes)
    ∙ ap (from_le_bytes w32) (take-take 4 (n - 16) (drop 16 bytes) (omega arith))

pub length-frame_of : (key before : List ℕ) (batch : Batch) → length before ≡ 8 → length (frame_of key before batch) ≡ 28 + 12 * length batch.changes
length-frame_of key before batch b =
    omega (arith, length-append (front_of before batch) (frame_sum key before batch), length-front_of before batch b, length-sum_of key (front_of before batch))

frame_cut : (key before : List ℕ) (size : ℕ) (batch : Batch) (rest : List ℕ) (n : ℕ) → length before ≡ 8 → length batch.changes ≤ MAX_CHANGES → n < length (frame_of key before batch) → goes_on key before size (take n (frame_of key before batch ++ rest)) ≡ false
frame_cut key before size batch rest n b few cut =
    let bytes : List ℕ = frame_of key before batch ++ rest in
    let short : length (take n (frame_of key before batch ++ rest)) ≤ n = omega (arith, length-take n (frame_of key before batch ++ rest)) in
    elim (cases_lt n 28) [
      | inl low ↦ goes_on_short key before size (take n (frame_of key before batch ++ rest)) (omega arith)
      | inr high ↦
          let counted : count_in (take n (frame_of key before batch ++ rest)) ≡ length batch.changes =
          count_of_cut n (frame_of key before batch ++ rest) (omega arith)
          ∙ ap count_in (append_assoc (front_of before batch) (frame_sum key before batch) rest)
          ∙ count_again before batch (frame_sum key before batch ++ rest) b few in
          goes_on_not_whole key before size (take n (frame_of key before batch ++ rest))
          (whole_of_short key (take n (frame_of key before batch ++ rest)) (omega (arith, counted, short, cut, length-frame_of key before batch b)))
    ]

-- ---- frames that are cut off

-- so many are whole, no more of them end before the cut, and what follows does not go on with one
record Cut (key before : List ℕ) (size : ℕ) (batches : List Batch) (n : ℕ) : Type 0 where
  whole : ℕ
  tail : List ℕ
  some : whole ≤ length batches
  text : take n (frames_of key before batches) ≡ frames_of key before (take whole batches) ++ tail
  torn : goes_on key (last_sum key before (take whole batches)) size tail ≡ false
  most : (k : ℕ) → length (frames_of key before (take k batches)) ≤ n → length (frames_of key before (take k batches)) ≤ length (frames_of key before (take whole batches))

-- where not even the first is whole, none is
none_ends : (key before : List ℕ) (batch : Batch) (batches : List Batch) (n k : ℕ) → n < length (frame_of key before batch) → length (frames_of key before (take k (batch ∷ batches))) ≤ n → length (frames_of key before (take k (batch ∷ batches))) ≤ 0
none_ends key before batch batches n zero cut low = omega arith
none_ends key before batch batches n (suc k) cut low =
    absurd (omega (arith, cut, low, length-append (frame_of key before batch) (frames_of key (frame_sum key before batch) (take k batches))))

-- and else the others are as many as end before the cut, too
others_end : (key before : List ℕ) (batch : Batch) (batches : List Batch) (n whole k : ℕ) → length (frame_of key before batch) ≤ n
    → ((j : ℕ) → length (frames_of key (frame_sum key before batch) (take j batches)) ≤ n - length (frame_of key before batch) → length (frames_of key (frame_sum key before batch) (take j batches)) ≤ length (frames_of key (frame_sum key before batch) (take whole batches)))
    → length (frames_of key before (take k (batch ∷ batches))) ≤ n → length (frames_of key before (take k (batch ∷ batches))) ≤ length (frame_of key before batch ++ frames_of key (frame_sum key before batch) (take whole batches))
others_end key before batch batches n whole zero long most low = omega arith
others_end key before batch batches n whole (suc k) long most low =
    let here = length-append (frame_of key before batch) (frames_of key (frame_sum key before batch) (take k batches)) in
    let there = length-append (frame_of key before batch) (frames_of key (frame_sum key before batch) (take whole batches)) in
    let fits : length (frames_of key (frame_sum key before batch) (take k batches)) ≤ n - length (frame_of key before batch) = omega (arith, here, low, long) in
    omega (arith, here, there, most k fits)

take_behind : (xs ys : List ℕ) (n : ℕ) → length xs ≤ n → take n (xs ++ ys) ≡ xs ++ take (n - length xs) ys
take_behind xs ys n long =
    let split : n ≡ length xs + (n - length xs) = omega arith in
    ap (λ (m : ℕ). take m (xs ++ ys)) split ∙ take-append-add xs ys (n - length xs)

no_batch : (key before : List ℕ) (k : ℕ) → length (frames_of key before (take k [])) ≡ 0
no_batch key before zero = refl
no_batch key before (suc k) = refl

frames_cut : (key before : List ℕ) (size : ℕ) (batches : List Batch) (n : ℕ) → length before ≡ 8 → All (IsBatchIn size) batches → Cut key before size batches n
frames_cut key before size [] n b all = record {
  whole = 0;
  tail = [];
  some = omega arith;
  text = take_all n [] (omega arith);
  torn = goes_on_short key before size [] (omega arith);
  most = λ k low. omega (arith, no_batch key before k);
}
frames_cut key before size (batch ∷ batches) n b all =
    let sum = frame_sum key before batch in
    let is = All-head (IsBatchIn size) batch batches all in
    elim (cases_lt n (length (frame_of key before batch))) [
      | inl cut ↦ record {
        whole = 0;
        tail = take n (frames_of key before (batch ∷ batches));
        some = omega arith;
        text = refl;
        torn = frame_cut key before size batch (frames_of key (frame_sum key before batch) batches) n b is.few cut;
        most = λ k low. none_ends key before batch batches n k cut low;
      }
      | inr long ↦
          let others : Cut key (frame_sum key before batch) size batches (n - length (frame_of key before batch)) =
          frames_cut key (frame_sum key before batch) size batches (n - length (frame_of key before batch)) (length-sum_of key (front_of before batch)) (All-tail (IsBatchIn size) batch batches all) in
          record {
            whole = suc others.whole;
            tail = others.tail;
            some = omega (arith, others.some);
            text =
                take_behind (frame_of key before batch) (frames_of key (frame_sum key before batch) batches) n long
                ∙ ap (λ (xs : List ℕ). frame_of key before batch ++ xs) others.text
                ∙ sym (append_assoc (frame_of key before batch) (frames_of key (frame_sum key before batch) (take others.whole batches)) others.tail);
            torn = others.torn;
            most = λ k low. others_end key before batch batches n others.whole k long others.most low;
          }
    ]

-- ---- a journal that is cut off

-- at any place behind what was kept
pub cut_is_left : (key base : List ℕ) (batches : List Batch) (n k : ℕ) → IsJournal key base batches → length (journal_of key base (take k batches)) ≤ n
    → LeftByStop key base batches (length (journal_of key base (take k batches))) (take n (journal_of key base batches))
cut_is_left key base batches n k is low =
    let sum = head_sum key base in
    let head = head_of key base in
    let here = length-append (head_of key base) (frames_of key (head_sum key base) (take k batches)) in
    let cut : Cut key (head_sum key base) (length base) batches (n - length (head_of key base)) =
    frames_cut key (head_sum key base) (length base) batches (n - length (head_of key base)) (length-sum_of key (head_front key base)) is.each_batch in
    let there = length-append (head_of key base) (frames_of key (head_sum key base) (take cut.whole batches)) in
    let fits : length (frames_of key (head_sum key base) (take k batches)) ≤ n - length (head_of key base) = omega (arith, here, low) in
    let most : length (frames_of key (head_sum key base) (take k batches)) ≤ length (frames_of key (head_sum key base) (take cut.whole batches)) = cut.most k fits in (
      cut.whole,
      cut.tail,
      record {
        some = cut.some;
        those_kept = omega (arith, here, there, most);
        text =
            take_behind (head_of key base) (frames_of key (head_sum key base) batches) n (omega (arith, here, low))
            ∙ ap (λ (xs : List ℕ). head_of key base ++ xs) cut.text
            ∙ sym (append_assoc (head_of key base) (frames_of key (head_sum key base) (take cut.whole batches)) cut.tail);
        torn = cut.torn;
      },
    )

-- and what a stop leaves is read
pub left_is_read : (key base : List ℕ) (batches : List Batch) (kept : ℕ) (bytes : List ℕ) (whole : ℕ) (tail : List ℕ) → IsJournal key base batches → LeavesBatches key base batches kept bytes whole tail
    → reading bytes ≡ Ok (record { key = key; words = words_after (take whole batches) base; cut = length tail })
left_is_read key base batches kept bytes whole tail is leaves =
    ap reading leaves.text
    ∙ journal_is_read key base (take whole batches) tail
    (record {
      key_long = is.key_long;
      base_words = is.base_words;
      each_batch = All-take (IsBatchIn (length base)) whole batches is.each_batch;
    })
    leaves.torn
