-- Written journals are read again.
use Rattle.std.proofs.Common.{◌≡◌, ℕ, ◌+◌, ◌<◌, inl, inr, false, List, [], ◌++◌, Result, Ok, get_or, length, take, drop, arith, lit<, sym, ap, ◌∙◌}
use Rattle.std.specs.Prelude.{replicate}
use Rattle.std.proofs.lemmas.Bool.{cases_lt}
use Rattle.std.proofs.lemmas.List.{append_assoc, append-nil, get_or_past, get_or-drop, get_or-replicate, get_or-take, length-replicate}
use Rattle.journal.specs.declared.fault.Fault.{Fault}
use Rattle.journal.specs.Frame.{Batch, frames_of}
use Rattle.journal.specs.Journal.{IsJournal, end_sum, head_front, head_sum, journal_of, words_after}
use Rattle.journal.specs.Reading.{Read, Replay, count_in, goes_on, read_of, read_on, reading, replay}
use Rattle.journal.proofs.Frames.{goes_on_not_whole, goes_on_short, whole_of_none}
use Rattle.journal.proofs.FramesRead.{frames_replayed, length-sum_of}
use Rattle.journal.proofs.HeadsRead.{head_again, with_rest}

abbrev answer : List ℕ → Replay → Result Read Fault
answer key replay = Ok (read_of key replay)

abbrev cut_so : List ℕ → List ℕ → ℕ → Result Read Fault
cut_so key words cut = Ok (record { key = key; words = words; cut = cut })

-- with a tail that does not go on with a whole frame
pub journal_is_read : (key base : List ℕ) (batches : List Batch) (tail : List ℕ) → IsJournal key base batches → goes_on key (end_sum key base batches) (length base) tail ≡ false
    → reading (journal_of key base batches ++ tail) ≡ Ok (record { key = key; words = words_after batches base; cut = length tail })
journal_is_read key base batches tail is not_on =
    let are = is.base_words in
    let frames : List ℕ = frames_of key (head_sum key base) batches in
    let text : journal_of key base batches ++ tail ≡ with_rest key base (frames_of key (head_sum key base) batches ++ tail) =
    append_assoc (head_front key base ++ head_sum key base) (frames_of key (head_sum key base) batches) tail
    ∙ append_assoc (head_front key base) (head_sum key base) (frames_of key (head_sum key base) batches ++ tail) in
    ap reading text
    ∙ ap read_on (head_again key base (frames_of key (head_sum key base) batches ++ tail) is.key_long is.base_words)
    ∙ ap (answer key) (frames_replayed key (head_sum key base) base batches tail (length-sum_of key (head_front key base)) are.few is.each_batch not_on)

-- and with none
pub whole_journal_is_read : (key base : List ℕ) (batches : List Batch) → IsJournal key base batches → reading (journal_of key base batches) ≡ Ok (record { key = key; words = words_after batches base; cut = 0 })
whole_journal_is_read key base batches is =
    ap reading (sym (append-nil (journal_of key base batches)))
    ∙ journal_is_read key base batches [] is (goes_on_short key (end_sum key base batches) (length base) [] (omega arith))

-- ---- and with zeros behind it

abbrev zeros : ℕ → List ℕ
zeros n = replicate n 0

zero_at : (n i : ℕ) → get_or (zeros n) i 0 ≡ 0
zero_at n i = elim (cases_lt i n) [
  | inl inside ↦ get_or-replicate n i 0 0 inside
  | inr past ↦ get_or_past (zeros n) i 0 (omega (arith, past, length-replicate {A = ℕ} n 0))
]

count_of_zeros : (n : ℕ) → count_in (zeros n) ≡ 0
unfolding count_in
count_of_zeros n =
    let at : (i : ℕ) → i < 4 → get_or (take 4 (drop 16 (zeros n))) i 0 ≡ 0 =
    λ i few. get_or-take 4 (drop 16 (zeros n)) i 0 few ∙ get_or-drop 16 (zeros n) i 0 ∙ zero_at n (16 + i) in
    omega (arith, at 0 (lit< tt), at 1 (lit< tt), at 2 (lit< tt), at 3 (lit< tt))

pub journal_before_zeros : (key base : List ℕ) (batches : List Batch) (n : ℕ) → IsJournal key base batches → reading (journal_of key base batches ++ zeros n) ≡ Ok (record { key = key; words = words_after batches base; cut = n })
journal_before_zeros key base batches n is =
    journal_is_read key base batches (zeros n) is (goes_on_not_whole key (end_sum key base batches) (length base) (zeros n) (whole_of_none key (zeros n) (count_of_zeros n)))
    ∙ ap (cut_so key (words_after batches base)) (length-replicate {A = ℕ} n 0)
