-- What is left of a journal after a stop of the machine is read.
use Rattle.std.proofs.Common.{◌≡◌, ℕ, zero, suc, ◌<◌, ◌≤◌, inl, inr, true, false, List, [], ◌∷◌, ◌++◌, Option, Some, None, Result, Ok, length, take, arith, subst, sym, ap, ◌∙◌}
use Rattle.std.specs.Prelude.{◌⊎◌, IfSome}
use Rattle.std.proofs.lemmas.Bool.{cases_lt}
use Rattle.std.proofs.lemmas.List.{length-append, length-take, take_all, take-append-le, take-take}
use Rattle.journal.specs.declared.fault.Fault.{Fault}
use Rattle.journal.specs.Frame.{Batch, frame_of, frame_sum, frames_of, front_of}
use Rattle.journal.specs.Journal.{IsJournal, head_front, head_of, head_sum, journal_of}
use Rattle.journal.specs.Reading.{Read, reading}
use Rattle.journal.specs.Stops.{LeavesBatches, LeftByStop}
use Rattle.journal.proofs.Facts.{cut_is_left, left_is_read, length-frame_of, length-sum_of, whole_journal_is_read}
use Rattle.journal_file.specs.OnDevice.{GoesOn, HasPart, IsAnew, IsLeftThere, IsOf, OnDevice}
use Rattle.journal_file.specs.Restart.{IsReadAnew, ReadsBeginning, ReadsOneMore}

-- ---- while it goes on

abbrev answer : List ℕ → List ℕ → Result Read Fault
answer key words = Ok (record { key = key; words = words; cut = 0 })

known_text : (known : Option (List ℕ)) (bytes text : List ℕ) → known ≡ Some bytes → IfSome known (λ xs. xs ≡ text) → bytes ≡ text
known_text known bytes text is there = subst (λ (o : Option (List ℕ)). IfSome o (λ xs. xs ≡ text)) is there

if_known : (known : Option (List ℕ)) (text : List ℕ) (answer : Result Read Fault) → IfSome known (λ xs. xs ≡ text) → reading text ≡ answer → IfSome known (λ xs. reading xs ≡ answer)
if_known None text answer there is = tt
if_known (Some bytes) text answer there is = ap reading there ∙ is

pub running_if_known : (key base : List ℕ) (batches : List Batch) (count : ℕ) (j : OnDevice) (words : List ℕ) → IsOf key base batches count j → j.failed ≡ false → j.words ≡ words
    → IfSome j.appended (λ bytes. reading bytes ≡ Ok (record { key = key; words = words; cut = 0 }))
running_if_known key base batches count j words is going same =
    let on : GoesOn key base batches j = is.going going in
    if_known j.appended (journal_of key base batches) (answer key words) on.text (whole_journal_is_read key base batches is.journal ∙ ap (answer key) (sym is.words ∙ same))

-- ---- of more batches there are more bytes

frames_shorter : (key before : List ℕ) (batches : List Batch) (m n : ℕ) → length before ≡ 8 → m < n → n ≤ length batches → length (frames_of key before (take m batches)) < length (frames_of key before (take n batches))
frames_shorter key before [] m n b less some = absurd (omega (arith, less, some))
frames_shorter key before (batch ∷ batches) m zero b less some = absurd (omega (arith, less))
frames_shorter key before (batch ∷ batches) zero (suc n) b less some =
    omega (arith, length-frame_of key before batch b, length-append (frame_of key before batch) (frames_of key (frame_sum key before batch) (take n batches)))
frames_shorter key before (batch ∷ batches) (suc m) (suc n) b less some =
    let others : length (frames_of key (frame_sum key before batch) (take m batches)) < length (frames_of key (frame_sum key before batch) (take n batches)) =
    frames_shorter key (frame_sum key before batch) batches m n (length-sum_of key (front_of before batch)) (omega (arith, less)) (omega (arith, some)) in
    omega (arith, others, length-append (frame_of key before batch) (frames_of key (frame_sum key before batch) (take n batches)), length-append (frame_of key before batch) (frames_of key (frame_sum key before batch) (take m batches)))

shorter : (key base : List ℕ) (batches : List Batch) (m n : ℕ) → m < n → n ≤ length batches → length (journal_of key base (take m batches)) < length (journal_of key base (take n batches))
shorter key base batches m n less some =
    omega (
      arith,
      frames_shorter key (head_sum key base) batches m n (length-sum_of key (head_front key base)) less some,
      length-append (head_of key base) (frames_of key (head_sum key base) (take m batches)),
      length-append (head_of key base) (frames_of key (head_sum key base) (take n batches)),
    )

-- so what is no shorter than a beginning has it
those_there : (key base : List ℕ) (batches : List Batch) (count whole : ℕ) → count ≤ length batches → length (journal_of key base (take count batches)) ≤ length (journal_of key base (take whole batches)) → count ≤ whole
those_there key base batches count whole some long = elim (cases_lt whole count) [
  | inl less ↦ absurd (omega (arith, long, shorter key base batches whole count less some))
  | inr there ↦ there
]

beginning_shorter : (key base : List ℕ) (batches : List Batch) (count : ℕ) → count ≤ length batches → length (journal_of key base (take count batches)) ≤ length (journal_of key base batches)
beginning_shorter key base batches count some =
    let all : take (length batches) batches ≡ batches = take_all (length batches) batches (omega arith) in
    let same : length (journal_of key base (take (length batches) batches)) ≡ length (journal_of key base batches) = ap (λ (bs : List Batch). length (journal_of key base bs)) all in
    elim (cases_lt count (length batches)) [
      | inl less ↦ omega (arith, same, shorter key base batches count (length batches) less (omega arith))
      | inr past ↦ omega (arith, ap (λ (bs : List Batch). length (journal_of key base bs)) (take_all count batches past))
    ]

-- ---- what is left

pub left_is_beginning : (key base : List ℕ) (batches : List Batch) (count : ℕ) (left : List ℕ) → IsJournal key base batches → count ≤ length batches → LeftByStop key base batches (length (journal_of key base (take count batches))) left
    → ReadsBeginning key base batches count left
left_is_beginning key base batches count left is some stop =
    let whole : ℕ = stop.0 in
    let tail : List ℕ = stop.1 in
    let leaves : LeavesBatches key base batches (length (journal_of key base (take count batches))) left stop.0 stop.1 = stop.2 in
    record {
      whole = stop.0;
      those = those_there key base batches count stop.0 some leaves.those_kept;
      some = leaves.some;
      cut = length stop.1;
      read = left_is_read key base batches (length (journal_of key base (take count batches))) left stop.0 stop.1 is leaves;
    }

pub stopped : (key base : List ℕ) (batches : List Batch) (count : ℕ) (j : OnDevice) (left : List ℕ) → IsOf key base batches count j → LeftByStop key base batches j.kept left → ReadsBeginning key base batches count left
stopped key base batches count j left is stop =
    left_is_beginning key base batches count left is.journal is.some (subst (λ (kept : ℕ). LeftByStop key base batches kept left) is.kept stop)

cut_is_beginning : (key base : List ℕ) (batches : List Batch) (count n : ℕ) → IsJournal key base batches → count ≤ length batches → length (journal_of key base (take count batches)) ≤ n → ReadsBeginning key base batches count (take n (journal_of key base batches))
cut_is_beginning key base batches count n is some long =
    left_is_beginning key base batches count (take n (journal_of key base batches)) is some (cut_is_left key base batches n count is long)

kept_of_known : (known : Option (List ℕ)) (bytes : List ℕ) (kept lasting : ℕ) → known ≡ Some bytes → IfSome known (λ xs. kept ≤ lasting) → kept ≤ lasting
kept_of_known known bytes kept lasting is there = subst (λ (o : Option (List ℕ)). IfSome o (λ xs. kept ≤ lasting)) is there

pub killed : (key base : List ℕ) (batches : List Batch) (count : ℕ) (j : OnDevice) (bytes : List ℕ) (n : ℕ) → IsOf key base batches count j → j.failed ≡ false → j.appended ≡ Some bytes → j.lasting ≤ n → ReadsBeginning key base batches count (take n bytes)
killed key base batches count j bytes n is going known long =
    let on : GoesOn key base batches j = is.going going in
    let lasts : j.kept ≤ j.lasting = kept_of_known j.appended bytes j.kept j.lasting known on.lasting in
    subst (λ (xs : List ℕ). ReadsBeginning key base batches count (take n xs)) (sym (known_text j.appended bytes (journal_of key base batches) known on.text))
    (cut_is_beginning key base batches count n is.journal is.some (omega (arith, is.kept, lasts, long)))

-- ---- and of one whose storage failed

cut_once_more : (key base : List ℕ) (batches : List Batch) (count n m : ℕ) → IsJournal key base batches → count ≤ length batches → length (journal_of key base (take count batches)) ≤ n → length (journal_of key base (take count batches)) ≤ m
    → ReadsBeginning key base batches count (take n (take m (journal_of key base batches)))
cut_once_more key base batches count n m is some long whole = elim (cases_lt m n) [
  | inl less ↦
      let short : length (take m (journal_of key base batches)) ≤ n = omega (arith, less, length-take m (journal_of key base batches)) in
      subst (λ (xs : List ℕ). ReadsBeginning key base batches count xs) (sym (take_all n (take m (journal_of key base batches)) short)) (cut_is_beginning key base batches count m is some whole)
  | inr less ↦
      subst (λ (xs : List ℕ). ReadsBeginning key base batches count xs) (sym (take-take n m (journal_of key base batches) less)) (cut_is_beginning key base batches count n is some long)
]

part_read : (key base : List ℕ) (batches : List Batch) (count : ℕ) (j : OnDevice) (bytes : List ℕ) (n : ℕ) → IsOf key base batches count j → HasPart key base batches bytes → j.kept ≤ j.lasting → j.lasting ≤ n
    → ReadsOneMore key base batches count (take n bytes)
part_read key base batches count j bytes n is part lasts long =
    let some : count ≤ length (batches ++ part.more) = omega (arith, is.some, length-append batches part.more) in
    let same : length (journal_of key base (take count (batches ++ part.more))) ≡ length (journal_of key base (take count batches)) =
    ap (λ (bs : List Batch). length (journal_of key base bs)) (take-append-le count batches part.more is.some) in
    let first : length (journal_of key base (take count (batches ++ part.more))) ≤ n = omega (arith, same, is.kept, lasts, long) in
    let second : length (journal_of key base (take count (batches ++ part.more))) ≤ part.n = omega (arith, same, part.whole, beginning_shorter key base batches count is.some) in (
      part.more,
      part.one,
      subst (λ (xs : List ℕ). ReadsBeginning key base (batches ++ part.more) count (take n xs)) (sym part.text)
          (cut_once_more key base (batches ++ part.more) count n part.n part.journal some first second),
    )

anew_read : (words bytes : List ℕ) → IsAnew words bytes → IsReadAnew words bytes
anew_read words bytes anew = (anew.key, ap reading anew.text ∙ whole_journal_is_read anew.key words [] anew.journal)

left_read : (key base : List ℕ) (batches : List Batch) (count : ℕ) (j : OnDevice) (bytes : List ℕ) (n : ℕ) → IsOf key base batches count j → IsLeftThere key base batches j bytes → j.lasting ≤ n
    → ReadsOneMore key base batches count (take n bytes) ⊎ IsReadAnew j.words bytes
left_read key base batches count j bytes n is (inl part) long = inl (part_read key base batches count j bytes n is part.0 part.1 long)
left_read key base batches count j bytes n is (inr anew) long = inr (anew_read j.words bytes anew)

pub failed : (key base : List ℕ) (batches : List Batch) (count : ℕ) (j : OnDevice) (bytes : List ℕ) (n : ℕ) → IsOf key base batches count j → j.failed ≡ true → j.appended ≡ Some bytes → j.lasting ≤ n
    → ReadsOneMore key base batches count (take n bytes) ⊎ IsReadAnew j.words bytes
failed key base batches count j bytes n is over known long =
    left_read key base batches count j bytes n is (subst (λ (o : Option (List ℕ)). IfSome o (IsLeftThere key base batches j)) known (is.over over)) long
