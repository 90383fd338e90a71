-- A journal with a frame more, and one that begins on the words of another.
use Rattle.std.proofs.Common.{◌≡◌, ℕ, ◌^◌, ◌<◌, List, [], ◌∷◌, ◌++◌, Ok, length, arith, refl, sym, ap, ◌∙◌}
use Rattle.std.specs.Prelude.{All}
use Rattle.std.proofs.lemmas.List.{append_assoc, append-nil}
use Rattle.std.proofs.lemmas.List.Sums.{fold-append}
use Rattle.std.proofs.lemmas.List.Elements.{All-head, All-nil, All-push, All-set, All-tail}
use Rattle.persist.specs.declared.access.Change.{Change}
use Rattle.journal.specs.Frame.{Batch, IsBatchIn, IsChangeIn, frame_of, frame_sum, frames_of, last_sum}
use Rattle.persist.specs.Noted.{applied, change_made}
use Rattle.journal.specs.Journal.{End, IsJournal, changes_of, end_behind, end_of, end_sum, head_of, head_sum, journal_of, words_after}
use Rattle.journal.specs.Reading.{reading}
use Rattle.journal.proofs.FramesRead.{length-applied}
use Rattle.journal.proofs.JournalsRead.{whole_journal_is_read}

-- ---- a frame more

frames_more : (key before : List ℕ) (batches : List Batch) (batch : Batch) → frames_of key before (batches ++ batch ∷ []) ≡ frames_of key before batches ++ frame_of key (last_sum key before batches) batch
frames_more key before [] batch = append-nil (frame_of key before batch)
frames_more key before (first ∷ batches) batch =
    ap (λ (xs : List ℕ). frame_of key before first ++ xs) (frames_more key (frame_sum key before first) batches batch)
    ∙ sym (append_assoc (frame_of key before first) (frames_of key (frame_sum key before first) batches) (frame_of key (last_sum key (frame_sum key before first) batches) batch))

sum_more : (key before : List ℕ) (batches : List Batch) (batch : Batch) → last_sum key before (batches ++ batch ∷ []) ≡ frame_sum key (last_sum key before batches) batch
sum_more key before [] batch = refl
sum_more key before (first ∷ batches) batch = sum_more key (frame_sum key before first) batches batch

abbrev ends : List ℕ → List ℕ → ℕ → End
ends key sum size = record { key = key; sum = sum; size = size }

pub journal_more : (key base : List ℕ) (batches : List Batch) (batch : Batch) → journal_of key base (batches ++ batch ∷ []) ≡ journal_of key base batches ++ frame_of key (end_sum key base batches) batch
journal_more key base batches batch =
    ap (λ (xs : List ℕ). head_of key base ++ xs) (frames_more key (head_sum key base) batches batch)
    ∙ sym (append_assoc (head_of key base) (frames_of key (head_sum key base) batches) (frame_of key (end_sum key base batches) batch))

pub end_more : (key base : List ℕ) (batches : List Batch) (batch : Batch) → end_of key base (batches ++ batch ∷ []) ≡ end_behind (end_of key base batches) batch
end_more key base batches batch =
    ap (λ (sum : List ℕ). ends key sum (length base)) (sum_more key (head_sum key base) batches batch)

pub is_journal_more : (key base : List ℕ) (batches : List Batch) (batch : Batch) → IsJournal key base batches → IsBatchIn (length base) batch → IsJournal key base (batches ++ batch ∷ [])
is_journal_more key base batches batch is one = record {
  key_long = is.key_long;
  base_words = is.base_words;
  each_batch = All-push (IsBatchIn (length base)) batches batch is.each_batch one;
}

-- ---- the words of another

pub length-words_after : (batches : List Batch) (words : List ℕ) → length (words_after batches words) ≡ length words
length-words_after [] words = refl
length-words_after (batch ∷ batches) words = length-words_after batches (applied batch.changes words) ∙ length-applied batch.changes words

applied_fit : (size : ℕ) (changes : List Change) (words : List ℕ) → All (IsChangeIn size) changes → All (λ word. word < 2 ^ 64) words → All (λ word. word < 2 ^ 64) (applied changes words)
applied_fit size [] words all fit = fit
applied_fit size (change ∷ changes) words all fit =
    let is = All-head (IsChangeIn size) change changes all in
    applied_fit size changes (applied (change ∷ []) words) (All-tail (IsChangeIn size) change changes all) (All-set (λ word. word < 2 ^ 64) words change.word change.new is.value fit)

after_fit : (size : ℕ) (batches : List Batch) (words : List ℕ) → All (IsBatchIn size) batches → All (λ word. word < 2 ^ 64) words → All (λ word. word < 2 ^ 64) (words_after batches words)
after_fit size [] words all fit = fit
after_fit size (batch ∷ batches) words all fit =
    let is = All-head (IsBatchIn size) batch batches all in
    after_fit size batches (applied batch.changes words) (All-tail (IsBatchIn size) batch batches all) (applied_fit size batch.changes words is.within fit)

pub is_journal_anew : (key base other : List ℕ) (batches : List Batch) → IsJournal key base batches → length other ≡ 8 → IsJournal other (words_after batches base) []
is_journal_anew key base other batches is long =
    let same = length-words_after batches base in
    let are = is.base_words in
    let some : 0 < length base = are.some in
    let few = are.few in
    record {
      key_long = long;
      base_words = record { some = omega (arith, same, some); few = omega (arith, same, few); fit = after_fit (length base) batches base is.each_batch are.fit };
      each_batch = All-nil (IsBatchIn (length (words_after batches base)));
    }

pub read_anew : (key base other : List ℕ) (batches : List Batch) → IsJournal key base batches → length other ≡ 8 → reading (journal_of other (words_after batches base) []) ≡ Ok (record { key = other; words = words_after batches base; cut = 0 })
read_anew key base other batches is long = whole_journal_is_read other (words_after batches base) [] (is_journal_anew key base other batches is long)

-- ---- changes, one after another

pub applied_more : (first second : List Change) (words : List ℕ) → applied (first ++ second) words ≡ applied second (applied first words)
applied_more first second words = fold-append change_made words first second

pub after_changes : (batches : List Batch) (words : List ℕ) → words_after batches words ≡ applied (changes_of batches) words
after_changes [] words = refl
after_changes (batch ∷ batches) words =
    after_changes batches (applied batch.changes words) ∙ sym (applied_more batch.changes (changes_of batches) words)
