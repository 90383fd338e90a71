-- A journal begins, has a batch more, and is kept.
use Rattle.std.proofs.Common.{◌≡◌, ◌⊎◌, inl, inr, ℕ, ◌+◌, ◌≤◌, Bool, true, false, List, [], ◌∷◌, ◌++◌, Option, Some, None, length, take, drop, arith, refl, subst, sym, ap, ◌∙◌}
use Rattle.std.specs.Prelude.{IfSome}
use Rattle.std.specs.Io.KnownBytes.{append_known}
use Rattle.std.proofs.Math.Seq.{take-append-add}
use Rattle.std.proofs.lemmas.Bool.{false≢true}
use Rattle.std.proofs.lemmas.List.Elements.{All-nil}
use Rattle.std.proofs.lemmas.List.{append-nil, length-append, take_all, take_at, take-append-le}
use Rattle.words.specs.declared.refusal.Refusal.{Refusal}
use Rattle.persist.specs.Image.{AreWords}
use Rattle.persist.specs.declared.access.Change.{Change}
use Rattle.journal.specs.Frame.{Batch, IsBatchIn, frame_of}
use Rattle.persist.specs.Noted.{applied}
use Rattle.journal.specs.Journal.{MayRefuseFrame, End, IsJournal, end_behind, end_of, end_sum, head_of}
use Rattle.journal.specs.Journal.{journal_of, words_after}
use Rattle.journal.proofs.Facts.{end_more, is_journal_anew, is_journal_more, journal_more, length-words_after}
use Rattle.journal_file.specs.Appended.{AppendsPart, HasEither, HasJust, IsAllKept, IsJust}
use Rattle.journal_file.specs.OnDevice.{GoesOn, HasMore, HasNoMore, HasPart, IsAnew, IsLeftThere, IsOf, KeepsAll, OnDevice}

not_both : (b : Bool) → b ≡ false → b ≡ true → ⊥
not_both b low high = false≢true (sym low ∙ high)

-- ---- known bytes

grown : (known : Option (List ℕ)) (text more all : List ℕ) → all ≡ text ++ more → IfSome known (λ bytes. bytes ≡ text) → IfSome (append_known known more) (λ bytes. bytes ≡ all)
grown None text more all is h = tt
grown (Some bytes) text more all is h = ap (λ (xs : List ℕ). xs ++ more) h ∙ sym is

still_lasting : (known : Option (List ℕ)) (more : List ℕ) (kept lasting : ℕ) → IfSome known (λ bytes. kept ≤ lasting) → IfSome (append_known known more) (λ bytes. kept ≤ lasting)
still_lasting None more kept lasting h = tt
still_lasting (Some bytes) more kept lasting h = h

all_lasting : (known : Option (List ℕ)) (text : List ℕ) (kept lasting : ℕ) → IfSome known (λ bytes. bytes ≡ text) → IsAllKept known lasting → kept ≡ length text → IfSome known (λ bytes. kept ≤ lasting)
all_lasting None text kept lasting is all kept_is = tt
all_lasting (Some bytes) text kept lasting is all kept_is = omega (arith, all, kept_is, ap (λ (xs : List ℕ). length xs) is)

-- ---- begun

pub is_begun : (key words : List ℕ) → length key ≡ 8 → AreWords words → IsJournal key words []
is_begun key words long are = record { key_long = long; base_words = are; each_batch = All-nil (IsBatchIn (length words)) }

-- its head took the place, and is kept
pub is_of_head : (key words head : List ℕ) (j : OnDevice) → length key ≡ 8 → AreWords words → head ≡ head_of key words
    → j.words ≡ words → j.end ≡ end_of key words [] → j.size ≡ length head → j.kept ≡ j.size → j.failed ≡ false → HasJust j.appended j.lasting head → IsOf key words [] 0 j
is_of_head key words head j long are head_is same end size kept going has =
    let text : journal_of key words [] ≡ head_of key words = append-nil (head_of key words) in
    let count : j.size ≡ length (journal_of key words []) = size ∙ ap (λ (xs : List ℕ). length xs) (head_is ∙ sym text) in
    let there : IfSome j.appended (λ bytes. bytes ≡ journal_of key words []) =
    subst (λ (xs : List ℕ). IfSome j.appended (λ bytes. bytes ≡ xs)) (head_is ∙ sym text) has.0 in
    record {
      journal = is_begun key words long are;
      words = same;
      size = count;
      some = omega arith;
      kept = kept ∙ count;
      going = λ _. record {
        end = end;
        text = there;
        lasting = all_lasting j.appended (journal_of key words []) j.kept j.lasting there has.1 (kept ∙ count);
      };
      over = λ failed. absurd (not_both j.failed going failed);
    }

-- ---- a batch more

words_more : (batches : List Batch) (batch : Batch) (words : List ℕ) → words_after (batches ++ batch ∷ []) words ≡ applied batch.changes (words_after batches words)
words_more [] batch words = refl
words_more (first ∷ batches) batch words = words_more batches batch (applied first.changes words)

-- the frame of a batch went behind the others
pub record HasAppended (batch : Batch) (old new : OnDevice) : Type 0 where
  pub was : old.failed ≡ false
  pub is : new.failed ≡ false
  pub one : IsBatchIn old.end.size batch
  pub words : new.words ≡ applied batch.changes old.words
  pub end : new.end ≡ end_behind old.end batch
  pub size : new.size ≡ old.size + length (frame_of old.end.key old.end.sum batch)
  pub kept : new.kept ≡ old.kept
  pub appended : new.appended ≡ append_known old.appended (frame_of old.end.key old.end.sum batch)
  pub lasting : new.lasting ≡ old.lasting

-- the frame that goes behind these batches
same_frame : (key base : List ℕ) (batches : List Batch) (batch : Batch) (end : End) → end ≡ end_of key base batches → frame_of end.key end.sum batch ≡ frame_of key (end_sum key base batches) batch
same_frame key base batches batch end is = ap (λ (e : End). frame_of e.key e.sum batch) is

behind : (key base : List ℕ) (batches : List Batch) (batch : Batch) (end : End) → end ≡ end_of key base batches → journal_of key base (batches ++ batch ∷ []) ≡ journal_of key base batches ++ frame_of end.key end.sum batch
behind key base batches batch end is =
    journal_more key base batches batch ∙ ap (λ (xs : List ℕ). journal_of key base batches ++ xs) (sym (same_frame key base batches batch end is))

is_of_more : (key base : List ℕ) (batches : List Batch) (count : ℕ) (batch : Batch) (old new : OnDevice) → HasAppended batch old new → IsOf key base batches count old → IsOf key base (batches ++ batch ∷ []) count new
is_of_more key base batches count batch old new s is =
    let on : GoesOn key base batches old = is.going s.was in
    let text = behind key base batches batch old.end on.end in
    let fits : IsBatchIn (length base) batch = subst (λ (e : End). IsBatchIn e.size batch) on.end s.one in
    record {
      journal = is_journal_more key base batches batch is.journal fits;
      words = s.words ∙ ap (applied batch.changes) is.words ∙ sym (words_more batches batch base);
      size =
          s.size
          ∙ ap (λ (n : ℕ). n + length (frame_of old.end.key old.end.sum batch)) is.size
          ∙ sym (length-append (journal_of key base batches) (frame_of old.end.key old.end.sum batch))
          ∙ ap (λ (xs : List ℕ). length xs) (sym text);
      some = omega (arith, is.some, length-append batches (batch ∷ []));
      kept = s.kept ∙ is.kept ∙ ap (λ (bs : List Batch). length (journal_of key base bs)) (sym (take-append-le count batches (batch ∷ []) is.some));
      going = λ _. record {
        lasting =
            subst (λ (known : Option (List ℕ)). IfSome known (λ bytes. new.kept ≤ new.lasting)) (sym s.appended)
            (still_lasting old.appended (frame_of old.end.key old.end.sum batch) new.kept new.lasting
            (subst (λ (kept : ℕ). IfSome old.appended (λ bytes. kept ≤ new.lasting)) (sym s.kept)
            (subst (λ (lasting : ℕ). IfSome old.appended (λ bytes. old.kept ≤ lasting)) (sym s.lasting) on.lasting)));
        end = s.end ∙ ap (λ (e : End). end_behind e batch) on.end ∙ sym (end_more key base batches batch);
        text =
            subst (λ (known : Option (List ℕ)). IfSome known (λ bytes. bytes ≡ journal_of key base (batches ++ batch ∷ []))) (sym s.appended)
            (grown old.appended (journal_of key base batches) (frame_of old.end.key old.end.sum batch) (journal_of key base (batches ++ batch ∷ [])) text on.text);
      };
      over = λ failed. absurd (not_both new.failed s.is failed);
    }

pub has_more : (batch : Batch) (old new : OnDevice) → HasAppended batch old new → HasMore batch old new
has_more batch old new s key base batches count is = is_of_more key base batches count batch old new s is

-- ---- nothing more

pub nothing_more : (old new : OnDevice) → new ≡ old → HasNoMore old new
nothing_more old new same key base batches count is = subst (λ (j : OnDevice). IsOf key base batches count j) (sym same) is

-- the device failed, and what it is about is as before
pub record HasFailed (old new : OnDevice) : Type 0 where
  pub was : old.failed ≡ false
  pub is : new.failed ≡ true
  pub words : new.words ≡ old.words
  pub size : new.size ≡ old.size
  pub kept : new.kept ≡ old.kept
  pub lasting : new.lasting ≡ old.lasting

has_part : (known : Option (List ℕ)) (key base : List ℕ) (batches : List Batch) (batch : Batch) (frame : List ℕ) (n : ℕ) → IsJournal key base (batches ++ batch ∷ []) → journal_of key base (batches ++ batch ∷ []) ≡ journal_of key base batches ++ frame
    → IfSome known (λ bytes. bytes ≡ journal_of key base batches) → IfSome (append_known known (take n frame)) (HasPart key base batches)
has_part None key base batches batch frame n is text there = tt
has_part (Some bytes) key base batches batch frame n is text there = record {
  more = batch ∷ [];
  one = omega arith;
  journal = is;
  n = length (journal_of key base batches) + n;
  whole = omega arith;
  text =
      ap (λ (xs : List ℕ). xs ++ take n frame) there
      ∙ sym (take-append-add (journal_of key base batches) frame n)
      ∙ ap (λ (xs : List ℕ). take (length (journal_of key base batches) + n) xs) (sym text);
}

has_no_part : (known : Option (List ℕ)) (key base : List ℕ) (batches : List Batch) → IsJournal key base batches
    → IfSome known (λ bytes. bytes ≡ journal_of key base batches) → IfSome known (HasPart key base batches)
has_no_part None key base batches is there = tt
has_no_part (Some bytes) key base batches is there =
    let same : batches ++ [] ≡ batches = append-nil batches in
    record {
      more = [];
      one = omega arith;
      journal = subst (λ (bs : List Batch). IsJournal key base bs) (sym same) is;
      n = length (journal_of key base batches);
      whole = omega arith;
      text =
          there
          ∙ sym (take_all (length (journal_of key base batches)) (journal_of key base batches) (omega arith))
          ∙ ap (λ (bs : List Batch). take (length (journal_of key base batches)) (journal_of key base bs)) (sym same);
    }

-- what is left there, which has what was kept
left_there : (known : Option (List ℕ)) (key base : List ℕ) (batches : List Batch) (j : OnDevice) → IfSome known (HasPart key base batches) → IfSome known (λ bytes. j.kept ≤ j.lasting) → IfSome known (IsLeftThere key base batches j)
left_there None key base batches j part lasting = tt
left_there (Some bytes) key base batches j part lasting = inl (part, lasting)

-- what is of a journal is of one whose storage failed, where this is left
is_of_failed : (key base : List ℕ) (batches : List Batch) (count : ℕ) (old new : OnDevice) → new.failed ≡ true → new.words ≡ old.words → new.size ≡ old.size → new.kept ≡ old.kept → IsOf key base batches count old
    → IfSome new.appended (IsLeftThere key base batches new) → IsOf key base batches count new
is_of_failed key base batches count old new failed words size kept is left = record {
  journal = is.journal;
  words = words ∙ is.words;
  size = size ∙ is.size;
  some = is.some;
  kept = kept ∙ is.kept;
  going = λ going. absurd (not_both new.failed going failed);
  over = λ _. left;
}

-- it has a part more
with_part : (key base : List ℕ) (batches : List Batch) (count : ℕ) (old new : OnDevice) → HasFailed old new → IsOf key base batches count old
    → IfSome new.appended (λ bytes. old.kept ≤ old.lasting) → IfSome new.appended (HasPart key base batches) → IsOf key base batches count new
with_part key base batches count old new s is lasting part =
    is_of_failed key base batches count old new s.is s.words s.size s.kept is
    (left_there new.appended key base batches new part
    (subst (λ (kept : ℕ). IfSome new.appended (λ bytes. kept ≤ new.lasting)) (sym s.kept)
    (subst (λ (lasting : ℕ). IfSome new.appended (λ bytes. old.kept ≤ lasting)) (sym s.lasting) lasting)))

-- an append failed
pub no_more_appended : (batch : Batch) (old new : OnDevice) → HasFailed old new → IsBatchIn old.end.size batch → AppendsPart old.appended new.appended (frame_of old.end.key old.end.sum batch) → HasNoMore old new
no_more_appended batch old new s one part key base batches count is =
    let on : GoesOn key base batches old = is.going s.was in
    let fits : IsBatchIn (length base) batch = subst (λ (e : End). IsBatchIn e.size batch) on.end one in
    with_part key base batches count old new s is
    (subst (λ (known : Option (List ℕ)). IfSome known (λ bytes. old.kept ≤ old.lasting)) (sym part.1) (still_lasting old.appended (take part.0 (frame_of old.end.key old.end.sum batch)) old.kept old.lasting on.lasting))
    (subst (λ (known : Option (List ℕ)). IfSome known (HasPart key base batches)) (sym part.1)
    (has_part old.appended key base batches batch (frame_of old.end.key old.end.sum batch) part.0 (is_journal_more key base batches batch is.journal fits) (behind key base batches batch old.end on.end) on.text))

-- a keep failed
pub no_more_kept : (old new : OnDevice) → HasFailed old new → new.appended ≡ old.appended → HasNoMore old new
no_more_kept old new s same key base batches count is =
    let on : GoesOn key base batches old = is.going s.was in
    with_part key base batches count old new s is
    (subst (λ (known : Option (List ℕ)). IfSome known (λ bytes. old.kept ≤ old.lasting)) (sym same) on.lasting)
    (subst (λ (known : Option (List ℕ)). IfSome known (HasPart key base batches)) (sym same) (has_no_part old.appended key base batches is.journal on.text))

-- ---- another journal was to take the place, and was not seen to

-- the head of the words, under this key, may have taken the place
pub record MayBeAnew (key head : List ℕ) (old new : OnDevice) : Type 0 where
  pub is : new.failed ≡ true
  pub words : new.words ≡ old.words
  pub size : new.size ≡ old.size
  pub kept : new.kept ≡ old.kept
  pub key_long : length key ≡ 8
  pub are : AreWords old.words
  pub head_is : head ≡ head_of key old.words
  pub either : HasEither old.appended old.lasting new.appended new.lasting head

by_cases : (b : Bool) → (b ≡ false) ⊎ (b ≡ true)
by_cases false = inl refl
by_cases true = inr refl

-- what was left stays left
still_left : (key base : List ℕ) (batches : List Batch) (count : ℕ) (old : OnDevice) → IsOf key base batches count old → (old.failed ≡ false) ⊎ (old.failed ≡ true) → IfSome old.appended (IsLeftThere key base batches old)
still_left key base batches count old is (inl going) =
    let on : GoesOn key base batches old = is.going going in
    left_there old.appended key base batches old (has_no_part old.appended key base batches is.journal on.text) on.lasting
still_left key base batches count old is (inr over) = is.over over

left_as_before : (key base : List ℕ) (batches : List Batch) (old new : OnDevice) (known : Option (List ℕ)) → new.words ≡ old.words → new.kept ≡ old.kept → new.lasting ≡ old.lasting → IfSome known (IsLeftThere key base batches old) → IfSome known (IsLeftThere key base batches new)
left_as_before key base batches old new None words kept lasting left = tt
left_as_before key base batches old new (Some bytes) words kept lasting (inl part) = inl (part.0, omega (arith, part.1, kept, lasting))
left_as_before key base batches old new (Some bytes) words kept lasting (inr anew) = inr (subst (λ (ws : List ℕ). IsAnew ws bytes) (sym words) anew)

left_anew : (key base : List ℕ) (batches : List Batch) (other words head : List ℕ) (new : OnDevice) (known : Option (List ℕ)) → length other ≡ 8 → AreWords words → new.words ≡ words → head ≡ head_of other words → IsJust known head → IfSome known (IsLeftThere key base batches new)
left_anew key base batches other words head new None long are same head_is just = tt
left_anew key base batches other words head new (Some bytes) long are same head_is just =
    inr (subst (λ (ws : List ℕ). IsAnew ws bytes) (sym same) (record {
      key = other;
      journal = is_begun other words long are;
      text = just ∙ head_is ∙ sym (append-nil (head_of other words));
    }))

left_of_either : (key base : List ℕ) (batches : List Batch) (count : ℕ) (other head : List ℕ) (old new : OnDevice) (s : MayBeAnew other head old new) → IsOf key base batches count old
    → HasEither old.appended old.lasting new.appended new.lasting head → IfSome new.appended (IsLeftThere key base batches new)
left_of_either key base batches count other head old new s is (inl same) =
    subst (λ (known : Option (List ℕ)). IfSome known (IsLeftThere key base batches new)) (sym same.0)
    (left_as_before key base batches old new old.appended s.words s.kept same.1 (still_left key base batches count old is (by_cases old.failed)))
left_of_either key base batches count other head old new s is (inr just) =
    left_anew key base batches other old.words head new new.appended s.key_long s.are s.words s.head_is just

pub no_more_anew : (key head : List ℕ) (old new : OnDevice) → MayBeAnew key head old new → HasNoMore old new
no_more_anew other head old new s key base batches count is =
    is_of_failed key base batches count old new s.is s.words s.size s.kept is (left_of_either key base batches count other head old new s is s.either)

-- ---- all is kept

pub record HasKept (old new : OnDevice) : Type 0 where
  pub was : old.failed ≡ false
  pub is : new.failed ≡ false
  pub words : new.words ≡ old.words
  pub end : new.end ≡ old.end
  pub size : new.size ≡ old.size
  pub kept : new.kept ≡ old.size
  pub appended : new.appended ≡ old.appended
  pub lasting : IsAllKept new.appended new.lasting

pub keeps_all : (old new : OnDevice) → HasKept old new → KeepsAll old new
keeps_all old new s key base batches count is =
    let on : GoesOn key base batches old = is.going s.was in
    let there : IfSome new.appended (λ bytes. bytes ≡ journal_of key base batches) =
    subst (λ (known : Option (List ℕ)). IfSome known (λ bytes. bytes ≡ journal_of key base batches)) (sym s.appended) on.text in
    let all : take (length batches) batches ≡ batches = take_all (length batches) batches (omega arith) in
    record {
      journal = is.journal;
      words = s.words ∙ is.words;
      size = s.size ∙ is.size;
      some = omega arith;
      kept = s.kept ∙ is.size ∙ ap (λ (bs : List Batch). length (journal_of key base bs)) (sym all);
      going = λ _. record {
        end = s.end ∙ on.end;
        text = there;
        lasting = all_lasting new.appended (journal_of key base batches) new.kept new.lasting there s.lasting (s.kept ∙ is.size);
      };
      over = λ failed. absurd (not_both new.failed s.is failed);
    }

-- ---- its words

-- they are as many as its frames are of
pub size_of_words : (key base : List ℕ) (batches : List Batch) (count : ℕ) (j : OnDevice) → IsOf key base batches count j → j.failed ≡ false → j.end.size ≡ length j.words
size_of_words key base batches count j is going =
    let on : GoesOn key base batches j = is.going going in
    ap (λ (e : End). e.size) on.end ∙ sym (length-words_after batches base) ∙ ap (λ (xs : List ℕ). length xs) (sym is.words)

-- a journal may begin on them
pub words_may_begin : (key base : List ℕ) (batches : List Batch) (count : ℕ) (j : OnDevice) → IsOf key base batches count j → AreWords j.words
words_may_begin key base batches count j is =
    let anew : IsJournal key (words_after batches base) [] = is_journal_anew key base key batches is.journal (is.journal).key_long in
    subst AreWords (sym is.words) anew.base_words

-- ---- the same, of the parts of a journal

abbrev pub on : List ℕ → End → ℕ → ℕ → Option (List ℕ) → ℕ → Bool → OnDevice
on words end size kept appended lasting failed = record {
  words = words;
  end = end;
  size = size;
  kept = kept;
  appended = appended;
  lasting = lasting;
  failed = failed;
}

pub head_done : (key words head : List ℕ) (end : End) (size : ℕ) (known : Option (List ℕ)) (lasting : ℕ) (failed : Bool) → length key ≡ 8 → AreWords words → head ≡ head_of key words
    → end ≡ end_of key words [] → size ≡ length head → failed ≡ false → HasJust known lasting head → IsOf key words [] 0 (on words end size size known lasting failed)
head_done key words head end size known lasting failed long are head_is goes count going has =
    is_of_head key words head (on words end size size known lasting failed) long are head_is refl goes count refl going has

pub keep_failed : (words : List ℕ) (end : End) (size kept : ℕ) (known new_known : Option (List ℕ)) (lasting new_lasting : ℕ) (failed new_failed : Bool) → failed ≡ false → new_failed ≡ true → new_known ≡ known → new_lasting ≡ lasting
    → HasNoMore (on words end size kept known lasting failed) (on words end size kept new_known new_lasting new_failed)
keep_failed words end size kept known new_known lasting new_lasting failed new_failed was is same lasts =
    no_more_kept (on words end size kept known lasting failed) (on words end size kept new_known new_lasting new_failed)
    (record {
      was = was;
      is = is;
      words = refl;
      size = refl;
      kept = refl;
      lasting = lasts;
    })
    same

pub keep_done : (words : List ℕ) (end : End) (size kept : ℕ) (known new_known : Option (List ℕ)) (lasting new_lasting : ℕ) (failed new_failed : Bool) → failed ≡ false → new_failed ≡ false → new_known ≡ known → IsAllKept new_known new_lasting
    → KeepsAll (on words end size kept known lasting failed) (on words end size size new_known new_lasting new_failed)
keep_done words end size kept known new_known lasting new_lasting failed new_failed was is same lasts =
    keeps_all (on words end size kept known lasting failed) (on words end size size new_known new_lasting new_failed)
    (record {
      was = was;
      is = is;
      words = refl;
      end = refl;
      size = refl;
      kept = refl;
      appended = same;
      lasting = lasts;
    })

frame_alone : (bytes out before frame : List ℕ) → bytes ≡ out → out ≡ before ++ frame → before ≡ [] → bytes ≡ frame
frame_alone bytes out before frame same grew empty = same ∙ grew ∙ ap (λ (xs : List ℕ). xs ++ frame) empty

-- what words are that were written in place
pub written : (len : ℕ) (items new made : List ℕ) → len ≡ length items → length made ≡ length items → new ≡ made → take len (new ++ drop (length new) items) ≡ made
written len items new made long same is =
    take_at new (drop (length new) items) len (ap (λ (xs : List ℕ). length xs) is ∙ same ∙ sym long) ∙ is

pub append_failed : (batch : Batch) (words : List ℕ) (end new_end : End) (size kept : ℕ) (known new_known : Option (List ℕ)) (lasting new_lasting : ℕ) (failed new_failed : Bool) (bytes out before : List ℕ)
    → failed ≡ false → new_failed ≡ true → new_lasting ≡ lasting → IsBatchIn end.size batch → bytes ≡ out → out ≡ before ++ frame_of end.key end.sum batch → before ≡ [] → AppendsPart known new_known bytes
    → HasNoMore (on words end size kept known lasting failed) (on words new_end size kept new_known new_lasting new_failed)
append_failed batch words end new_end size kept known new_known lasting new_lasting failed new_failed bytes out before was is lasts one bytes_are grew empty part =
    no_more_appended batch (on words end size kept known lasting failed) (on words new_end size kept new_known new_lasting new_failed)
    (record {
      was = was;
      is = is;
      words = refl;
      size = refl;
      kept = refl;
      lasting = lasts;
    })
    one (subst (λ (xs : List ℕ). AppendsPart known new_known xs) (frame_alone bytes out before (frame_of end.key end.sum batch) bytes_are grew empty) part)

pub append_done : (batch : Batch) (words new_words : List ℕ) (end new_end : End) (size new_size kept : ℕ) (known new_known : Option (List ℕ)) (lasting new_lasting : ℕ) (failed new_failed : Bool) (bytes out before : List ℕ)
    → failed ≡ false → new_failed ≡ false → new_lasting ≡ lasting → IsBatchIn end.size batch → bytes ≡ out → out ≡ before ++ frame_of end.key end.sum batch → before ≡ [] → new_known ≡ append_known known bytes
    → new_words ≡ applied batch.changes words → new_end ≡ end_behind end batch → new_size ≡ size + length bytes
    → HasMore batch (on words end size kept known lasting failed) (on new_words new_end new_size kept new_known new_lasting new_failed)
append_done batch words new_words end new_end size new_size kept known new_known lasting new_lasting failed new_failed bytes out before was is lasts one bytes_are grew empty grown_by changed goes longer =
    let frame_is : bytes ≡ frame_of end.key end.sum batch = frame_alone bytes out before (frame_of end.key end.sum batch) bytes_are grew empty in
    has_more batch (on words end size kept known lasting failed) (on new_words new_end new_size kept new_known new_lasting new_failed)
    (record {
      was = was;
      is = is;
      one = one;
      words = changed;
      end = goes;
      size = longer ∙ ap (λ (xs : List ℕ). size + length xs) frame_is;
      kept = refl;
      appended = grown_by ∙ ap (append_known known) frame_is;
      lasting = lasts;
    })

-- ---- why a frame is refused

pub refused : (e : Refusal) (changes : List Change) (size : ℕ) (words : List ℕ) (Over Full Same : Type 0) → size ≡ length words → Same
    → MayRefuseFrame size changes e → Over ⊎ Full ⊎ MayRefuseFrame (length words) changes e × Same
refused e changes size words Over Full Same is same may = inr (inr (subst (λ (n : ℕ). MayRefuseFrame n changes e) is may, same))

-- a place that is still this one's has what it had
pub confirmed : (words : List ℕ) (end : End) (size kept : ℕ) (known new_known : Option (List ℕ)) (lasting new_lasting : ℕ) (failed new_failed : Bool) → failed ≡ false → new_failed ≡ false → new_known ≡ known → new_lasting ≡ lasting
    → HasNoMore (on words end size kept known lasting failed) (on words end size kept new_known new_lasting new_failed)
confirmed words end size kept known new_known lasting new_lasting failed new_failed was is same lasts key base batches count of =
    rw (same, lasts, is, sym was) of
