-- The text of each answer is the compact text of its object, and is read as that object.
use Rattle.std.proofs.Common.{◌≡◌, ◌∙◌, ◌<◌, ◌≤◌, ◌^◌, ℕ, false, List, [], ◌∷◌, ◌++◌, Some, None, refl, sym, ap, append_assoc, arith, IsUtf8}
use Rattle.std.specs.Prelude.{map}
use Rattle.std.specs.List.{join_with_byte}
use Rattle.std.proofs.lemmas.Bool.Decides.{nat_tests}
use Rattle.json.specs.Print.{escape, escape_byte}
use Rattle.hex.specs.Hex.{encode_lower}
use Rattle.json.proofs.Printed.Utf8.{IsUtf8-are_ascii}
use Rattle.serde_json.specs.Data.{depth, items_depth, object}
use Rattle.serde_json.specs.Read.{max_depth, read}
use Rattle.serde_json.specs.Written.{compact_text, items_text}
use Rattle.words.specs.Refusal.{code_of, name_of}
use Rattle.words.specs.declared.call.Kind.{Kind}
use Rattle.words.specs.declared.call.Kind.TheVariants.{Durable, Log}
use Rattle.words.specs.declared.call.Reply.{Reply}
use Rattle.words.specs.declared.call.Reply.TheVariants as reply
use Rattle.words.specs.declared.refusal.Refusal.{Refusal}
use Rattle.words.specs.declared.refusal.Refusal.TheVariants as refusal
use Rattle.words.specs.declared.told.Outcome.{Outcome}
use Rattle.words.specs.declared.told.Outcome.TheVariants.{NotTaken, Taken}
use Rattle.words.specs.declared.told.Row.{Row}
use Rattle.words.specs.declared.told.Row.TheVariants as row
use Rattle.words.specs.declared.told.Told.{Told}
use Rattle.words.specs.declared.told.Told.TheVariants as told
use Rattle.words.proofs.Facts.{digits_text}
use Rattle.directory.specs.Directory.{Directory}
use Rattle.directory.specs.Name.{IsName}
use Rattle.directory.specs.declared.queue.Queue.{Queue}
use Rattle.wire.specs.Kinds.{kind_text}
use Rattle.wire.specs.declared.answer.Answer.{Answer}
use Rattle.wire.specs.declared.answer.Answer.TheVariants as answer
use Rattle.replies.specs.Texts.{answer_text, outcome_text, queue_text, queue_texts}
use Rattle.requests.proofs.Facts.{AreItemsPlain, IsPlain, read-compact_text}
use Rattle.reply_objects.specs.Objects.{AreNames, FitsOutcome, FitsReply, FitsTold, IsOfServer, MayBeWritten, object_of}
use Rattle.reply_objects.specs.Objects.{outcome_members, queue_items, queue_object, queues_in}
use Rattle.reply_objects.proofs.Escaping.{name_plain, name_utf8, value_plain}

-- a text with its closing quote, and what comes behind it
closing : (text rest : List ℕ) → (text ++ 34 ∷ []) ++ rest ≡ text ++ 34 ∷ rest
closing text rest = append_assoc text (34 ∷ []) rest

abbrev IsItsText : Answer → Type 0
IsItsText a = answer_text a ≡ compact_text (object_of a)

-- the name of a refusal stands in a JSON string as it is
refusal_plain : (r : Refusal) → escape (name_of r) ≡ name_of r
unfolding escape_byte
refusal_plain refusal.NoWord = refl
refusal_plain _ = refl

reply_written : (r : Reply) → FitsReply r → IsItsText (answer.Reply r)
unfolding escape_byte
reply_written reply.Done fits = refl
reply_written (reply.Got value) fits = rw (value_plain value fits, closing (encode_lower value)) refl
reply_written reply.Empty fits = refl

row_written : (r : Row) → FitsTold (told.Row r) → IsItsText (answer.Told (told.Row r))
unfolding escape_byte
row_written row.NoCall fits = refl
row_written row.Open fits = refl
row_written row.Empty fits = refl
row_written (row.Got value) fits = rw (value_plain value fits, closing (encode_lower value)) refl

outcome_written : (n : ℕ) (o : Outcome) → FitsOutcome o
    → outcome_text n o ≡ compact_text (object (outcome_members n o))
unfolding escape_byte
outcome_written n NotTaken fits = refl
outcome_written n (Taken reply.Done) fits = refl
outcome_written n (Taken reply.Empty) fits = refl
outcome_written n (Taken (reply.Got value)) fits =
    rw (value_plain value fits, closing (encode_lower value), closing (encode_lower value)) (simp append_assoc refl)

told_written : (t : Told) → FitsTold t → IsItsText (answer.Told t)
unfolding escape_byte
told_written told.None fits = refl
told_written (told.Verdict verdict) fits = outcome_written verdict.number verdict.outcome fits.1
told_written (told.Row r) fits = row_written r fits

refusal_written : (r : Refusal) → IsOfServer r → IsItsText (answer.Refused r)
unfolding escape_byte
refusal_written r fits = rw (refusal_plain r, closing (name_of r)) (simp append_assoc refl)

texts_of : (places : Directory) → queue_texts places ≡ map queue_text (queues_in places)
texts_of [] = refl
texts_of (None ∷ places) = texts_of places
texts_of (Some queue ∷ places) = ap (λ (texts : List (List ℕ)). queue_text queue ∷ texts) (texts_of places)

named_written : (name : List ℕ) (kind : Kind) → IsName name
    → queue_text (record { name = name; kind = kind }) ≡ compact_text (queue_object (record { name = name; kind = kind }))
unfolding escape_byte
named_written name Durable fits = rw (name_plain name fits, closing name) (simp append_assoc refl)
named_written name Log fits = rw (name_plain name fits, closing name) (simp append_assoc refl)

queue_written : (queue : Queue) → AreNames (queue ∷ []) → queue_text queue ≡ compact_text (queue_object queue)
queue_written queue fits = named_written queue.name queue.kind fits.0

items_written : (queues : List Queue) → AreNames queues
    → items_text false (queue_items queues) ≡ join_with_byte 44 (map queue_text queues) ++ 93 ∷ []
unfolding escape_byte
items_written [] fits = refl
items_written (queue ∷ []) fits = ap (λ (t : List ℕ). t ++ 93 ∷ []) (sym (queue_written queue (fits.0, tt)))
items_written (queue ∷ next ∷ more) fits =
    let joined : List ℕ = join_with_byte 44 (map queue_text (next ∷ more)) in
    ap (λ (rest : List ℕ). compact_text (queue_object queue) ++ 44 ∷ rest) (items_written (next ∷ more) fits.1)
    ∙ (ap (λ (t : List ℕ). t ++ 44 ∷ (joined ++ 93 ∷ [])) (sym (queue_written queue (fits.0, tt)))
    ∙ sym (append_assoc (queue_text queue) (44 ∷ joined) (93 ∷ [])))

queues_written : (places : Directory) → AreNames (queues_in places) → IsItsText (answer.Queues places)
unfolding escape_byte
queues_written places fits =
    rw (texts_of places, items_written (queues_in places) fits) (simp (append_assoc, closing) refl)

plain_written : (a : Answer) → MayBeWritten a → IsItsText a
unfolding escape_byte
plain_written (answer.Created slot) fits = refl
plain_written (answer.Queues places) fits = queues_written places fits
plain_written (answer.Reply r) fits = reply_written r fits
plain_written answer.Interrupted fits = refl
plain_written answer.Unfinished fits = refl
plain_written (answer.Told t) fits = told_written t fits
plain_written answer.Crashed fits = refl
plain_written answer.Ready fits = refl
plain_written answer.Stopping fits = refl
plain_written (answer.Refused r) fits = refusal_written r fits

pub written : (a : Answer) → MayBeWritten a → answer_text a ≡ compact_text (object_of a)
written a fits = plain_written a fits

-- its texts are texts, its numbers fit, and its keys are in order
reply_plain : (r : Reply) → FitsReply r → IsPlain (object_of (answer.Reply r))
reply_plain reply.Done fits = ((IsUtf8-are_ascii _ refl, IsUtf8-are_ascii _ refl, tt), refl)
reply_plain (reply.Got value) fits =
    ((IsUtf8-are_ascii _ refl, digits_text value, (IsUtf8-are_ascii _ refl, IsUtf8-are_ascii _ refl, tt)), refl)
reply_plain reply.Empty fits = ((IsUtf8-are_ascii _ refl, IsUtf8-are_ascii _ refl, tt), refl)

row_plain : (r : Row) → IsPlain (object_of (answer.Told (told.Row r)))
row_plain row.NoCall = ((IsUtf8-are_ascii _ refl, IsUtf8-are_ascii _ refl, tt), refl)
row_plain row.Open = ((IsUtf8-are_ascii _ refl, IsUtf8-are_ascii _ refl, tt), refl)
row_plain row.Empty = ((IsUtf8-are_ascii _ refl, IsUtf8-are_ascii _ refl, tt), refl)
row_plain (row.Got value) =
    ((IsUtf8-are_ascii _ refl, digits_text value, (IsUtf8-are_ascii _ refl, IsUtf8-are_ascii _ refl, tt)), refl)

outcome_plain : (n : ℕ) (o : Outcome) → n < 2 ^ 64 → IsPlain (object (outcome_members n o))
outcome_plain n NotTaken fits =
    ((IsUtf8-are_ascii _ refl, fits, (IsUtf8-are_ascii _ refl, IsUtf8-are_ascii _ refl, tt)), refl)
outcome_plain n (Taken reply.Done) fits = (
  (
    IsUtf8-are_ascii _ refl,
    fits,
    (
      IsUtf8-are_ascii _ refl,
      IsUtf8-are_ascii _ refl,
      (IsUtf8-are_ascii _ refl, IsUtf8-are_ascii _ refl, tt),
    ),
  ),
  refl,
)
outcome_plain n (Taken reply.Empty) fits = (
  (
    IsUtf8-are_ascii _ refl,
    fits,
    (
      IsUtf8-are_ascii _ refl,
      IsUtf8-are_ascii _ refl,
      (IsUtf8-are_ascii _ refl, IsUtf8-are_ascii _ refl, tt),
    ),
  ),
  refl,
)
outcome_plain n (Taken (reply.Got value)) fits = (
  (
    IsUtf8-are_ascii _ refl,
    digits_text value,
    (
      IsUtf8-are_ascii _ refl,
      fits,
      (
        IsUtf8-are_ascii _ refl,
        IsUtf8-are_ascii _ refl,
        (IsUtf8-are_ascii _ refl, IsUtf8-are_ascii _ refl, tt),
      ),
    ),
  ),
  refl,
)

told_plain : (t : Told) → FitsTold t → IsPlain (object_of (answer.Told t))
told_plain told.None fits = ((IsUtf8-are_ascii _ refl, IsUtf8-are_ascii _ refl, tt), refl)
told_plain (told.Verdict verdict) fits = outcome_plain verdict.number verdict.outcome fits.0
told_plain (told.Row r) fits = row_plain r

code_fits : (r : Refusal) → IsOfServer r → (code_of r < 2 ^ 64) × IsUtf8 (name_of r)
code_fits (refusal.BadLine line) fits = absurd fits
code_fits (refusal.Damaged rule) fits = absurd fits
code_fits _ fits = (omega arith, IsUtf8-are_ascii _ refl)

kind_utf8 : (kind : Kind) → IsUtf8 (kind_text kind)
kind_utf8 Durable = IsUtf8-are_ascii _ refl
kind_utf8 Log = IsUtf8-are_ascii _ refl

queues_plain : (queues : List Queue) → AreNames queues → AreItemsPlain (queue_items queues)
queues_plain [] fits = tt
queues_plain (queue ∷ more) fits = (
  ((IsUtf8-are_ascii _ refl, kind_utf8 queue.kind, (IsUtf8-are_ascii _ refl, name_utf8 queue.name fits.0, tt)), refl),
  queues_plain more fits.1,
)

plain : (a : Answer) → MayBeWritten a → IsPlain (object_of a)
plain (answer.Created slot) fits =
    ((IsUtf8-are_ascii _ refl, IsUtf8-are_ascii _ refl, (IsUtf8-are_ascii _ refl, fits, tt)), refl)
plain (answer.Queues places) fits = ((IsUtf8-are_ascii _ refl, queues_plain (queues_in places) fits, tt), refl)
plain (answer.Reply r) fits = reply_plain r fits
plain answer.Interrupted fits = ((IsUtf8-are_ascii _ refl, IsUtf8-are_ascii _ refl, tt), refl)
plain answer.Unfinished fits = ((IsUtf8-are_ascii _ refl, IsUtf8-are_ascii _ refl, tt), refl)
plain (answer.Told t) fits = told_plain t fits
plain answer.Crashed fits = ((IsUtf8-are_ascii _ refl, IsUtf8-are_ascii _ refl, tt), refl)
plain answer.Ready fits = ((IsUtf8-are_ascii _ refl, IsUtf8-are_ascii _ refl, tt), refl)
plain answer.Stopping fits = ((IsUtf8-are_ascii _ refl, IsUtf8-are_ascii _ refl, tt), refl)
plain (answer.Refused r) fits =
    let code = code_fits r fits in
    ((IsUtf8-are_ascii _ refl, code.0, (IsUtf8-are_ascii _ refl, code.1, tt)), refl)

-- it nests three deep at most
queues_shallow : (queues : List Queue) → items_depth (queue_items queues) ≤ 1
queues_shallow [] = omega arith
queues_shallow (queue ∷ more) = let rest = queues_shallow more in grind (arith, nat_tests, rest)

outcome_shallow : (n : ℕ) (o : Outcome) → depth (object (outcome_members n o)) ≤ max_depth
outcome_shallow n NotTaken = omega arith
outcome_shallow n (Taken reply.Done) = omega arith
outcome_shallow n (Taken reply.Empty) = omega arith
outcome_shallow n (Taken (reply.Got value)) = omega arith

shallow : (a : Answer) → depth (object_of a) ≤ max_depth
shallow (answer.Created slot) = omega arith
shallow (answer.Queues places) = let inside = queues_shallow (queues_in places) in grind (arith, nat_tests, inside)
shallow (answer.Reply reply.Done) = omega arith
shallow (answer.Reply (reply.Got value)) = omega arith
shallow (answer.Reply reply.Empty) = omega arith
shallow answer.Interrupted = omega arith
shallow answer.Unfinished = omega arith
shallow (answer.Told told.None) = omega arith
shallow (answer.Told (told.Verdict verdict)) = outcome_shallow verdict.number verdict.outcome
shallow (answer.Told (told.Row row.NoCall)) = omega arith
shallow (answer.Told (told.Row row.Open)) = omega arith
shallow (answer.Told (told.Row row.Empty)) = omega arith
shallow (answer.Told (told.Row (row.Got value))) = omega arith
shallow answer.Crashed = omega arith
shallow answer.Ready = omega arith
shallow answer.Stopping = omega arith
shallow (answer.Refused r) = omega arith

pub read_again : (a : Answer) → MayBeWritten a → read (answer_text a) ≡ Some (object_of a)
read_again a fits = ap read (written a fits) ∙ read-compact_text (object_of a) (plain a fits) (shallow a)
