-- Bytes that are read are a journal and a tail.
use Rattle.std.proofs.Common.{◌≡◌, ℕ, List, ◌++◌, Result, Ok, Err, length, refl, sym, ap, ◌∙◌, subst}
use Rattle.std.proofs.lemmas.List.{append_assoc}
use Rattle.persist.specs.Image.{AreBytes}
use Rattle.journal.specs.declared.fault.Fault.{Fault}
use Rattle.journal.specs.Frame.{Batch, frames_of, last_sum}
use Rattle.journal.specs.Journal.{head_front, head_sum}
use Rattle.journal.specs.Reading.{Head, Read, Replay, goes_on, head_reading, read_of, read_on, reading, replay}
use Rattle.journal.specs.Stops.{IsReadOf}
use Rattle.journal.proofs.FramesWritten.{IsReplayOf, replay_is_of}
use Rattle.journal.proofs.Heads.{has_head}
use Rattle.journal.proofs.HeadsWritten.{IsHeadOf, head_is_of}

-- what a head was read as
record ReadOn (found : Result Head Fault) (r : Read) : Type 0 where
  head : Head
  is : found ≡ Ok head
  read : read_of head.key (replay head.key head.sum head.words head.rest) ≡ r

abbrev as_read : Read → Result Read Fault
as_read r = Ok r

same_read : (q r : Read) → as_read q ≡ Ok r → q ≡ r
same_read q r is = cc

read_parts : (found : Result Head Fault) (r : Read) → read_on found ≡ Ok r → ReadOn found r
read_parts (Err fault) r is = absurd cc
read_parts (Ok head) r is = record { head = head; is = refl; read = same_read (read_of head.key (replay head.key head.sum head.words head.rest)) r is }

-- the journal and the tail that were found
record Found (bytes : List ℕ) (r : Read) : Type 0 where
  base : List ℕ
  batches : List Batch
  tail : List ℕ
  is : IsReadOf bytes r base batches tail

read_is_of : (bytes : List ℕ) (h : Head) → IsHeadOf bytes h → IsReplayOf h.key h.sum h.words h.rest (replay h.key h.sum h.words h.rest) → Found bytes (read_of h.key (replay h.key h.sum h.words h.rest))
read_is_of bytes h of frames =
    let after : Replay = replay h.key h.sum h.words h.rest in
    record {
      base = h.words;
      batches = frames.batches;
      tail = after.tail;
      is = record {
        journal = record { key_long = of.long; base_words = of.words; each_batch = frames.each };
        text =
            sym of.text
            ∙ ap (λ (xs : List ℕ). head_front h.key h.words ++ (head_sum h.key h.words ++ xs)) (sym frames.text)
            ∙ ap (λ (s : List ℕ). head_front h.key h.words ++ (head_sum h.key h.words ++ (frames_of h.key s frames.batches ++ after.tail))) of.sum
            ∙ sym (append_assoc (head_front h.key h.words) (head_sum h.key h.words) (frames_of h.key (head_sum h.key h.words) frames.batches ++ after.tail))
            ∙ sym (append_assoc (head_front h.key h.words ++ head_sum h.key h.words) (frames_of h.key (head_sum h.key h.words) frames.batches) after.tail);
        words = frames.made;
        cut = refl;
        torn = ap (λ (s : List ℕ). goes_on h.key (last_sum h.key s frames.batches) (length h.words) after.tail) (sym of.sum) ∙ frames.torn;
      };
    }

pub only_journals : (bytes : List ℕ) (r : Read) → AreBytes bytes → reading bytes ≡ Ok r → (base : List ℕ) × (batches : List Batch) × (tail : List ℕ) × IsReadOf bytes r base batches tail
only_journals bytes r are is =
    let parts : ReadOn (head_reading bytes) r = read_parts (head_reading bytes) r is in
    let of : IsHeadOf bytes parts.head = head_is_of bytes parts.head are (has_head bytes parts.head parts.is) in
    let frames = replay_is_of parts.head.key parts.head.sum parts.head.words parts.head.rest of.rest in
    let found : Found bytes r = subst (Found bytes) parts.read (read_is_of bytes parts.head of frames) in
    (found.base, found.batches, found.tail, found.is)
