-- Between two reads.
use Rattle.std.proofs.Common.{◌≡◌, ℕ, Bool, true, false, List, [], ◌++◌, take, drop, Option, Some, None, refl, sym, ap, subst, ◌∙◌, append_assoc}
use Rattle.std.proofs.lemmas.List.{append-nil, nil_from_length}
use Rattle.std.specs.Io.KnownBytes.{Consumes, IsAtEnd}
use Rattle.engine.specs.declared.lines.Progress.TheVariants.{Replied, Stopped}
use Rattle.engine.specs.declared.reply.Reply.{Reply}
use Rattle.engine.specs.Input.{Gains}
use Rattle.engine.specs.Lines.{lines_of, last_line_of, HasNoNewline, ended_lines}
use Rattle.engine.specs.Replies.{Meaning, Served, made_of}
use Rattle.engine.specs.Handled.{Handled, RepliesTo, RepliesAsFar, RepliesUntilFault}
use Rattle.engine.specs.Serving.{Answers, IsInputOf, Serves, ServesWhatWasRead}
use Rattle.engine.proofs.Fitting.{Answers-append, Answers-stopped, Answers-some, made_of-append}
use Rattle.engine.proofs.Handling.{both_handled}
use Rattle.engine.proofs.Long.{handled_whole, last_whole}
use Rattle.engine.proofs.Newlines.{HasNoNewline-take}
use Rattle.engine.proofs.Replying.{none_replied}
use Rattle.engine.proofs.WholeLines.{lines_of-ended, lines_of-last}

-- what a reader that tells its bytes has left
consumed : (left left_after : Option (List ℕ)) (unread piece : List ℕ) → left ≡ Some unread → Consumes left left_after piece
    → (after : List ℕ) × (left_after ≡ Some after) × (unread ≡ piece ++ after)
consumed left None unread piece e p = absurd (subst (λ (o : Option (List ℕ)). Consumes o None piece) e p)
consumed left (Some after) unread piece e p = (after, refl, subst (λ (o : Option (List ℕ)). Consumes o (Some after) piece) e p)

-- the lines that ended have their replies, which were written, and of the line that did not the first bytes are held
pub record IsBetween (m : Meaning) (input held : List ℕ) (left : Option (List ℕ)) (old now : Served)
    (W : List Reply → Type 0) : Type 0 where
  pub part : List ℕ
  pub unread : List ℕ
  pub left_is : left ≡ Some unread
  pub one : HasNoNewline part
  pub held_is : held ≡ take 513 part
  pub replied : RepliesTo m false input (part ++ unread) old now W

pub begun : (m : Meaning) (input held : List ℕ) (left : Option (List ℕ)) (served : Served) (W : List Reply → Type 0)
    → held ≡ [] → left ≡ Some input → W [] → IsBetween m input held left served served W
begun m input held left served W none e w = record {
  part = [];
  unread = input;
  left_is = e;
  one = tt;
  held_is = none;
  replied = none_replied m input served W w;
}

pub read_failed : (m : Meaning) (input held unread : List ℕ) (left_after : Option (List ℕ)) (old now : Served)
    (W : List Reply → Type 0) → IsBetween m input held (Some unread) old now W → IsInputOf left_after unread
    → ServesWhatWasRead m input left_after old now W
read_failed m input held unread left_after old now W b its =
    let same : unread ≡ b.unread = cc (b.left_is) in
    record { part = b.part; unread = b.unread; left_is = subst (IsInputOf left_after) same its; one = b.one; replied = b.replied }

-- a piece more was read, and it was replied to
record Joined (m : Meaning) (stopped : Bool) (input rest : List ℕ) (left : Option (List ℕ)) (replies : List Reply) : Type 0 where
  part : List ℕ
  unread : List ℕ
  left_is : left ≡ Some unread
  kept_is : take 513 part ≡ take 513 rest
  one : HasNoNewline rest → HasNoNewline part
  handled : Handled m stopped input (part ++ unread) replies

module _ (m : Meaning) (input held held_after : List ℕ) (n : ℕ) (left left_after : Option (List ℕ)) (old mid : Served)
    (W : List Reply → Type 0) (b : IsBetween m input held left old mid W)
    (gains : Gains n held held_after left left_after) where
  joined : (stopped : Bool) (rest : List ℕ) (replies : List Reply) → Handled m stopped held_after rest replies
      → Joined m stopped input rest left_after (b.replied.replies ++ replies)
  joined stopped rest replies h =
      let c = consumed left left_after b.unread gains.piece b.left_is gains.consumed in
      let bytes : held_after ≡ take 513 b.part ++ gains.piece = gains.gained ∙ ap (λ (xs : List ℕ). xs ++ gains.piece) b.held_is in
      let whole =
      handled_whole m stopped b.part gains.piece rest replies b.one (HasNoNewline-take 513 b.part b.one)
      (subst (λ (xs : List ℕ). Handled m stopped xs rest replies) bytes h) in
      let front =
      subst (λ (xs : List ℕ). Handled m false input xs b.replied.replies)
      (ap (λ (xs : List ℕ). b.part ++ xs) c.2 ∙ sym (append_assoc b.part gains.piece c.0)) b.replied.handled in
      record {
        part = whole.left;
        unread = c.0;
        left_is = c.1;
        kept_is = whole.kept;
        one = whole.one;
        handled = both_handled m stopped input (b.part ++ gains.piece) whole.left c.0 b.replied.replies replies front whole.handled;
      }

  both_served : (new : Served) (replies : List Reply) → new ≡ mid ++ made_of replies → new ≡ old ++ made_of (b.replied.replies ++ replies)
  both_served new replies e =
      e ∙ ap (λ (xs : Served). xs ++ made_of replies) b.replied.served ∙ append_assoc old (made_of b.replied.replies) (made_of replies)
      ∙ ap (λ (xs : Served). old ++ xs) (sym (made_of-append b.replied.replies replies))

  -- what is known of the replies so far, with what is known of those to this piece
  module _ (new : Served) (V U : List Reply → Type 0)
      (more : (rs ss : List Reply) → mid ≡ old ++ made_of rs → W rs → V ss → U (rs ++ ss)) where
    both_written : (replies : List Reply) → V replies → U (b.replied.replies ++ replies)
    both_written replies p = more b.replied.replies replies b.replied.served b.replied.written p

    pub went_on : (used : ℕ) → RepliesAsFar m (Replied used) held_after mid new V
        → IsBetween m input (take 513 (drop used held_after)) left_after old new U
    went_on used p =
        let r = p.2 in
        let j = joined false (drop used held_after) r.replies r.handled in
        record {
          part = j.part;
          unread = j.unread;
          left_is = j.left_is;
          one = j.one p.1;
          held_is = sym j.kept_is;
          replied = record {
            replies = b.replied.replies ++ r.replies;
            handled = j.handled;
            written = both_written r.replies r.written;
            served = both_served new r.replies r.served;
          };
        }

    pub stopped : RepliesAsFar m Stopped held_after mid new V → Serves m true (lines_of input) old new U
    stopped p =
        let r = p.1 in
        let j = joined true p.0 r.replies r.handled in
        let h = j.handled in
        let behind = j.part ++ j.unread in
        let lines : lines_of input ≡ h.lines ++ lines_of behind = ap lines_of h.parts ∙ lines_of-ended h.lines behind h.are_lines in
        record {
          replies = b.replied.replies ++ r.replies;
          answers =
              subst (λ (xs : List (List ℕ)). Answers m true xs (b.replied.replies ++ r.replies)) (sym lines)
              (Answers-stopped m h.lines (lines_of behind) (b.replied.replies ++ r.replies) h.fit);
          written = both_written r.replies r.written;
          served = both_served new r.replies r.served;
        }

    pub broken : RepliesUntilFault m held_after mid new V → Serves m false (lines_of input) old new U
    broken p =
        let r = p.2 in
        let j = joined p.0 p.1 r.replies r.handled in
        let h = j.handled in
        let behind = j.part ++ j.unread in
        let lines : lines_of input ≡ h.lines ++ lines_of behind = ap lines_of h.parts ∙ lines_of-ended h.lines behind h.are_lines in
        record {
          replies = b.replied.replies ++ r.replies;
          answers =
              subst (λ (xs : List (List ℕ)). Answers m false xs (b.replied.replies ++ r.replies)) (sym lines)
              (Answers-some m p.0 h.lines (lines_of behind) (b.replied.replies ++ r.replies) h.fit);
          written = both_written r.replies r.written;
          served = both_served new r.replies r.served;
        }

  -- the input has come to its end
  module _ (at_end : n ≡ 0) where
    nothing : gains.piece ≡ []
    nothing = nil_from_length gains.piece (gains.count ∙ at_end)

    last_held : held_after ≡ take 513 b.part
    last_held = gains.gained ∙ ap (λ (xs : List ℕ). held ++ xs) nothing ∙ append-nil held ∙ b.held_is

    no_more : b.unread ≡ []
    no_more =
        let c = consumed left left_after b.unread gains.piece b.left_is gains.consumed in
        let none : c.0 ≡ [] = subst IsAtEnd c.1 (gains.none at_end) in
        c.2 ∙ ap (λ (xs : List ℕ). xs ++ c.0) nothing ∙ none

    all_lines : lines_of input ≡ b.replied.handled.lines ++ last_line_of b.part
    all_lines =
        let h = b.replied.handled in
        let behind : b.part ++ b.unread ≡ b.part = ap (λ (xs : List ℕ). b.part ++ xs) no_more ∙ append-nil b.part in
        ap lines_of (h.parts ∙ ap (λ (xs : List ℕ). ended_lines h.lines ++ xs) behind) ∙ lines_of-ended h.lines b.part h.are_lines
        ∙ ap (λ (xs : List (List ℕ)). h.lines ++ xs) (lines_of-last b.part b.one)

    all_answers : (whole : Bool) (replies : List Reply) → Answers m whole (last_line_of held_after) replies
        → Answers m whole (lines_of input) (b.replied.replies ++ replies)
    all_answers whole replies p =
        let h = b.replied.handled in
        let last = last_whole m whole b.part replies (subst (λ (xs : List ℕ). Answers m whole (last_line_of xs) replies) last_held p) in
        subst (λ (xs : List (List ℕ)). Answers m whole xs (b.replied.replies ++ replies)) (sym all_lines)
        (Answers-append m whole h.lines (last_line_of b.part) b.replied.replies replies h.fit last)

    pub ended : (whole : Bool) (new : Served) (V U : List Reply → Type 0)
        → ((rs ss : List Reply) → mid ≡ old ++ made_of rs → W rs → V ss → U (rs ++ ss))
        → Serves m whole (last_line_of held_after) mid new V → Serves m whole (lines_of input) old new U
    ended whole new V U more p =
        record {
          replies = b.replied.replies ++ p.replies;
          answers = all_answers whole p.replies p.answers;
          written = both_written new V U more p.replies p.written;
          served = both_served new p.replies p.served;
        }
