-- What was read, of a reader whose bytes may not be known: whatever may come behind it, its lines have their replies.
use Rattle.std.proofs.Common.{◌≡◌, ◌≢◌, ℕ, Bool, true, false, List, [], ◌++◌, take, drop, Option, Some, None, refl, sym, subst, append_assoc}
use Rattle.std.proofs.KnownBytes.{Consumes-kept, Consumes-nil, Consumes-trans}
use Rattle.std.specs.Io.KnownBytes.{Consumes, Keeps, IsAtEnd}
use Rattle.engine.specs.declared.lines.Progress.TheVariants.{Replied, Stopped}
use Rattle.engine.specs.Input.{Gains}
use Rattle.engine.specs.Lines.{lines_of, last_line_of}
use Rattle.engine.specs.declared.reply.Reply.{Reply}
use Rattle.engine.specs.Replies.{Meaning, Served, made_of}
use Rattle.engine.specs.Handled.{RepliesAsFar, RepliesUntilFault}
use Rattle.engine.specs.Serving.{HasInput, IsInputOf, Serves, ServesWhatWasRead}
use Rattle.engine.proofs.Between.{IsBetween, begun, broken, ended, read_failed, stopped, went_on}

-- what a reader has left that tells its bytes, and of another nothing
rest_of : Option (List ℕ) → List ℕ
rest_of (Some rest) = rest
rest_of None = []

rest_is : (now : Option (List ℕ)) → IsInputOf now (rest_of now)
unfolding rest_of
rest_is (Some rest) = refl
rest_is None = tt

no_rest : (now : Option (List ℕ)) → IsAtEnd now → rest_of now ≡ []
unfolding rest_of
no_rest (Some rest) none = none
no_rest None none = refl

-- what was read comes first in the input
input_is : (left now : Option (List ℕ)) (read : List ℕ) → Consumes left now read
    → IsInputOf left (read ++ rest_of now)
unfolding rest_of
input_is None now read took = tt
input_is (Some known) None read took = absurd took
input_is (Some known) (Some rest) read took = sym took

-- so far this was read, and it goes on with whatever comes
pub record IsSoFar (m : Meaning) (held : List ℕ) (left now : Option (List ℕ)) (old served : Served)
    (W : List Reply → Type 0) : Type 0 where
  pub read : List ℕ
  pub took : Consumes left now read
  pub between : (more : List ℕ) → IsBetween m (read ++ more) held (Some more) old served W

pub so_begun : (m : Meaning) (held : List ℕ) (left : Option (List ℕ)) (served : Served) (W : List Reply → Type 0)
    → held ≡ [] → W [] → IsSoFar m held left left served served W
so_begun m held left served W none w = record {
  read = [];
  took = Consumes-nil left;
  between = λ more. begun m more held (Some more) served W none refl w;
}

pub so_read_failed : (m : Meaning) (held : List ℕ) (left now after : Option (List ℕ)) (old served : Served)
    (W : List Reply → Type 0) → IsSoFar m held left now old served W → Keeps now after
    → HasInput left (λ input. ServesWhatWasRead m input after old served W)
so_read_failed m held left now after old served W so kept = record {
  input = so.read ++ rest_of after;
  its = input_is left after so.read (Consumes-kept left now after so.read so.took kept);
  so = read_failed m (so.read ++ rest_of after) held (rest_of after) after old served W (so.between (rest_of after))
      (rest_is after);
}

-- a piece more was read
module _ (m : Meaning) (held held_after : List ℕ) (n : ℕ) (left now after : Option (List ℕ)) (old mid : Served)
    (W : List Reply → Type 0) (so : IsSoFar m held left now old mid W) (gains : Gains n held held_after now after) where
  gained : (more : List ℕ) → (n ≡ 0 → more ≡ []) → Gains n held held_after (Some (gains.piece ++ more)) (Some more)
  gained more none = record {
    piece = gains.piece;
    count = gains.count;
    gained = gains.gained;
    consumed = refl;
    none = none;
  }

  took_more : Consumes left after (so.read ++ gains.piece)
  took_more = Consumes-trans left now after so.read gains.piece so.took gains.consumed

  -- what is so with whatever comes is so of the input
  of_input : (P : List ℕ → Type 0)
      → ((more : List ℕ) → (n ≡ 0 → more ≡ []) → P (so.read ++ (gains.piece ++ more))) → HasInput left P
  of_input P of = record {
    input = so.read ++ (gains.piece ++ rest_of after);
    its = subst (IsInputOf left) (append_assoc so.read gains.piece (rest_of after))
        (input_is left after (so.read ++ gains.piece) took_more);
    so = of (rest_of after) (λ e. no_rest after (gains.none e));
  }

  -- what is known of the replies so far, with what is known of those to this piece
  module _ (new : Served) (V U : List Reply → Type 0)
      (both : (rs ss : List Reply) → mid ≡ old ++ made_of rs → W rs → V ss → U (rs ++ ss)) where
    pub so_went_on : n ≢ 0 → (used : ℕ) → RepliesAsFar m (Replied used) held_after mid new V
        → IsSoFar m (take 513 (drop used held_after)) left after old new U
    so_went_on some used p = record {
      read = so.read ++ gains.piece;
      took = took_more;
      between = λ more.
          let behind = gains.piece ++ more in
          subst (λ (input : List ℕ). IsBetween m input (take 513 (drop used held_after)) (Some more) old new U)
          (sym (append_assoc so.read gains.piece more))
          (went_on m (so.read ++ behind) held held_after n (Some behind) (Some more) old mid W (so.between behind)
          (gained more (λ e. absurd (some e))) new V U both used p);
    }

    pub so_stopped : RepliesAsFar m Stopped held_after mid new V
        → HasInput left (λ input. Serves m true (lines_of input) old new U)
    so_stopped p = of_input (λ input. Serves m true (lines_of input) old new U) (λ more none.
        let behind = gains.piece ++ more in
        stopped m (so.read ++ behind) held held_after n (Some behind) (Some more) old mid W (so.between behind)
        (gained more none) new V U both p)

    pub so_broken : RepliesUntilFault m held_after mid new V
        → HasInput left (λ input. Serves m false (lines_of input) old new U)
    so_broken p = of_input (λ input. Serves m false (lines_of input) old new U) (λ more none.
        let behind = gains.piece ++ more in
        broken m (so.read ++ behind) held held_after n (Some behind) (Some more) old mid W (so.between behind)
        (gained more none) new V U both p)

    pub so_ended : (whole : Bool) → n ≡ 0 → Serves m whole (last_line_of held_after) mid new V
        → HasInput left (λ input. Serves m whole (lines_of input) old new U)
    so_ended whole at_end p = of_input (λ input. Serves m whole (lines_of input) old new U) (λ more none.
        let behind = gains.piece ++ more in
        ended m (so.read ++ behind) held held_after n (Some behind) (Some more) old mid W (so.between behind)
        (gained more none) at_end whole new V U both p)
