-- What clients were given, over a rotation; and it is the same whatever the count of accesses is.
use Rattle.std.proofs.Common.{◌≡◌, ℕ, ◌<◌, ◌≤◌, inl, inr, Bool, List, Option, Some, Ok, slice_get, refl, sym, ap, ◌∙◌, subst}
use Rattle.words.specs.declared.call.Client.{Client}
use Rattle.words.specs.declared.call.Kind.TheVariants.{Log as log_kind}
use Rattle.words.specs.declared.call.Reply.{Reply}
use Rattle.words.specs.declared.limits.TheConstants.{MAX_CLIENTS}
use Rattle.words.specs.declared.told.Told.{Told}
use Rattle.words.specs.declared.told.Verdict.{Verdict}
use Rattle.interleave.specs.Holds.{Holds}
use Rattle.interleave.specs.Rotation.{IsQuiet, after_rotation, queue_with_told, rotate_result}
use Rattle.interleave.specs.State.{State, kept_tells}
use Rattle.interleave.specs.Queue.{told_in}
use Rattle.interleave.specs.LogQueue.{floor_of, verdict_of}
use Rattle.interleave.specs.Verdicts.{IsIdle, IsLast, IsRecalled, IsReplyOf, IsRested, floor_by, floor_in, kept_told}
use Rattle.interleave.specs.Verdicts.{told_as}
use Rattle.interleave.specs.declared.queue.Queue.{Queue}
use Rattle.interleave.specs.declared.queue.Queue.TheVariants.{Durable, Log}
use Rattle.interleave.proofs.order.Rotations.{quiet_at, told_with}
use Rattle.interleave.proofs.verdicts.Acts.{floor_idle}
use Rattle.interleave.proofs.verdicts.Given.{kept_at, kept_verdict}

-- a rotation leaves floors
floor_rotated : (queue : Queue) (told : List Told) (client : Client)
    → floor_in (queue_with_told queue told) client ≡ floor_in queue client
floor_rotated (Durable old) told client = refl
floor_rotated (Log clients) told client = refl

module _ (full : Bool) (w : State) (client : Client) (last : Option Verdict) where
  -- so the last verdict is the same
  pub last_rotated : rotate_result full w ≡ Ok tt → IsLast w client last → IsLast (after_rotation w) client last
  last_rotated rotates is = record {
    floor = floor_rotated w.queue (kept_tells w) client ∙ is.floor;
    told = is.told;
  }

  -- and the next history's base tells what is recalled of it
  pub recalled_rotated : Holds w → w.shape.kind ≡ log_kind → client.0 < MAX_CLIENTS → rotate_result full w ≡ Ok tt
      → IsLast w client last → IsRecalled w client last → IsRecalled (after_rotation w) client last
  recalled_rotated holds log few rotates is recalled =
      let quiet : IsQuiet w = quiet_at full w rotates in
      record {
        reply = λ number reply e. inr
            (kept_at w holds log client few
            ∙ ap (λ (t : Told). Some t) (is.told (quiet.nobody client.0) ∙ ap told_as e));
        told = recalled.told;
        floor = λ up. subst (λ (f : ℕ). floor_by last ≤ f)
            (sym (floor_rotated w.queue (kept_tells w) client)) (recalled.floor up);
      }

-- so what a client is told where a history begins anew is its last verdict, and nobody has called since
pub rested_rotated : (full : Bool) (w : State) → Holds w → w.shape.kind ≡ log_kind → rotate_result full w ≡ Ok tt
    → IsRested (after_rotation w)
rested_rotated full w holds log rotates = record {
  nobody = λ client. quiet.nobody client.0;
  last = λ client few.
      let told : slice_get (told_in (after_rotation w).queue) client.0 ≡ Some (kept_told w client) =
      ap (λ (ts : List Told). slice_get ts client.0) (told_with w.queue (kept_tells w)) ∙ kept_at w holds log client few in
      let same : told_as (verdict_of (slice_get (told_in (after_rotation w).queue) client.0)) ≡ kept_told w client =
      ap (λ (o : Option Told). told_as (verdict_of o)) told ∙ kept_verdict w holds log client few in
      record {
        floor =
            floor_rotated w.queue (kept_tells w) client
            ∙ floor_idle w holds log client few quiet.ready (quiet.nobody client.0) ∙ ap floor_of (sym same);
        told = λ idle. sym same;
      };
}
  where
    quiet : IsQuiet w
    quiet = quiet_at full w rotates

-- the state, whatever it counted
abbrev pub uncounted : State → State
uncounted w = record w { words = record w.words { accesses = 0 } }

module _ (w : State) (client : Client) where
  reply_out : (number : ℕ) (reply : Reply) → IsReplyOf w client number reply
      → IsReplyOf (uncounted w) client number reply
  reply_out number reply (inl taken) =
      inl (record { place = taken.place; has_number = taken.has_number; taken = taken.taken })
  reply_out number reply (inr told) = inr told

  reply_back : (number : ℕ) (reply : Reply) → IsReplyOf (uncounted w) client number reply
      → IsReplyOf w client number reply
  reply_back number reply (inl taken) =
      inl (record { place = taken.place; has_number = taken.has_number; taken = taken.taken })
  reply_back number reply (inr told) = inr told

  module _ (last : Option Verdict) where
    recalled_out : IsRecalled w client last → IsRecalled (uncounted w) client last
    recalled_out is = record {
      reply = λ number reply e. reply_out number reply (is.reply number reply e);
      told = is.told;
      floor = is.floor;
    }

    recalled_back : IsRecalled (uncounted w) client last → IsRecalled w client last
    recalled_back is = record {
      reply = λ number reply e. reply_back number reply (is.reply number reply e);
      told = is.told;
      floor = is.floor;
    }

    last_out : IsLast w client last → IsLast (uncounted w) client last
    last_out is = record { floor = is.floor; told = is.told }

    last_back : IsLast (uncounted w) client last → IsLast w client last
    last_back is = record { floor = is.floor; told = is.told }

rested_out : (w : State) → IsRested w → IsRested (uncounted w)
rested_out w is = record { nobody = is.nobody; last = λ client few. last_out w client _ (is.last client few) }

rested_back : (w : State) → IsRested (uncounted w) → IsRested w
rested_back w is = record { nobody = is.nobody; last = λ client few. last_back w client _ (is.last client few) }

-- of two states that differ in what they counted alone, what holds of the one holds of the other
pub record IsOneVerdict (v w : State) : Type 0 where
  pub recalled : (client : Client) (last : Option Verdict) → IsRecalled w client last → IsRecalled v client last
  pub last : (client : Client) (last : Option Verdict) → IsLast w client last → IsLast v client last
  pub rested : IsRested w → IsRested v
  pub idle : (client : Client) → IsIdle w client → IsIdle v client
  pub reply : (client : Client) (number : ℕ) (reply : Reply) → IsReplyOf w client number reply
      → IsReplyOf v client number reply

pub one_verdict : (v w : State) → uncounted v ≡ uncounted w → IsOneVerdict v w
one_verdict v w same = record {
  recalled = λ client last is.
      recalled_back v client last
      (subst (λ (x : State). IsRecalled x client last) (sym same) (recalled_out w client last is));
  last = λ client last is.
      last_back v client last
      (subst (λ (x : State). IsLast x client last) (sym same) (last_out w client last is));
  rested = λ is. rested_back v (subst IsRested (sym same) (rested_out w is));
  idle = λ client is. subst (λ (x : State). IsIdle x client) (sym same) is;
  reply = λ client number reply is. reply_back v client number reply
      (subst (λ (x : State). IsReplyOf x client number reply) (sym same) (reply_out w client number reply is));
}
