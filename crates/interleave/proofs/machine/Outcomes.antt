-- What an act leaves, by what holds of a world: for whoever lends a core its words.
use Rattle.std.proofs.Common.{◌≡◌, ℕ, Bool, true, Result, Ok, is_ok, if◌then◌else◌, sym, ap, subst, ◌∙◌}
use Rattle.words.specs.declared.refusal.Refusal.{Refusal}
use Rattle.protocol.specs.declared.acts.Act.{Act}
use Rattle.interleave.specs.Holds.{Holds}
use Rattle.interleave.specs.Rotation.{IsHandedOn, IsQuiet, after_rotate, after_rotation, rotate_result}
use Rattle.interleave.specs.Standing.{GoesOn}
use Rattle.interleave.specs.State.{State, after_attempt, after_recover, recover_result}
use Rattle.interleave.specs.Telling.{IsToldAtReady}
use Rattle.interleave.specs.Turn.{NobodyCalls}
use Rattle.interleave.proofs.order.Beginnings.{begins_by_attempt}
use Rattle.interleave.proofs.machine.Holding.{holds_after_recover}
use Rattle.interleave.proofs.words.KeptWords.{mended, tells_on, told_by_kept, told_of_announced}
use Rattle.interleave.proofs.numbers.Numbers.{within_floors_ready}
use Rattle.interleave.proofs.order.Rotations.{holds_after_rotate, nobody_calls, numbers_told, quiet_at, told_rightly}
use Rattle.interleave.proofs.order.Rotations.{told_rotated}
use Rattle.interleave.proofs.runs.Attempts.{ended_by_attempt, grown_by_attempt, part_after_attempt}
use Rattle.interleave.proofs.order.Standing.{nobody_at_ready, told_stands, unannounced_are_out}

-- an attempt at an act goes on with the world: nothing is taken back, and calls that had ended stay as they are
pub goes_on_after : (full : Bool) (w : State) (act : Act ℕ) → Holds w → GoesOn w (after_attempt full w act)
goes_on_after full w act holds = record {
  begins = begins_by_attempt full w act;
  grown = grown_by_attempt full w act;
  part = part_after_attempt full w act holds;
  ended = ended_by_attempt full w act holds;
}

-- recovery has just ended
pub told_at_ready : (full : Bool) (w : State) → Holds w → recover_result full w ≡ Ok true
    → IsToldAtReady (after_recover full w)
told_at_ready full w holds ready = record {
  told = told_by_kept full w holds ready ∙ sym (tells_on full w holds).0;
  announced = told_of_announced full w holds ready;
  unannounced = unannounced_are_out full w holds ready;
  stands = told_stands full w holds ready;
  nobody = nobody_at_ready full w holds ready;
  floors = within_floors_ready full w (holds_after_recover full w holds).numbers ready;
  mended = mended full w holds ready;
}

-- a history has ended, and the next begins
pub rotated : (full : Bool) (w : State) → Holds w → rotate_result full w ≡ Ok tt → IsHandedOn w (after_rotate full w)
rotated full w holds is =
    let quiet : IsQuiet w = quiet_at full w is in
    let made : after_rotate full w ≡ after_rotation w = ap (λ (r : Result Unit Refusal). if is_ok r then after_rotation w else w) is in
    record {
      told = told_rotated full w is;
      announced = told_rightly w holds;
      numbers = numbers_told w holds quiet;
      nobody = subst NobodyCalls (sym made)
          (nobody_calls (after_rotation w) (subst Holds made (holds_after_rotate full w holds)) (record { ready = quiet.ready; nobody = quiet.nobody }));
    }
