-- What recovery leaves when it ends.
use Rattle.std.proofs.Common.{◌≡◌, ℕ, List, [], ◌∷◌, ◌++◌, sym, ◌∙◌, ap, subst}
use Rattle.words.specs.declared.told.Told.{Told}
use Rattle.arena.specs.Shape.{Shape}
use Rattle.arena.specs.declared.place.Place.{Place}
use Rattle.sound_words.specs.Told.{tells_by}
use Rattle.protocol.specs.Acts.{recovery_attempt, run, IsAllKept, IsReached}
use Rattle.protocol.specs.declared.acts.Act.{Act}
use Rattle.protocol.specs.declared.acts.Act.TheVariants.{Recover}
use Rattle.protocol.specs.Booted.{MayBoot, world_at_boot}
use Rattle.protocol.specs.Down.{OnceRecovered, TellsAfter}
use Rattle.protocol.specs.Machine.{World, with_crash, with_recovery_step}
use Rattle.protocol.specs.Recovered.{IsRecovered}
use Rattle.protocol.proofs.boot.Booted.{boots}
use Rattle.protocol.specs.invariants.Worlds.{Inv}
use Rattle.protocol.proofs.worlds.Facts.{inv_crashed, leaves_right, nothing_pending}
use Rattle.protocol.proofs.runs.Runs.{run_kept, run_more, inv_reached}
use Rattle.protocol.proofs.runs.RunsEnd.{run_shape, reached_shape}

-- after these acts, the next step of recovery ends it
module _ (w : World) (v : Inv w) (later : List (Act Place)) (tells : List Told) (t : TellsAfter w later tells) where
  last_step : run w (later ++ Recover ∷ []) ≡ with_recovery_step (run w later) t.point
  last_step = run_more later (Recover ∷ []) w ∙ ap (recovery_attempt (run w later)) t.waits

  left_right : IsRecovered w.shape (run w (later ++ Recover ∷ [])).memory.kept
  left_right =
      subst (λ x. IsRecovered x (run w (later ++ Recover ∷ [])).memory.kept) (run_shape later w)
      (subst (λ (x : World). IsRecovered (run w later).shape x.memory.kept) (sym last_step)
      (leaves_right (run w later) (run_kept later w v).inv t.point t.waits tells t.ends))

  left_kept : IsAllKept (run w (later ++ Recover ∷ []))
  left_kept p =
      subst (λ (x : World). x.memory.cached p ≡ x.memory.kept p) (sym last_step)
      (nothing_pending (run w later) (run_kept later w v).inv t.point t.waits tells t.ends p)

-- of a queue that crashed
pub crash_left : (s : Shape) (w : World) → IsReached s w → OnceRecovered (with_crash w) (λ v. IsRecovered s v.memory.kept)
crash_left s w r later tells t =
    subst (λ x. IsRecovered x (run (with_crash w) (later ++ Recover ∷ [])).memory.kept) (reached_shape s w r)
    (left_right (with_crash w) (inv_crashed w (inv_reached s w r)) later tells t)

pub crash_kept : (s : Shape) (w : World) → IsReached s w → OnceRecovered (with_crash w) IsAllKept
crash_kept s w r later tells t = left_kept (with_crash w) (inv_crashed w (inv_reached s w r)) later tells t

-- and of one that began on sound words
pub boot_left : (s : Shape) (k : Place → ℕ) → MayBoot s k → OnceRecovered (world_at_boot s k (tells_by s k)) (λ v. IsRecovered s v.memory.kept)
boot_left s k may later tells t = left_right (world_at_boot s k (tells_by s k)) (boots s k may) later tells t

pub boot_kept : (s : Shape) (k : Place → ℕ) → MayBoot s k → OnceRecovered (world_at_boot s k (tells_by s k)) IsAllKept
boot_kept s k may later tells t = left_kept (world_at_boot s k (tells_by s k)) (boots s k may) later tells t
