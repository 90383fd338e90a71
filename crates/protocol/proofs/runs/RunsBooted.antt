-- What holds after any acts of a queue that begins on sound words.
use Rattle.std.proofs.Common.{ℕ, ◌+◌, ◌≤◌, List, arith}
use Rattle.arena.specs.Shape.{Shape}
use Rattle.arena.specs.declared.place.Place.{Place}
use Rattle.sound_words.specs.Told.{tells_by}
use Rattle.recover.specs.Table.{boot_recovery}
use Rattle.protocol.specs.Acts.{run, IsExplained}
use Rattle.protocol.specs.declared.acts.Act.{Act}
use Rattle.protocol.specs.Booted.{world_at_boot, MayBoot}
use Rattle.protocol.specs.Down.{RecoveryEnds}
use Rattle.protocol.proofs.boot.Booted.{boots}
use Rattle.protocol.specs.Measure.{most_steps, weight}
use Rattle.protocol.proofs.recovery.RecoveryBound.{weight_most}
use Rattle.protocol.proofs.runs.Runs.{run_kept, is_explained}
use Rattle.protocol.proofs.runs.RunsEnd.{all_left}

pub booted_explained : (s : Shape) (k : Place → ℕ) (acts : List (Act Place)) → MayBoot s k → IsExplained (run (world_at_boot s k (tells_by s k)) acts)
booted_explained s k acts may = is_explained (run (world_at_boot s k (tells_by s k)) acts) (run_kept acts (world_at_boot s k (tells_by s k)) (boots s k may)).inv

pub booted_ends : (s : Shape) (k : Place → ℕ) → MayBoot s k → RecoveryEnds (world_at_boot s k (tells_by s k))
booted_ends s k may acts none le =
    let most : weight s k boot_recovery.at + 2 ≤ most_steps s = weight_most s k in
    all_left acts (world_at_boot s k (tells_by s k)) (boots s k may) none (omega (arith, most, le))
