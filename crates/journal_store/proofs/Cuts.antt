-- What a stop leaves of a journal's file.
use Rattle.std.proofs.Common.{◌≤◌, ℕ, Bool, true, false, Option, Some, None, max, arith, refl}
use Rattle.journal_store.specs.Folder.{File}
use Rattle.journal_store.specs.Stops.{IsCutOff}

below_max : (left kept : ℕ) → kept ≤ max left kept
below_max left kept = grind arith

pub cut_off : (file : Option File) (named : Bool) (fresh : Option File) (left : ℕ)
    → IsCutOff (record { place = record { file = file; named = named }; fresh = fresh }) left
cut_off None true fresh left = record { n = 0; kept = omega arith; text = refl }
cut_off None false fresh left = record { n = 0; kept = omega arith; text = refl }
cut_off (Some f) true fresh left = record { n = max left f.kept; kept = below_max left f.kept; text = refl }
cut_off (Some f) false fresh left = record { n = max left f.kept; kept = omega arith; text = refl }
