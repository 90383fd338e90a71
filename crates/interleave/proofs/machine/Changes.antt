-- What one access at a place leaves is what its change makes of the kept words.
use Rattle.std.proofs.Common.{◌≡◌, Option, length}
use Rattle.persist.specs.Memory.{Words, Access, Load, Store, Cas, Flush, Fence}
use Rattle.persist.specs.Noted.{IsNoted}
use Rattle.persist.specs.declared.access.Change.{Change}
use Rattle.persist.proofs.Facts.{accessed_noted}
use Rattle.arena.specs.Layout.{word_at}
use Rattle.arena.specs.Shape.{Shape}
use Rattle.arena.specs.declared.place.Place.{Place}
use Rattle.stepper.specs.Step.{after_one, change_by}

pub stepped_noted : (s : Shape) (access : Access Place) (ws : Words) → length ws.kept ≡ length ws.cached
    → IsNoted (change_by s access ws) ws.kept (after_one s access ws).kept
stepped_noted s (Load place) ws long = accessed_noted (Load (word_at s place)) ws long
stepped_noted s (Store place value) ws long = accessed_noted (Store (word_at s place) value) ws long
stepped_noted s (Cas place old new) ws long = accessed_noted (Cas (word_at s place) old new) ws long
stepped_noted s (Flush place) ws long = accessed_noted (Flush (word_at s place)) ws long
stepped_noted s (Fence place) ws long = accessed_noted (Fence (word_at s place)) ws long

-- so of an act that left this, and answered that change
pub act_noted : (s : Shape) (access : Access Place) (old new : Words) (change : Option Change) → length old.kept ≡ length old.cached
    → new ≡ after_one s access old → change ≡ change_by s access old → IsNoted change old.kept new.kept
act_noted s access old new change long came is = rw (came, is) (stepped_noted s access old long)
