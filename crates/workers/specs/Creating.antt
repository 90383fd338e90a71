-- The creation that threads know of.
use Rattle.std.specs.Prelude.{◌≡◌, Bool, true, false}
use Rattle.named.specs.Brokers.{Brokered, is_creating}
use Rattle.workers.specs.declared.locked.Creating.{Creating}
use Rattle.workers.specs.declared.locked.Creating.TheVariants.{Nothing, UnderWay, Interrupted}

-- its caller takes its steps
abbrev pub is_under_way : Creating → Bool
is_under_way Nothing = false
is_under_way UnderWay = true
is_under_way Interrupted = false

-- the broker has a creation under way exactly where a caller takes its steps
abbrev pub IsCreationKnown : Brokered → Creating → Type 0
IsCreationKnown b creating = is_creating b ≡ is_under_way creating

-- a crash ends it, and its caller has not seen that
abbrev pub creating_after_crash : Creating → Creating
creating_after_crash Nothing = Nothing
creating_after_crash UnderWay = Interrupted
creating_after_crash Interrupted = Interrupted
