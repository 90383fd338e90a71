-- Which connection is silent.
use Rattle.std.specs.Prelude.{◌≡◌, ◌<◌, ◌≤◌, ◌-◌, ℕ, Option, Some, None, ⊤}
use Rattle.std.specs.Duration.{as_nanos}
use Rattle.std.specs.Time.{instant_nanos}
use Rattle.std.specs.declared.time.Instant.{Instant}
use Rattle.lru.specs.LruCache.{last_entry}
use Rattle.sockets.specs.declared.quiet.Quiet.{Quiet}

-- for how long no line came over a connection
abbrev silence : Quiet → Instant → ℕ
silence quiet heard = instant_nanos quiet.now - instant_nanos heard

-- this is the place of the one over which none came for longest, and it is as long as the limit, or longer
abbrev pub IsSilent : Quiet → ℕ → Type 0
IsSilent quiet place =
    (heard : Instant) × (last_entry quiet.heard.entries ≡ Some (place, heard))
    × (as_nanos quiet.limit ≤ silence quiet heard)

-- it is not so long of that one, if any is there
abbrev pub IsBelowLimit : Quiet → Option (ℕ × Instant) → Type 0
IsBelowLimit quiet None = ⊤
IsBelowLimit quiet (Some last) = silence quiet last.1 < as_nanos quiet.limit

abbrev pub IsNoneSilent : Quiet → Type 0
IsNoneSilent quiet = IsBelowLimit quiet (last_entry quiet.heard.entries)
