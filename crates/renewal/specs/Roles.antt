-- Which record of a renewed queue is for what.
use Rattle.std.specs.Prelude.{ℕ, ◌+◌, ◌-◌, ◌*◌, ◌/◌, ◌%◌, ◌==◌, if◌then◌else◌}
use Rattle.arena.specs.Place.{IsClient}
use Rattle.arena.specs.Shape.{Shape, owner, record_of}
use Rattle.renewal.specs.declared.role.Role.{Role}
use Rattle.renewal.specs.declared.role.Role.TheVariants.{Sentinel, First, Second, Item}

-- the first two records of a client are for what it was told
abbrev pub first_record : Shape → ℕ → ℕ
first_record s t = record_of s t 0

abbrev pub second_record : Shape → ℕ → ℕ
second_record s t = record_of s t 1

-- items are dealt out to all clients in turn, from the third record of each on
abbrev pub item_record : Shape → ℕ → ℕ
item_record s at = record_of s (at % s.clients) (2 + at / s.clients)

-- how many records a client has used, where there are so many items
abbrev pub used_for : Shape → ℕ → ℕ → ℕ
used_for s count t = 2 + (count + (s.clients - 1 - t)) / s.clients

-- so a record is for this, by its client, and by which of the client's records it is
abbrev pub role_by : Shape → ℕ → ℕ → Role
role_by s t used =
    if used == 0 then First (record { 0 = t })
    else (if used == 1 then Second (record { 0 = t }) else Item ((used - 2) * s.clients + t))

abbrev pub role_of : Shape → ℕ → Role
role_of s number = if number == 0 then Sentinel else role_by s (owner s number) ((number - 1) % s.records)

-- a role of a client is one of a client that there is
abbrev pub IsRole : Shape → Role → Type 0
IsRole s (First t) = IsClient s t.0
IsRole s (Second t) = IsClient s t.0
IsRole s _ = Unit {0}
