-- Seats in the order of their clients.
use Rattle.std.specs.Prelude.{◌≡◌, ℕ, List, Some, slice_get}
use Rattle.words.specs.declared.call.Client.{Client}

-- the seat at this place is that client's
abbrev pub IsClientAt : {S : Type 0} → (S → Client) → List S → ℕ → Type 0
IsClientAt client seats k = (seat : _) → slice_get seats k ≡ Some seat → client seat ≡ record { 0 = k }
