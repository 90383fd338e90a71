-- Seats in the places of their clients.
use Rattle.std.specs.Prelude.{◌≡◌, ℕ, length, List, Option, Some, slice_get}
use Rattle.words.specs.declared.call.Client.{Client}

-- a place for each client, with the client's seat or none
pub record AreInPlaces {S : Type 0} (client : S → Client) (clients : ℕ) (places : List (Option S)) : Type 0 where
  pub all : length places ≡ clients
  pub each : (k : ℕ) (seat : S) → slice_get places k ≡ Some (Some seat) → client seat ≡ record { 0 = k }

-- each of these seats is in its place
pub record AreBack {S : Type 0} (seats : List S) (places : List (Option S)) : Type 0 where
  pub each : (k : ℕ) (seat : S) → slice_get seats k ≡ Some seat → slice_get places k ≡ Some (Some seat)
