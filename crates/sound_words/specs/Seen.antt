-- What the walk along the chain sees of the record that a client announced.
use Rattle.std.specs.Prelude.{◌≡◌, ◌≢◌, ℕ, Bool, false, List, nat_eq, slice_index, slice_index_or, Option, Some, None, if◌then◌else◌, ◌==◌, ◌||◌}
use Rattle.std.specs.List.{list_any}
use Rattle.arena.specs.Shape.{Shape}
use Rattle.arena.specs.Place.{IsClient, IsNode}
use Rattle.arena.specs.Words.{marks, announcements}
use Rattle.arena.specs.Content.{chain_of}
use Rattle.arena.specs.declared.place.Place.{Place}
use Rattle.sound_words.specs.Told.{node_claimed_by}

-- this node, or where it is 0 the other
abbrev pub node_or : ℕ → Option ℕ → Option ℕ
node_or node other = if node == 0 then other else Some node

-- whether the token's record is a node of the chain, and the first node of the chain that the token claims, or 0
pub record IsSeen (s : Shape) (kept : Place → ℕ) (token : ℕ) (on_chain : Bool) (claimed : ℕ) : Type 0 where
  pub node : on_chain ≡ list_any (nat_eq token) (chain_of s kept)
  pub claim : node_or claimed None ≡ node_claimed_by kept token (chain_of s kept)
  pub within : IsNode s claimed

-- that is seen of the record that the client announced, if it did
pub record IsSeenOf (s : Shape) (kept : Place → ℕ) (t : ℕ) (on_chain : Bool) (claimed : ℕ) : Type 0 where
  pub seen : announcements kept t ≢ 0 → IsSeen s kept (announcements kept t) on_chain claimed

-- so it is of each client, in its place of two rows
pub record AreSeen (s : Shape) (kept : Place → ℕ) (on_chain : List Bool) (claimed : List ℕ) : Type 0 where
  pub each : (t : ℕ) → IsClient s t → IsSeenOf s kept t (slice_index_or on_chain t false) (slice_index claimed t)

-- a row of clients, once the node is noted for the one that announced its record last, or that announced a record that
-- claims it
pub record IsNodeNoted (s : Shape) (kept : Place → ℕ) (node : ℕ) (before after : List Bool) : Type 0 where
  pub each : (t : ℕ) → IsClient s t → announcements kept t ≢ 0
      → slice_index_or after t false ≡ (slice_index_or before t false || (announcements kept t == node))

pub record IsClaimNoted (s : Shape) (kept : Place → ℕ) (node : ℕ) (before after : List ℕ) : Type 0 where
  pub each : (t : ℕ) → IsClient s t → announcements kept t ≢ 0
      → slice_index after t ≡ (if marks kept node == announcements kept t then node else slice_index before t)
