-- What any client relies on while another one acts.
use Rattle.std.specs.Prelude.{◌≡◌, ◌≢◌, ◌⊎◌, ℕ}
use Rattle.arena.specs.Answers.{result_of}
use Rattle.arena.specs.Chain.{LeadsTo}
use Rattle.arena.specs.Place.{number_of}
use Rattle.arena.specs.Shape.{Shape, owner}
use Rattle.arena.specs.Words.{IsWritten, links, marks, part_at}
use Rattle.arena.specs.declared.place.Part.{Part}
use Rattle.arena.specs.declared.place.Place.{Place}
use Rattle.arena.specs.declared.place.Place.TheVariants.{Head, Tail}
use Rattle.helping.specs.Table.{node_of, token_of}
use Rattle.protocol.specs.Machine.{Memory}
use Rattle.protocol.specs.invariants.Knows.{Loose}
use Rattle.protocol.specs.invariants.Ledger.{Ledger, held_token}
use Rattle.protocol.specs.invariants.Places.{IsAnswer, IsOwnWord, SaysEmpty, home}

-- What any client relies on while client a acts.
pub record Grows (a : ℕ) (s : Shape) (m : Memory) (l : Ledger) (n : Memory) (k : Ledger) : Type 0 where
  pub at_link : (x : ℕ) → links m.cached x ≢ 0 → links n.cached x ≡ links m.cached x
  pub at_kept_link : (x : ℕ) → links m.kept x ≢ 0 → links n.kept x ≡ links m.kept x
  pub at_mark : (x : ℕ) → marks m.cached x ≢ 0 → marks n.cached x ≡ marks m.cached x
  pub at_kept_mark : (x : ℕ) → marks m.kept x ≢ 0 → marks n.kept x ≡ marks m.kept x
  pub new_link : (x : ℕ) → (links n.cached x ≡ links m.cached x) ⊎ (owner s (links n.cached x) ≡ a)
  pub new_mark : (x : ℕ) → (marks n.cached x ≡ marks m.cached x) ⊎ (owner s (marks n.cached x) ≡ a)
  pub at_own : (p : Place) → IsOwnWord p → home s p ≢ a → (IsAnswer p → (x : ℕ) → marks m.cached x ≢ number_of p)
      → n.cached p ≡ m.cached p
  pub at_kept_own : (p : Place) → IsOwnWord p → (n.kept p ≡ m.kept p) ⊎ (n.kept p ≡ m.cached p)
  pub at_linked : (x : ℕ) (part : Part) → links m.kept x ≢ 0
      → part_at n.kept (links m.kept x) part ≡ part_at m.kept (links m.kept x) part
  pub at_result : (x : ℕ) → marks m.kept x ≢ 0
      → IsWritten m.cached (result_of s.kind (token_of (marks m.kept x)) (node_of x))
      → IsWritten n.cached (result_of s.kind (token_of (marks m.kept x)) (node_of x))
  pub tail : LeadsTo (links n.kept) (n.cached Tail) (m.cached Tail)
  pub head : LeadsTo (links n.kept) (n.cached Head) (m.cached Head)
  pub begun : (i : ℕ) → i ≢ a → k.begun i ≡ l.begun i
  pub stage : (i : ℕ) → i ≢ a → Loose m (held_token l i) → (SaysEmpty s m.cached (held_token l i) → ⊥)
      → k.stage i ≡ l.stage i
