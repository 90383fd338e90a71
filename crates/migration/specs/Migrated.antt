-- What the kept words of a queue become that has the form of values: those of a queue of items, place by place.
use Rattle.std.specs.Prelude.{ℕ, ◌+◌, Bool, nat_eq, nat_lt, Option, Some, None, if◌then◌else◌}
use Rattle.std.specs.List.{list_any}
use Rattle.words.specs.PlainQueue.{Value}
use Rattle.arena.specs.declared.codes.TheConstants.{GOT_CELL}
use Rattle.arena.specs.declared.form.Form.TheVariants.{OfValues}
use Rattle.arena.specs.declared.place.Part.{Part}
use Rattle.arena.specs.declared.place.Place.{Place}
use Rattle.arena.specs.declared.place.Place.TheVariants.{Item, Cell}
use Rattle.arena.specs.Content.{chain_of}
use Rattle.arena.specs.Shape.{Shape}
use Rattle.arena.specs.Words.{item_part, values_in}
use Rattle.sound_words.specs.Told.{node_claimed_by}

-- a part of the message of a node: on the chain that of its value's four bytes, and 0 off it
abbrev pub part_migrated : Bool → Value → Part → ℕ
part_migrated on_chain value part = if on_chain then item_part value part else 0

-- the node of the chain that a token claims, or 0
abbrev pub node_or_none : Option ℕ → ℕ
node_or_none None = 0
node_or_none (Some node) = node

abbrev pub claimed_node : Shape → (Place → ℕ) → ℕ → ℕ
claimed_node s kept token = node_or_none (node_claimed_by kept token (chain_of s kept))

-- a cell that told of a value tells of the node that it claims
abbrev pub cell_migrated : ℕ → ℕ → ℕ
cell_migrated cell node = if nat_lt cell GOT_CELL then cell else node + GOT_CELL

-- every other word stays
abbrev pub migrated : Shape → (Place → ℕ) → Place → ℕ
migrated s kept (Item n part) =
    part_migrated (list_any (nat_eq n.0) (chain_of s kept)) (values_in OfValues kept n.0) part
migrated s kept (Cell c) = cell_migrated (kept (Cell c)) (claimed_node s kept c.0)
migrated s kept place = kept place
