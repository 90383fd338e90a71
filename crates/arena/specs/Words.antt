-- The words of a queue, where each place has a value.
use Rattle.std.specs.Prelude.{◌≡◌, ◌<◌, ◌^◌, ℕ, length}
use Rattle.std.specs.Int.{w32, to_le_bytes}
use Rattle.words.specs.Item.{AreParts, item_of, first_word, second_word, third_word}
use Rattle.words.specs.PlainQueue.{Value, FitsValue}
use Rattle.words.proofs.Facts.{item_fits, parts_again, parts_are}
use Rattle.arena.specs.Form.{running}
use Rattle.arena.specs.declared.form.Form.{Form}
use Rattle.arena.specs.declared.form.Form.TheVariants.{OfValues, OfItems}
use Rattle.arena.specs.declared.place.Write.{Write}
use Rattle.arena.specs.declared.place.Part.{Part}
use Rattle.arena.specs.declared.place.Part.TheVariants.{Length, First, Second, Third}
use Rattle.arena.specs.declared.place.Place.{Place}
use Rattle.arena.specs.declared.place.Place.TheVariants.{Announcement, Bump, Item, Next, Mark, Cell, Insert, Number}
use Rattle.arena.specs.declared.place.Place.TheVariants.{EntryKind, Status, EntryNode}

-- the words of one kind, each by its number
abbrev pub links : (Place → ℕ) → ℕ → ℕ
links f n = f (Next (record { 0 = n }))

abbrev pub marks : (Place → ℕ) → ℕ → ℕ
marks f n = f (Mark (record { 0 = n }))

-- a part of a node's item
abbrev pub part_at : (Place → ℕ) → ℕ → Part → ℕ
part_at f n part = f (Item (record { 0 = n }) part)

-- the number that is written for a part of an item
unfoldable pub item_part : Value → Part → ℕ
item_part item Length = length item
item_part item First = first_word item
item_part item Second = second_word item
item_part item Third = third_word item

-- the item of a length and three words
unfoldable pub value_of : ℕ → ℕ → ℕ → ℕ → Value
value_of len first second third = item_of len first second third

-- an item is found again from its parts
pub item_again : (item : Value) → FitsValue item
    → value_of (item_part item Length) (item_part item First) (item_part item Second) (item_part item Third) ≡ item
unfolding value_of item_part
item_again item fits = parts_again item fits

-- they are an item's
pub item_parts : (item : Value) → FitsValue item
    → AreParts (item_part item Length) (item_part item First) (item_part item Second) (item_part item Third)
unfolding item_part
item_parts item fits = parts_are item fits

-- the message of a node: the item of its parts, and in the form of values the four bytes of its one word
abbrev pub values_in : Form → (Place → ℕ) → ℕ → Value
values_in OfItems f n = value_of (part_at f n Length) (part_at f n First) (part_at f n Second) (part_at f n Third)
values_in OfValues f n = to_le_bytes w32 (part_at f n First)

abbrev pub values : (Place → ℕ) → ℕ → Value
values = values_in running

-- the node's words are an item's: in the form of values any word of 32 bits is one
abbrev pub HoldsIn : Form → (Place → ℕ) → ℕ → Type 0
HoldsIn OfItems f n = AreParts (part_at f n Length) (part_at f n First) (part_at f n Second) (part_at f n Third)
HoldsIn OfValues f n = part_at f n First < 2 ^ 32

abbrev pub HoldsItem : (Place → ℕ) → ℕ → Type 0
HoldsItem = HoldsIn running

-- all of them are 0
pub record IsBlankItem (f : Place → ℕ) (n : ℕ) : Type 0 where
  pub len : part_at f n Length ≡ 0
  pub first : part_at f n First ≡ 0
  pub second : part_at f n Second ≡ 0
  pub third : part_at f n Third ≡ 0

-- so they are in the form of items; in the form of values the one word is
abbrev pub IsBlankItemIn : Form → (Place → ℕ) → ℕ → Type 0
IsBlankItemIn OfItems f n = IsBlankItem f n
IsBlankItemIn OfValues f n = part_at f n First ≡ 0

-- a node's message is an item, whatever its words are
pub values_fit : (f : Place → ℕ) (n : ℕ) → FitsValue (values f n)
unfolding value_of
values_fit f n = item_fits (part_at f n Length) (part_at f n First) (part_at f n Second) (part_at f n Third)

abbrev pub inserts : (Place → ℕ) → ℕ → ℕ
inserts f n = f (Insert (record { 0 = n }))

abbrev pub cells : (Place → ℕ) → ℕ → ℕ
cells f c = f (Cell (record { 0 = c }))

abbrev pub numbers : (Place → ℕ) → ℕ → ℕ
numbers f e = f (Number (record { 0 = e }))

abbrev pub entry_kinds : (Place → ℕ) → ℕ → ℕ
entry_kinds f e = f (EntryKind (record { 0 = e }))

abbrev pub statuses : (Place → ℕ) → ℕ → ℕ
statuses f e = f (Status (record { 0 = e }))

abbrev pub entry_nodes : (Place → ℕ) → ℕ → ℕ
entry_nodes f e = f (EntryNode (record { 0 = e }))

abbrev pub bumps : (Place → ℕ) → ℕ → ℕ
bumps f t = f (Bump (record { 0 = t }))

abbrev pub announcements : (Place → ℕ) → ℕ → ℕ
announcements f t = f (Announcement (record { 0 = t }))

-- the words have the value that is to be written
abbrev pub IsWritten : (Place → ℕ) → Write → Type 0
IsWritten f w = f w.place ≡ w.value
