-- What pages call the places, as docs/TABLES.md says.
use Rattle.std.specs.Prelude.{ℕ, List, ◌++◌, codes, decimal}
use Rattle.arena.specs.declared.place.Part.{Part}
use Rattle.arena.specs.declared.place.Part.TheVariants.{Length, First, Second, Third}
use Rattle.arena.specs.declared.place.Place.{Place}
use Rattle.arena.specs.declared.place.Place.TheVariants.{Head, Tail, Announcement, Bump, Item, Next, Mark, Cell, Insert, Number, EntryKind, Status, EntryNode}

abbrev pub part_name : Part → List ℕ
part_name Length = codes "length"
part_name First = codes "first word"
part_name Second = codes "second word"
part_name Third = codes "third word"

abbrev pub place_name : Place → List ℕ
place_name Head = codes "head"
place_name Tail = codes "tail"
place_name (Announcement client) = codes "announcement of client " ++ decimal client.0
place_name (Bump client) = codes "bump of client " ++ decimal client.0
place_name (Item node part) = codes "item of node " ++ decimal node.0 ++ codes ", " ++ part_name part
place_name (Next node) = codes "link of node " ++ decimal node.0
place_name (Mark node) = codes "mark of node " ++ decimal node.0
place_name (Cell token) = codes "cell " ++ decimal token.0
place_name (Insert node) = codes "insert of node " ++ decimal node.0
place_name (Number token) = codes "number of entry " ++ decimal token.0
place_name (EntryKind token) = codes "kind of entry " ++ decimal token.0
place_name (Status token) = codes "status of entry " ++ decimal token.0
place_name (EntryNode token) = codes "node of entry " ++ decimal token.0
