-- Where the answers of dequeues are written.
use Rattle.std.specs.Prelude.{◌+◌}
use Rattle.words.specs.declared.call.Kind.{Kind}
use Rattle.words.specs.declared.call.Kind.TheVariants.{Durable, Log}
use Rattle.words.specs.declared.call.NodeId.{NodeId}
use Rattle.words.specs.declared.call.Token.{Token}
use Rattle.arena.specs.declared.codes.TheConstants.{EMPTY_CELL, GOT_CELL, EMPTY_STATUS}
use Rattle.arena.specs.declared.place.Write.{Write}
use Rattle.arena.specs.declared.place.Place.TheVariants.{Cell, Status, EntryNode}

-- that the dequeue found the queue empty: in its cell, or as its entry's status
abbrev pub empty_answer_of : Kind → Token → Write
empty_answer_of Durable token = record { place = Cell token; value = EMPTY_CELL }
empty_answer_of Log token = record { place = Status token; value = EMPTY_STATUS }

-- that the dequeue claimed a node: the node is named in its cell, or in its entry
abbrev pub result_of : Kind → Token → NodeId → Write
result_of Durable token node = record { place = Cell token; value = node.0 + GOT_CELL }
result_of Log token node = record { place = EntryNode token; value = node.0 }
