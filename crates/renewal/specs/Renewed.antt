-- The words of a queue in fresh records, place by place.
use Rattle.std.specs.Prelude.{◌≡◌, ℕ, ◌+◌, ◌<◌, Bool, true, false, List, [], ◌∷◌, ◌++◌, length, map, filter, nat_lt, slice_index, Option, Some, None, is_some, unwrap_or, if◌then◌else◌, ◌==◌}
use Rattle.std.specs.List.{range_with_len}
use Rattle.words.specs.PlainQueue.{Value}
use Rattle.words.specs.declared.call.Reply.TheVariants.{Done, Got, Empty}
use Rattle.words.specs.declared.told.Outcome.{Outcome}
use Rattle.words.specs.declared.told.Outcome.TheVariants.{Taken}
use Rattle.words.specs.declared.told.Row.TheVariants.{NoCall, Empty as row_empty, Got as row_got}
use Rattle.words.specs.declared.told.Told.{Told}
use Rattle.words.specs.declared.told.Told.TheVariants.{None as told_none, Verdict as told_verdict, Row as told_row}
use Rattle.arena.specs.declared.codes.TheConstants.{DEQUEUE_KIND, EMPTY_CELL, EMPTY_STATUS, ENQUEUE_KIND, GOT_CELL}
use Rattle.arena.specs.declared.place.Place.{Place}
use Rattle.arena.specs.declared.place.Place.TheVariants.{Head, Tail, Announcement, Bump, Item, Next, Mark, Cell, Insert, Number, EntryKind, Status, EntryNode}
use Rattle.arena.specs.Shape.{Shape}
use Rattle.arena.specs.Words.{item_part}
use Rattle.renewal.specs.Renewal.{Renewal, item_in, told_in}
use Rattle.renewal.specs.Roles.{first_record, item_record, role_of, second_record, used_for}
use Rattle.renewal.specs.declared.role.Role.{Role}
use Rattle.renewal.specs.declared.role.Role.TheVariants.{First, Second, Item as for_item}

-- the message of the node that stands for the call that a client was told of: of a dequeue the one that it got, of an
-- enqueue none, since others may have taken that; and no node where the call left none
abbrev pub outcome_node : Outcome → Option Value
outcome_node (Taken Done) = Some []
outcome_node (Taken (Got value)) = Some value
outcome_node _ = None

abbrev pub told_node : Told → Option Value
told_node (told_verdict verdict) = outcome_node verdict.outcome
told_node (told_row (row_got value)) = Some value
told_node _ = None

abbrev pub has_node : Renewal → ℕ → Bool
has_node r t = is_some (told_node (told_in r t))

-- that node, if there is one
abbrev pub node_of : Renewal → ℕ → List ℕ
node_of r t = if has_node r t then first_record r.shape t ∷ [] else []

-- the chain: those nodes, which are claimed, by their clients, and then those of the items
abbrev pub removed : Renewal → List ℕ
removed r = map (first_record r.shape) (filter (has_node r) (range_with_len 0 r.shape.clients))

abbrev pub waiting : Renewal → List ℕ
waiting r = map (item_record r.shape) (range_with_len 0 (length r.content))

abbrev pub chain : Renewal → List ℕ
chain r = removed r ++ waiting r

-- what follows a node where these nodes follow `from`
abbrev pub follower : ℕ → ℕ → List ℕ → ℕ
follower n from [] = 0
follower n from (x ∷ xs) = if n == from then x else follower n x xs

-- so this list says of the node `n`
abbrev pub SaysFollower : List ℕ → List ℕ → ℕ → Type 0
SaysFollower links nodes n = (n < length links) × (slice_index links n ≡ follower n 0 nodes)

-- whether the node is on the chain, its message, and the record that claims it
abbrev pub is_linked : Renewal → Role → Bool
is_linked r (First t) = has_node r t.0
is_linked r (for_item at) = nat_lt at (length r.content)
is_linked r _ = false

abbrev pub message : Renewal → Role → Value
message r (First t) = unwrap_or (told_node (told_in r t.0)) []
message r (for_item at) = item_in r at
message r _ = []

abbrev pub mark : Renewal → Role → ℕ
mark r (First t) = if has_node r t.0 then second_record r.shape t.0 else 0
mark r _ = 0

-- the record that the client announced: for an enqueue that was done its first one, else its second one
abbrev pub outcome_record : Shape → ℕ → Outcome → ℕ
outcome_record s t (Taken Done) = first_record s t
outcome_record s t _ = second_record s t

abbrev pub announced : Shape → ℕ → Told → ℕ
announced s t told_none = 0
announced s t (told_verdict verdict) = outcome_record s t verdict.outcome
announced s t (told_row NoCall) = 0
announced s t (told_row _) = second_record s t

-- the answer of a durable queue's dequeue
abbrev pub cell_told : Shape → ℕ → Told → ℕ
cell_told s t (told_row row_empty) = EMPTY_CELL
cell_told s t (told_row (row_got value)) = first_record s t + GOT_CELL
cell_told s t _ = 0

abbrev pub cell : Renewal → Role → ℕ
cell r (Second t) = cell_told r.shape t.0 (told_in r t.0)
cell r _ = 0

-- the entry of a log queue: its number where it is announced, and its kind, status and node
abbrev pub number_told : Told → ℕ
number_told (told_verdict verdict) = verdict.number
number_told _ = 0

abbrev pub number_at : Renewal → ℕ → ℕ → ℕ
number_at r t entry = if announced r.shape t (told_in r t) == entry then number_told (told_in r t) else 0

abbrev pub number : Renewal → ℕ → Role → ℕ
number r entry (First t) = number_at r t.0 entry
number r entry (Second t) = number_at r t.0 entry
number r entry _ = 0

abbrev pub has_verdict : Told → Bool
has_verdict (told_verdict verdict) = true
has_verdict _ = false

abbrev pub entry_kind : Renewal → Role → ℕ
entry_kind r (Second t) = if has_verdict (told_in r t.0) then DEQUEUE_KIND else 0
entry_kind r role = if is_linked r role then ENQUEUE_KIND else 0

abbrev pub outcome_status : Outcome → ℕ
outcome_status (Taken Empty) = EMPTY_STATUS
outcome_status _ = 0

abbrev pub told_status : Told → ℕ
told_status (told_verdict verdict) = outcome_status verdict.outcome
told_status _ = 0

abbrev pub status : Renewal → Role → ℕ
status r (Second t) = told_status (told_in r t.0)
status r _ = 0

abbrev pub entry_node : Renewal → ℕ → Role → ℕ
entry_node r entry (Second t) = if has_node r t.0 then first_record r.shape t.0 else 0
entry_node r entry role = if is_linked r role then entry else 0

-- the words of the places; recovery moves the head and the tail to where they belong
abbrev pub renewed : Renewal → Place → ℕ
renewed r Head = 0
renewed r Tail = 0
renewed r (Announcement t) = announced r.shape t.0 (told_in r t.0)
renewed r (Bump t) = used_for r.shape (length r.content) t.0
renewed r (Item n part) = item_part (message r (role_of r.shape n.0)) part
renewed r (Next n) = follower n.0 0 (chain r)
renewed r (Mark n) = mark r (role_of r.shape n.0)
renewed r (Cell c) = cell r (role_of r.shape c.0)
renewed r (Insert n) = if is_linked r (role_of r.shape n.0) then n.0 else 0
renewed r (Number e) = number r e.0 (role_of r.shape e.0)
renewed r (EntryKind e) = entry_kind r (role_of r.shape e.0)
renewed r (Status e) = status r (role_of r.shape e.0)
renewed r (EntryNode e) = entry_node r e.0 (role_of r.shape e.0)
