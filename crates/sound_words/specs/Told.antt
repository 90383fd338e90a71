-- What clients are told by kept words: what recovery tells, as a function of the words that the crash left.
use Rattle.std.specs.Prelude.{ℕ, Bool, List, [], ◌∷◌, map, nat_eq, nat_lt, Option, Some, None, if◌then◌else◌, ◌==◌}
use Rattle.std.specs.List.{list_any, range_with_len}
use Rattle.words.specs.Told.{no_call}
use Rattle.words.specs.declared.call.Kind.{Kind}
use Rattle.words.specs.declared.call.Kind.TheVariants.{Durable, Log}
use Rattle.words.specs.declared.call.Reply.TheVariants.{Done, Got, Empty}
use Rattle.words.specs.declared.told.Outcome.{Outcome}
use Rattle.words.specs.declared.told.Outcome.TheVariants.{NotTaken, Taken}
use Rattle.words.specs.declared.told.Row.{Row}
use Rattle.words.specs.declared.told.Row.TheVariants.{Open, Empty as row_empty, Got as row_got}
use Rattle.words.specs.declared.told.Told.{Told}
use Rattle.words.specs.declared.told.Told.TheVariants.{None as told_none, Verdict as told_verdict, Row as told_row}
use Rattle.words.specs.declared.limits.TheConstants.{MAX_CLIENTS}
use Rattle.arena.specs.declared.codes.TheConstants.{EMPTY_CELL, EMPTY_STATUS, ENQUEUE_KIND}
use Rattle.arena.specs.Form.{running}
use Rattle.arena.specs.Shape.{Shape}
use Rattle.arena.specs.declared.form.Form.{Form}
use Rattle.arena.specs.Words.{marks, values_in, cells, numbers, entry_kinds, statuses, announcements}
use Rattle.arena.specs.Content.{chain_of}
use Rattle.arena.specs.declared.place.Place.{Place}

-- the first of these nodes that the token claims
abbrev pub node_claimed_by : (Place → ℕ) → ℕ → List ℕ → Option ℕ
node_claimed_by kept token [] = None
node_claimed_by kept token (n ∷ ns) = if marks kept n == token then Some n else node_claimed_by kept token ns

-- of a dequeue's cell: what it got, by the chain node that it claims, or what it found
abbrev pub row_in : Form → (Place → ℕ) → ℕ → Option ℕ → Row
row_in form kept cell (Some node) = row_got (values_in form kept node)
row_in form kept cell None = if cells kept cell == EMPTY_CELL then row_empty else Open

-- of an entry: an enqueue took effect where its node is on the chain, a dequeue where it found the queue empty or
-- claims a chain node
abbrev pub enqueue_outcome : Bool → Outcome
enqueue_outcome on_chain = if on_chain then Taken Done else NotTaken

abbrev pub dequeue_outcome_in : Form → (Place → ℕ) → Option ℕ → Outcome
dequeue_outcome_in form kept (Some node) = Taken (Got (values_in form kept node))
dequeue_outcome_in form kept None = NotTaken

abbrev pub outcome_in : Form → Shape → (Place → ℕ) → ℕ → Outcome
outcome_in form s kept entry =
    if entry_kinds kept entry == ENQUEUE_KIND then enqueue_outcome (list_any (nat_eq entry) (chain_of s kept))
    else (if statuses kept entry == EMPTY_STATUS then Taken Empty
    else dequeue_outcome_in form kept (node_claimed_by kept entry (chain_of s kept)))

-- what became of the call that the client announced last
abbrev pub report_in : Form → Kind → Shape → (Place → ℕ) → ℕ → Told
report_in form Durable s kept cell = told_row (row_in form kept cell (node_claimed_by kept cell (chain_of s kept)))
report_in form Log s kept entry =
    told_verdict (record { number = numbers kept entry; outcome = outcome_in form s kept entry })

-- what a client is told; past the last client there is nobody to be told
abbrev pub told_in : Form → Shape → (Place → ℕ) → ℕ → Told
told_in form s kept t =
    if nat_lt t s.clients
    then (if announcements kept t == 0 then no_call s.kind else report_in form s.kind s kept (announcements kept t))
    else told_none

-- what all of them are told
abbrev pub tells_in : Form → Shape → (Place → ℕ) → List Told
tells_in form s kept = map (told_in form s kept) (range_with_len 0 MAX_CLIENTS)

-- all this in the form that queues run in
abbrev pub row_with : (Place → ℕ) → ℕ → Option ℕ → Row
row_with = row_in running

abbrev pub dequeue_outcome : (Place → ℕ) → Option ℕ → Outcome
dequeue_outcome = dequeue_outcome_in running

abbrev pub outcome_by : Shape → (Place → ℕ) → ℕ → Outcome
outcome_by = outcome_in running

abbrev pub report_on : Kind → Shape → (Place → ℕ) → ℕ → Told
report_on = report_in running

abbrev pub told_by : Shape → (Place → ℕ) → ℕ → Told
told_by = told_in running

abbrev pub tells_by : Shape → (Place → ℕ) → List Told
tells_by = tells_in running

-- what became of the dequeue with this cell
abbrev pub row_by : Shape → (Place → ℕ) → ℕ → Row
row_by s kept cell = row_with kept cell (node_claimed_by kept cell (chain_of s kept))
