-- What holds of the words of records: answers, entries and announcements.
use Rattle.std.specs.Prelude.{◌≡◌, ◌≢◌, ◌+◌, ◌≤◌, ◌⊎◌, [], ◌∷◌, List, ℕ}
use Rattle.words.specs.declared.call.Call.TheVariants.{Deq}
use Rattle.words.specs.declared.call.Kind.TheVariants.{Log}
use Rattle.words.specs.declared.call.Reply.{Reply}
use Rattle.words.specs.declared.call.Reply.TheVariants.{Done, Empty, Got}
use Rattle.words.specs.declared.limits.TheConstants.{MAX_CALL_NUMBER}
use Rattle.arena.specs.Answers.{result_of}
use Rattle.arena.specs.Chain.{IsAmong}
use Rattle.arena.specs.Shape.{Shape}
use Rattle.arena.specs.Words.{announcements, cells, entry_kinds, entry_nodes, links, marks, statuses, values}
use Rattle.arena.specs.declared.place.Place.{Place}
use Rattle.arena.specs.declared.place.Place.TheVariants.{EntryKind, EntryNode, Head, Insert, Number}
use Rattle.arena.specs.declared.place.Write.{Write}
use Rattle.stepper.specs.declared.prepare.Begun.{Begun}
use Rattle.helping.specs.Table.{node_of, token_of}
use Rattle.events.specs.Telling.{IsToldOf}
use Rattle.protocol.specs.Machine.{Memory}
use Rattle.protocol.specs.Recovered.{end_of}
use Rattle.protocol.specs.invariants.Ledger.{Ledger, asked_call, held_token}
use Rattle.protocol.specs.invariants.Ledger.Stage.{Took}
use Rattle.protocol.specs.invariants.Places.{SaysEmpty}

-- the word has this value, cached and kept
abbrev pub Both : Memory → Place → ℕ → Type 0
Both m p v = (m.cached p ≡ v) × (m.kept p ≡ v)

-- these nodes follow `from`, each by the link of the one before it
abbrev pub IsPath : (ℕ → ℕ) → ℕ → List ℕ → Type 0
IsPath link from [] = Unit {0}
IsPath link from (n ∷ ns) = (link from ≡ n) × (n ≢ 0) × IsPath link n ns

-- the result of a claimed node, and where it belongs
abbrev pub answer : Shape → Memory → ℕ → Write
answer s m n = result_of s.kind (token_of (marks m.kept n)) (node_of n)

-- it stands there
abbrev pub IsAnswered : Shape → Memory → ℕ → Type 0
IsAnswered s m n = Both m (answer s m n).place (answer s m n).value

-- each node up to h is claimed and answered
pub record AnsweredTo (s : Shape) (m : Memory) (h : ℕ) : Type 0 where
  pub passed : List ℕ
  pub path : IsPath (links m.kept) 0 passed
  pub at : h ≡ end_of 0 passed
  pub claimed : (n : ℕ) → IsAmong n passed → marks m.kept n ≢ 0
  pub answered : (n : ℕ) → IsAmong n passed → IsAnswered s m n

-- the entry of a linked node
pub record IsEnqueued (m : Memory) (c : ℕ) : Type 0 where
  pub insert : Both m (Insert (node_of c)) c
  pub kind : Both m (EntryKind (token_of c)) 1

-- what a cell may have: a result is that of a node that the cell claims
abbrev pub CellRight : Memory → ℕ → ℕ → Type 0
CellRight m c v =
    v ≢ 0 → v ≢ 1 → record { at : ℕ; named : marks m.kept at ≡ c; some : c ≢ 0; value : v ≡ at + 2 }

-- what the node word of a dequeue's entry may have: the node that it claims
abbrev pub NodeRight : Memory → ℕ → ℕ → Type 0
NodeRight m c v = (entry_kinds m.cached c ≡ 2) ⊎ (entry_kinds m.kept c ≡ 2) → v ≢ 0 → (marks m.kept v ≡ c) × (c ≢ 0)

-- what a status may be: 1 for a node of the chain, 2 for a dequeue
pub record StatusRight (m : Memory) (c v : ℕ) : Type 0 where
  pub taken : v ≡ 1 → record { at : ℕ; linked : links m.kept at ≡ c; some : c ≢ 0 }
  pub empty : v ≡ 2 → Both m (EntryKind (token_of c)) 2

-- an announced entry has its number, which is in range, and its kind and, of an enqueue, its node
pub record IsEntry (m : Memory) (e : ℕ) : Type 0 where
  pub number : ℕ
  pub some : 1 ≤ number
  pub in_range : number ≤ MAX_CALL_NUMBER
  pub numbered : Both m (Number (token_of e)) number
  pub kind : (Both m (EntryKind (token_of e)) 1 × Both m (EntryNode (token_of e)) e) ⊎ Both m (EntryKind (token_of e)) 2

-- the kept words say that the call took effect so
abbrev pub TookBy : Shape → (Place → ℕ) → Begun → Reply → Type 0
TookBy s k b Done = record { at : ℕ; linked : links k at ≡ b.token.0; some : b.token.0 ≢ 0; asks : b.call ≢ Deq }
TookBy s k b (Got v) = record { at : ℕ; marked : marks k at ≡ b.token.0; some : b.token.0 ≢ 0; value : values k at ≡ v }
TookBy s k b Empty = SaysEmpty s k b.token.0

-- an announcement that is not kept is that of the client's call
pub record IsAnnouncing (s : Shape) (m : Memory) (l : Ledger) (i : ℕ) : Type 0 where
  pub holds : announcements m.cached i ≡ held_token l i
  pub some : announcements m.cached i ≢ 0
  pub told_of : IsToldOf s.kind (asked_call l i)

pub record Records (s : Shape) (m : Memory) (l : Ledger) : Type 0 where
  pub announcing : (i : ℕ) → announcements m.cached i ≢ announcements m.kept i → IsAnnouncing s m l i
  pub to_head : AnsweredTo s m (m.cached Head)
  pub to_kept_head : AnsweredTo s m (m.kept Head)
  pub cell : (c : ℕ) → CellRight m c (cells m.cached c)
  pub cell_kept : (c : ℕ) → CellRight m c (cells m.kept c)
  pub node : (c : ℕ) → NodeRight m c (entry_nodes m.cached c)
  pub node_kept : (c : ℕ) → NodeRight m c (entry_nodes m.kept c)
  pub enqueued : s.kind ≡ Log → (n : ℕ) → links m.cached n ≢ 0 → IsEnqueued m (links m.cached n)
  pub dequeued : s.kind ≡ Log → (n : ℕ) → marks m.cached n ≢ 0 → Both m (EntryKind (token_of (marks m.cached n))) 2
  pub status : (c : ℕ) → StatusRight m c (statuses m.cached c)
  pub status_kept : (c : ℕ) → StatusRight m c (statuses m.kept c)
  pub entry : s.kind ≡ Log → (t : ℕ) → announcements m.cached t ≢ 0 → IsEntry m (announcements m.cached t)
  pub entry_kept : s.kind ≡ Log → (t : ℕ) → announcements m.kept t ≢ 0 → IsEntry m (announcements m.kept t)
  pub took : (i : ℕ) (reply : Reply) → l.stage i ≡ Took reply → TookBy s m.kept (l.begun i) reply
