-- Which kept words are sound: what the words of a queue keep to at every moment, so that recovery can begin with them.
use Rattle.std.specs.Prelude.{◌≡◌, ◌≢◌, ℕ, ◌+◌, ◌≤◌, ◌<◌, ◌⊎◌, List, Option, MatchOption, length, slice_index}
use Rattle.words.specs.Refusal.{number_of}
use Rattle.words.specs.declared.call.Kind.{Kind}
use Rattle.words.specs.declared.call.Kind.TheVariants.{Durable, Log}
use Rattle.words.specs.declared.refusal.Refusal.{Refusal}
use Rattle.words.specs.declared.refusal.Refusal.TheVariants.{Damaged}
use Rattle.words.specs.declared.refusal.Rule.{Rule}
use Rattle.words.specs.declared.refusal.Rule.TheVariants.{Size, Records, Chain, Claims, Ends, Rows, Entries, Image, Directory}
use Rattle.words.specs.declared.limits.TheConstants.{MAX_CALL_NUMBER}
use Rattle.arena.specs.declared.codes.TheConstants.{DEQUEUE_KIND, EMPTY_CELL, EMPTY_STATUS, ENQUEUE_KIND, GOT_CELL, TAKEN_STATUS}
use Rattle.arena.specs.Broker.{block_size_in}
use Rattle.arena.specs.Form.{running}
use Rattle.arena.specs.Layout.{size_in}
use Rattle.sound_words.specs.Kept.{kept_by}
use Rattle.arena.specs.Shape.{Shape, record_of, owner}
use Rattle.arena.specs.Place.{IsClient, IsNode, IsRecord}
use Rattle.arena.specs.Words.{links, marks, part_at, HoldsIn, IsBlankItemIn, inserts, cells, numbers, entry_kinds, statuses, entry_nodes, bumps, announcements}
use Rattle.arena.specs.Chain.{IsChain, IsAmong, LeadsTo}
use Rattle.arena.specs.Content.{chain_of}
use Rattle.arena.specs.declared.form.Form.{Form}
use Rattle.arena.specs.declared.form.Form.TheVariants.{OfItems, OfValues}
use Rattle.arena.specs.declared.place.Part.TheVariants.{First}
use Rattle.arena.specs.declared.place.Place.{Place}
use Rattle.arena.specs.declared.place.Place.TheVariants.{Head, Tail, Insert, Number, EntryNode}

-- the words from this one on are 0
abbrev pub AreZeroFrom : ℕ → List ℕ → Type 0
AreZeroFrom from ws = (w : ℕ) → from ≤ w → w < length ws → slice_index ws w ≡ 0

-- a block of a broker: past the queue's words it is all zero
pub record IsBlockIn (form : Form) (s : Shape) (ws : List ℕ) : Type 0 where
  pub count : length ws ≡ block_size_in form s.clients s.records
  pub room : size_in form s ≤ length ws
  pub rest : AreZeroFrom (size_in form s) ws

-- there are as many words as the layout has, or they are a block
abbrev pub SizeIsSoundIn : Form → Shape → List ℕ → Type 0
SizeIsSoundIn form s ws = (length ws ≡ size_in form s) ⊎ IsBlockIn form s ws

-- its client used the record: it comes before the client's next one
pub record IsIssued (s : Shape) (kept : Place → ℕ) (number : ℕ) : Type 0 where
  pub is_record : IsRecord s number
  pub used : number < record_of s (owner s number) (bumps kept (owner s number))

-- every word of the node, and of the cell or entry, is 0
pub record IsBlankEntry (kept : Place → ℕ) (n : ℕ) : Type 0 where
  pub insert : inserts kept n ≡ 0
  pub number : numbers kept n ≡ 0
  pub kind : entry_kinds kept n ≡ 0
  pub status : statuses kept n ≡ 0
  pub node : entry_nodes kept n ≡ 0

abbrev pub IsBlankAnswer : Kind → (Place → ℕ) → ℕ → Type 0
IsBlankAnswer Durable kept n = cells kept n ≡ 0
IsBlankAnswer Log kept n = IsBlankEntry kept n

pub record IsBlankRecordIn (form : Form) (s : Shape) (kept : Place → ℕ) (n : ℕ) : Type 0 where
  pub item : IsBlankItemIn form kept n
  pub link : links kept n ≡ 0
  pub mark : marks kept n ≡ 0
  pub answer : IsBlankAnswer s.kind kept n

pub record IsBlankIfUnusedIn (form : Form) (s : Shape) (kept : Place → ℕ) (n : ℕ) : Type 0 where
  pub blank : (IsIssued s kept n → ⊥) → IsBlankRecordIn form s kept n

-- no client used more records than it has, and those that are not used are blank
pub record RecordsAreSoundIn (form : Form) (s : Shape) (kept : Place → ℕ) : Type 0 where
  pub within : (t : ℕ) → IsClient s t → bumps kept t ≤ s.records
  pub unused : (n : ℕ) → IsRecord s n → IsBlankIfUnusedIn form s kept n

-- on the chain; claimed there
abbrev pub IsOnChain : Shape → (Place → ℕ) → ℕ → Type 0
IsOnChain s kept n = IsAmong n (chain_of s kept)

pub record IsClaimed (s : Shape) (kept : Place → ℕ) (n : ℕ) : Type 0 where
  pub on_chain : IsOnChain s kept n
  pub marked : marks kept n ≢ 0

-- it has no link and no mark
pub record IsLoose (kept : Place → ℕ) (n : ℕ) : Type 0 where
  pub link : links kept n ≡ 0
  pub mark : marks kept n ≡ 0

pub record IsLooseIfOff (s : Shape) (kept : Place → ℕ) (n : ℕ) : Type 0 where
  pub loose : (IsOnChain s kept n → ⊥) → IsLoose kept n

-- the words of node 0, but for its link, are 0
pub record IsSentinelIn (form : Form) (s : Shape) (kept : Place → ℕ) : Type 0 where
  pub item : IsBlankItemIn form kept 0
  pub mark : marks kept 0 ≡ 0
  pub insert : s.kind ≡ Log → inserts kept 0 ≡ 0

-- the chain ends, so no node stands twice on it, and has nodes of used records; other nodes are loose
pub record ChainIsSoundIn (form : Form) (s : Shape) (kept : Place → ℕ) : Type 0 where
  pub ends : IsChain (links kept) 0 (chain_of s kept)
  pub issued : (n : ℕ) → IsOnChain s kept n → IsIssued s kept n
  pub loose : (n : ℕ) → IsRecord s n → IsLooseIfOff s kept n
  pub sentinel : IsSentinelIn form s kept

-- messages are items; no claimed node follows an unclaimed one; claims are by used records, each by its own
pub record ClaimsAreSoundIn (form : Form) (s : Shape) (kept : Place → ℕ) : Type 0 where
  pub in_range : (n : ℕ) → IsNode s n → HoldsIn form kept n
  pub in_turn : (n : ℕ) → IsOnChain s kept n → IsClaimed s kept (links kept n) → marks kept n ≢ 0
  pub issued : (n : ℕ) → IsClaimed s kept n → IsIssued s kept (marks kept n)
  pub once : (n m : ℕ) → IsClaimed s kept n → IsClaimed s kept m → marks kept n ≡ marks kept m → n ≡ m

-- the head is at the sentinel or at a claimed node, the tail at the sentinel or on the chain
abbrev pub HeadIsSound : Shape → (Place → ℕ) → Type 0
HeadIsSound s kept = (kept Head ≡ 0) ⊎ IsClaimed s kept (kept Head)

abbrev pub TailIsSound : Shape → (Place → ℕ) → Type 0
TailIsSound s kept = (kept Tail ≡ 0) ⊎ IsOnChain s kept (kept Tail)

pub record EndsAreSound (s : Shape) (kept : Place → ℕ) : Type 0 where
  pub head : HeadIsSound s kept
  pub tail : TailIsSound s kept

-- the head is at this claimed node, or after it
pub record IsPassed (s : Shape) (kept : Place → ℕ) (n : ℕ) : Type 0 where
  pub claimed : IsClaimed s kept n
  pub leads : LeadsTo (links kept) (kept Head) n

-- the client used the record
pub record IsOwn (s : Shape) (kept : Place → ℕ) (t number : ℕ) : Type 0 where
  pub issued : IsIssued s kept number
  pub owned : owner s number ≡ t

-- the token claims this node of the chain
pub record IsClaimOf (s : Shape) (kept : Place → ℕ) (token n : ℕ) : Type 0 where
  pub on_chain : IsOnChain s kept n
  pub mark : marks kept n ≡ token

-- what a cell says past GOT_CELL of the node that it claims: its number, and in the form of values its value
abbrev pub named_in : Form → (Place → ℕ) → ℕ → ℕ
named_in OfItems kept n = n
named_in OfValues kept n = part_at kept n First

-- the cell names a node that it claims
pub record IsResultIn (form : Form) (s : Shape) (kept : Place → ℕ) (cell : ℕ) : Type 0 where
  pub node : ℕ
  pub claim : IsClaimOf s kept cell node
  pub named : named_in form kept node + GOT_CELL ≡ cells kept cell

abbrev pub RowIsSound : Shape → (Place → ℕ) → ℕ → Type 0
RowIsSound s kept t = (announcements kept t ≡ 0) ⊎ IsOwn s kept t (announcements kept t)

-- each row names a cell of its client; a cell tells only what it claims; one that claims a node is not empty, and
-- once the head has passed the node it is not open
pub record RowsAreSoundIn (form : Form) (s : Shape) (kept : Place → ℕ) : Type 0 where
  pub rows : (t : ℕ) → IsClient s t → RowIsSound s kept t
  pub results : (c : ℕ) → IsRecord s c → GOT_CELL ≤ cells kept c → IsResultIn form s kept c
  pub not_empty : (n : ℕ) → IsClaimed s kept n → cells kept (marks kept n) ≢ EMPTY_CELL
  pub not_open : (n : ℕ) → IsPassed s kept n → cells kept (marks kept n) ≢ 0

-- an entry of an enqueue names its node
pub record IsEnqueue (kept : Place → ℕ) (e : ℕ) : Type 0 where
  pub kind : entry_kinds kept e ≡ ENQUEUE_KIND
  pub node : entry_nodes kept e ≡ e

abbrev pub IsOfSomeCall : (Place → ℕ) → ℕ → Type 0
IsOfSomeCall kept e = IsEnqueue kept e ⊎ (entry_kinds kept e ≡ DEQUEUE_KIND)

-- an announced entry: of its client, for an enqueue or a dequeue, and numbered
pub record IsAnnounced (s : Shape) (kept : Place → ℕ) (t e : ℕ) : Type 0 where
  pub own : IsOwn s kept t e
  pub call : IsOfSomeCall kept e
  pub numbered : 1 ≤ numbers kept e
  pub in_range : numbers kept e ≤ MAX_CALL_NUMBER

abbrev pub LogIsSound : Shape → (Place → ℕ) → ℕ → Type 0
LogIsSound s kept t = (announcements kept t ≡ 0) ⊎ IsAnnounced s kept t (announcements kept t)

-- a chain node is inserted by the entry of its number, which is an enqueue's
pub record IsInserted (kept : Place → ℕ) (n : ℕ) : Type 0 where
  pub insert : inserts kept n ≡ n
  pub kind : entry_kinds kept n ≡ ENQUEUE_KIND

-- one status is that of an enqueue whose node is on the chain, the other that of a dequeue that claims nothing
pub record IsTaken (s : Shape) (kept : Place → ℕ) (e : ℕ) : Type 0 where
  pub status : statuses kept e ≡ TAKEN_STATUS
  pub kind : entry_kinds kept e ≡ ENQUEUE_KIND
  pub on_chain : IsOnChain s kept e

pub record IsEmpty (s : Shape) (kept : Place → ℕ) (e : ℕ) : Type 0 where
  pub status : statuses kept e ≡ EMPTY_STATUS
  pub kind : entry_kinds kept e ≡ DEQUEUE_KIND
  pub no_claim : (n : ℕ) → IsClaimOf s kept e n → ⊥

abbrev pub StatusIsSound : Shape → (Place → ℕ) → ℕ → Type 0
StatusIsSound s kept e = (statuses kept e ≡ 0) ⊎ (IsTaken s kept e ⊎ IsEmpty s kept e)

-- the node word of a dequeue's entry is that of a node that it claims
abbrev pub RemovedIsSound : Shape → (Place → ℕ) → ℕ → Type 0
RemovedIsSound s kept e = (entry_nodes kept e ≡ 0) ⊎ IsClaimOf s kept e (entry_nodes kept e)

-- each log names an entry of its client; entries tell of enqueues whose nodes are on the chain, of dequeues that found
-- the queue empty, and of nodes that they claim; once the head has passed a node its claim tells of it
pub record EntriesAreSound (s : Shape) (kept : Place → ℕ) : Type 0 where
  pub inserts : (n : ℕ) → IsOnChain s kept n → IsInserted kept n
  pub logs : (t : ℕ) → IsClient s t → LogIsSound s kept t
  pub kinds : (e : ℕ) → IsRecord s e → entry_kinds kept e ≤ DEQUEUE_KIND
  pub statuses : (e : ℕ) → IsRecord s e → StatusIsSound s kept e
  pub claims : (n : ℕ) → IsClaimed s kept n → entry_kinds kept (marks kept n) ≡ DEQUEUE_KIND
  pub results : (e : ℕ) → IsRecord s e → entry_kinds kept e ≡ DEQUEUE_KIND → RemovedIsSound s kept e
  pub told : (n : ℕ) → IsPassed s kept n → entry_nodes kept (marks kept n) ≢ 0

-- the answers of calls, by the kind of the queue
abbrev pub AnswersAreSoundIn : Form → Kind → Shape → (Place → ℕ) → Type 0
AnswersAreSoundIn form Durable s kept = RowsAreSoundIn form s kept
AnswersAreSoundIn form Log s kept = EntriesAreSound s kept

-- all of it
pub record IsSoundIn (form : Form) (s : Shape) (kept : Place → ℕ) : Type 0 where
  pub records : RecordsAreSoundIn form s kept
  pub chain : ChainIsSoundIn form s kept
  pub claims : ClaimsAreSoundIn form s kept
  pub ends : EndsAreSound s kept
  pub answers : AnswersAreSoundIn form s.kind s kept

-- the words are as many as they should be, and sound
pub record AreSoundWordsIn (form : Form) (s : Shape) (ws : List ℕ) : Type 0 where
  pub count : SizeIsSoundIn form s ws
  pub sound : IsSoundIn form s (kept_by form s ws)

-- what a rule says of the words of a queue; a rule of the other kind of queue, or of a broker, says nothing
abbrev pub IfKind : Kind → Kind → Type 0 → Type 0
IfKind Durable Durable P = P
IfKind Log Log P = P
IfKind Durable Log P = Unit {0}
IfKind Log Durable P = Unit {0}

abbrev pub ObeysIn : Form → Shape → List ℕ → Rule → Type 0
ObeysIn form s ws Size = SizeIsSoundIn form s ws
ObeysIn form s ws Records = RecordsAreSoundIn form s (kept_by form s ws)
ObeysIn form s ws Chain = ChainIsSoundIn form s (kept_by form s ws)
ObeysIn form s ws Claims = ClaimsAreSoundIn form s (kept_by form s ws)
ObeysIn form s ws Ends = EndsAreSound s (kept_by form s ws)
ObeysIn form s ws Rows = IfKind Durable s.kind (RowsAreSoundIn form s (kept_by form s ws))
ObeysIn form s ws Entries = IfKind Log s.kind (EntriesAreSound s (kept_by form s ws))
ObeysIn form s ws Image = Unit {0}
ObeysIn form s ws Directory = Unit {0}

-- the words break this rule, and none before it
pub record IsFirstBrokenIn (form : Form) (s : Shape) (ws : List ℕ) (rule : Rule) : Type 0 where
  pub broken : ObeysIn form s ws rule → ⊥
  pub before : (other : Rule) → number_of other < number_of rule → ObeysIn form s ws other

-- none is broken, or this one is the first
abbrev pub IsVerdictOn : Form → Shape → List ℕ → Option Rule → Type 0
IsVerdictOn form s ws verdict = MatchOption verdict (AreSoundWordsIn form s ws) (IsFirstBrokenIn form s ws)

-- so it is of each record
abbrev pub EachRecord : Shape → (ℕ → Type 0) → Type 0
EachRecord s claim = (n : ℕ) → IsRecord s n → claim n

-- a refusal by the first rule that is broken
abbrev pub IsDamagedIn : Form → Shape → List ℕ → Refusal → Type 0
IsDamagedIn form s ws (Damaged rule) = IsFirstBrokenIn form s ws rule
IsDamagedIn form s ws _ = ⊥

-- all this in the form that queues run in
abbrev pub SizeIsSound : Shape → List ℕ → Type 0
SizeIsSound = SizeIsSoundIn running

abbrev pub IsBlank : Shape → (Place → ℕ) → ℕ → Type 0
IsBlank = IsBlankRecordIn running

abbrev pub RecordsAreSound : Shape → (Place → ℕ) → Type 0
RecordsAreSound = RecordsAreSoundIn running

abbrev pub ChainIsSound : Shape → (Place → ℕ) → Type 0
ChainIsSound = ChainIsSoundIn running

abbrev pub ClaimsAreSound : Shape → (Place → ℕ) → Type 0
ClaimsAreSound = ClaimsAreSoundIn running

abbrev pub IsResult : Shape → (Place → ℕ) → ℕ → Type 0
IsResult = IsResultIn running

abbrev pub RowsAreSound : Shape → (Place → ℕ) → Type 0
RowsAreSound = RowsAreSoundIn running

abbrev pub AnswersAreSound : Kind → Shape → (Place → ℕ) → Type 0
AnswersAreSound = AnswersAreSoundIn running

abbrev pub IsSound : Shape → (Place → ℕ) → Type 0
IsSound = IsSoundIn running

abbrev pub AreSoundWords : Shape → List ℕ → Type 0
AreSoundWords = AreSoundWordsIn running

abbrev pub Obeys : Shape → List ℕ → Rule → Type 0
Obeys = ObeysIn running

abbrev pub IsFirstBroken : Shape → List ℕ → Rule → Type 0
IsFirstBroken = IsFirstBrokenIn running

abbrev pub IsDamaged : Shape → List ℕ → Refusal → Type 0
IsDamaged = IsDamagedIn running

-- a client announced the entry
pub record IsAnnouncedOne (s : Shape) (kept : Place → ℕ) (e : ℕ) : Type 0 where
  pub client : ℕ
  pub is_client : IsClient s client
  pub names : announcements kept client ≡ e

-- the words of sound ones that recovery and calls read: unlinked nodes and entries that nobody announced may tell
-- anything
abbrev pub IsRead : Shape → (Place → ℕ) → Place → Type 0
IsRead s kept (Insert n) = (n.0 ≡ 0) ⊎ IsOnChain s kept n.0
IsRead s kept (Number e) = IsAnnouncedOne s kept e.0
IsRead s kept (EntryNode e) = (entry_kinds kept e.0 ≡ DEQUEUE_KIND) ⊎ IsAnnouncedOne s kept e.0
IsRead s kept _ = Unit {0}
