-- What each call knows where it waits.
use Rattle.std.specs.Prelude.{◌≡◌, ◌≢◌, ◌+◌, ◌≤◌, ◌<◌, ◌⊎◌, Some, slice_get, ℕ}
use Rattle.words.specs.PlainQueue.{Value}
use Rattle.words.specs.declared.call.Call.TheVariants.{Deq, Enq}
use Rattle.words.specs.declared.call.Kind.TheVariants.{Log}
use Rattle.words.specs.declared.call.Reply.{Reply}
use Rattle.words.specs.declared.call.NodeId.{NodeId}
use Rattle.words.specs.declared.call.Token.{Token}
use Rattle.arena.specs.Answers.{result_of}
use Rattle.arena.specs.Chain.{LeadsTo}
use Rattle.arena.specs.Place.{number_of}
use Rattle.arena.specs.Shape.{Shape, owner}
use Rattle.arena.specs.Words.{IsWritten, announcements, bumps, links, marks, part_at, values}
use Rattle.arena.specs.declared.place.Part.{Part}
use Rattle.arena.specs.declared.place.Place.{Place}
use Rattle.arena.specs.declared.place.Place.TheVariants.{Announcement, Head, Tail, Item}
use Rattle.arena.specs.declared.place.Write.{Write}
use Rattle.stepper.specs.Loading.{IsLoaded}
use Rattle.stepper.specs.Preparation.{IsBegun, preparation_of}
use Rattle.stepper.specs.declared.prepare.Begun.{Begun}
use Rattle.helping.specs.Claims.{winner}
use Rattle.helping.specs.declared.dequeue.Claim.{Claim}
use Rattle.helping.specs.declared.dequeue.Claim.TheVariants.{LostTo, Won}
use Rattle.helping.specs.declared.op.Op.{Op}
use Rattle.helping.specs.declared.op.Op.TheVariants.{DequeueCheckHead, DequeueClaim, DequeueHelpTail, DequeueLoadHead, DequeueLoadNext, DequeueLoadItem, DequeueLoadTail, DequeueMoveHead, DequeueStoreEmpty, DequeueStoreResult, EnqueueCheckTail, EnqueueHelpTail, EnqueueLink, EnqueueLoadNext, EnqueueLoadTail, EnqueueMoveTail, PrepareFlush, PrepareFence, PrepareStore, Flush as FlushPoint, Fence as FencePoint}
use Rattle.helping.specs.declared.keeping.Keeping.{Keeping}
use Rattle.helping.specs.declared.keeping.Keeping.TheVariants.{Claim as KeepClaim, Empty as KeepEmpty, DequeuePassedLink as KeepDequeuePassedLink, Result as KeepResult, Link as KeepLink, PassedLink as KeepPassedLink}
use Rattle.protocol.specs.Machine.{Memory}
use Rattle.protocol.specs.invariants.Ledger.{Ledger, asked_call, held_token}
use Rattle.protocol.specs.invariants.Ledger.Stage.{Unmoved, Seen, Took}
use Rattle.protocol.specs.invariants.Places.{IsOfRecord, IsOwnWord, SaysEmpty}

-- client i's call has the record c
pub record Mine (s : Shape) (l : Ledger) (i c : ℕ) : Type 0 where
  pub some : c ≢ 0
  pub holds : held_token l i ≡ c
  pub own : owner s c ≡ i

-- no link and no mark names it
pub record Loose (m : Memory) (c : ℕ) : Type 0 where
  pub link : (n : ℕ) → links m.cached n ≢ c
  pub mark : (n : ℕ) → marks m.cached n ≢ c

-- before its effect
pub record Before (s : Shape) (m : Memory) (l : Ledger) (i c : ℕ) : Type 0 where
  pub mine : Mine s l i c
  pub loose : Loose m c
  pub silent : SaysEmpty s m.cached c → ⊥
  pub untaken : (reply : Reply) → l.stage i ≢ Took reply

-- the first of its record's words are kept, and in a log queue it has a number
pub record Written (s : Shape) (m : Memory) (b : Begun) (index : ℕ) : Type 0 where
  pub begun : IsBegun s b
  pub numbered : s.kind ≡ Log → 1 ≤ b.number
  pub written : (j : ℕ) (w : Write) → j < index → slice_get (preparation_of s.kind b) j ≡ Some w
      → IsWritten m.cached w × IsWritten m.kept w

-- none of its writes up to this one is of the place
abbrev pub Unwritten : Shape → Begun → ℕ → Place → Type 0
Unwritten s b index p = (j : ℕ) (w : Write) → j ≤ index → slice_get (preparation_of s.kind b) j ≡ Some w → w.place ≢ p

abbrev pub UnwrittenBelow : Shape → Begun → ℕ → Place → Type 0
UnwrittenBelow s b index p = (j : ℕ) (w : Write) → j < index → slice_get (preparation_of s.kind b) j ≡ Some w → w.place ≢ p

-- while it prepares its record
pub record Preparing (s : Shape) (m : Memory) (l : Ledger) (i : ℕ) (b : Begun) (index : ℕ) (w : Write) : Type 0 where
  pub before : Before s m l i b.token.0
  pub unmoved : l.stage i ≡ Unmoved
  pub begun : l.begun i ≡ b
  pub own : b.client.0 ≡ i
  pub in_hand : slice_get (preparation_of s.kind b) index ≡ Some w
  pub so_far : Written s m b index
  pub bump : bumps m.cached i ≤ b.used + 1
  -- what was not written yet is 0, and no announcement names the record
  pub rest : (p : Place) → IsOwnWord p → IsOfRecord p → number_of p ≡ b.token.0 → Unwritten s b index p
      → (m.cached p ≡ 0) × (m.kept p ≡ 0)
  pub unannounced : Unwritten s b index (Announcement (record { 0 = i }))
      → (announcements m.cached i ≢ b.token.0) × (announcements m.kept i ≢ b.token.0)

-- a word of its message that it is about to store is 0
abbrev pub Unstored : Memory → Write → Type 0
Unstored m w = (n : NodeId) (part : Part) → w.place ≡ Item n part → (m.cached w.place ≡ 0) × (m.kept w.place ≡ 0)

-- its record is prepared: each word of it is kept
pub record Prepared (s : Shape) (m : Memory) (b : Begun) : Type 0 where
  pub begun : IsBegun s b
  pub written : (j : ℕ) (w : Write) → slice_get (preparation_of s.kind b) j ≡ Some w
      → IsWritten m.cached w × IsWritten m.kept w

-- a call after its preparation
pub record Acting (s : Shape) (m : Memory) (l : Ledger) (i c : ℕ) : Type 0 where
  pub mine : Mine s l i c
  pub prepared : Prepared s m (l.begun i)
  pub client : (l.begun i).client.0 ≡ i

-- an enqueue whose node is not linked
pub record Enqueuing (s : Shape) (m : Memory) (l : Ledger) (i c : ℕ) : Type 0 where
  pub before : Before s m l i c
  pub acting : Acting s m l i c
  pub unmoved : l.stage i ≡ Unmoved
  pub asks : asked_call l i ≡ Enq (values m.cached c)
  pub kept : (part : Part) → part_at m.kept c part ≡ part_at m.cached c part

-- an enqueue whose node is linked
pub record Linked (s : Shape) (m : Memory) (l : Ledger) (i c : ℕ) : Type 0 where
  pub acting : Acting s m l i c
  pub unmarked : (n : ℕ) → marks m.cached n ≢ c
  pub asks : asked_call l i ≡ Enq (values m.cached c)

-- a dequeue that has claimed nothing
pub record Dequeuing (s : Shape) (m : Memory) (l : Ledger) (i c : ℕ) : Type 0 where
  pub before : Before s m l i c
  pub acting : Acting s m l i c
  pub asks : asked_call l i ≡ Deq

-- a node that was the tail
pub record WasTail (m : Memory) (last : ℕ) : Type 0 where
  pub chain : LeadsTo (links m.kept) last 0
  pub tail : LeadsTo (links m.kept) (m.cached Tail) last

-- node 0, or a claimed one
abbrev pub IsPassed : Memory → ℕ → Type 0
IsPassed m n = (n ≡ 0) ⊎ (marks m.kept n ≢ 0)

-- first was the sentinel, and next follows it by a kept link
pub record Claims (m : Memory) (first next : ℕ) : Type 0 where
  pub passed : IsPassed m first
  pub head : LeadsTo (links m.kept) (m.cached Head) first
  pub link : links m.kept first ≡ next
  pub some : next ≢ 0
  pub tail : LeadsTo (links m.kept) (m.cached Tail) next

-- the claim of next by its own token, or by another's
abbrev pub Claimer : Shape → Memory → Ledger → ℕ → Token → Claim → Type 0
Claimer s m l i token Won = Acting s m l i token.0 × (asked_call l i ≡ Deq)
Claimer s m l i token (LostTo other) = Dequeuing s m l i token.0 × (l.stage i ≡ Unmoved) × (other.0 ≢ 0)

-- the node next is claimed by the winner, and holds v
pub record Claimed (m : Memory) (first next : ℕ) (v : Value) (found : ℕ) : Type 0 where
  pub claims : Claims m first next
  pub value : values m.kept next ≡ v
  pub marked : marks m.kept next ≡ found
  pub some : found ≢ 0

-- what it knows where it is about to keep a word
abbrev pub KnowsKeeping : Shape → Memory → Ledger → ℕ → Keeping → Type 0
KnowsKeeping s m l i (KeepLink p) = Linked s m l i p.node.0 × (links m.cached p.last.0 ≡ p.node.0)
KnowsKeeping s m l i (KeepPassedLink p) =
    Enqueuing s m l i p.node.0 × (p.next.0 ≢ 0) × (links m.cached p.last.0 ≡ p.next.0)
KnowsKeeping s m l i (KeepEmpty p) =
    Acting s m l i p.token.0 × (asked_call l i ≡ Deq) × Loose m p.token.0 × SaysEmpty s m.cached p.token.0
KnowsKeeping s m l i (KeepDequeuePassedLink p) =
    Dequeuing s m l i p.token.0 × (p.next.0 ≢ 0) × (links m.cached p.last.0 ≡ p.next.0)
KnowsKeeping s m l i (KeepClaim p) =
    Claimer s m l i p.claimed.token p.claimed.claim × Claims m p.claimed.first.0 p.claimed.next.0
    × (values m.kept p.claimed.next.0 ≡ p.claimed.value)
    × (marks m.cached p.claimed.next.0 ≡ (winner p.claimed.claim p.claimed.token).0)
    × ((winner p.claimed.claim p.claimed.token).0 ≢ 0)
KnowsKeeping s m l i (KeepResult p) =
    Claimer s m l i p.claimed.token p.claimed.claim
    × Claimed m p.claimed.first.0 p.claimed.next.0 p.claimed.value (winner p.claimed.claim p.claimed.token).0
    × IsWritten m.cached (result_of s.kind (winner p.claimed.claim p.claimed.token) p.claimed.next)

-- what client i's call knows where it waits
abbrev pub Knows : Shape → Memory → Ledger → ℕ → Op → Type 0
Knows s m l i (PrepareStore p) = Preparing s m l i p.begun p.index p.write × Unstored m p.write
Knows s m l i (PrepareFlush p) = Preparing s m l i p.begun p.index p.write × IsWritten m.cached p.write
Knows s m l i (PrepareFence p) = Preparing s m l i p.begun p.index p.write × IsWritten m.cached p.write
Knows s m l i (EnqueueLoadTail p) = Enqueuing s m l i p.node.0
Knows s m l i (EnqueueLoadNext p) = Enqueuing s m l i p.node.0 × WasTail m p.last.0
Knows s m l i (EnqueueCheckTail p) =
    Enqueuing s m l i p.node.0 × WasTail m p.last.0 × (p.next.0 ≢ 0 → links m.cached p.last.0 ≡ p.next.0)
Knows s m l i (EnqueueLink p) = Enqueuing s m l i p.node.0 × WasTail m p.last.0
Knows s m l i (EnqueueMoveTail p) = Linked s m l i p.node.0 × (links m.kept p.last.0 ≡ p.node.0)
Knows s m l i (EnqueueHelpTail p) = Enqueuing s m l i p.node.0 × (p.next.0 ≢ 0) × (links m.kept p.last.0 ≡ p.next.0)
Knows s m l i (DequeueLoadHead p) = Dequeuing s m l i p.token.0
Knows s m l i (DequeueLoadTail p) =
    Dequeuing s m l i p.token.0 × IsPassed m p.first.0 × LeadsTo (links m.kept) (m.cached Tail) p.first.0
Knows s m l i (DequeueLoadNext p) =
    Dequeuing s m l i p.token.0 × IsPassed m p.first.0 × LeadsTo (links m.kept) p.last.0 p.first.0
    × LeadsTo (links m.kept) (m.cached Tail) p.last.0
Knows s m l i (DequeueCheckHead p) =
    Dequeuing s m l i p.token.0 × IsPassed m p.first.0 × LeadsTo (links m.kept) p.last.0 p.first.0
    × LeadsTo (links m.kept) (m.cached Tail) p.last.0
    × (p.next.0 ≢ 0 → (links m.cached p.first.0 ≡ p.next.0) × (l.stage i ≡ Unmoved))
    × (p.next.0 ≡ 0 → l.stage i ≡ Seen) × (p.first.0 ≢ p.last.0 → p.next.0 ≢ 0)
Knows s m l i (DequeueStoreEmpty p) = Dequeuing s m l i p.token.0 × (l.stage i ≡ Seen)
Knows s m l i (DequeueHelpTail p) = Dequeuing s m l i p.token.0 × (p.next.0 ≢ 0) × (links m.kept p.last.0 ≡ p.next.0)
Knows s m l i (DequeueLoadItem p) =
    Dequeuing s m l i p.token.0 × (l.stage i ≡ Unmoved) × Claims m p.first.0 p.next.0
    × IsLoaded m.kept p.next.0 p.loading
Knows s m l i (DequeueClaim p) =
    Dequeuing s m l i p.token.0 × (l.stage i ≡ Unmoved) × Claims m p.first.0 p.next.0
    × (values m.kept p.next.0 ≡ p.value)
Knows s m l i (DequeueStoreResult p) =
    Claimer s m l i p.claimed.token p.claimed.claim
    × Claimed m p.claimed.first.0 p.claimed.next.0 p.claimed.value (winner p.claimed.claim p.claimed.token).0
Knows s m l i (DequeueMoveHead p) =
    Claimer s m l i p.claimed.token p.claimed.claim
    × Claimed m p.claimed.first.0 p.claimed.next.0 p.claimed.value (winner p.claimed.claim p.claimed.token).0
    × IsWritten m.cached (result_of s.kind (winner p.claimed.claim p.claimed.token) p.claimed.next)
    × IsWritten m.kept (result_of s.kind (winner p.claimed.claim p.claimed.token) p.claimed.next)
Knows s m l i (FlushPoint k) = KnowsKeeping s m l i k
Knows s m l i (FencePoint k) = KnowsKeeping s m l i k
