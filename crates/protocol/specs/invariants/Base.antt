-- What holds of the words and the log at every moment of a ready queue.
use Rattle.std.specs.Prelude.{◌≡◌, ◌≢◌, ◌≤◌, ◌⊎◌, ◌∷◌, ◌++◌, List, map, ℕ}
use Rattle.words.specs.PlainQueue.{Value}
use Rattle.words.specs.declared.call.Call.TheVariants.{Deq, Enq}
use Rattle.words.specs.declared.call.Reply.TheVariants.{Done, Empty, Got}
use Rattle.arena.specs.Chain.{IsAmong, LeadsTo}
use Rattle.arena.specs.Place.{number_of}
use Rattle.arena.specs.Ranges.{Fits, IsReadByCalls}
use Rattle.arena.specs.Shape.{Shape, owner}
use Rattle.arena.specs.Words.{announcements, bumps, links, marks, part_at, values}
use Rattle.arena.specs.declared.place.Part.{Part}
use Rattle.arena.specs.declared.place.Part.TheVariants.{Length, First, Second, Third}
use Rattle.words.specs.Item.{AreParts}
use Rattle.arena.specs.declared.place.Place.{Place}
use Rattle.arena.specs.declared.place.Place.TheVariants.{Head, Tail}
use Rattle.sound_words.specs.Sound.{IsIssued, IsOwn}
use Rattle.protocol.specs.Machine.{Memory}
use Rattle.protocol.specs.invariants.Ledger.{Ledger, asked_call, held_token}
use Rattle.protocol.specs.invariants.Ledger.Stage.{Unmoved, Seen, Took}
use Rattle.protocol.specs.invariants.Links.{Links, Marks}
use Rattle.protocol.specs.invariants.Places.{IsOfKind, IsOfRecord, Says, empties}

-- words of records that are not issued are 0
abbrev pub Blank : Shape → (Place → ℕ) → (Place → ℕ) → Type 0
Blank s issued f = (p : Place) → IsOfRecord p → number_of p ≢ 0 → (IsIssued s issued (number_of p) → ⊥) → f p ≡ 0

-- words of the other kind of queue are 0, and the message of node 0 and the words of a record 0
abbrev pub Absent : Shape → (Place → ℕ) → Type 0
Absent s f = (p : Place) → (IsOfKind s.kind p → ⊥) → f p ≡ 0

-- what calls read is in range
abbrev pub AllFit : Shape → (Place → ℕ) → Type 0
AllFit s f = (p : Place) → IsReadByCalls p → Fits s p (f p)

-- the words of a node's message, whether it is linked or not: they are an item's; a kept one is as it is cached, or 0;
-- and where one of the three words after the length is cached, the length is kept
pub record AreMessage (cached kept : Part → ℕ) : Type 0 where
  pub item : AreParts (cached Length) (cached First) (cached Second) (cached Third)
  pub stays : (part : Part) → (kept part ≡ cached part) ⊎ (kept part ≡ 0)
  pub sized : (part : Part) → part ≢ Length → cached part ≢ 0 → kept Length ≡ cached Length

abbrev pub IsMessage : Memory → ℕ → Type 0
IsMessage m n = AreMessage (part_at m.cached n) (part_at m.kept n)

-- an enqueue that linked its node c, which is not kept
pub record IsLinking (s : Shape) (l : Ledger) (value : ℕ → Value) (c : ℕ) : Type 0 where
  pub holds : held_token l (owner s c) ≡ c
  pub asks : asked_call l (owner s c) ≡ Enq (value c)
  pub unmoved : l.stage (owner s c) ≡ Unmoved

-- a dequeue that claimed a node by its token c, which is not kept
pub record IsClaiming (s : Shape) (l : Ledger) (c : ℕ) : Type 0 where
  pub holds : held_token l (owner s c) ≡ c
  pub asks : asked_call l (owner s c) ≡ Deq
  pub unmoved : l.stage (owner s c) ≡ Unmoved

-- a dequeue that stored its empty answer, which is not kept
pub record IsAnswering (s : Shape) (l : Ledger) (mark : ℕ → ℕ) (c : ℕ) : Type 0 where
  pub holds : held_token l (owner s c) ≡ c
  pub asks : asked_call l (owner s c) ≡ Deq
  pub seen : l.stage (owner s c) ≡ Seen
  pub unmarked : (n : ℕ) → mark n ≢ c

-- the answers of dequeues that found the queue empty, cached (e) and kept (k)
pub record Empties (s : Shape) (l : Ledger) (mark e k : ℕ → ℕ) : Type 0 where
  pub flying : (c : ℕ) → Says s e c → (Says s k c → ⊥) → IsAnswering s l mark c
  pub took : (c : ℕ) → Says s k c → c ≢ 0 → held_token l (owner s c) ≡ c → l.stage (owner s c) ≡ Took Empty
  pub unmarked : (n : ℕ) → mark n ≢ 0 → Says s e (mark n) → ⊥
  pub said : (c : ℕ) → Says s k c → Says s e c

-- what is so of the words and the log, where these nodes are claimed and those are waiting
pub record Base (s : Shape) (m : Memory) (l : Ledger) (claimed waiting : List ℕ) : Type 0 where
  pub chained : Links (links m.cached) (links m.kept) (claimed ++ waiting)
  pub marked : Marks (marks m.cached) (marks m.kept) claimed waiting
  pub content : map (values m.kept) waiting ≡ l.queue
  pub head : IsAmong (m.cached Head) (0 ∷ claimed)
  pub head_to_tail : LeadsTo (links m.kept) (m.cached Tail) (m.cached Head)
  pub kept_head : IsAmong (m.kept Head) (0 ∷ claimed)
  pub kept_head_to_head : LeadsTo (links m.kept) (m.cached Head) (m.kept Head)
  pub kept_tail : LeadsTo (links m.kept) (m.kept Tail) 0
  pub linked_part : (n : ℕ) (part : Part) → links m.cached n ≢ 0
      → part_at m.cached (links m.cached n) part ≡ part_at m.kept (links m.cached n) part
  pub message : (n : ℕ) → IsMessage m n
  pub issued_link : (n : ℕ) → links m.cached n ≢ 0 → IsIssued s m.kept (links m.cached n)
  pub issued_mark : (n : ℕ) → marks m.cached n ≢ 0 → IsIssued s m.kept (marks m.cached n)
  pub flying_link : (n : ℕ) → links m.cached n ≢ 0 → links m.kept n ≡ 0
      → IsLinking s l (values m.cached) (links m.cached n)
  pub flying_mark : (n : ℕ) → marks m.cached n ≢ 0 → marks m.kept n ≡ 0 → IsClaiming s l (marks m.cached n)
  pub took_link : (n : ℕ) → links m.kept n ≢ 0 → held_token l (owner s (links m.kept n)) ≡ links m.kept n
      → l.stage (owner s (links m.kept n)) ≡ Took Done
  pub took_mark : (n : ℕ) → marks m.kept n ≢ 0 → held_token l (owner s (marks m.kept n)) ≡ marks m.kept n
      → l.stage (owner s (marks m.kept n)) ≡ Took (Got (values m.kept n))
  -- the tail lags by one node at most, and one node at most behind the head is claimed
  pub lag : links m.cached (m.cached Tail) ≢ 0 → links m.cached (links m.cached (m.cached Tail)) ≡ 0
  pub one_claim : links m.cached (m.cached Head) ≢ 0 → marks m.cached (links m.cached (m.cached Head)) ≢ 0
      → links m.cached (links m.cached (m.cached Head)) ≢ 0
      → marks m.cached (links m.cached (links m.cached (m.cached Head))) ≡ 0
  pub one_mark : (n j : ℕ) → marks m.cached n ≢ 0 → marks m.cached n ≡ marks m.cached j → n ≡ j
  pub empty : Empties s l (marks m.cached) (empties s m.cached) (empties s m.kept)
  pub kept_bump : (t : ℕ) → bumps m.kept t ≤ bumps m.cached t
  pub no_bump : (t : ℕ) → s.clients ≤ t → bumps m.cached t ≡ 0
  pub announced : (t : ℕ) → announcements m.cached t ≢ 0 → IsOwn s m.kept t (announcements m.cached t)
  pub announced_kept : (t : ℕ) → announcements m.kept t ≢ 0 → IsOwn s m.kept t (announcements m.kept t)
  pub blank : Blank s m.kept m.cached
  pub blank_kept : Blank s m.kept m.kept
  pub absent : Absent s m.cached
  pub absent_kept : Absent s m.kept
  pub fits : AllFit s m.cached
  pub fits_kept : AllFit s m.kept
