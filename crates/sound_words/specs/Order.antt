-- Tables that `sound` fills as it goes: where each node stands on the chain, and what each token claims.
use Rattle.std.specs.Prelude.{◌≡◌, ◌≢◌, ℕ, ◌+◌, ◌≤◌, ◌<◌, List, length, slice_index}
use Rattle.arena.specs.declared.codes.TheConstants.{DEQUEUE_KIND, GOT_CELL}
use Rattle.arena.specs.Shape.{Shape, greatest}
use Rattle.arena.specs.Words.{links, marks, cells, entry_kinds, entry_nodes}
use Rattle.arena.specs.Chain.{IsChain, LeadsTo}
use Rattle.arena.specs.Content.{chain_of}
use Rattle.arena.specs.declared.form.Form.{Form}
use Rattle.arena.specs.declared.place.Place.{Place}
use Rattle.sound_words.specs.Kept.{kept_by}
use Rattle.sound_words.specs.declared.soundness.Survey.{Survey}
use Rattle.sound_words.specs.Sound.{IsOnChain, IsIssued, IsClaimed, IsClaimOf, IsPassed, IsResultIn, IsInserted, StatusIsSound, RemovedIsSound}

-- the chain ends, and has nodes of used records
pub record IsRun (s : Shape) (kept : Place → ℕ) : Type 0 where
  pub ends : IsChain (links kept) 0 (chain_of s kept)
  pub issued : (n : ℕ) → IsOnChain s kept n → IsIssued s kept n

-- each node of the chain has its place there, from 1, and others have 0
pub record IsOrder (s : Shape) (kept : Place → ℕ) (place : ℕ → ℕ) : Type 0 where
  pub on_chain : (n : ℕ) → place n ≢ 0 → IsOnChain s kept n
  pub noted : (n : ℕ) → IsOnChain s kept n → place n ≢ 0
  pub next : (n : ℕ) → place n ≢ 0 → links kept n ≢ 0 → place (links kept n) ≡ place n + 1
  pub leads : (n to : ℕ) → place n ≢ 0 → place n ≤ place to → LeadsTo (links kept) to n

-- each claim is of used records, and each by its own
pub record AreClaims (s : Shape) (kept : Place → ℕ) : Type 0 where
  pub issued : (n : ℕ) → IsClaimed s kept n → IsIssued s kept (marks kept n)
  pub once : (n m : ℕ) → IsClaimed s kept n → IsClaimed s kept m → marks kept n ≡ marks kept m → n ≡ m

-- each token has the node that it claims, and others have 0
pub record IsClaimTable (s : Shape) (kept : Place → ℕ) (claimed : ℕ → ℕ) : Type 0 where
  pub claim : (c : ℕ) → claimed c ≢ 0 → IsClaimOf s kept c (claimed c)
  pub noted : (n : ℕ) → IsClaimed s kept n → claimed (marks kept n) ≡ n

-- a node does not follow an unclaimed one, if it is claimed
pub record IsInTurn (s : Shape) (kept : Place → ℕ) (n : ℕ) : Type 0 where
  pub turn : IsOnChain s kept n → IsClaimed s kept (links kept n) → marks kept n ≢ 0

-- such a table has a number for each node, or for each token
pub record IsPlaceTable (s : Shape) (kept : Place → ℕ) (place : List ℕ) : Type 0 where
  pub long : greatest s < length place
  pub order : IsOrder s kept (λ n. slice_index place n)

pub record IsTokenTable (s : Shape) (kept : Place → ℕ) (claimed : List ℕ) : Type 0 where
  pub long : greatest s < length claimed
  pub table : IsClaimTable s kept (λ n. slice_index claimed n)

-- both tables of the words of a queue
pub record IsSurveyOf (form : Form) (s : Shape) (ws place claimed : List ℕ) : Type 0 where
  pub places : IsPlaceTable s (kept_by form s ws) place
  pub tokens : IsTokenTable s (kept_by form s ws) claimed

-- the survey is of these words
abbrev pub IsSurvey : Form → Shape → List ℕ → Survey → Type 0
IsSurvey form s ws survey = IsSurveyOf form s ws survey.place survey.claimed

-- durable queues: a cell tells only what it claims, and a claimed node's cell tells of it
pub record CellTellsIn (form : Form) (s : Shape) (kept : Place → ℕ) (c : ℕ) : Type 0 where
  pub result : GOT_CELL ≤ cells kept c → IsResultIn form s kept c

pub record ClaimIsToldInCell (s : Shape) (kept : Place → ℕ) (n : ℕ) : Type 0 where
  pub not_empty : IsClaimed s kept n → cells kept (marks kept n) ≢ 1
  pub not_open : IsPassed s kept n → cells kept (marks kept n) ≢ 0

-- log queues: a chain node is inserted by its entry, an entry tells only of what it claims, and a claimed node's entry
-- of it
pub record IsInsertedIfOn (s : Shape) (kept : Place → ℕ) (n : ℕ) : Type 0 where
  pub inserted : IsOnChain s kept n → IsInserted kept n

pub record EntryTells (s : Shape) (kept : Place → ℕ) (e : ℕ) : Type 0 where
  pub kind : entry_kinds kept e ≤ 2
  pub status : StatusIsSound s kept e
  pub result : entry_kinds kept e ≡ DEQUEUE_KIND → RemovedIsSound s kept e

pub record ClaimIsToldInEntry (s : Shape) (kept : Place → ℕ) (n : ℕ) : Type 0 where
  pub kind : IsClaimed s kept n → entry_kinds kept (marks kept n) ≡ DEQUEUE_KIND
  pub told : IsPassed s kept n → entry_nodes kept (marks kept n) ≢ 0
