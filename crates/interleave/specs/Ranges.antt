-- Every word that calls read, and every number of a waiting call, is in its range: so each step is safe, in every
-- interleaving.
use Rattle.std.specs.Prelude.{◌≡◌, ℕ, ◌≤◌, List, Option, Some, None, length, replicate, slice_index, slice_index_or}
use Rattle.persist.specs.Memory.{Words}
use Rattle.words.specs.declared.limits.TheConstants.{MAX_CLIENTS}
use Rattle.arena.specs.Layout.{size_of, word_at}
use Rattle.arena.specs.Shape.{Shape}
use Rattle.arena.specs.Place.{IsPlace}
use Rattle.arena.specs.Ranges.{Fits, IsReadByCalls}
use Rattle.arena.specs.declared.place.Place.{Place}
use Rattle.sound_words.specs.Sound.{SizeIsSound}
use Rattle.stepper.specs.Preparation.{IsBegun}
use Rattle.helping.specs.Table.{IsPoint}
use Rattle.words.specs.declared.call.Kind.{Kind}
use Rattle.words.specs.declared.call.Kind.TheVariants.{Durable as durable_kind, Log as log_kind}
use Rattle.protocol.specs.declared.UnderWay.{UnderWay}
use Rattle.interleave.specs.declared.queue.Queue.{Queue}
use Rattle.interleave.specs.declared.queue.Queue.TheVariants.{Durable, Log}

abbrev pub AllFit : Shape → List ℕ → Type 0
AllFit s ws = (p : Place) → IsPlace s p → IsReadByCalls p → Fits s p (slice_index ws (word_at s p))

-- there are as many words as the layout has, or a block's, those past the layout 0; what calls read is in its range
pub record WordsFit (s : Shape) (ws : Words) : Type 0 where
  pub room : size_of s ≤ length ws.cached
  pub same : length ws.kept ≡ length ws.cached
  pub cached_count : SizeIsSound s ws.cached
  pub count : SizeIsSound s ws.kept
  pub cached : AllFit s ws.cached
  pub kept : AllFit s ws.kept

-- all words are 0, cached and kept, and they are as many as the layout has, or a block's
pub record AreUnused (s : Shape) (ws : Words) : Type 0 where
  pub count : SizeIsSound s ws.kept
  pub cached : ws.cached ≡ replicate (length ws.kept) 0
  pub kept : ws.kept ≡ replicate (length ws.kept) 0

-- there are as many kept words as the layout has, and what calls read is in its range: of words to look at
pub record KeptFit (s : Shape) (ws : List ℕ) : Type 0 where
  pub room : size_of s ≤ length ws
  pub fits : AllFit s ws

-- what a call under way learnt is in range
pub record CallFits (s : Shape) (u : UnderWay) : Type 0 where
  pub begun : IsBegun s u.begun
  pub point : IsPoint s u.op

abbrev pub IfCall : Shape → Option UnderWay → Type 0
IfCall s None = Unit {0}
IfCall s (Some u) = CallFits s u

-- the queue is of the layout's kind
abbrev pub IsOfKind : Kind → Queue → Type 0
IsOfKind durable_kind (Durable told) = Unit {0}
IsOfKind durable_kind (Log clients) = ⊥
IsOfKind log_kind (Durable told) = ⊥
IsOfKind log_kind (Log clients) = Unit {0}

pub record IsSafe (s : Shape) (ws : Words) (calls : List (Option UnderWay)) : Type 0 where
  pub words : WordsFit s ws
  pub clients : length calls ≡ s.clients
  pub few : s.clients ≤ MAX_CLIENTS
  pub calls_fit : (t : ℕ) → IfCall s (slice_index_or calls t None)
