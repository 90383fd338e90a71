-- What every crash leaves: the kept words are sound, with a head and a tail that may be stale.
use Rattle.std.specs.Prelude.{◌≡◌, ◌≢◌, ◌≤◌, ◌∷◌, ◌++◌, List, map, ℕ}
use Rattle.words.specs.PlainQueue.{Value}
use Rattle.arena.specs.Chain.{IsAmong, IsChain, LeadsTo}
use Rattle.arena.specs.Shape.{Shape}
use Rattle.arena.specs.Words.{announcements, bumps, links, marks, values, HoldsItem}
use Rattle.arena.specs.declared.place.Place.{Place}
use Rattle.arena.specs.declared.place.Place.TheVariants.{Tail}
use Rattle.sound_words.specs.Sound.{IsIssued, IsOwn}
use Rattle.protocol.specs.Machine.{Memory}
use Rattle.protocol.specs.invariants.Base.{Absent, AllFit, Blank}
use Rattle.protocol.specs.invariants.Ledger.{Ledger, nobody}
use Rattle.protocol.specs.invariants.Ledger.Stage.{Unmoved}
use Rattle.protocol.specs.invariants.Places.{SaysEmpty}
use Rattle.protocol.specs.invariants.Records.{Records}

-- words that are cached as they are kept
abbrev pub memory_at_rest : (Place → ℕ) → Memory
memory_at_rest k = record { cached = k; kept = k }

-- the ledger of a queue where nobody calls
abbrev pub idle_ledger : List Value → Ledger
idle_ledger queue = record {
  begun = λ i. nobody;
  stage = λ i. Unmoved;
  queue = queue;
}

-- the kept words, where these nodes are claimed and those are waiting
pub record Sound (s : Shape) (k : Place → ℕ) (claimed waiting : List ℕ) (queue : List Value) : Type 0 where
  pub chain : IsChain (links k) 0 (claimed ++ waiting)
  pub on_chain : (n : ℕ) → links k n ≢ 0 → IsAmong n (0 ∷ claimed ++ waiting)
  pub back : (n : ℕ) → marks k n ≢ 0 → IsAmong n claimed
  pub on : (n : ℕ) → IsAmong n claimed → marks k n ≢ 0
  pub content : map (values k) waiting ≡ queue
  pub item : (n : ℕ) → HoldsItem k n
  pub tail : LeadsTo (links k) (k Tail) 0
  pub issued_link : (n : ℕ) → links k n ≢ 0 → IsIssued s k (links k n)
  pub issued_mark : (n : ℕ) → marks k n ≢ 0 → IsIssued s k (marks k n)
  pub one_mark : (n j : ℕ) → marks k n ≢ 0 → marks k n ≡ marks k j → n ≡ j
  pub silent : (n : ℕ) → marks k n ≢ 0 → SaysEmpty s k (marks k n) → ⊥
  pub no_bump : (t : ℕ) → s.clients ≤ t → bumps k t ≡ 0
  pub announced : (t : ℕ) → announcements k t ≢ 0 → IsOwn s k t (announcements k t)
  pub blank : Blank s k k
  pub absent : Absent s k
  pub fits : AllFit s k
  pub records : (queue : List Value) → Records s (memory_at_rest k) (idle_ledger queue)
