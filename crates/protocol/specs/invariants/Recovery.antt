-- What recovery knows where it waits.
use Rattle.std.specs.Prelude.{replicate, ◌≡◌, ◌≢◌, ◌≤◌, ◌<◌, ◌++◌, ◌==◌, Bool, List, None, Option, Some, false, length, slice_get, true, ℕ}
use Rattle.words.specs.declared.call.Kind.TheVariants.{Durable, Log}
use Rattle.words.specs.declared.call.NodeId.{NodeId}
use Rattle.words.specs.declared.limits.TheConstants.{MAX_CLIENTS}
use Rattle.words.specs.declared.told.Told.{Told}
use Rattle.words.specs.declared.told.Told.TheVariants.{None as told_none}
use Rattle.arena.specs.Answers.{result_of}
use Rattle.arena.specs.Chain.{IsAmong}
use Rattle.arena.specs.Shape.{Shape}
use Rattle.arena.specs.Words.{announcements, entry_kinds, links, marks, numbers, statuses}
use Rattle.arena.specs.declared.place.Place.{Place}
use Rattle.arena.specs.declared.place.Place.TheVariants.{Head, Status, Tail}
use Rattle.stepper.specs.Loading.{IsLoaded}
use Rattle.recover.specs.declared.recovery.Recovery.{Recovery}
use Rattle.recover.specs.declared.point.RecoveryPoint.{RecoveryPoint}
use Rattle.recover.specs.declared.point.RecoveryPoint.TheVariants.{RecoveryLoadAnnouncement, RecoveryLoadCell, RecoveryLoadEntryNode, RecoveryLoadGot, RecoveryLoadHead, RecoveryLoadInsert, RecoveryLoadKind, RecoveryLoadMark, RecoveryLoadNext, RecoveryLoadNumber, RecoveryLoadRemove, RecoveryLoadRemovedItem, RecoveryLoadStatus, RecoveryStoreHead, RecoveryStoreResult, RecoveryStoreStatus, RecoveryStoreTail, Flush as FlushPoint, Fence as FencePoint}
use Rattle.recover.specs.declared.keeping.RecoveryKeeping.{RecoveryKeeping}
use Rattle.recover.specs.declared.keeping.RecoveryKeeping.TheVariants.{Head as KeepHead, Result as KeepResult, Status as KeepStatus, Tail as KeepTail}
use Rattle.protocol.specs.Kept.{TellsOf}
use Rattle.protocol.specs.Machine.{Memory}
use Rattle.protocol.specs.Recovered.{end_of}
use Rattle.protocol.specs.invariants.Records.{AnsweredTo, IsPath}
use Rattle.protocol.specs.invariants.Sound.{memory_at_rest}

-- every word is cached as it is kept; or every one but this
abbrev pub Same : Memory → Type 0
Same m = (q : Place) → m.cached q ≡ m.kept q

abbrev pub SameBut : Memory → Place → Type 0
SameBut m p = (q : Place) → q ≢ p → m.cached q ≡ m.kept q

-- the head is kept right; the nodes behind the last claimed one up to cur are known to be inserted
pub record TakenTo (s : Shape) (k : Place → ℕ) (claimed : List ℕ) (cur : ℕ) : Type 0 where
  pub head : k Head ≡ end_of 0 claimed
  pub all : AnsweredTo s (memory_at_rest k) (end_of 0 claimed)
  pub passed : List ℕ
  pub path : IsPath (links k) (end_of 0 claimed) passed
  pub at : cur ≡ end_of (end_of 0 claimed) passed
  pub taken : s.kind ≡ Log → (n : ℕ) → IsAmong n passed → statuses k n ≡ 1

-- where recovery is on the chain, before the head is moved and after it
abbrev pub Position : Shape → (Place → ℕ) → List ℕ → Bool → ℕ → Type 0
Position s k claimed false cur = AnsweredTo s (memory_at_rest k) cur
Position s k claimed true cur = TakenTo s k claimed cur

-- node follows cur
pub record Ahead (s : Shape) (k : Place → ℕ) (claimed : List ℕ) (moved : Bool) (cur node : ℕ) : Type 0 where
  pub position : Position s k claimed moved cur
  pub link : links k cur ≡ node
  pub some : node ≢ 0

-- node follows an answered one, and is claimed by this token
pub record Claim (s : Shape) (k : Place → ℕ) (claimed : List ℕ) (node mark : ℕ) : Type 0 where
  pub cur : ℕ
  pub ahead : Ahead s k claimed false cur node
  pub marked : marks k node ≡ mark
  pub some : mark ≢ 0

abbrev pub Unclaimed : Shape → (Place → ℕ) → ℕ → Option NodeId → Type 0
Unclaimed s k cur None = links k cur ≡ 0
Unclaimed s k cur (Some n) = (links k cur ≡ n.0) × (n.0 ≢ 0) × (s.kind ≡ Log → statuses k n.0 ≡ 1)

-- cur is the last claimed node
pub record LastClaimed (s : Shape) (k : Place → ℕ) (claimed : List ℕ) (cur : ℕ)
    (unclaimed : Option NodeId) : Type 0 where
  pub answered : AnsweredTo s (memory_at_rest k) cur
  pub at : cur ≡ end_of 0 claimed
  pub next : Unclaimed s k cur unclaimed

-- cur is the last node
pub record LastNode (s : Shape) (k : Place → ℕ) (claimed : List ℕ) (cur : ℕ) : Type 0 where
  pub taken : TakenTo s k claimed cur
  pub none : links k cur ≡ 0

-- the chain's ends are right, and the clients before this one are told
pub record Telling (s : Shape) (k : Place → ℕ) (claimed waiting : List ℕ) (client : ℕ) (told : List Told) : Type 0 where
  pub head : k Head ≡ end_of 0 claimed
  pub tail : k Tail ≡ end_of 0 (claimed ++ waiting)
  pub all : AnsweredTo s (memory_at_rest k) (end_of 0 claimed)
  pub taken : s.kind ≡ Log → (n : ℕ) → IsAmong n waiting → statuses k n ≡ 1
  pub below : client < s.clients
  pub sixteen : length told ≡ MAX_CLIENTS
  pub so_far : (t : ℕ) (x : Told) → t < client → slice_get told t ≡ Some x → TellsOf s k t x
  pub rest : (t : ℕ) (x : Told) → client ≤ t → slice_get told t ≡ Some x → x ≡ told_none

-- the client's announcement names this entry, whose number and kind are known
pub record Announced (k : Place → ℕ) (client token : ℕ) : Type 0 where
  pub names : announcements k client ≡ token
  pub some : token ≢ 0

-- until the list is mended nobody is told anything
abbrev pub nothing_told : List Told
nothing_told = replicate MAX_CLIENTS told_none

abbrev pub IsUntold : List Told → RecoveryPoint → Type 0
IsUntold told (RecoveryLoadHead p) = told ≡ nothing_told
IsUntold told (RecoveryLoadNext p) = told ≡ nothing_told
IsUntold told (RecoveryLoadInsert p) = told ≡ nothing_told
IsUntold told (RecoveryStoreStatus p) = told ≡ nothing_told
IsUntold told (RecoveryLoadMark p) = told ≡ nothing_told
IsUntold told (RecoveryStoreResult p) = told ≡ nothing_told
IsUntold told (RecoveryStoreHead p) = told ≡ nothing_told
IsUntold told (RecoveryStoreTail p) = told ≡ nothing_told
IsUntold told (RecoveryLoadAnnouncement p) = Unit {0}
IsUntold told (RecoveryLoadCell p) = Unit {0}
IsUntold told (RecoveryLoadGot p) = Unit {0}
IsUntold told (RecoveryLoadNumber p) = Unit {0}
IsUntold told (RecoveryLoadKind p) = Unit {0}
IsUntold told (RecoveryLoadStatus p) = Unit {0}
IsUntold told (RecoveryLoadRemove p) = Unit {0}
IsUntold told (RecoveryLoadEntryNode p) = Unit {0}
IsUntold told (RecoveryLoadRemovedItem p) = Unit {0}
IsUntold told (FlushPoint k) = told ≡ nothing_told
IsUntold told (FencePoint k) = told ≡ nothing_told

-- what recovery knows where it is about to keep a word: that word alone may differ
abbrev pub AtKeeping : Shape → Memory → List ℕ → RecoveryKeeping → Type 0
AtKeeping s m claimed (KeepStatus p) =
    SameBut m (Status p.entry) × (m.cached (Status p.entry) ≡ 1) × Ahead s m.kept claimed p.moved p.cur.0 p.node.0
    × (s.kind ≡ Log) × (p.entry.0 ≡ p.node.0)
AtKeeping s m claimed (KeepResult p) =
    SameBut m (result_of s.kind p.mark p.node).place
    × (m.cached (result_of s.kind p.mark p.node).place ≡ (result_of s.kind p.mark p.node).value)
    × Claim s m.kept claimed p.node.0 p.mark.0
AtKeeping s m claimed (KeepHead p) =
    SameBut m Head × (m.cached Head ≡ p.cur.0) × LastClaimed s m.kept claimed p.cur.0 p.unclaimed
AtKeeping s m claimed (KeepTail p) =
    SameBut m Tail × record { cur : ℕ; last : LastNode s m.kept claimed cur; cached : m.cached Tail ≡ cur }

-- what it knows at this point, having told this
abbrev pub AtPoint : Shape → Memory → List ℕ → List ℕ → List Told → RecoveryPoint → Type 0
AtPoint s m claimed waiting told (RecoveryLoadHead p) = Same m
AtPoint s m claimed waiting told (RecoveryLoadNext p) = Same m × Position s m.kept claimed p.moved p.cur.0
AtPoint s m claimed waiting told (RecoveryLoadInsert p) =
    Same m × Ahead s m.kept claimed p.moved p.cur.0 p.node.0 × (s.kind ≡ Log)
AtPoint s m claimed waiting told (RecoveryStoreStatus p) =
    Same m × Ahead s m.kept claimed p.moved p.cur.0 p.node.0 × (s.kind ≡ Log) × (p.entry.0 ≡ p.node.0)
AtPoint s m claimed waiting told (RecoveryLoadMark p) =
    Same m × Ahead s m.kept claimed false p.cur.0 p.node.0 × (s.kind ≡ Log → statuses m.kept p.node.0 ≡ 1)
AtPoint s m claimed waiting told (RecoveryStoreResult p) = Same m × Claim s m.kept claimed p.node.0 p.mark.0
AtPoint s m claimed waiting told (RecoveryStoreHead p) = Same m × LastClaimed s m.kept claimed p.cur.0 p.unclaimed
AtPoint s m claimed waiting told (RecoveryStoreTail p) = Same m × LastNode s m.kept claimed p.cur.0
AtPoint s m claimed waiting told (RecoveryLoadAnnouncement p) =
    Same m × Telling s m.kept claimed waiting p.client.0 told
AtPoint s m claimed waiting told (RecoveryLoadCell p) =
    Same m × Telling s m.kept claimed waiting p.client.0 told × Announced m.kept p.client.0 p.token.0
    × (s.kind ≡ Durable)
AtPoint s m claimed waiting told (RecoveryLoadGot p) =
    Same m × Telling s m.kept claimed waiting p.client.0 told × (s.kind ≡ Durable)
    × IsLoaded m.kept p.node.0 p.loading
    × record {
      token : ℕ;
      announced : Announced m.kept p.client.0 token;
      marked : marks m.kept p.node.0 ≡ token;
    }
AtPoint s m claimed waiting told (RecoveryLoadNumber p) =
    Same m × Telling s m.kept claimed waiting p.client.0 told × Announced m.kept p.client.0 p.token.0 × (s.kind ≡ Log)
AtPoint s m claimed waiting told (RecoveryLoadKind p) =
    Same m × Telling s m.kept claimed waiting p.client.0 told × Announced m.kept p.client.0 p.token.0 × (s.kind ≡ Log)
    × (p.number ≡ numbers m.kept p.token.0)
AtPoint s m claimed waiting told (RecoveryLoadStatus p) =
    Same m × Telling s m.kept claimed waiting p.client.0 told × Announced m.kept p.client.0 p.token.0 × (s.kind ≡ Log)
    × (p.number ≡ numbers m.kept p.token.0)
    × (p.is_enqueue ≡ (entry_kinds m.kept p.token.0 == 1))
AtPoint s m claimed waiting told (RecoveryLoadRemove p) =
    Same m × Telling s m.kept claimed waiting p.client.0 told × Announced m.kept p.client.0 p.token.0 × (s.kind ≡ Log)
    × (p.number ≡ numbers m.kept p.token.0)
    × (entry_kinds m.kept p.token.0 ≡ 1) × (statuses m.kept p.token.0 ≢ 1)
AtPoint s m claimed waiting told (RecoveryLoadEntryNode p) =
    Same m × Telling s m.kept claimed waiting p.client.0 told × Announced m.kept p.client.0 p.token.0 × (s.kind ≡ Log)
    × (p.number ≡ numbers m.kept p.token.0)
    × (entry_kinds m.kept p.token.0 ≢ 1) × (statuses m.kept p.token.0 ≢ 2)
AtPoint s m claimed waiting told (RecoveryLoadRemovedItem p) =
    Same m × Telling s m.kept claimed waiting p.client.0 told × (s.kind ≡ Log)
    × IsLoaded m.kept p.node.0 p.loading
    × record {
      token : ℕ;
      announced : Announced m.kept p.client.0 token;
      number : p.number ≡ numbers m.kept token;
      kind : entry_kinds m.kept token ≢ 1;
      marked : marks m.kept p.node.0 ≡ token;
    }
AtPoint s m claimed waiting told (FlushPoint k) = AtKeeping s m claimed k
AtPoint s m claimed waiting told (FencePoint k) = AtKeeping s m claimed k

-- what recovery knows where it waits
pub record At (s : Shape) (m : Memory) (claimed waiting : List ℕ) (r : Recovery) : Type 0 where
  pub untold : IsUntold r.told r.at
  pub point : AtPoint s m claimed waiting r.told r.at
