-- What holds of the machine at every moment.
use Rattle.std.specs.Prelude.{◌≡◌, ◌≤◌, List, None, Option, Some, length, ℕ}
use Rattle.words.specs.PlainQueue.{Value}
use Rattle.words.specs.declared.call.Client.{Client}
use Rattle.words.specs.declared.limits.TheConstants.{MAX_CLIENTS}
use Rattle.arena.specs.Shape.{Shape}
use Rattle.stepper.specs.declared.prepare.Begun.{Begun}
use Rattle.events.specs.History.{CallAt, IsDown, IsOpenFrom, IsUnderWay}
use Rattle.events.specs.Trace.{IsTrace, queue_of}
use Rattle.events.specs.declared.event.Effect.{Effect}
use Rattle.events.specs.declared.event.Event.{Event}
use Rattle.recover.specs.declared.recovery.Recovery.{Recovery}
use Rattle.protocol.specs.Machine.{Memory, World}
use Rattle.protocol.specs.declared.UnderWay.{UnderWay}
use Rattle.protocol.specs.invariants.Base.{Base}
use Rattle.protocol.specs.invariants.Knows.{Knows}
use Rattle.protocol.specs.invariants.Ledger.{Ledger, Stage, nobody, stage_at}
use Rattle.protocol.specs.invariants.Ledger.Stage.{Unmoved}
use Rattle.protocol.specs.invariants.Records.{Records}
use Rattle.protocol.specs.invariants.Recovery.{At}
use Rattle.protocol.specs.invariants.Sound.{Sound}
use Rattle.protocol.specs.invariants.Told.{AreIssued, RightlyTold}

-- the record of a call under way, or of none
abbrev pub record_of_call : Option UnderWay → Begun
record_of_call (Some u) = u.begun
record_of_call None = nobody

abbrev pub stage_of : Option UnderWay → List Effect → Stage
stage_of (Some u) effects = stage_at u.place effects
stage_of None effects = Unmoved

-- what a log says of each client's call
abbrev pub ledger_from : (ℕ → Option UnderWay) → List Event → List Value → List Effect → Ledger
ledger_from calls events base effects = record {
  begun = λ i. record_of_call (calls i);
  stage = λ i. stage_of (calls i) effects;
  queue = queue_of events base effects;
}

abbrev pub ledger_of : World → Ledger
ledger_of w = ledger_from w.calls w.log.events w.base w.log.effects

-- the call stands in the history, and has no end yet
pub record IsCalling (events : List Event) (i : ℕ) (u : UnderWay) : Type 0 where
  pub who : u.begun.client.0 ≡ i
  pub stands : CallAt events u.place u.begun.client u.begun.number u.begun.call
  pub open_from : IsOpenFrom events u.begun.client (length events) u.place

abbrev pub KnowsCall : Shape → Memory → Ledger → List Event → ℕ → Option UnderWay → Type 0
KnowsCall s m l events i (Some u) = Knows s m l i u.op × IsCalling events i u
KnowsCall s m l events i None = Unit {0}

-- what holds of a ready world's words, calls and log
pub record Working (w : World) : Type 0 where
  pub ready : w.recovery ≡ None
  pub sixteen : w.shape.clients ≤ MAX_CLIENTS
  pub clients : 1 ≤ w.shape.clients
  pub claimed : List ℕ
  pub waiting : List ℕ
  pub base : Base w.shape w.memory (ledger_of w) claimed waiting
  pub records : Records w.shape w.memory (ledger_of w)
  pub calls : (i : ℕ) → KnowsCall w.shape w.memory (ledger_of w) w.log.events i (w.calls i)
  pub idle : (client : Client) → w.calls client.0 ≡ None → IsUnderWay w.log.events client (length w.log.events) → ⊥
  pub up : IsDown w.log.events (length w.log.events) → ⊥
  pub log : IsTrace w.shape.kind w.base w.told w.log.events w.log.effects

-- what holds of a ready world at every moment, of what clients are told too
pub record IsReady (w : World) : Type 0 where
  pub working : Working w
  pub tells : RightlyTold w
  pub issued : AreIssued w

-- what holds of a world that recovers at every moment
pub record Recovering (w : World) (r : Recovery) : Type 0 where
  pub recovers : w.recovery ≡ Some r
  pub sixteen : w.shape.clients ≤ MAX_CLIENTS
  pub clients : 1 ≤ w.shape.clients
  pub claimed : List ℕ
  pub waiting : List ℕ
  pub sound : Sound w.shape w.memory.kept claimed waiting (queue_of w.log.events w.base w.log.effects)
  pub at : At w.shape w.memory claimed waiting r
  pub none : (i : ℕ) → w.calls i ≡ None
  pub idle : (client : Client) (p : ℕ) → IsOpenFrom w.log.events client (length w.log.events) p → ⊥
  pub log : IsTrace w.shape.kind w.base w.told w.log.events w.log.effects
  pub tells : RightlyTold w

-- what holds of the machine at every moment: it is ready, or it recovers
abbrev pub InvAt : World → Option Recovery → Type 0
InvAt w None = IsReady w
InvAt w (Some r) = Recovering w r

abbrev pub Inv : World → Type 0
Inv w = InvAt w w.recovery
