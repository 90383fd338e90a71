-- A client in turn: its call began last, and nobody else has one.
use Rattle.std.specs.Prelude.{◌≡◌, ℕ, suc, length}
use Rattle.words.specs.declared.call.Call.{Call}
use Rattle.words.specs.declared.call.Client.{Client}
use Rattle.words.specs.declared.call.Reply.{Reply}
use Rattle.words.specs.PlainQueue.{reply_of, served}
use Rattle.events.specs.History.{CallAt, IsUnderWay}
use Rattle.events.specs.Orders.{InOrder}
use Rattle.interleave.specs.State.{State, kept_content, order_in}

-- the last event is the client's Call, no other client has a call under way, and this one took no effect yet
pub record IsInTurn (w : State) (client : Client) (call : Call) : Type 0 where
  pub place : ℕ
  pub number : ℕ
  pub begins : CallAt w.log.events place client number call
  pub last : suc place ≡ length w.log.events
  pub alone : (other : Client) → IsUnderWay w.log.events other (length w.log.events) → other ≡ client
  pub fresh : ¬ (InOrder (order_in w) place)

-- no client has a call under way
abbrev pub NobodyCalls : State → Type 0
NobodyCalls w = (client : Client) → ¬ (IsUnderWay w.log.events client (length w.log.events))

-- the call was answered as by the plain queue that held what the kept words held, they hold what it leaves, and nobody
-- calls now
pub record IsServedAlone (old : State) (call : Call) (reply : Reply) (new : State) : Type 0 where
  pub answer : reply ≡ reply_of (kept_content old) call
  pub content : kept_content new ≡ served (kept_content old) call
  pub nobody : NobodyCalls new

-- so it was with the client's call, if it was in turn
abbrev pub IsServedInTurn : Client → State → Reply → State → Type 0
IsServedInTurn client old reply new = (call : Call) → IsInTurn old client call → IsServedAlone old call reply new
