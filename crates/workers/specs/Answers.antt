-- What a call leaves in its seat's list.
use Rattle.std.specs.Prelude.{◌≡◌, ◌++◌, IsSome, ℕ, List, [], ◌∷◌, Option, Some, None, Result, Ok, Err}
use Rattle.words.specs.declared.call.Client.{Client}
use Rattle.words.specs.declared.call.Reply.{Reply}
use Rattle.words.specs.declared.refusal.Refusal.{Refusal}
use Rattle.arena.specs.declared.broker.SlotId.{SlotId}
use Rattle.session.specs.Requests.{IsRequestBegun}
use Rattle.session.specs.Sessions.{Sessioned}
use Rattle.workers.specs.Lists.{with_end}
use Rattle.workers.specs.declared.entry.Answer.{Answer}
use Rattle.workers.specs.declared.entry.Answer.TheVariants.{Refused, Reply as answer_reply, Interrupted as answer_interrupted, Unfinished}
use Rattle.workers.specs.declared.entry.End.{End}
use Rattle.workers.specs.declared.entry.End.TheVariants.{Answered, Interrupted, Open}
use Rattle.workers.specs.declared.entry.Entry.{Entry}
use Rattle.workers.specs.declared.entry.Request.{Request}
use Rattle.workers.specs.declared.entry.Took.{Took}
use Rattle.workers.specs.declared.entry.Took.TheVariants.{More, NoMemory as took_no_memory, Answered as took_answered, Interrupted as took_interrupted}

-- the session began the client's request in the queue of a slot, or had its reply, or refused it
abbrev pub IsBegunAs : Sessioned → Sessioned → ℕ → Client → Request → Result (Option Reply) Refusal → Type 0
IsBegunAs old new slot client r result = IsRequestBegun old new slot client r.number r.call result

-- the entry of a call that was asked for
abbrev pub entry_of : SlotId → Request → Option ℕ → End → Entry
entry_of queue r place end = record {
  name = r.name;
  queue = queue;
  number = r.number;
  call = r.call;
  place = place;
  end = end;
}

-- the entry of a call that begins: it is open from the next place, or it has the reply that was kept
abbrev pub entry_begun : SlotId → Request → ℕ → Option Reply → Entry
entry_begun queue r next (Some reply) = entry_of queue r None (Answered reply)
entry_begun queue r next None = entry_of queue r (Some next) Open

-- a call that is not answered ran
abbrev pub RanIfOpen : End → Option ℕ → Type 0
RanIfOpen (Answered reply) place = Unit {0}
RanIfOpen Interrupted place = IsSome place
RanIfOpen Open place = IsSome place

-- the list has one entry more, of this call, in some slot
pub record HasOneMore (old : List Entry) (r : Request) (end : End) (new : List Entry) : Type 0 where
  pub queue : SlotId
  pub place : Option ℕ
  pub ran : RanIfOpen end place
  pub is : new ≡ old ++ entry_of queue r place end ∷ []

-- exactly one entry more, with what was asked for and what is answered; or none, where it is refused
abbrev pub Remembers : List Entry → Request → Answer → List Entry → Type 0
Remembers old r (answer_reply reply) new = HasOneMore old r (Answered reply) new
Remembers old r (Refused refusal) new = new ≡ old
Remembers old r answer_interrupted new = HasOneMore old r Interrupted new
Remembers old r Unfinished new = HasOneMore old r Open new

-- the open call has its answer
abbrev pub Finishes : List Entry → Answer → List Entry → Type 0
Finishes old (answer_reply reply) new = new ≡ with_end (Answered reply) old
Finishes old (Refused refusal) new = ⊥
Finishes old answer_interrupted new = new ≡ with_end Interrupted old
Finishes old Unfinished new = new ≡ old

-- what one step leaves
abbrev pub IsListAfter : List Entry → Took → List Entry → Type 0
IsListAfter old More new = new ≡ old
IsListAfter old (took_answered reply) new = new ≡ with_end (Answered reply) old
IsListAfter old took_interrupted new = new ≡ with_end Interrupted old
IsListAfter old took_no_memory new = new ≡ old

-- the list has one entry more, of an open call that ran from some place
pub record IsAddedOpen (old : List Entry) (r : Request) (new : List Entry) : Type 0 where
  pub queue : SlotId
  pub place : ℕ
  pub is : new ≡ old ++ entry_of queue r (Some place) Open ∷ []

-- what a start leaves: nothing, where it is refused; the kept reply, or the open call
abbrev pub IsListBegun : List Entry → Request → Result (Option Reply) Refusal → List Entry → Type 0
IsListBegun old r (Err refusal) new = new ≡ old
IsListBegun old r (Ok (Some reply)) new = HasOneMore old r (Answered reply) new
IsListBegun old r (Ok None) new = IsAddedOpen old r new
