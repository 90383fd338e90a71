-- What a call is answered, after one that was left open.
use Rattle.std.proofs.Common.{◌≡◌, true, ℕ, List, Option, Some, refl, sym, subst, inl, inr}
use Rattle.words.specs.declared.refusal.Refusal.{Refusal}
use Rattle.words.specs.declared.refusal.Refusal.TheVariants.{NoRoom}
use Rattle.words.specs.declared.call.Client.{Client}
use Rattle.words.specs.declared.call.Reply.{Reply as AnyReply}
use Rattle.wire.specs.declared.answer.Answer.{Answer as WireAnswer}
use Rattle.wire.specs.declared.answer.Answer.TheVariants.{Interrupted as interrupted_answer, Refused, Reply, Unfinished as unfinished_answer}
use Rattle.session.specs.Sessions.{Sessioned}
use Rattle.workers.specs.Marks.{IsMarkedBy}
use Rattle.workers.specs.Refusals.{IfNotMade, IsSettledAnswer, WasSettled}
use Rattle.workers.specs.Moments.{GoesOnLater}
use Rattle.workers.specs.Seen.{HadCalled, IfMade, IsCallRefused}
use Rattle.workers.specs.declared.entry.Answer.{Answer}
use Rattle.workers.specs.declared.entry.Answer.TheVariants.{Interrupted as seat_interrupted, Refused as seat_refused}
use Rattle.workers.specs.declared.entry.Answer.TheVariants.{Reply as seat_reply, Unfinished as seat_unfinished}
use Rattle.workers.specs.declared.entry.End.{End}
use Rattle.workers.specs.declared.entry.End.TheVariants.{Answered, Interrupted, Open}
use Rattle.workers.specs.declared.entry.Entry.{Entry}
use Rattle.workers.specs.Answers.{HasOneMore, Remembers, entry_of}
use Rattle.workers.proofs.Facts.{between_since}
use Rattle.desk.specs.Answering.{IsCallAnswer, IsCallMade, IsLastCall, IsRefusedIn, IsWhyUnrenewed}
use Rattle.desk.specs.Calls.{IsSettledOnWire, answer_on_wire, call_in}
use Rattle.desk.specs.Requests.{is_no_room}
use Rattle.desk.specs.declared.calls.Asked.{Asked}

-- the call that its list has more
last_call : (old new : List Entry) (asked : Asked) (name : List ℕ) (end : End) → asked.queue ≡ Some name
    → HasOneMore old (call_in name asked) end new → IsLastCall new asked end
last_call old new asked name end there more = record {
  before = old;
  entry = entry_of more.queue (call_in name asked) more.place end;
  is = more.is;
  queue = there;
  number = refl;
  call = refl;
  ended = refl;
}

-- what a seat was answered, at the session that was marked with the answer
module _ (first before s : Sessioned) (client : Client) (old new : List Entry) (asked : Asked) (name : List ℕ)
    (there : asked.queue ≡ Some name) where
  call_made : (end : End) → HasOneMore old (call_in name asked) end new → IsMarkedBy first client new s
      → HadCalled first client old before s → IsCallMade first before s client asked end
  unfolding last_call
  call_made end more marked since =
      record { list = new; last = last_call old new asked name end there more; marked = marked; since = since }

  pub call_answer : (given : Answer) → Remembers old (call_in name asked) given new
      → IfMade given (IsMarkedBy first client new s) → IfMade given (HadCalled first client old before s)
      → IfNotMade given (IsCallRefused old s client (call_in name asked))
      → IsCallAnswer first before s client asked (answer_on_wire given)
  call_answer (seat_reply reply) more marked since why = call_made (Answered reply) more marked since
  call_answer (seat_refused refusal) more marked since (inl busy) = inl busy.0
  call_answer (seat_refused refusal) more marked since (inr (inl memory)) = inr (inl memory)
  call_answer (seat_refused refusal) more marked since (inr (inr why)) =
      inr (inr (inl (subst (λ (q : Option (List ℕ)). IsRefusedIn s client asked q refusal) (sym there) why)))
  call_answer seat_interrupted more marked since why = call_made Interrupted more marked since
  call_answer seat_unfinished more marked since why = call_made Open more marked since

-- what was made behind a mark was made behind each earlier one
made_since : (first earlier before s : Sessioned) (client : Client) (asked : Asked) (end : End)
    → GoesOnLater earlier before → IsCallMade first before s client asked end → IsCallMade first earlier s client asked end
made_since first earlier before s client asked end on made = record {
  list = made.list;
  last = made.last;
  marked = made.marked;
  since = between_since earlier before s on made.since;
}

pub call_since : (first earlier before s : Sessioned) (client : Client) (asked : Asked) (answer : WireAnswer)
    → GoesOnLater earlier before → IsCallAnswer first before s client asked answer
    → IsCallAnswer first earlier s client asked answer
call_since first earlier before s client asked (Reply reply) on made =
    made_since first earlier before s client asked (Answered reply) on made
call_since first earlier before s client asked interrupted_answer on made =
    made_since first earlier before s client asked Interrupted on made
call_since first earlier before s client asked unfinished_answer on made =
    made_since first earlier before s client asked Open on made
call_since first earlier before s client asked (Refused refusal) on why = why
call_since first earlier before s client asked _ on none = absurd none

-- a call that found no room, and whose queue could not begin in fresh records
pub room_refused : (first before s : Sessioned) (client : Client) (asked : Asked) (answer : WireAnswer) (refusal : Refusal)
    → IsCallAnswer first before s client asked answer → is_no_room answer ≡ true → IsWhyUnrenewed refusal
    → IsCallAnswer first before s client asked (Refused refusal)
room_refused first before s client asked (Refused NoRoom) refusal (inl busy) none why = absurd (cc busy)
room_refused first before s client asked (Refused NoRoom) refusal (inr (inl memory)) none why = absurd (cc memory)
room_refused first before s client asked (Refused NoRoom) refusal (inr (inr (inl room))) none why = inr (inr (inr (why, room)))
room_refused first before s client asked (Refused NoRoom) refusal (inr (inr (inr room))) none why = inr (inr (inr (why, room.1)))
room_refused first before s client asked _ refusal is none why = absurd (cc none)

-- what a seat answers to a settled number
pub settled_on_wire : (reply : AnyReply) (given : Answer) → IsSettledAnswer reply given
    → IsSettledOnWire reply (answer_on_wire given)
settled_on_wire reply (seat_reply other) is = is
settled_on_wire reply (seat_refused refusal) is = is
settled_on_wire reply seat_interrupted is = absurd is
settled_on_wire reply seat_unfinished is = absurd is

-- a number that was settled for the seat's client in the queue of the name that is found
pub settled_for : (first : Sessioned) (client other : Client) (asked : Asked) (name found : List ℕ) (reply : AnyReply)
    → other ≡ client → asked.queue ≡ Some name → asked.queue ≡ Some found
    → WasSettled first client (call_in name asked) reply → WasSettled first other (call_in found asked) reply
settled_for first client other asked name found reply same is there was =
    let one : name ≡ found = cc (is, there) in
    subst (λ (c : Client). WasSettled first c (call_in found asked) reply) (sym same)
    (subst (λ (n : List ℕ). WasSettled first client (call_in n asked) reply) one was)
