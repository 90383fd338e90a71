-- Replies of answers in turn stand in lists, at sessions that go on.
use Rattle.std.proofs.Common.{◌≡◌, ℕ, List, [], ◌∷◌, ◌++◌, Option, Some, length, slice_get, subst, sym, ⊎_elim, inl, inr}
use Rattle.words.specs.declared.call.Client.{Client}
use Rattle.words.specs.declared.call.Reply.{Reply as AnyReply}
use Rattle.events.proofs.Facts.{get_last, get_push_cases}
use Rattle.session.specs.Sessions.{Sessioned}
use Rattle.wire.specs.declared.answer.Answer.{Answer as WireAnswer}
use Rattle.wire.specs.declared.answer.Answer.TheVariants.{Reply}
use Rattle.wire.specs.declared.request.Request.{Request}
use Rattle.wire.specs.declared.request.Request.TheVariants.{Put, Take}
use Rattle.workers.specs.Moments.{GoesOnLater}
use Rattle.workers.specs.declared.entry.End.TheVariants.{Answered}
use Rattle.workers.specs.declared.entry.Entry.{Entry}
use Rattle.workers.proofs.Facts.{later_still}
use Rattle.desk.specs.Answering.{AreAnsweredInTurn, IsAnsweredAt, IsCallAnswer, IsLastCall, OfClient}
use Rattle.desk.specs.Answering.AreAnsweredInTurn.{answered, marked, nothing}
use Rattle.desk.specs.Telling.{AreReplied, HasReply, IsRepliedTo, IsRepliedIf}
use Rattle.desk.specs.declared.calls.Asked.{Asked}

-- at a session that goes on from there too
pub later_told : (first now then : Sessioned) (client : Client) (asked : Option Asked) (answer : WireAnswer)
    → IsRepliedIf first now client asked answer → GoesOnLater now then → IsRepliedIf first then client asked answer
later_told first now then client (Some asked) (Reply reply) told on = record {
  list = told.list;
  has = told.has;
  session = told.session;
  marked = told.marked;
  later = later_still told.session now then told.later on;
}
later_told first now then client _ _ told on = tt

pub all_later_told : (first now then : Sessioned) (served : List (Request × WireAnswer)) → AreReplied first now served
    → GoesOnLater now then → AreReplied first then served
all_later_told first now then served told on = record {
  each = λ k request answer at. later_told first now then _ _ answer (told.each k request answer at) on;
}

-- what is answered more
told_push : (first now : Sessioned) (served : List (Request × WireAnswer)) (request : Request) (answer : WireAnswer)
    → AreReplied first now served → IsRepliedTo first now request answer → AreReplied first now (served ++ (request, answer) ∷ [])
told_push first now served request answer were is = record {
  each = λ k r a at. ⊎_elim
      (λ old. were.each k r a old)
      (λ new. subst (λ (x : Request × WireAnswer). IsRepliedTo first now x.0 x.1) new.1 is)
      (get_push_cases served (request, answer) k (r, a) at);
}

replied_none : (first now : Sessioned) → AreReplied first now []
replied_none first now = record { each = λ k request answer at. absurd (cc at) }

-- the last call of a list is there
has_last : (list : List Entry) (asked : Asked) (reply : AnyReply) → IsLastCall list asked (Answered reply)
    → HasReply list asked reply
has_last list asked reply last = record {
  index = length last.before;
  entry = last.entry;
  at = subst (λ (l : List Entry). slice_get l (length last.before) ≡ Some last.entry) (sym last.is)
      (get_last last.before last.entry);
  queue = last.queue;
  number = last.number;
  call = last.call;
  end = last.ended;
}

replied_call : (first before s now : Sessioned) (client : Client) (asked : Asked) (answer : WireAnswer)
    → IsCallAnswer first before s client asked answer → GoesOnLater s now → IsRepliedIf first now client (Some asked) answer
replied_call first before s now client asked (Reply reply) made later = record {
  list = made.list;
  has = has_last made.list asked reply made.last;
  session = s;
  marked = made.marked;
  later = later;
}
replied_call first before s now client asked _ made later = tt

replied_of : (clients number : ℕ) (first before s now : Sessioned) (asked : Asked) (answer : WireAnswer)
    → OfClient clients number answer (λ c. IsCallAnswer first before s c asked answer) → GoesOnLater s now
    → IsRepliedIf first now (record { 0 = number }) (Some asked) answer
replied_of clients number first before s now asked answer (inl none) later =
    subst (λ (a : WireAnswer). IsRepliedIf first now (record { 0 = number }) (Some asked) a) (sym none.1) tt
replied_of clients number first before s now asked answer (inr some) later =
    replied_call first before s now (record { 0 = number }) asked answer some.1 later

replied_at : (clients : ℕ) (first before s now : Sessioned) (request : Request) (answer : WireAnswer)
    → IsAnsweredAt clients first before s request answer → GoesOnLater s now → IsRepliedTo first now request answer
replied_at clients first before s now (Put client queue value number) answer is later =
    replied_of clients client first before s now _ answer is later
replied_at clients first before s now (Take client queue number) answer is later =
    replied_of clients client first before s now _ answer is later
replied_at clients first before s now _ answer is later = tt

pub replied_in_turn : (clients : ℕ) (first start now : Sessioned) (served : List (Request × WireAnswer))
    → AreAnsweredInTurn clients first start served now → AreReplied first now served
replied_in_turn clients first start now served nothing = replied_none first start
replied_in_turn clients first start now served (marked {before = before} turn later) =
    all_later_told first before now served (replied_in_turn clients first start before served turn) later
replied_in_turn clients first start now served
    (answered {served = old} {before = before} request answer turn is) =
    told_push first now old request answer
    (all_later_told first before now old (replied_in_turn clients first start before old turn)
    (later_still before is.session now is.earlier is.later))
    (replied_at clients first before is.session now request answer is.is is.later)
