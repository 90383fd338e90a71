-- What a call leaves in its seat's list, from its start to its answer.
use Rattle.std.proofs.Common.{◌≡◌, refl, true, List, Option, Some, None, Result, Ok, Err, ap, ◌∙◌, subst}
use Rattle.words.specs.declared.call.Reply.{Reply as AnyReply}
use Rattle.words.specs.declared.refusal.Refusal.{Refusal}
use Rattle.workers.proofs.lists.LastCalls.{ends_open_push, with_end_push}
use Rattle.workers.specs.Answers.{Finishes, IsListBegun, IsAddedOpen, Remembers, entry_of}
use Rattle.workers.specs.Lists.{ends_open, with_end}
use Rattle.workers.specs.Refusals.{IsSettledStart, is_settled_refusal}
use Rattle.workers.specs.Seen.{IfCreationBegun, IfMade}
use Rattle.workers.specs.declared.entry.Answer.{Answer}
use Rattle.workers.specs.declared.entry.Answer.TheVariants.{Interrupted as answer_interrupted, Refused, Reply}
use Rattle.workers.specs.declared.entry.Answer.TheVariants.{Unfinished}
use Rattle.workers.specs.declared.entry.End.TheVariants.{Answered, Interrupted, Open}
use Rattle.workers.specs.declared.entry.Entry.{Entry}
use Rattle.workers.specs.declared.entry.Request.{Request}
use Rattle.workers.specs.declared.shared.Created.{Created}
use Rattle.workers.specs.declared.shared.Created.TheVariants.{Interrupted as creation_interrupted, Queue, Refused as creation_refused}

-- where a start has neither a reply nor a refusal its call is under way
pub under_way_begun : (old : List Entry) (r : Request) (began : Result (Option AnyReply) Refusal) (begun : List Entry)
    → began ≡ Ok None → IsListBegun old r began begun → IsAddedOpen old r begun
under_way_begun old r began begun is way = subst (λ result. IsListBegun old r result begun) is way

-- a call that was started is open
pub begun_open : (old : List Entry) (r : Request) (begun : List Entry) → IsAddedOpen old r begun
    → ends_open begun ≡ true
begun_open old r begun way =
    ap ends_open way.is ∙ ends_open_push old (entry_of way.queue r (Some way.place) Open)

-- with its answer the list has one entry more
pub remembers : (old : List Entry) (r : Request) (begun new : List Entry) (answer : Answer) → IsAddedOpen old r begun
    → Finishes begun answer new → Remembers old r answer new
remembers old r begun new (Reply reply) way is = record {
  queue = way.queue;
  place = Some way.place;
  ran = tt;
  is = is ∙ (ap (with_end (Answered reply)) way.is
      ∙ with_end_push (Answered reply) old (entry_of way.queue r (Some way.place) Open));
}
remembers old r begun new (Refused refusal) way is = absurd is
remembers old r begun new answer_interrupted way is = record {
  queue = way.queue;
  place = Some way.place;
  ran = refl;
  is = is ∙ (ap (with_end Interrupted) way.is
      ∙ with_end_push Interrupted old (entry_of way.queue r (Some way.place) Open));
}
remembers old r begun new Unfinished way is = record { queue = way.queue; place = Some way.place; ran = refl; is = is ∙ way.is }

-- a settled number is answered as its start is
pub settled_runs_not : (reply : AnyReply) (r : Result (Option AnyReply) Refusal) → r ≡ Ok None → IsSettledStart reply r → ⊥
settled_runs_not reply r is settled =
    let none : (let o : Option AnyReply = None in o) ≡ Some reply = subst (IsSettledStart reply) is settled in
    absurd (cc (none))

pub settled_replies : (reply given : AnyReply) (r : Result (Option AnyReply) Refusal) → r ≡ Ok (Some given)
    → IsSettledStart reply r → given ≡ reply
settled_replies reply given r is settled =
    let some : (let o : Option AnyReply = Some given in o) ≡ Some reply = subst (IsSettledStart reply) is settled in
    cc (some)

pub settled_refused : (reply : AnyReply) (refusal : Refusal) (r : Result (Option AnyReply) Refusal) → r ≡ Err refusal
    → IsSettledStart reply r → is_settled_refusal refusal ≡ true
settled_refused reply refusal r is settled = subst (IsSettledStart reply) is settled

-- what is so is so where something was made
pub if_made : {P : Type 0} (answer : Answer) → P → IfMade answer P
if_made (Reply reply) is = is
if_made (Refused refusal) is = tt
if_made answer_interrupted is = is
if_made Unfinished is = is

pub if_creation_begun : {P : Type 0} (created : Created) → P → IfCreationBegun created P
if_creation_begun (Queue slot) is = is
if_creation_begun (creation_refused refusal) is = tt
if_creation_begun creation_interrupted is = is
