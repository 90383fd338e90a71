use Rattle.std.proofs.Common.{rules, sym, ◌∙◌, ap, Some, refl, List}
use Rattle.words.specs.PlainQueue.{Value, reply_of}
use Rattle.words.specs.declared.call.Call.TheVariants.{Deq}
use Rattle.words.specs.declared.call.Reply.TheVariants.{Done}
use Rattle.events.specs.declared.event.Entry.{Entry}
use Rattle.events.specs.Replay.{call_at}
use Rattle.history.proofs.FrontSteps.{right_by_reply, reply_by_right, wrong_without_call, reply_by_front}
use Rattle.history.proofs.fronts.is_right_next.Goals as goal

pub returns-in-None-clause-right : goal.returns-in-None-clause-right
returns-in-None-clause-right c =
    let none = ap (λ (e : Entry). call_at c.args.events.now.items e.place) (sym c.index-entries-i.is)
    ∙ sym c.named_call.ensures ∙ c.in-None.is in (
      search rules,
      λ right. absurd (wrong_without_call _ _ _ _ c.index-entries-i.result c.requires.within none right),
    )

pub returns-in-Some-Enq-clause-right : goal.returns-in-Some-Enq-clause-right
returns-in-Some-Enq-clause-right c =
    let names = ap (λ (e : Entry). call_at c.args.events.now.items e.place) (sym c.index-entries-i.is)
    ∙ sym c.named_call.ensures ∙ c.in-Some-Enq.is ∙ ap Some c.in-Some-Enq.field-0-is in (
      λ same. right_by_reply _ _ _ _ c.index-entries-i.result _ Done c.requires.within names refl
          (ap (λ (e : Entry). e.reply) (sym c.index-entries-i.is) ∙ c.is_same_reply.ensures.0 same),
      λ right. c.is_same_reply.ensures.1 (ap (λ (e : Entry). e.reply) c.index-entries-i.is
          ∙ reply_by_right _ _ _ _ c.index-entries-i.result _ Done c.requires.within names refl right),
    )

pub returns-in-Some-Deq-clause-right : goal.returns-in-Some-Deq-clause-right
returns-in-Some-Deq-clause-right c =
    let names = ap (λ (e : Entry). call_at c.args.events.now.items e.place) (sym c.index-entries-i.is)
    ∙ sym c.named_call.ensures ∙ c.in-Some-Deq.is ∙ ap Some c.in-Some-Deq.field-0-is in
    let is = c.reply_with-reply.ensures ∙ reply_by_front _ _ _ c.take_front.ensures.front c.take_front.ensures.none
    ∙ ap (λ (q : List Value). reply_of q Deq) (sym c.requires.front.queue) in (
      λ same. right_by_reply _ _ _ _ c.index-entries-i.result _ _ c.requires.within names is
          (ap (λ (e : Entry). e.reply) (sym c.index-entries-i.is) ∙ c.is_same_reply-in-Some-Deq.ensures.0 same),
      λ right. c.is_same_reply-in-Some-Deq.ensures.1 (ap (λ (e : Entry). e.reply) c.index-entries-i.is
          ∙ reply_by_right _ _ _ _ c.index-entries-i.result _ _ c.requires.within names is right),
    )
