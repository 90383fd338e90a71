use Rattle.std.proofs.Common.{arith, ◌<◌, length, ap, sym, ◌∙◌}
use Rattle.std.proofs.lemmas.Option.{slice_get_within}
use Rattle.events.specs.declared.event.Entry.{Entry}
use Rattle.history.proofs.AnswerSteps.{not_taken_here, none_more}
use Rattle.history.proofs.answering.place_after_entry.Goals as goal

pub returns-else-is_same_reply-clause-none : goal.returns-else-is_same_reply-clause-none
returns-else-is_same_reply-clause-none c =
    not_taken_here c.args.entries.now c.args.from c.loop-i.i c.args.p c.args.reply c.index-entries-i.result c.requires
    c.loop-i-test.true (ap (λ (e : Entry). e.place) (sym c.index-entries-i.is) ∙ c.if-entry-p.true)
    (λ same. cc
    (c.is_same_reply.ensures.1 (ap (λ (e : Entry). e.reply) c.index-entries-i.is ∙ same), c.if-is_same_reply.false))

pub loop-i-preserved : goal.loop-i-preserved
loop-i-preserved c =
    none_more c.args.entries.now c.args.from c.loop-i.i c.args.p c.index-entries-i.result c.loop-i-test.true
    c.loop-i.invariant (λ at. c.if-entry-p.false (ap (λ (e : Entry). e.place) c.index-entries-i.is ∙ at))

pub returns-clause-none : goal.returns-clause-none
returns-clause-none c = record {
  none = λ i entry le at place same.
      let within : i < length c.args.entries.now = slice_get_within _ _ _ at in
      c.loop-i.invariant i entry (omega (arith, c.loop-i-test.false)) le at place;
}
