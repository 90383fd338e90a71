use Rattle.std.proofs.Common.{List, Option, subst}
use Rattle.words.specs.declared.told.Outcome.{Outcome}
use Rattle.events.specs.declared.event.Event.{Event}
use Rattle.findings.specs.Filling.{IsRecordedOfAny}
use Rattle.findings.specs.Findings.{ExplainsFindings}
use Rattle.findings.proofs.FewClients.{filled_of_few}
use Rattle.prefixes.specs.Steps.{first_steps, events_of, learnt_of}
use Rattle.answers.proofs.answer.judge_order.Goals as goal

pub returns-then-branch : goal.returns-then-branch
returns-then-branch c =
    let rec = c.args.recording.now in
    let steps = first_steps rec c.args.count in
    let found = c.args.findings.now in
    let order = c.from_vec.result.items in
    let explains : ExplainsFindings (events_of rec steps) (learnt_of rec steps) order =
    subst (λ (os : List (Option Outcome)). ExplainsFindings (events_of rec steps) os order)
    c.requires.found.learnt
    (subst (λ (es : List Event). ExplainsFindings es found.learnt order) c.requires.found.events
    (c.in_ok-explains_findings.ensures.0 c.if-branch.true)) in
    let recorded : IsRecordedOfAny (events_of rec steps) (learnt_of rec steps) =
    subst (λ (os : List (Option Outcome)). IsRecordedOfAny (events_of rec steps) os) c.requires.found.learnt
    (subst (λ (es : List Event). IsRecordedOfAny es found.learnt) c.requires.found.events c.requires.recorded) in
    record {
      explains = explains;
      recorded = recorded;
      filled = λ few. filled_of_few (events_of rec steps) (learnt_of rec steps) order recorded few explains;
    }
