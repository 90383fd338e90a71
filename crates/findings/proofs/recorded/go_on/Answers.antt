use Rattle.std.proofs.Common.{◌≡◌, ◌<◌, ◌+◌, Some, slice_get, length, ap, ◌∙◌}
use Rattle.words.specs.declared.call.Client.{Client}
use Rattle.events.specs.declared.event.Event.TheVariants.{Call as call_event, Return as return_event}
use Rattle.events.specs.declared.event.Event.TheVariants.{Crash as crash_event, Ready as ready_event}
use Rattle.findings.specs.Facts.{event_at, call_of, reply_of}
use Rattle.findings.specs.Filling.{told_nothing}
use Rattle.findings.proofs.Ending.{below_at}
use Rattle.findings.proofs.Stands.{standing_call, standing_return, standing_crash, standing_ready}
use Rattle.findings.proofs.recorded.go_on.Goals as goal

pub returns-in-Call-clause-standing : goal.returns-in-Call-clause-standing
returns-in-Call-clause-standing c =
    let events = c.args.findings.now.events in
    let client : Client = record { 0 = c.in-Call.client } in
    let at : slice_get events c.args.p ≡ Some (call_event client (c.args.p + 1) (call_of c.in-Call.call)) =
    c.at.ensures.fact ∙ ap (λ fact. Some (event_at c.args.p fact)) c.in-Call.is in
    let below : client.0 < length c.args.standing.now.begun.items =
    below_at events c.args.p _ _ c.requires.below at in
    standing_call events c.args.p _ client _ _ _ _ at below c.requires.standing

pub returns-in-Return-clause-standing : goal.returns-in-Return-clause-standing
returns-in-Return-clause-standing c =
    let events = c.args.findings.now.events in
    let client : Client = record { 0 = c.in-Return.client } in
    let at : slice_get events c.args.p ≡ Some (return_event client (reply_of c.in-Return.reply)) =
    c.at.ensures.fact ∙ ap (λ fact. Some (event_at c.args.p fact)) c.in-Return.is in
    let below : client.0 < length c.args.standing.now.begun.items =
    below_at events c.args.p _ _ c.requires.below at in
    standing_return events c.args.p client _ _ _ _ at below c.requires.standing

pub returns-in-Crash-clause-standing : goal.returns-in-Crash-clause-standing
returns-in-Crash-clause-standing c =
    let at : slice_get c.args.findings.now.events c.args.p ≡ Some crash_event =
    c.at.ensures.fact ∙ ap (λ fact. Some (event_at c.args.p fact)) c.in-Crash.is in
    standing_crash c.args.findings.now.events c.args.p _ _ _ at c.requires.standing

pub returns-in-Ready-clause-standing : goal.returns-in-Ready-clause-standing
returns-in-Ready-clause-standing c =
    let at : slice_get c.args.findings.now.events c.args.p ≡ Some (ready_event told_nothing) =
    c.at.ensures.fact ∙ ap (λ fact. Some (event_at c.args.p fact)) c.in-Ready.is in
    standing_ready c.args.findings.now.events c.args.p _ _ _ _ at c.requires.standing
