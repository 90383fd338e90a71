use Rattle.std.proofs.Common.{◌≡◌, ◌+◌, Some, slice_get, ap, ◌∙◌}
use Rattle.words.specs.declared.call.Client.{Client}
use Rattle.events.specs.declared.event.Event.TheVariants.{Call as call_event, Return as return_event}
use Rattle.findings.specs.Facts.{event_at, call_of, reply_of}
use Rattle.findings.proofs.Stands.{fails_not, stands_call, stands_return}
use Rattle.findings.proofs.recorded.stands_rightly.Goals as goal

pub returns-then-not-standing : goal.returns-then-not-standing
returns-then-not-standing c = λ yes.
    let events = c.args.findings.now.events in
    let client : Client = record { 0 = c.in-Call.client } in
    let at : slice_get events c.args.p ≡ Some (call_event client (c.args.p + 1) (call_of c.in-Call.call)) =
    c.at.ensures.fact ∙ ap (λ fact. Some (event_at c.args.p fact)) c.in-Call.is in
    stands_call events c.args.p client _ at (λ way. fails_not _ yes (c.is_under_way.ensures.1 way))
    (λ down. cc (c.if-not-standing.true, c.requires.standing.is_down.1 down))

pub returns-then-not-standing-2 : goal.returns-then-not-standing-2
returns-then-not-standing-2 c = λ yes.
    let events = c.args.findings.now.events in
    let client : Client = record { 0 = c.in-Return.client } in
    let at : slice_get events c.args.p ≡ Some (return_event client (reply_of c.in-Return.reply)) =
    c.at.ensures.fact ∙ ap (λ fact. Some (event_at c.args.p fact)) c.in-Return.is in
    stands_return events c.args.p client _ at (c.is_under_way-then-not-standing-2.ensures.0 yes)
    (λ down. cc (c.if-not-standing-2.true, c.requires.standing.is_down.1 down))
