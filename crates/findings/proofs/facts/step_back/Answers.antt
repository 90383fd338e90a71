use Rattle.std.proofs.Common.{◌≡◌, ◌<◌, ◌+◌, Some, slice_get, length, ap, sym, ◌∙◌, min}
use Rattle.words.specs.declared.call.Client.{Client}
use Rattle.events.specs.declared.event.Event.TheVariants.{Call as call_event}
use Rattle.findings.specs.Facts.{event_at, call_of}
use Rattle.findings.proofs.Ending.{below_at, end_of_call, next_at}
use Rattle.findings.proofs.facts.step_back.Goals as goal

pub returns-in-Call-clause-end : goal.returns-in-Call-clause-end
returns-in-Call-clause-end c =
    let events = c.args.facts.now.events in
    let client : Client = record { 0 = c.in-Call.client } in
    let call = call_of c.in-Call.call in
    let at : slice_get events c.args.p ≡ Some (call_event client (c.args.p + 1) call) =
    c.at.ensures ∙ ap (λ fact. Some (event_at c.args.p fact)) c.in-Call.is in
    let below : client.0 < length c.args.next.now.returns.items = below_at events c.args.p _ _ c.requires.below at in
    end_of_call events c.args.p _ c.min.result client call at
    (next_at events client _ _ _ (sym (c.min.ensures ∙ ap (λ n. min n c.args.next.now.crash) c.index.ensures))
    (c.requires.next.each client c.index.result.now below))
