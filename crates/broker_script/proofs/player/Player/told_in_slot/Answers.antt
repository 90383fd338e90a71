use Rattle.std.proofs.Common.{◌≡◌, ap, sym, ◌∙◌, refl, length, subst}
use Rattle.std.proofs.lemmas.Option.{slice_get_read}
use Rattle.std.proofs.lemmas.Result.{IfOk-weaker}
use Rattle.std.specs.Prelude.{Some, None, slice_get}
use Rattle.named.specs.Brokers.{IsWell}
use Rattle.broker_lines.specs.Lines.{of_queue}
use Rattle.broker_script.specs.Recovering.{told_in_slot}
use Rattle.broker_script.proofs.Worlds.{listed_open}
use Rattle.broker_script.proofs.player.Player.told_in_slot.Goals as goal

pub told_of_queue-requires-clause-open : goal.told_of_queue-requires-clause-open
told_of_queue-requires-clause-open c =
    let slot = c.args.slot in
    let here : slice_get c.args.places.now slot ≡ Some c.index-places-slot.result =
    slice_get_read c.args.places.now (length c.args.places.now) slot c.index-places-slot.result refl c.requires.slot c.index-places-slot.is in
    let has : slice_get c.args.self.now.broker.directory slot ≡ Some (Some c.in-Some.queue) =
    ap (λ d. slice_get d slot) (sym c.requires.places) ∙ here ∙ ap Some c.in-Some.is in
    let well : IsWell c.args.self.now.broker = subst IsWell (ap (λ p. p.broker) c.self.view_is) c.self.invariant.broker.well in
    listed_open c.args.self.now.broker well slot c.in-Some.queue has

pub returns-in-None-clause-lines : goal.returns-in-None-clause-lines
returns-in-None-clause-lines c =
    let slot = c.args.slot in
    let here : slice_get c.args.places.now slot ≡ Some c.index-places-slot.result =
    slice_get_read c.args.places.now (length c.args.places.now) slot c.index-places-slot.result refl c.requires.slot c.index-places-slot.is in
    let has : slice_get c.args.self.now.broker.directory slot ≡ Some None =
    ap (λ d. slice_get d slot) (sym c.requires.places) ∙ here ∙ ap Some c.in-None.is in
    c.new.ensures.items ∙ sym (ap (told_in_slot c.args.self.now slot) has)

pub returns-in_ok-lines-in-Some-clause-lines : goal.returns-in_ok-lines-in-Some-clause-lines
returns-in_ok-lines-in-Some-clause-lines c =
    let slot = c.args.slot in
    let here : slice_get c.args.places.now slot ≡ Some c.index-places-slot.result =
    slice_get_read c.args.places.now (length c.args.places.now) slot c.index-places-slot.result refl c.requires.slot c.index-places-slot.is in
    let has : slice_get c.args.self.now.broker.directory slot ≡ Some (Some c.in-Some.queue) =
    ap (λ d. slice_get d slot) (sym c.requires.places) ∙ here ∙ ap Some c.in-Some.is in
    IfOk-weaker c.labelled.result _ _ (λ lines is.
    is ∙ ap (of_queue c.in-Some.queue.name) c.in_ok-lines-in-Some.ensures.lines
    ∙ sym (ap (told_in_slot c.args.self.now slot) has)) c.labelled.ensures.lines
