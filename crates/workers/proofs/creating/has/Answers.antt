use Rattle.std.proofs.Common.{rules, ◌≡◌, ◌∙◌, Some, ap, sym}
use Rattle.std.specs.Prelude.{slice_get}
use Rattle.std.proofs.lemmas.Option.{slice_get-get_or}
use Rattle.directory.specs.declared.queue.Queue.{Queue}
use Rattle.directory.proofs.Facts.{names_equal}
use Rattle.workers.proofs.creating.has.Goals as goal

pub returns-then-eq : goal.returns-then-eq
returns-then-eq c = λ same.
    let there = c.in-Some-Some.there in
    let name : there.name ≡ c.args.queue.now.name =
    (names_equal there.name c.args.queue.now.name c.eq.result c.eq.ensures).0 c.if-eq.true in
    let kind : there.kind ≡ c.args.queue.now.kind = search rules in
    let look = c.in-Some-Some.ensures.lookup in
    let at : slice_get c.in-Ok.places.now c.from.result ≡ Some (Some there) =
    slice_get-get_or c.in-Ok.places.now c.from.result c.in-Some-Some.field-0.now look.3.0
    ∙ ap Some (sym look.1 ∙ c.in-Some-Some.field-0-is) in
    let slot : c.from.result ≡ c.args.slot.0 = search rules in
    let places : c.in-Ok.places.now ≡ c.args.session.now.broker.directory = search rules in
    let is : there ≡ c.args.queue.now =
    ap (λ n. let q : Queue = record { name = n; kind = there.kind } in q) name
    ∙ ap (λ k. let q : Queue = record { name = c.args.queue.now.name; kind = k } in q) kind in
    rw (sym places, sym slot, sym is) at
