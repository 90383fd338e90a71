use Rattle.std.proofs.Common.{◌≡◌, ◌++◌, ◌+◌, ℕ, suc, ap, ◌∙◌, append_assoc, length, string_bytes, arith}
use Rattle.std.specs.Prelude.{slice_get}
use Rattle.broker_points.specs.Reports.{place_text, places_text}
use Rattle.broker_points.proofs.texts.write_places.Goals as goal

pub loop-slot-preserved : goal.loop-slot-preserved
loop-slot-preserved c =
    let n : ℕ = c.loop-slot.slot in
    let b = c.args.broker.now in
    let next : suc n ≡ n + 1 = omega arith in
    c.in_ok-write_place.ensures.text
    ∙ ap (λ l. l ++ place_text b n (slice_get b.directory n)) c.loop-slot.invariant
    ∙ append_assoc (string_bytes c.args.text.now) (places_text b n) (place_text b n (slice_get b.directory n))
    ∙ ap (λ m. string_bytes c.args.text.now ++ places_text b m) next

pub returns-clause-text : goal.returns-clause-text
returns-clause-text c =
    let count = c.requires.well.listed.count in
    let end = c.loop-slot.auto.slot-end in
    let all : c.loop-slot.slot ≡ length c.args.broker.now.directory = omega (arith, count, c.loop-slot-test.false, end) in
    c.loop-slot.invariant ∙ ap (λ m. string_bytes c.args.text.now ++ places_text c.args.broker.now m) all
