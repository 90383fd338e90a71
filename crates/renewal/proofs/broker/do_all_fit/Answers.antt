use Rattle.std.proofs.Common.{◌≡◌, ℕ, Some, slice_get, slice_index_or, refl, sym, subst, ◌∙◌, arith, below_more}
use Rattle.std.proofs.lemmas.Bool.{false≢true}
use Rattle.persist.specs.Memory.{Words}
use Rattle.renewal.specs.Broker.{BlockFits}
use Rattle.renewal.proofs.Slots.{entry, fits_are, sound_at}
use Rattle.renewal.proofs.broker.do_all_fit.Goals as goal

pub slot_fits-requires-clause-sound : goal.slot_fits-requires-clause-sound
slot_fits-requires-clause-sound c =
    sound_at c.args.memory.now.words c.args.kept.now.layout c.args.to.now c.args.kept.now.directory c.requires c.loop-slot.slot _
    (entry c.queues-places.result.now c.args.kept.now.directory c.loop-slot.slot c.index-places-slot.result c.queues-places.ensures.places
    c.queues-places.ensures.directory c.loop-slot-test.true)

pub returns-then-not-slot_fits : goal.returns-then-not-slot_fits
returns-then-not-slot_fits c =
    let ws : Words = c.args.memory.now.words in
    let slot : ℕ = c.loop-slot.slot in
    let at : slice_get c.args.kept.now.directory slot ≡ Some (slice_index_or c.queues-places.result.now slot c.index-places-slot.result) =
    entry c.queues-places.result.now c.args.kept.now.directory slot c.index-places-slot.result c.queues-places.ensures.places
    c.queues-places.ensures.directory c.loop-slot-test.true in (
      λ no. absurd (false≢true no),
      λ all.
          let P : Type 0 → Type 0 = λ X. X in
          sym c.if-not-slot_fits.true
          ∙ c.slot_fits.ensures.1 (subst P (sym (fits_are ws c.args.kept.now.layout c.args.to.now c.args.kept.now.directory c.requires slot _ at c.loop-slot-test.true)) (all slot c.loop-slot-test.true)),
    )

pub loop-slot-preserved : goal.loop-slot-preserved
loop-slot-preserved c =
    let ws : Words = c.args.memory.now.words in
    let slot : ℕ = c.loop-slot.slot in
    let at : slice_get c.args.kept.now.directory slot ≡ Some (slice_index_or c.queues-places.result.now slot c.index-places-slot.result) =
    entry c.queues-places.result.now c.args.kept.now.directory slot c.index-places-slot.result c.queues-places.ensures.places
    c.queues-places.ensures.directory c.loop-slot-test.true in
    let P : Type 0 → Type 0 = λ X. X in
    below_more (BlockFits c.args.to.now ws.kept) slot c.loop-slot.invariant
    (subst P (fits_are ws c.args.kept.now.layout c.args.to.now c.args.kept.now.directory c.requires slot _ at c.loop-slot-test.true)
    (c.slot_fits.ensures.0 c.if-not-slot_fits.false))

pub returns : goal.returns
returns c = (λ yes slot below. c.loop-slot.invariant slot (omega (arith, below, c.loop-slot-test.false)), λ all. refl)
