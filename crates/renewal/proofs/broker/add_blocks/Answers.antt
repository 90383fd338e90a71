use Rattle.std.proofs.Common.{◌≡◌, ◌++◌, ℕ, Bool, true, not, if◌then◌else◌, Err, List, Some, slice_get, slice_index_or, sym, ap, subst, ◌∙◌, arith, below_more}
use Rattle.std.specs.Prelude.{is_ok}
use Rattle.std.specs.List.{flat_map, range_with_len}
use Rattle.persist.specs.Memory.{Words}
use Rattle.words.specs.declared.refusal.Refusal.{Refusal}
use Rattle.words.specs.declared.refusal.Refusal.TheVariants.{NoRoom}
use Rattle.arena.specs.Shape.{Counts}
use Rattle.directory.specs.Sound.{counts_in}
use Rattle.migration.proofs.Facts.{slot_more}
use Rattle.renewal.specs.Broker.{BlockFits, slot_block_renewed}
use Rattle.renewal.proofs.Slots.{entry, fits_are, sound_at, words_are}
use Rattle.renewal.proofs.broker.add_blocks.Goals as goal

pub slot_words-requires-clause-sound : goal.slot_words-requires-clause-sound
slot_words-requires-clause-sound c =
    sound_at c.args.memory.now.words c.args.kept.now.layout c.args.to.now c.args.kept.now.directory c.requires c.loop-slot.slot _
    (entry c.queues-places.result.now c.args.kept.now.directory c.loop-slot.slot c.index-places-slot.result c.queues-places.ensures.places c.queues-places.ensures.directory c.loop-slot-test.true)

pub loop-slot-preserved : goal.loop-slot-preserved
loop-slot-preserved c =
    let ws : Words = c.args.memory.now.words in
    let counts : Counts = c.args.kept.now.layout in
    let to : Counts = c.args.to.now in
    let slot : ℕ = c.loop-slot.slot in
    let at : slice_get c.args.kept.now.directory slot ≡ Some (slice_index_or c.queues-places.result.now slot c.index-places-slot.result) =
    entry c.queues-places.result.now c.args.kept.now.directory slot c.index-places-slot.result c.queues-places.ensures.places c.queues-places.ensures.directory c.loop-slot-test.true in
    let ok : is_ok c.extend_from_slice.result ≡ true = c.is_err.ensures.negation ∙ ap not c.if-is_err.false in
    let added : c.extend_from_slice.new.self.items ≡ c.loop-slot.words.items ++ c.deref.result.now =
    c.extend_from_slice.ensures.items ∙ ap (λ (b : Bool). if b then c.loop-slot.words.items ++ c.deref.result.now else c.loop-slot.words.items) ok in
    record {
      added =
          added ∙ ap (λ (xs : List ℕ). c.loop-slot.words.items ++ xs) c.deref.ensures.value
          ∙ slot_more (slot_block_renewed to (counts_in ws.kept) ws.kept) c.args.words.now.items c.loop-slot.words.items c.in_ok-block.block.items slot c.loop-slot.invariant.added
          (c.in_ok-block.ensures.words ∙ words_are ws counts to c.args.kept.now.directory c.requires slot _ at c.loop-slot-test.true);
      room =
          below_more (BlockFits to ws.kept) slot c.loop-slot.invariant.room
          (let P : Type 0 → Type 0 = λ X. X in subst P (fits_are ws counts to c.args.kept.now.directory c.requires slot _ at c.loop-slot-test.true) c.in_ok-block.ensures.room);
    }

pub returns-in_err-block-clause-no_room : goal.returns-in_err-block-clause-no_room
returns-in_err-block-clause-no_room c = λ none all.
    let ws : Words = c.args.memory.now.words in
    let slot : ℕ = c.loop-slot.slot in
    let told : NoRoom ≡ c.in_err-block.field-0.0 = rw none at c.from_residual.ensures.1 in
    let at : slice_get c.args.kept.now.directory slot ≡ Some (slice_index_or c.queues-places.result.now slot c.index-places-slot.result) =
    entry c.queues-places.result.now c.args.kept.now.directory slot c.index-places-slot.result c.queues-places.ensures.places c.queues-places.ensures.directory c.loop-slot-test.true in
    c.in_err-block.ensures.no_room (ap (λ (e : Refusal). Err e) (sym told))
    (let P : Type 0 → Type 0 = λ X. X in
    subst P (sym (fits_are ws c.args.kept.now.layout c.args.to.now c.args.kept.now.directory c.requires slot _ at c.loop-slot-test.true)) (all slot c.loop-slot-test.true))

pub returns-clause-words : goal.returns-clause-words
returns-clause-words c =
    let last : c.loop-slot.slot ≡ 8 = omega (arith, c.loop-slot-test.false, c.loop-slot.auto.slot-end) in
    let f : ℕ → List ℕ = slot_block_renewed c.args.to.now (counts_in c.args.memory.now.words.kept) c.args.memory.now.words.kept in
    c.loop-slot.invariant.added ∙ ap (λ (n : ℕ). c.args.words.now.items ++ flat_map f (range_with_len 0 n)) last
