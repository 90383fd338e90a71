use Rattle.std.proofs.Common.{◌≡◌, ◌++◌, ℕ, List, Option, slice_index_or, ap, ◌∙◌, arith}
use Rattle.std.specs.List.{flat_map, range_with_len}
use Rattle.persist.specs.Memory.{Words}
use Rattle.arena.specs.Broker.{block_in}
use Rattle.arena.specs.Shape.{Counts}
use Rattle.arena.specs.declared.form.Form.TheVariants.{OfValues}
use Rattle.directory.specs.Queue.{slot_in}
use Rattle.directory.specs.Sound.{counts_in}
use Rattle.directory.specs.declared.queue.Queue.{Queue}
use Rattle.migration.specs.Words.{slot_block_migrated, slot_migrated}
use Rattle.migration.proofs.Slots.{listed, queue_is, slot_more, sound_at}
use Rattle.migration.proofs.broker.add_blocks.Goals as goal

pub add_slot-requires-clause-sound : goal.add_slot-requires-clause-sound
add_slot-requires-clause-sound c = sound_at c.args.memory.now.words c.args.kept.now.layout c.args.kept.now.directory c.requires.sound c.loop-slot.slot _
    (listed c.queues-places.result.now _ c.loop-slot.slot c.index-places-slot.result c.queues-places.ensures.places
    (omega (arith, c.type_inv.places, c.loop-slot-test.true)))

pub loop-slot-preserved : goal.loop-slot-preserved
loop-slot-preserved c =
    let ws : Words = c.args.memory.now.words in
    let counts : Counts = c.args.kept.now.layout in
    let queue : Option Queue = slice_index_or c.queues-places.result.now c.loop-slot.slot c.index-places-slot.result in
    let has : queue ≡ slot_in ws.kept c.loop-slot.slot =
    queue_is ws counts c.args.kept.now.directory c.requires.sound c.loop-slot.slot queue c.loop-slot-test.true
    (listed c.queues-places.result.now _ c.loop-slot.slot c.index-places-slot.result c.queues-places.ensures.places
    (omega (arith, c.type_inv.places, c.loop-slot-test.true))) in
    let added : slot_migrated counts queue (block_in OfValues counts c.loop-slot.slot ws.kept) ≡ slot_block_migrated (counts_in ws.kept) ws.kept c.loop-slot.slot =
    ap (λ (n : Counts). slot_migrated n queue (block_in OfValues n c.loop-slot.slot ws.kept)) c.requires.sound.counts_are
    ∙ ap (λ (q : Option Queue). slot_migrated (counts_in ws.kept) q (block_in OfValues (counts_in ws.kept) c.loop-slot.slot ws.kept)) has in
    c.in_ok-add_slot.ensures ∙ slot_more (slot_block_migrated (counts_in ws.kept) ws.kept) c.args.words.now.items c.loop-slot.words.items
    (slot_migrated counts queue (block_in OfValues counts c.loop-slot.slot ws.kept)) c.loop-slot.slot c.loop-slot.invariant added

pub returns : goal.returns
returns c =
    let last : c.loop-slot.slot ≡ 8 = omega (arith, c.loop-slot-test.false, c.loop-slot.auto.slot-end) in
    let f : ℕ → List ℕ = slot_block_migrated (counts_in c.args.memory.now.words.kept) c.args.memory.now.words.kept in
    c.loop-slot.invariant ∙ ap (λ (n : ℕ). c.args.words.now.items ++ flat_map f (range_with_len 0 n)) last
