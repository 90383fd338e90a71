use Rattle.std.proofs.Common.{◌≡◌, ◌≤◌, ◌<◌, ℕ, List, Option, Result, Some, None, Ok, Err, IfOk, length, refl, ap, sym, subst, ◌∙◌, slice_get, slice_index_or, arith}
use Rattle.std.proofs.lemmas.Option.{slice_get-get_or}
use Rattle.words.specs.declared.refusal.Refusal.{Refusal}
use Rattle.persist.specs.Memory.{Words}
use Rattle.arena.specs.Broker.{broker_size}
use Rattle.arena.specs.Shape.{Counts, shape_of}
use Rattle.sound_words.specs.Sound.{AreSoundWords}
use Rattle.directory.specs.Directory.{Directory, HasQueue}
use Rattle.directory.specs.Queue.{directory_of}
use Rattle.directory.specs.declared.queue.Queue.{Queue}
use Rattle.named.specs.Booting.{AreKept, IsBootedBy, IsQueueBooted, IsSlotBooted, kept_block}
use Rattle.named.specs.declared.slot.Slot.{Slot}
use Rattle.named.specs.declared.slot.Slot.TheVariants.{Closed}
use Rattle.named.proofs.acts.OneSlot.{some_is}
use Rattle.named.proofs.slots.boot_slot.Goals as goal

-- the memory is as large as the counts say
cached_room : (ws : Words) (c : Counts) (d : Directory) → AreKept ws c d → broker_size c ≤ length ws.cached
cached_room ws c d kept = omega (arith, kept.room, kept.broker.head.size, ap broker_size kept.counts_are)

kept_room : (ws : Words) (c : Counts) (d : Directory) → AreKept ws c d → broker_size c ≤ length ws.kept
kept_room ws c d kept = omega (arith, kept.broker.head.size, ap broker_size kept.counts_are)

-- what the directory has in the slot is what was read there
there : (places d : Directory) → places ≡ d → length d ≡ 8 → (at : ℕ) → at < 8 → (read place : Option Queue)
    → slice_index_or places at read ≡ place → slice_get d at ≡ Some place
there places d same long at below read place is =
    ap (λ (l : Directory). slice_get l at) (sym same) ∙ slice_get-get_or places at read (omega (arith, below, long, ap length same)) ∙ ap Some is

closed : (c : Counts) (ws : Words) (d : Directory) (at : ℕ) → slice_get d at ≡ Some None → IsBootedBy c ws d at Closed
closed c ws d at is place here = subst (λ (p : Option Queue). IsSlotBooted c ws at p Closed) (some_is _ _ _ is here) refl

opened : (c : Counts) (ws : Words) (d : Directory) (at : ℕ) (queue : Queue) → slice_get d at ≡ Some (Some queue)
    → (r : Result Slot Refusal) → IfOk r (IsQueueBooted c ws at queue.kind) → IfOk r (IsBootedBy c ws d at)
opened c ws d at queue is (Ok slot) booted = λ place here. subst (λ (p : Option Queue). IsSlotBooted c ws at p slot) (some_is _ _ _ is here) booted
opened c ws d at queue is (Err e) booted = tt

pub boot-requires-clause-sound : goal.boot-requires-clause-sound
boot-requires-clause-sound c =
    let ws : List ℕ = c.args.memory.now.words.kept in
    let queue = c.in-Some.queue in
    let has : HasQueue (directory_of ws) c.args.slot.0 queue =
    subst (λ (d : Directory). HasQueue d c.args.slot.0 queue) c.requires.kept.directory_is
    (there c.queues.result.now c.args.kept.now.directory c.queues.ensures.places c.queues.ensures.directory.count c.args.slot.0 c.requires.slot c.index-queues-slot.result _ c.in-Some.is) in
    subst (λ (n : Counts). AreSoundWords (shape_of queue.kind n) (kept_block n c.args.slot.0 ws)) (sym c.requires.kept.counts_are) (c.requires.sound.blocks c.args.slot.0 queue has)

pub boot-requires-clause-slot : goal.boot-requires-clause-slot
boot-requires-clause-slot c = c.requires.slot

pub boot-requires-clause-room : goal.boot-requires-clause-room
boot-requires-clause-room c = cached_room c.args.memory.now.words c.args.kept.now.layout c.args.kept.now.directory c.requires.kept

pub boot-requires-clause-kept : goal.boot-requires-clause-kept
boot-requires-clause-kept c = kept_room c.args.memory.now.words c.args.kept.now.layout c.args.kept.now.directory c.requires.kept

pub returns-in-None-clause-booted : goal.returns-in-None-clause-booted
returns-in-None-clause-booted c =
    closed c.args.kept.now.layout c.args.memory.now.words c.args.kept.now.directory c.args.slot.0
    (there c.queues.result.now c.args.kept.now.directory c.queues.ensures.places c.queues.ensures.directory.count c.args.slot.0 c.requires.slot c.index-queues-slot.result _ c.in-None.is)

pub returns-in-None-clause-errors : goal.returns-in-None-clause-errors
returns-in-None-clause-errors c = tt

pub returns-in-Some-clause-booted : goal.returns-in-Some-clause-booted
returns-in-Some-clause-booted c =
    opened c.args.kept.now.layout c.args.memory.now.words c.args.kept.now.directory c.args.slot.0 c.in-Some.queue
    (there c.queues.result.now c.args.kept.now.directory c.queues.ensures.places c.queues.ensures.directory.count c.args.slot.0 c.requires.slot c.index-queues-slot.result _ c.in-Some.is)
    c.boot.result c.boot.ensures.booted

pub returns-in-Some-clause-errors : goal.returns-in-Some-clause-errors
returns-in-Some-clause-errors c = c.boot.ensures.errors
