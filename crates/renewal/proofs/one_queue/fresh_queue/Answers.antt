use Rattle.std.proofs.Common.{◌≡◌, ◌<◌, ◌≤◌, ◌+◌, ℕ, Err, List, Some, length, slice_get, refl, sym, ap, subst, ◌∙◌, arith}
use Rattle.words.specs.declared.refusal.Refusal.{Refusal}
use Rattle.persist.specs.Memory.{Words, overwritten}
use Rattle.arena.specs.Broker.{block_from, block_in, block_size_of}
use Rattle.arena.specs.Form.{running}
use Rattle.arena.specs.Shape.{Counts}
use Rattle.directory.specs.Sound.{AreBrokerWords}
use Rattle.directory.specs.Directory.{Directory, HasQueue}
use Rattle.directory.specs.Queue.{directory_of, slot_in}
use Rattle.directory.specs.Sound.{counts_in}
use Rattle.renewal.specs.Broker.{slot_block_renewed}
use Rattle.renewal.proofs.Brokers.{slot_length}
use Rattle.renewal.proofs.OneQueue.{block_written, fits_there, over_is, queue_same_in, replaced_is, why_not, within}
use Rattle.renewal.proofs.Slots.{all_ok, entry, if_err, if_ok, on_ok, sound_at}
use Rattle.renewal.proofs.one_queue.fresh_queue.Goals as goal

-- written over its block it is inside the words
inside : (ws : List ℕ) (slot : ℕ) (block : List ℕ) (counts : Counts) → counts ≡ counts_in ws → AreBrokerWords ws → slot < 8
    → length block ≡ block_size_of (counts_in ws).clients (counts_in ws).records → block_from counts slot + length block ≤ length ws
inside ws slot block counts are broker below long =
    omega (arith, within ws slot block broker below long, long, ap (λ (k : Counts). block_from k slot) are)

pub fresh_in-requires-clause-sound : goal.fresh_in-requires-clause-sound
fresh_in-requires-clause-sound c =
    sound_at c.args.memory.now.words c.args.kept.now.layout c.args.kept.now.layout c.args.kept.now.directory c.requires c.args.slot.0 _
    (entry c.queues.result.now c.args.kept.now.directory c.args.slot.0 c.index-queues-at.result c.queues.ensures.places
    c.queues.ensures.directory (omega (arith, c.if-at-ge-SLOTS.false)) ∙ ap Some c.in-Some.is)

pub returns-in-Some : goal.returns-in-Some
returns-in-Some c =
    let ws : Words = c.args.memory.now.words in
    let counts : Counts = counts_in ws.kept in
    let slot : ℕ = c.args.slot.0 in
    let answer = c.fresh_in.result in
    let below : slot < 8 = omega (arith, c.if-at-ge-SLOTS.false) in
    let there : slice_get c.args.kept.now.directory slot ≡ Some (Some c.in-Some.queue) =
    entry c.queues.result.now c.args.kept.now.directory slot c.index-queues-at.result c.queues.ensures.places
    c.queues.ensures.directory below
    ∙ ap Some c.in-Some.is in
    let has : HasQueue (directory_of ws.kept) slot c.in-Some.queue =
    subst (λ (d : Directory). HasQueue d slot c.in-Some.queue) c.requires.directory_is there in
    let fits = fits_there ws c.args.kept.now.layout c.args.kept.now.directory c.requires slot _ there below in
    let written = block_written ws c.args.kept.now.layout c.args.kept.now.directory c.requires slot _ there below in
    let P : Type 0 → Type 0 = λ X. X in
    let long : (block : List ℕ) → block ≡ slot_block_renewed counts counts ws.kept slot → length block ≡ block_size_of counts.clients counts.records =
    λ block is. ap (λ (words : List ℕ). length words) is ∙ slot_length counts counts (slot_in ws.kept slot) (block_in running counts slot ws.kept) in
    record {
      slot = all_ok answer below;
      within = if_ok _ _ answer (λ block is.
          inside ws.kept slot block c.args.kept.now.layout c.requires.counts_are c.requires.broker below (long block (is ∙ written)))
          c.fresh_in.ensures.words;
      renewed = if_ok _ _ answer (λ block is.
          ap (λ (k : Counts). overwritten (block_from k slot) block ws.kept) c.requires.counts_are
          ∙ over_is ws.kept slot block c.requires.broker below (long block (is ∙ written))
          ∙ replaced_is ws.kept slot counts block refl (is ∙ written)) c.fresh_in.ensures.words;
      same = on_ok answer (λ room.
          queue_same_in ws c.args.kept.now.layout c.args.kept.now.directory c.requires slot c.in-Some.queue has
          (subst P fits room)) c.fresh_in.ensures.room;
      room = on_ok answer (subst P fits) c.fresh_in.ensures.room;
      errors = if_err _ _ answer (λ e is why.
          why_not ws.kept slot e why (λ room all.
          c.fresh_in.ensures.no_room (is ∙ ap (λ (r : Refusal). Err r) room) (subst P (sym fits) all)))
          c.fresh_in.ensures.errors;
    }
