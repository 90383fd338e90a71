use Rattle.std.proofs.Common.{◌≡◌, ℕ, ◌<◌, Some, List, length, slice_get, slice_index_or, inl, inr, ap, sym, subst, ◌∙◌, arith}
use Rattle.std.proofs.lemmas.Bool.{cases_eq}
use Rattle.std.proofs.lemmas.Option.{slice_get-get_or, slice_get_within}
use Rattle.arena.specs.Broker.{block_in, broker_size_in}
use Rattle.arena.specs.Shape.{Counts, shape_of}
use Rattle.sound_words.specs.Sound.{AreSoundWordsIn}
use Rattle.directory.specs.Directory.{Directory, HasQueue}
use Rattle.directory.specs.Queue.{directory_of}
use Rattle.directory.specs.declared.queue.Queue.{Queue}
use Rattle.directory.specs.Sound.{counts_in}
use Rattle.named.specs.Booting.{IsBlockDamagedIn, IsDamagedFor}
use Rattle.named.proofs.acts.OneSlot.{some_is}
use Rattle.named.proofs.acts.Refused.{not_done, why}
use Rattle.named.proofs.booting.check_blocks.Goals as goal
use Rattle.named.proofs.booting.check_blocks.Goals.{in-Some+in_ok-check_block, in_default}

pub loop-slot-preserved : goal.loop-slot-preserved
loop-slot-preserved c = λ slot queue below has.
    let ws : List ℕ = c.args.memory.now.words.kept in
    let places : Directory = c.queues-places.result.now in
    let at : ℕ = c.loop-slot.slot in
    let listed : places ≡ directory_of ws = c.queues-places.ensures.places ∙ c.requires.directory_is in
    let here : slice_get places at ≡ Some (slice_index_or places at c.index-places-slot.result) =
    slice_get-get_or places at c.index-places-slot.result (omega (arith, c.type_inv.places, c.loop-slot-test.true)) in
    elim (cases_eq slot at) [
      | inr apart ↦ c.loop-slot.invariant slot queue (omega (arith, below, apart)) has
      | inl same ↦
          let there : HasQueue places at queue = subst (λ (n : ℕ). HasQueue places n queue) same (subst (λ (d : Directory). HasQueue d slot queue) (sym listed) has) in
          let is_it : slice_index_or places at c.index-places-slot.result ≡ Some queue = some_is _ _ _ here there in
          elim c.match-places-slot.branch [
            | in-Some+in_ok-check_block w ↦
                let own : w.in-Some.queue ≡ queue = some_is _ _ _ w.in-Some.is is_it in
                let sound : AreSoundWordsIn c.args.form (shape_of w.in-Some.queue.kind c.args.kept.now.layout) (block_in c.args.form c.args.kept.now.layout at ws) = w.in_ok-check_block.ensures.sound in
                subst (λ (n : ℕ). AreSoundWordsIn c.args.form (shape_of queue.kind (counts_in ws)) (block_in c.args.form (counts_in ws) n ws)) (sym same)
                (subst (λ (q : Queue). AreSoundWordsIn c.args.form (shape_of q.kind (counts_in ws)) (block_in c.args.form (counts_in ws) at ws)) own
                (subst (λ (n : Counts). AreSoundWordsIn c.args.form (shape_of w.in-Some.queue.kind n) (block_in c.args.form n at ws)) c.requires.counts_are sound))
            | in_default w ↦ absurd (w.in_default.not-Some queue is_it)
          ]
    ]

pub returns-clause-sound : goal.returns-clause-sound
returns-clause-sound c = record {
  broker = c.requires.broker;
  blocks = λ slot queue has.
      let below : slot < length (directory_of c.args.memory.now.words.kept) = slice_get_within (directory_of c.args.memory.now.words.kept) slot (Some queue) has in
      c.loop-slot.invariant slot queue (omega (arith, below, c.requires.broker.directory.names.count, c.loop-slot-test.false)) has;
}

pub loop-slot-init : goal.loop-slot-init
loop-slot-init c = λ slot queue below has. absurd (omega (arith, below))

pub check_block-requires-clause-slot : goal.check_block-requires-clause-slot
check_block-requires-clause-slot c = c.loop-slot-test.true

pub check_block-requires-clause-room : goal.check_block-requires-clause-room
check_block-requires-clause-room c =
    omega (arith, ap length c.requires.crashed, c.requires.broker.head.size, ap (broker_size_in c.args.form) c.requires.counts_are)

pub check_block-requires-clause-kept : goal.check_block-requires-clause-kept
check_block-requires-clause-kept c = omega (arith, c.requires.broker.head.size, ap (broker_size_in c.args.form) c.requires.counts_are)

pub returns-in_err-check_block-clause-sound : goal.returns-in_err-check_block-clause-sound
returns-in_err-check_block-clause-sound c = not_done _ c.from_residual.result c.in_err-check_block.field-0.0 c.from_residual.ensures

pub returns-in_err-check_block-clause-damaged : goal.returns-in_err-check_block-clause-damaged
returns-in_err-check_block-clause-damaged c =
    let ws : List ℕ = c.args.memory.now.words.kept in
    let places : Directory = c.queues-places.result.now in
    let at : ℕ = c.loop-slot.slot in
    let queue : Queue = c.in-Some.queue in
    let count : length places ≡ 8 = ap length c.queues-places.ensures.places ∙ c.queues-places.ensures.directory.count in
    let here : HasQueue places at queue =
    slice_get-get_or places at c.index-places-slot.result (omega (arith, count, c.loop-slot-test.true)) ∙ ap Some c.in-Some.is in
    let damaged : IsBlockDamagedIn c.args.form ws c.in_err-check_block.field-0.0 = record {
      broker = c.requires.broker;
      slot = at;
      queue = queue;
      has = subst (λ (d : Directory). HasQueue d at queue) (c.queues-places.ensures.places ∙ c.requires.directory_is) here;
      below = λ other q under has. c.loop-slot.invariant other q under has;
      damaged = subst (λ (n : Counts). IsDamagedFor c.args.form n queue.kind at ws c.in_err-check_block.field-0.0) c.requires.counts_are c.in_err-check_block.ensures.damaged;
    } in
    why _ c.from_residual.result c.in_err-check_block.field-0.0 c.from_residual.ensures damaged

pub returns-clause-damaged : goal.returns-clause-damaged
returns-clause-damaged c = tt
