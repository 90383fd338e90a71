use Rattle.std.proofs.Common.{◌≡◌, ℕ, Some, take, drop, refl, sym, ap, subst, ◌∙◌}
use Rattle.persist.specs.Lent.{view_words}
use Rattle.arena.specs.Broker.{block_size_of}
use Rattle.renewal.specs.Broker.{slot_block}
use Rattle.renewal.specs.OneQueue.{QueueFits}
use Rattle.renewal.specs.Words.{ItemsFit}
use Rattle.renewal.proofs.Slots.{fits_as, if_ok, on_ok, renewed_as}
use Rattle.renewal.proofs.one_queue.fresh_in.Goals as goal

pub returns : goal.returns
returns c =
    let queue = c.args.queue.now in
    let layout = c.args.layout.now in
    let ws = c.args.memory.now.words.kept in
    -- the block that is renewed is the slot's
    let there : view_words c.in-Ok.block ≡ slot_block layout c.args.slot.0 ws =
    c.in-Ok.ensures.words ∙ ap (λ (n : ℕ). take n (drop c.block.result ws)) c.block_size.ensures.value
    ∙ ap (λ (n : ℕ). take (block_size_of layout.clients layout.records) (drop n ws)) c.block.ensures.from in
    let fit : ItemsFit c.queue-layout.result c.queue-layout.result (view_words c.in-Ok.block) ≡ QueueFits layout queue c.args.slot.0 ws =
    fits_as (Some queue) queue layout layout c.queue-layout.result c.queue-layout.result _ _
    refl c.queue-layout.ensures.layout c.queue-layout.ensures.layout there in
    record {
      words = if_ok _ _ c.fresh_block.result (λ block renewed. renewed
          ∙ renewed_as (Some queue) queue layout layout c.queue-layout.result c.queue-layout.result _ _
          refl c.queue-layout.ensures.layout c.queue-layout.ensures.layout there) c.fresh_block.ensures.renewed;
      room = on_ok c.fresh_block.result (subst (λ (X : Type 0). X) fit) c.fresh_block.ensures.room;
      no_room = λ none fits. c.fresh_block.ensures.no_room.0 none (subst (λ (X : Type 0). X) (sym fit) fits);
      errors = c.fresh_block.ensures.errors;
    }
