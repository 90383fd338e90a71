use Rattle.std.proofs.Common.{◌≡◌, ℕ, take, drop, ap, ◌∙◌, subst, sym}
use Rattle.persist.specs.Lent.{view_words}
use Rattle.arena.specs.Broker.{block_size_of}
use Rattle.renewal.specs.Broker.{FitsAnew, slot_block}
use Rattle.renewal.specs.Words.{ItemsFit}
use Rattle.renewal.proofs.Slots.{fits_as, if_ok, on_ok, renewed_as}
use Rattle.renewal.proofs.broker.slot_words.Goals as goal

-- the block that is renewed is the slot's
there : (c : goal.After-renewed_block)
    → view_words c.in-Ok-view.block ≡ slot_block c.args.layout.now c.args.slot.0 c.args.memory.now.words.kept
there c =
    c.in-Ok-view.ensures.words
    ∙ ap (λ (n : ℕ). take n (drop c.block.result c.args.memory.now.words.kept)) c.block_size-2.ensures.value
    ∙ ap (λ (n : ℕ). take (block_size_of c.args.layout.now.clients c.args.layout.now.records) (drop n c.args.memory.now.words.kept)) c.block.ensures.from

fit : (c : goal.After-renewed_block)
    → ItemsFit c.queue-new.result c.queue-old.result (view_words c.in-Ok-view.block)
    ≡ FitsAnew c.args.to.now c.args.layout.now c.args.queue.now c.args.slot.0 c.args.memory.now.words.kept
fit c =
    fits_as c.args.queue.now c.in-Some.queue c.args.to.now c.args.layout.now c.queue-old.result c.queue-new.result _ _
    c.in-Some.is c.queue-old.ensures.layout c.queue-new.ensures.layout (there c)

pub returns-clause-words : goal.returns-clause-words
returns-clause-words c =
    if_ok _ _ c.renewed_block.result (λ words renewed. renewed
    ∙ renewed_as c.args.queue.now c.in-Some.queue c.args.to.now c.args.layout.now c.queue-old.result c.queue-new.result _ _
    c.in-Some.is c.queue-old.ensures.layout c.queue-new.ensures.layout (there c)) c.renewed_block.ensures.renewed

pub returns-clause-room : goal.returns-clause-room
returns-clause-room c =
    on_ok c.renewed_block.result (subst (λ (X : Type 0). X) (fit c)) c.renewed_block.ensures.room

pub returns-clause-no_room : goal.returns-clause-no_room
returns-clause-no_room c = λ none all.
    c.renewed_block.ensures.no_room.0 none (subst (λ (X : Type 0). X) (sym (fit c)) all)

pub returns-in-Ok-clause-no_room : goal.returns-in-Ok-clause-no_room
returns-in-Ok-clause-no_room c = λ e. cc

pub returns-in-Err-clause-no_room : goal.returns-in-Err-clause-no_room
returns-in-Err-clause-no_room c = λ e. cc
