use Rattle.std.proofs.Common.{Bool, sym, ap, ◌∙◌}
use Rattle.std.specs.Int.{w32, to_le_bytes}
use Rattle.words.specs.PlainQueue.{Value}
use Rattle.arena.specs.Words.{item_part, values_in}
use Rattle.arena.specs.declared.form.Form.TheVariants.{OfValues}
use Rattle.sound_words.specs.Kept.{kept_of}
use Rattle.migration.specs.Migrated.{part_migrated}
use Rattle.migration.proofs.Surveys.{off_chain, on_chain}
use Rattle.migration.proofs.block.part_of.Goals as goal

pub returns-then-survey-node-eq0 : goal.returns-then-survey-node-eq0
returns-then-survey-node-eq0 g c =
    let queue = c.args.queue.now in
    sym (ap (λ (b : Bool). part_migrated b (values_in OfValues (kept_of queue) c.args.node.0) c.args.part)
    (off_chain queue.shape (kept_of queue) _ c.requires.survey.places.order c.args.node.0 c.if-survey-node-eq0.true))

pub returns : goal.returns
returns g c =
    let queue = c.args.queue.now in
    c.item_part.ensures
    ∙ ap (λ (v : Value). item_part v c.args.part) (c.item_of.ensures ∙ ap (to_le_bytes w32) c.kept_at-value.ensures.value)
    ∙ sym (ap (λ (b : Bool). part_migrated b (values_in OfValues (kept_of queue) c.args.node.0) c.args.part)
    (on_chain queue.shape (kept_of queue) _ c.requires.survey.places.order c.args.node.0 c.if-survey-node-eq0.false))
