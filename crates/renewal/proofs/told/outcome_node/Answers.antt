use Rattle.std.proofs.Common.{◌≡◌, [], sym, ap, ◌∙◌, Some}
use Rattle.arena.specs.Words.{value_of}
use Rattle.words.specs.PlainQueue.{Value}
use Rattle.words.specs.declared.call.Reply.{Reply}
use Rattle.words.specs.declared.told.Outcome.TheVariants.{Taken}
use Rattle.renewal.specs.Renewed.{outcome_node}
use Rattle.renewal.proofs.told.outcome_node.Goals as goal

pub returns-in-Done : goal.returns-in-Done
unfolding value_of
returns-in-Done c =
    let empty : c.value_of.result ≡ [] = c.value_of.ensures in
    ap (λ (v : Value). Some v) empty ∙ sym (ap outcome_node (c.in-Taken.is ∙ ap (λ (x : Reply). Taken x) c.in-Done.is))
