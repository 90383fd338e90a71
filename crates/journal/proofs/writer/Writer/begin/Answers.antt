use Rattle.std.proofs.Common.{◌≡◌, ℕ, ◌^◌, ◌<◌, ◌++◌, List, length, arith, sym, ap, ◌∙◌}
use Rattle.std.proofs.lemmas.Bool.{eqb-false, cond-true}
use Rattle.std.proofs.lemmas.List.Elements.{All-from_get_or}
use Rattle.journal.specs.Sum.{sum_of}
use Rattle.journal.specs.Journal.{head_front}
use Rattle.journal.proofs.writer.Writer.begin.Goals as goal

pub returns-clause-words : goal.returns-clause-words
returns-clause-words c = record {
  some = omega (arith, eqb-false (length c.args.base.now) 0 (sym c.if-is_empty.ensures));
  few = c.if-base-gt-MAX_WORDS.false;
  fit = All-from_get_or (λ word. word < 2 ^ 64) c.args.base.now 0 (λ i inside. omega (arith, c.type_inv.base i));
}

pub returns-clause-head : goal.returns-clause-head
returns-clause-head c =
    let front : c.in-Ok.head.items ≡ head_front c.args.key.now c.args.base.now = c.in-Ok.ensures in
    c.extend_from_slice.ensures.items
    ∙ cond-true _ _ _ c.if-is_err.ensures.negation
    ∙ ap (λ (sum : List ℕ). c.in-Ok.head.items ++ sum) (c.checksum-sum.ensures ∙ ap (sum_of c.args.key.now) (c.deref.ensures.value ∙ front))
    ∙ ap (λ (items : List ℕ). items ++ sum_of c.args.key.now (head_front c.args.key.now c.args.base.now)) front
