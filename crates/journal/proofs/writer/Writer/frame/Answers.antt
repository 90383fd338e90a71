use Rattle.std.proofs.Common.{ℕ, length, arith, subst, sym, ap}
use Rattle.std.specs.Prelude.{All}
use Rattle.std.proofs.lemmas.Bool.{eqb-false}
use Rattle.journal.specs.Frame.{IsChangeIn}
use Rattle.journal.specs.Journal.{End}
use Rattle.journal.proofs.Writes.{batch_within}
use Rattle.journal.proofs.writer.Writer.frame.Goals as goal

pub returns-clause-batch : goal.returns-clause-batch
returns-clause-batch c = record {
  some = omega (arith, eqb-false (length c.args.changes.now) 0 (sym c.if-is_empty.ensures));
  few = c.if-changes-gt-MAX_CHANGES.false;
  within =
      subst (λ (size : ℕ). All (IsChangeIn size) c.args.changes.now) (ap (λ (e : End). e.size) c.self.view_is)
      (batch_within c.self.inside.size c.args.changes.now (c.all_of_words.ensures.0 c.if-not-all_of_words.false) c.in-Ok.ensures.values);
}
