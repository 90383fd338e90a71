use Rattle.std.proofs.Common.{rules, inl, inr, List, [], Option, None, slice_index_or, ◌∙◌, ap, arith, length-set}
use Rattle.words.specs.declared.told.Verdict.{Verdict}
use Rattle.std.proofs.lemmas.Bool.{cases_lt}
use Rattle.std.proofs.lemmas.List.{get_or_past}
use Rattle.session.proofs.answers.Places.{one_more_place}
use Rattle.session.proofs.kept.Kept.told.Invariants.{IsRowOf}
use Rattle.session.proofs.kept.Kept.told.Goals as goal

pub loop-slot-init : goal.loop-slot-init
loop-slot-init c = search rules

pub loop-slot-preserved : goal.loop-slot-preserved
loop-slot-preserved c = record {
  len = length-set c.loop-slot.rows c.loop-slot.slot c.row_told.result ∙ c.loop-slot.invariant.len;
  promises = λ some. c.row_told.ensures.promises;
  so_far = one_more_place (IsRowOf c.args.broker.now) c.loop-slot.rows c.loop-slot.slot c.row_told.result []
      (omega (arith, c.loop-slot-test.true, c.loop-slot.invariant.len)) c.loop-slot.invariant.so_far
      (record { len = c.row_told.ensures.len; told = c.row_told.ensures.told });
}

pub returns-clause-heard : goal.returns-clause-heard
returns-clause-heard c = record {
  each = λ slot client less few. (c.loop-slot.invariant.so_far slot (omega (arith, c.loop-slot-test.false, less))).told client few;
  no_slot = λ slot client past. ap (λ (row : List (Option Verdict)). slice_index_or row client None)
      (get_or_past c.loop-slot.rows slot [] (omega (arith, c.loop-slot.invariant.len, past)));
  no_client = λ slot client past.
      let rows : List (List (Option Verdict)) = c.loop-slot.rows in
      elim (cases_lt slot 8) [
        | inl less ↦ get_or_past (slice_index_or rows slot []) client None
            (omega (arith, (c.loop-slot.invariant.so_far slot (omega (arith, c.loop-slot-test.false, less))).len, past))
        | inr far ↦ ap (λ (row : List (Option Verdict)). slice_index_or row client None)
            (get_or_past rows slot [] (omega (arith, c.loop-slot.invariant.len, far)))
      ];
}

pub returns-clause-promises : goal.returns-clause-promises
returns-clause-promises c = c.loop-slot.invariant.promises (omega (arith, c.loop-slot-test.false))
