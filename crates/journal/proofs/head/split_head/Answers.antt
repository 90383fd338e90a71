use Rattle.std.proofs.Common.{ℕ, List, map, arith, sym, ap, ◌∙◌}
use Rattle.std.specs.Int.{w64, from_le_bytes}
use Rattle.journal.specs.Reading.{has_its_sum, head_in}
use Rattle.journal.proofs.Heads.{HasCount, head_begins_wrong, head_has_no_count, head_counts_none, head_counts_many, head_cut_off, head_of_another_sum, head_is_read, head_sum_compared, head_found, read_as}
use Rattle.journal.proofs.head.split_head.Goals.{then-count-eq0-via-then-count-eq0, then-count-eq0-via-else-count-eq0+then-count}
use Rattle.journal.proofs.head.split_head.Goals as goal

pub returns-then-not-begins_right-clause-err : goal.returns-then-not-begins_right-clause-err
returns-then-not-begins_right-clause-err c = head_begins_wrong c.args.bytes.now (sym c.begins_right.ensures ∙ c.if-not-begins_right.true)

pub returns-in_default-clause-err : goal.returns-in_default-clause-err
returns-in_default-clause-err c = head_has_no_count c.args.bytes.now (sym c.begins_right.ensures ∙ c.if-not-begins_right.false) c.in_default.ensures.short

pub returns-then-count-eq0-clause-err : goal.returns-then-count-eq0-clause-err
returns-then-count-eq0-clause-err c =
    let right = sym c.begins_right.ensures ∙ c.if-not-begins_right.false in
    elim c.then-count-eq0.branch [
      | then-count-eq0-via-then-count-eq0 w ↦ head_counts_none c.args.bytes.now right c.in-Some.ensures.long (sym c.in-Some.ensures.count ∙ w.if-count-eq0.true)
      | then-count-eq0-via-else-count-eq0+then-count w ↦ head_counts_many c.args.bytes.now right c.in-Some.ensures.long (omega (arith, w.if-count.true, c.in-Some.ensures.count))
    ]

pub returns-in_default-split_parts-clause-err : goal.returns-in_default-split_parts-clause-err
returns-in_default-split_parts-clause-err c =
    head_cut_off c.args.bytes.now
    (record {
      right = sym c.begins_right.ensures ∙ c.if-not-begins_right.false;
      long = c.in-Some.ensures.long;
      some = omega (arith, c.if-count-eq0.false, c.in-Some.ensures.count);
      few = omega (arith, c.if-count.false, c.in-Some.ensures.count);
    })
    (omega (arith, c.in_default-split_parts.ensures.short, c.in-Some.ensures.count))

has_count : (c : goal.Then-not-summed) → HasCount c.args.bytes.now
has_count c = record {
  right = sym c.begins_right.ensures ∙ c.if-not-begins_right.false;
  long = c.in-Some.ensures.long;
  some = omega (arith, c.if-count-eq0.false, c.in-Some.ensures.count);
  few = omega (arith, c.if-count.false, c.in-Some.ensures.count);
}

pub returns-then-not-summed-clause-err : goal.returns-then-not-summed-clause-err
returns-then-not-summed-clause-err c =
    let head = c.in-Some-split_parts.head in
    head_of_another_sum c.args.bytes.now (has_count c) (omega (arith, c.in-Some-split_parts.ensures.long, c.in-Some.ensures.count))
    (ap (λ (n : ℕ). has_its_sum n c.args.bytes.now) (sym c.in-Some.ensures.count)
    ∙ head_sum_compared c.args.bytes.now c.in-Some-split_parts.head.key.now c.in-Some-split_parts.head.sum.now c.checksum.result c.in-Some.count c.eq-summed.result
    c.in-Some-split_parts.ensures.key c.in-Some-split_parts.ensures.sum c.checksum.ensures c.eq-summed.ensures
    ∙ c.if-not-summed.true)

pub returns-clause-ok : goal.returns-clause-ok
returns-clause-ok c =
    let has : HasCount c.args.bytes.now = record {
      right = sym c.begins_right.ensures ∙ c.if-not-begins_right.false;
      long = c.in-Some.ensures.long;
      some = omega (arith, c.if-count-eq0.false, c.in-Some.ensures.count);
      few = omega (arith, c.if-count.false, c.in-Some.ensures.count);
    } in
    head_is_read c.args.bytes.now has (omega (arith, c.in-Some-split_parts.ensures.long, c.in-Some.ensures.count))
    (ap (λ (n : ℕ). has_its_sum n c.args.bytes.now) (sym c.in-Some.ensures.count)
    ∙ head_sum_compared c.args.bytes.now c.in-Some-split_parts.head.key.now c.in-Some-split_parts.head.sum.now c.checksum.result c.in-Some.count c.eq-summed.result
    c.in-Some-split_parts.ensures.key c.in-Some-split_parts.ensures.sum c.checksum.ensures c.eq-summed.ensures
    ∙ c.if-not-summed.false)
    ∙ ap (λ (n : ℕ). read_as (head_in n c.args.bytes.now)) (sym c.in-Some.ensures.count)
    ∙ ap read_as (head_found c.args.bytes.now (map (from_le_bytes w64) c.in-Some-split_parts.head.words.now) c.in-Some-split_parts.head.key.now c.in-Some-split_parts.head.sum.now c.in-Some-split_parts.head.rest.now c.in-Some.count
    (ap (λ (ws : List (List ℕ)). map (from_le_bytes w64) ws) c.in-Some-split_parts.ensures.words) c.in-Some-split_parts.ensures.key c.in-Some-split_parts.ensures.sum c.in-Some-split_parts.ensures.rest)
