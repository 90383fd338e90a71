use Rattle.std.proofs.Common.{◌≡◌, ℕ, ◌+◌, ◌*◌, ◌/◌, length, drop, arith, sym, ap, ◌∙◌}
use Rattle.std.specs.Simd.{first_chunks}
use Rattle.std.proofs.lemmas.List.{length-take-le}
use Rattle.journal.specs.Reading.{sum_in}
use Rattle.journal.proofs.Chunks.{chunks_read}
use Rattle.journal.proofs.Frames.{whole_of_none, whole_of_many, whole_of_short, whole_of_another, whole_from, tail_is, rest_long, sum_is, rest_is, sum_compared}
use Rattle.journal.proofs.frame.whole_frame.Goals.{then-front-eq0-via-then-front-eq0, then-front-eq0-via-else-front-eq0+then-front-gt-MAX_CHANGES}
use Rattle.journal.proofs.frame.whole_frame.Goals as goal

pub returns-in_default-clause-whole : goal.returns-in_default-clause-whole
returns-in_default-clause-whole c = sym (whole_of_short c.args.key.now c.args.bytes.now (omega (arith, c.in_default.ensures.short)))

pub returns-then-front-eq0-clause-whole : goal.returns-then-front-eq0-clause-whole
returns-then-front-eq0-clause-whole c = elim c.then-front-eq0.branch [
  | then-front-eq0-via-then-front-eq0 w ↦ sym (whole_of_none c.args.key.now c.args.bytes.now (sym c.in-Some.ensures.count ∙ w.if-front-eq0.true))
  | then-front-eq0-via-else-front-eq0+then-front-gt-MAX_CHANGES w ↦ sym (whole_of_many c.args.key.now c.args.bytes.now (omega (arith, w.if-front-gt-MAX_CHANGES.true, c.in-Some.ensures.count)))
]

pub returns-in_default-split_at_checked-clause-whole : goal.returns-in_default-split_at_checked-clause-whole
returns-in_default-split_at_checked-clause-whole c =
    let long = rest_long c.args.bytes.now c.in-Some.front.rest.now c.in-Some.ensures.long c.in-Some.ensures.rest in
    sym (whole_of_short c.args.key.now c.args.bytes.now (omega (arith, c.in_default-split_at_checked.ensures.cases, c.in-Some.ensures.count, long)))

pub returns-in_default-split_first_chunk-clause-whole : goal.returns-in_default-split_first_chunk-clause-whole
returns-in_default-split_first_chunk-clause-whole c =
    let long = rest_long c.args.bytes.now c.in-Some.front.rest.now c.in-Some.ensures.long c.in-Some.ensures.rest in
    sym (whole_of_short c.args.key.now c.args.bytes.now (omega (arith, c.in_default-split_first_chunk.ensures.cases, c.in-Some-split_at_checked.ensures.cases.4, c.in-Some.ensures.count, long)))

pub slice_bounds-checksum-end : goal.slice_bounds-checksum-end
slice_bounds-checksum-end c =
    let long = rest_long c.args.bytes.now c.in-Some.front.rest.now c.in-Some.ensures.long c.in-Some.ensures.rest in
    sym (length-take-le (20 + 12 * c.in-Some.front.count) c.args.bytes.now (omega (arith, c.in-Some-split_at_checked.ensures.cases.0, long)))

-- the sum is where a frame has it
summed : (c : goal.Then-not-summed) → c.in-Some-split_first_chunk.sum.now ≡ sum_in c.args.bytes.now
summed c =
    sum_is c.args.bytes.now c.in-Some-split_at_checked.rest.now c.in-Some-split_first_chunk.sum.now c.in-Some.front.count c.in-Some.ensures.count
    (tail_is c.args.bytes.now c.in-Some.front.rest.now c.in-Some-split_at_checked.rest.now (12 * c.in-Some.front.count) c.in-Some.ensures.rest c.in-Some-split_at_checked.ensures.cases.2)
    c.in-Some-split_first_chunk.ensures.cases.0

pub returns-then-not-summed-clause-whole : goal.returns-then-not-summed-clause-whole
returns-then-not-summed-clause-whole c =
    sym (whole_of_another c.args.key.now c.args.bytes.now
    (sum_compared c.args.key.now c.args.bytes.now c.in-Some-split_first_chunk.sum.now c.checksum.result c.in-Some.front.count c.eq-summed.result c.in-Some.ensures.count (summed c) c.checksum.ensures c.eq-summed.ensures ∙ c.if-not-summed.true))

there : (c : goal.After-changes-2-1) → c.in-Some-split_at_checked.rest.now ≡ drop (20 + 12 * c.in-Some.front.count) c.args.bytes.now
there c =
    tail_is c.args.bytes.now c.in-Some.front.rest.now c.in-Some-split_at_checked.rest.now (12 * c.in-Some.front.count) c.in-Some.ensures.rest c.in-Some-split_at_checked.ensures.cases.2

pub returns-clause-sum : goal.returns-clause-sum
returns-clause-sum c =
    sum_is c.args.bytes.now c.in-Some-split_at_checked.rest.now c.in-Some-split_first_chunk.sum.now c.in-Some.front.count c.in-Some.ensures.count (there c) c.in-Some-split_first_chunk.ensures.cases.0

pub returns-clause-rest : goal.returns-clause-rest
returns-clause-rest c =
    rest_is c.args.bytes.now c.in-Some-split_at_checked.rest.now c.in-Some-split_first_chunk.rest.now c.in-Some.front.count c.in-Some.ensures.count (there c) c.in-Some-split_first_chunk.ensures.cases.1

pub returns-clause-changes : goal.returns-clause-changes
returns-clause-changes c =
    let front = c.in-Some-split_at_checked.changes.now in
    let counted : length c.in-Some-split_at_checked.changes.now / 12 ≡ c.in-Some.front.count = omega (arith, c.in-Some-split_at_checked.ensures.cases.3) in
    c.as_chunks.ensures.front
    ∙ chunks_read 12 c.in-Some.front.count (length c.in-Some-split_at_checked.changes.now / 12) c.in-Some-split_at_checked.changes.now c.in-Some.front.rest.now counted c.in-Some-split_at_checked.ensures.cases.1
    ∙ ap (first_chunks 12 c.in-Some.front.count) c.in-Some.ensures.rest
    ∙ ap (λ (n : ℕ). first_chunks 12 n (drop 20 c.args.bytes.now)) c.in-Some.ensures.count

pub returns-clause-whole : goal.returns-clause-whole
returns-clause-whole c =
    let long = rest_long c.args.bytes.now c.in-Some.front.rest.now c.in-Some.ensures.long c.in-Some.ensures.rest in
    sym (whole_from c.args.key.now c.args.bytes.now (record {
      some = omega (arith, c.if-front-eq0.false, c.in-Some.ensures.count);
      few = omega (arith, c.if-front-gt-MAX_CHANGES.false, c.in-Some.ensures.count);
      long = omega (arith, c.in-Some-split_at_checked.ensures.cases.4, c.in-Some-split_first_chunk.ensures.cases.2, c.in-Some.ensures.count, long);
      summed =
          sum_compared c.args.key.now c.args.bytes.now c.in-Some-split_first_chunk.sum.now c.checksum.result c.in-Some.front.count c.eq-summed.result c.in-Some.ensures.count (returns-clause-sum c) c.checksum.ensures c.eq-summed.ensures
          ∙ c.if-not-summed.false;
    }))
