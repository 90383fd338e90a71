use Rattle.std.proofs.Common.{◌<◌, below_more, arith, get_or, length, ◌∙◌}
use Rattle.std.proofs.Math.ListN.{length-set}
use Rattle.std.proofs.lemmas.Option.{slice_get-get_or}
use Rattle.findings.proofs.Tables.{new_here, not_new, table_more}
use Rattle.findings.proofs.agreeing.numbers_by_place.Goals as goal

pub returns-then-index-entries-clause-none : goal.returns-then-index-entries-clause-none
returns-then-index-entries-clause-none c =
    let order = c.args.entries.now in
    let here = get_or order c.loop-i.i c.index-entries-i.result in
    let at = slice_get-get_or order c.loop-i.i c.index-entries-i.result c.loop-i-test.true in
    not_new order c.loop-i.i c.loop-i.table.items here c.index.result.now at
    (omega (arith, c.requires c.loop-i.i c.index-entries-i.result c.loop-i-test.true, c.loop-i.invariant.places))
    c.loop-i.invariant.numbers (omega (arith, c.if-index-entries.true, c.index.ensures))

pub loop-i-preserved : goal.loop-i-preserved
loop-i-preserved c =
    let order = c.args.entries.now in
    let here = get_or order c.loop-i.i c.index-entries-i.result in
    let at = slice_get-get_or order c.loop-i.i c.index-entries-i.result c.loop-i-test.true in
    let within : here.place < length c.loop-i.table.items =
    omega (arith, c.requires c.loop-i.i c.index-entries-i.result c.loop-i-test.true, c.loop-i.invariant.places) in
    record {
      numbers = table_more order c.loop-i.i c.loop-i.table.items here at within c.loop-i.invariant.numbers;
      new = below_more _ _ c.loop-i.invariant.new (new_here order c.loop-i.i c.loop-i.table.items here
          c.index.result.now at within c.loop-i.invariant.numbers
          (omega (arith, c.if-index-entries.false, c.index.ensures)));
      places = length-set c.loop-i.table.items here.place c.loop-i.i ∙ c.loop-i.invariant.places;
    }
