use Rattle.std.proofs.Common.{◌^◌, ◌<◌, take}
use Rattle.std.specs.List.{flat_map}
use Rattle.std.proofs.lemmas.List.Elements.{All-more}
use Rattle.journal.specs.Frame.{change_bytes}
use Rattle.journal.proofs.Writes.{no_change, appended_more, begins_more, begins_on}
use Rattle.journal.proofs.writer.append_changes.Goals as goal

pub loop-change-preserved : goal.loop-change-preserved
loop-change-preserved c = record {
  bytes =
      appended_more change_bytes c.args.out.now.items c.args.changes.now c.loop-change.change-index no_change
      c.loop-change.out.items c.append_change.new.out.items c.loop-change-test.true c.loop-change.invariant.bytes
      c.in_ok-append_change.ensures.ok;
  values =
      All-more (λ change. change.new < 2 ^ 64) c.args.changes.now c.loop-change.change-index no_change
      c.loop-change-test.true c.loop-change.invariant.values c.in_ok-append_change.ensures.value;
}

pub returns-in_err-append_change-clause-begins : goal.returns-in_err-append_change-clause-begins
returns-in_err-append_change-clause-begins c =
    begins_on c.args.out.now.items c.loop-change.out.items c.append_change.new.out.items
    (begins_more _ (flat_map change_bytes (take c.loop-change.change-index c.args.changes.now)) _
    c.loop-change.invariant.bytes) c.append_change.ensures.begins
