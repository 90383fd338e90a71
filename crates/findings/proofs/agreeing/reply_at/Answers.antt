use Rattle.std.proofs.Common.{get_or}
use Rattle.std.proofs.lemmas.Option.{slice_get-get_or}
use Rattle.findings.proofs.Tables.{taken_here, none_here}
use Rattle.findings.proofs.agreeing.reply_at.Goals as goal

pub returns-then-number-entries-clause-some : goal.returns-then-number-entries-clause-some
returns-then-number-entries-clause-some c =
    let number = get_or c.args.table.now c.args.p 0 in
    taken_here c.args.entries.now c.args.table.now c.args.p number
    (get_or c.args.entries.now number c.index-entries-number.result) c.requires.table
    (slice_get-get_or c.args.table.now c.args.p 0 c.requires.place)
    (slice_get-get_or c.args.entries.now number c.index-entries-number.result c.if-number-entries.true)

pub returns-else-number-entries-clause-none : goal.returns-else-number-entries-clause-none
returns-else-number-entries-clause-none c =
    none_here c.args.entries.now c.args.table.now c.args.p _ c.requires.table
    (slice_get-get_or c.args.table.now c.args.p 0 c.requires.place) c.if-number-entries.false
