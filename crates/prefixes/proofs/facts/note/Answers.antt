use Rattle.prefixes.proofs.Turns.{table_refused, table_taken, table_not_taken}
use Rattle.prefixes.proofs.facts.note.Goals as goal

pub returns-then-call-fates : goal.returns-then-call-fates
returns-then-call-fates c =
    table_refused c.args.recording.now c.args.steps.now c.args.i _ c.args.fates.now c.in-Refuse.call
    c.index-fates-call.result c.requires.within c.in-Refuse.is c.if-call-fates.true c.requires.fates

pub returns-then-call-fates-2 : goal.returns-then-call-fates-2
returns-then-call-fates-2 c =
    table_taken c.args.recording.now c.args.steps.now c.args.i _ c.args.fates.now c.in-LearnTaken.call
    c.in-LearnTaken.said c.reply_of.result c.index-fates-call-then-call-fates-2.result c.requires.within
    c.in-LearnTaken.is c.if-call-fates-2.true c.reply_of.ensures c.requires.fates

pub returns-then-call-fates-3 : goal.returns-then-call-fates-3
returns-then-call-fates-3 c =
    table_not_taken c.args.recording.now c.args.steps.now c.args.i _ c.args.fates.now c.in-LearnNotTaken.call
    c.index-fates-call-then-call-fates-3.result c.requires.within c.in-LearnNotTaken.is c.if-call-fates-3.true
    c.requires.fates
