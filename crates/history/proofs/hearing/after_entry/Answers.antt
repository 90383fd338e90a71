use Rattle.std.proofs.Common.{get_or}
use Rattle.history.specs.Hearing.{BeginsSomeTold}
use Rattle.history.proofs.HearSteps.{entry_same, entry_more}
use Rattle.history.proofs.hearing.after_entry.Goals as goal

pub returns-then-not-begins_told-clause-so_far : goal.returns-then-not-begins_told-clause-so_far
returns-then-not-begins_told-clause-so_far c =
    entry_same _ _ _ _ _ _ _ _ _ c.requires.within
    (λ (begins : BeginsSomeTold c.args.who.now.kind c.args.who.now.events.now.items c.args.who.now.client
    (get_or c.args.who.now.entries.now c.args.i c.index-who-i.result).place). cc
    (c.begins_told.ensures.begins.1 begins, c.if-not-begins_told.true)) c.requires.so_far

pub returns-clause-so_far : goal.returns-clause-so_far
returns-clause-so_far c = entry_more _ _ _ _ _ _ _ _ _ c.requires.within c.requires.ascends c.requires.earlier
    (c.begins_told.ensures.begins.0 c.if-not-begins_told.false) c.requires.so_far
