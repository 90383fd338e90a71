use Rattle.std.proofs.Common.{ap, sym, ◌∙◌}
use Rattle.std.proofs.lemmas.List.{get_or_default}
use Rattle.deciding.specs.declared.known.Knows.TheVariants.{NoCall}
use Rattle.deciding.specs.Table.{known_of}
use Rattle.deciding.proofs.wrong.is_bad_take.Goals as goal

pub is_bad_source-requires-clause-put : goal.is_bad_source-requires-clause-put
is_bad_source-requires-clause-put c = (c.requires.right.calls.sources c.args.take c.in-Took.put c.requires.within
    (ap known_of (get_or_default c.args.tables.now.known.items c.args.take NoCall c.index.result.now c.requires.within
    ∙ sym c.index.ensures ∙ c.in-Took.is))).0
