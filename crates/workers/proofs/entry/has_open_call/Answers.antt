use Rattle.std.proofs.Common.{rules, arith, sym, ◌∙◌, ◌-◌, ◌≡◌, length, suc}
use Rattle.std.proofs.lemmas.Option.{slice_get-get_or}
use Rattle.workers.specs.declared.entry.Entry.{Entry}
use Rattle.workers.proofs.lists.LastCalls.{ends_as_last}
use Rattle.workers.proofs.entry.has_open_call.Goals as goal

pub returns : goal.returns
returns c =
    let list = c.args.list.now in
    let last : suc (length list - 1) ≡ length list = search rules in
    let entry : Entry = c.index-list-list.result in
    c.is_open_end.ensures
    ∙ sym (ends_as_last list _ _ (slice_get-get_or list (length list - 1) entry (omega arith)) last)
