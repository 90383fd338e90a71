use Rattle.std.proofs.Common.{◌+◌, ◌≤◌, length, rules}
use Rattle.journal_store.proofs.Storing.{appended_in_use}
use Rattle.journal_store.proofs.store.StoreStorage.append.Goals as goal

pub invariant_of-self-else-is_err : goal.invariant_of-self-else-is_err
invariant_of-self-else-is_err g c = λ going.
    let i = c.self.inside in
    let fits : c.self.inside.written + length c.args.bytes.now ≤ c.in-Some.end = search rules in
    appended_in_use c.args.bytes.now i.written c.in-Some.end (g.D.Folder.files i.folder)
    (g.D.Folder.files c.make_room-self-inside.new.folder) (g.D.Folder.files c.write-written.new.self)
    c.write-written.result (c.self.invariant going) c.make_room-self-inside.ensures fits
    c.write-written.ensures.all c.write-written.ensures.part
