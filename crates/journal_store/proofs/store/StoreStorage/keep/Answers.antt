use Rattle.journal_store.proofs.Storing.{synced_in_use}
use Rattle.journal_store.proofs.store.StoreStorage.keep.Goals as goal

pub invariant_of-self-else-is_err : goal.invariant_of-self-else-is_err
invariant_of-self-else-is_err g c = λ going.
    synced_in_use c.self.inside.written (g.D.Folder.files c.self.inside.folder) (g.D.Folder.files c.sync-kept.new.self)
    c.sync-kept.result (c.self.invariant going) c.sync-kept.ensures.kept c.sync-kept.ensures.stays
