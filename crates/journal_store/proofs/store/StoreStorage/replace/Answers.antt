use Rattle.std.proofs.Common.{◌≡◌, rules}
use Rattle.std.specs.Prelude.{option_map}
use Rattle.journal_store.specs.Folder.{names_kept, renamed}
use Rattle.journal_store.proofs.Storing.{placed_in_use}
use Rattle.journal_store.proofs.store.StoreStorage.replace.Goals as goal

pub invariant_of-self-2 : goal.invariant_of-self-2
invariant_of-self-2 g c = λ going.
    let f = g.D.Folder.files in
    let moved : g.D.Folder.files c.rename.new.self ≡ option_map renamed (g.D.Folder.files c.write_fresh.new.folder) = search rules in
    let named : g.D.Folder.files c.sync_names.new.self ≡ option_map names_kept (g.D.Folder.files c.rename.new.self) = search rules in
    placed_in_use c.args.bytes.now (f c.write_fresh.new.folder) (f c.rename.new.self) (f c.sync_names.new.self)
    c.in-Ok.ensures.whole moved named
