use Rattle.journal_store.proofs.Storing.{fresh_whole}
use Rattle.journal_store.proofs.store.write_fresh.Goals as goal

pub returns-clause-whole : goal.returns-clause-whole
returns-clause-whole g c =
    let f = g.D.Folder.files in
    fresh_whole c.args.bytes.now c.room_for-room.result (f c.args.folder.now) (f c.create.new.self) (f c.lengthen.new.self)
    (f c.write.new.self) (f c.sync.new.self) c.lengthen.result c.in_ok-create.ensures.made c.lengthen.ensures.made
    c.lengthen.ensures.stays c.in_ok-write.ensures.all c.in_ok-sync.ensures.kept
