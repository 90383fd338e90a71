use Rattle.std.proofs.Common.{◌≡◌, ◌++◌}
use Rattle.std.specs.List.{flat_map}
use Rattle.journal.specs.Frame.{batch_of, change_bytes, front_of}
use Rattle.journal.proofs.Writes.{appended_behind, appended_thrice, begins_more, begins_on, begins_same}
use Rattle.journal.proofs.writer.append_front.Goals as goal

pub returns-in_err-extend_from_slice-clause-begins : goal.returns-in_err-extend_from_slice-clause-begins
returns-in_err-extend_from_slice-clause-begins c = begins_same _ _ c.in_err-extend_from_slice.ensures.items

pub returns-in_err-extend_from_slice-2-clause-begins : goal.returns-in_err-extend_from_slice-2-clause-begins
returns-in_err-extend_from_slice-2-clause-begins c =
    begins_on _ c.extend_from_slice.new.self.items _
    (begins_more _ c.args.before.now _ c.in_ok-extend_from_slice.ensures.items)
    (begins_same _ _ c.in_err-extend_from_slice-2.ensures.items)

pub returns-in_err-extend_from_slice-3-clause-begins : goal.returns-in_err-extend_from_slice-3-clause-begins
returns-in_err-extend_from_slice-3-clause-begins c =
    begins_on _ c.extend_from_slice-2.new.self.items _
    (begins_on _ c.extend_from_slice.new.self.items _
    (begins_more _ c.args.before.now _ c.in_ok-extend_from_slice.ensures.items)
    (begins_more _ c.to_le_bytes.result _ c.in_ok-extend_from_slice-2.ensures.items))
    (begins_same _ _ c.in_err-extend_from_slice-3.ensures.items)

pub returns-clause-ok : goal.returns-clause-ok
returns-clause-ok c =
    let part = c.args.before.now ++ c.to_le_bytes.result ++ c.to_le_bytes-2.result in
    let changes = flat_map change_bytes c.args.changes.now in
    let parts : part ++ changes ≡ front_of c.args.before.now (batch_of c.args.kept c.args.changes.now) =
    rw (c.to_le_bytes.ensures, c.to_le_bytes-2.ensures) in
    appended_behind c.append_changes.result _ part changes _ _ _ parts
    (appended_thrice _ c.args.before.now c.to_le_bytes.result c.to_le_bytes-2.result _ _ _
    c.in_ok-extend_from_slice.ensures.items c.in_ok-extend_from_slice-2.ensures.items
    c.in_ok-extend_from_slice-3.ensures.items) c.append_changes.ensures.ok

pub returns-clause-values : goal.returns-clause-values
returns-clause-values c = c.append_changes.ensures.values

pub returns-clause-begins : goal.returns-clause-begins
returns-clause-begins c =
    begins_on _ c.extend_from_slice-3.new.self.items _ (begins_on _ c.extend_from_slice-2.new.self.items _
    (begins_on _ c.extend_from_slice.new.self.items _
    (begins_more _ c.args.before.now _ c.in_ok-extend_from_slice.ensures.items)
    (begins_more _ c.to_le_bytes.result _ c.in_ok-extend_from_slice-2.ensures.items))
    (begins_more _ c.to_le_bytes-2.result _ c.in_ok-extend_from_slice-3.ensures.items)) c.append_changes.ensures.begins
