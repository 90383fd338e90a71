use Rattle.std.proofs.Common.{◌≡◌, ◌++◌}
use Rattle.journal.specs.Frame.{change_bytes}
use Rattle.journal.proofs.Writes.{appended_behind, appended_if, begins_if, begins_more, begins_on, begins_same}
use Rattle.journal.proofs.writer.append_change.Goals as goal

pub returns-in_err-extend_from_slice-clause-begins : goal.returns-in_err-extend_from_slice-clause-begins
returns-in_err-extend_from_slice-clause-begins c = begins_same _ _ c.in_err-extend_from_slice.ensures.items

pub returns-clause-ok : goal.returns-clause-ok
returns-clause-ok c =
    let parts : c.to_le_bytes.result ++ c.to_le_bytes-2.result ≡ change_bytes c.args.change.now =
    rw (c.to_le_bytes.ensures, c.to_le_bytes-2.ensures) in
    appended_behind c.extend_from_slice-2.result _ c.to_le_bytes.result _ _ _ _ parts
    c.in_ok-extend_from_slice.ensures.items
    (appended_if c.extend_from_slice.new.self.items _ c.to_le_bytes-2.result c.extend_from_slice-2.result
    c.extend_from_slice-2.ensures.items)

pub returns-clause-begins : goal.returns-clause-begins
returns-clause-begins c =
    begins_on _ c.extend_from_slice.new.self.items _
    (begins_more _ c.to_le_bytes.result _ c.in_ok-extend_from_slice.ensures.items)
    (begins_if _ _ c.to_le_bytes-2.result c.extend_from_slice-2.result c.extend_from_slice-2.ensures.items)
