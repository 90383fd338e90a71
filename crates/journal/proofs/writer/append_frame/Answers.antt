use Rattle.journal.proofs.Writes.{begins_more, begins_on, begins_same}
use Rattle.journal.proofs.writer.append_frame.Goals as goal

pub returns-in_err-append_front-clause-begins : goal.returns-in_err-append_front-clause-begins
returns-in_err-append_front-clause-begins c = c.append_front.ensures.begins

pub returns-in_err-extend_from_slice-clause-begins : goal.returns-in_err-extend_from_slice-clause-begins
returns-in_err-extend_from_slice-clause-begins c =
    begins_on _ c.append_front.new.out.items _ c.append_front.ensures.begins
    (begins_same _ _ c.in_err-extend_from_slice.ensures.items)

pub returns-clause-begins : goal.returns-clause-begins
returns-clause-begins c =
    begins_on _ c.append_front.new.out.items _ c.append_front.ensures.begins
    (begins_more _ c.checksum-sum.result _ c.in_ok-extend_from_slice.ensures.items)
