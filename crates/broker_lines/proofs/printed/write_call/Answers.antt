use Rattle.std.proofs.lemmas.List.{append_assoc}
use Rattle.broker_lines.proofs.printed.write_call.Goals as goal

pub returns-in-Enq : goal.returns-in-Enq
returns-in-Enq g c = rw c.in-Enq.is (simp append_assoc c.write.ensures.writes)

pub returns-in-Deq : goal.returns-in-Deq
returns-in-Deq g c = rw c.in-Deq.is (simp append_assoc c.write-in-Deq.ensures.writes)
