use Rattle.std.proofs.Common.{◌≤◌, ◌+◌, ◌*◌, ◌++◌, length, take}
use Rattle.std.specs.Prelude.{codes}
use Rattle.arrayvec.specs.ArrayVec.{array_vec_len}
use Rattle.replies.specs.Texts.{queue_texts}
use Rattle.replies.specs.declared.queues.TheConstants.{MAX_QUEUE}
use Rattle.replies.proofs.Joins.{HasPut}
use Rattle.replies.proofs.queues.put_queues.Given as goal

-- the queues of the slots so far were put
abbrev pub invariant-loop-place : goal.invariant-loop-place
invariant-loop-place g l = record {
  put : HasPut (l.fn.out.items ++ codes "{\"queues\":[") (queue_texts (take l.place-index l.places)) l.is_first l.out.items;
  room : array_vec_len l.out ≤ array_vec_len l.fn.out + length (codes "{\"queues\":[") + (MAX_QUEUE + 1) * l.place-index;
}
