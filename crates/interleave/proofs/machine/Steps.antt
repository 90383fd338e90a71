-- What is left of a world by a step of a call, put together.
use Rattle.std.proofs.Common.{◌≡◌, Option, true, false, is_some, refl}
use Rattle.words.specs.declared.call.Client.{Client}
use Rattle.words.specs.declared.call.Reply.{Reply}
use Rattle.persist.specs.Memory.{Words}
use Rattle.persist.specs.declared.access.Noted.{Noted}
use Rattle.stepper.specs.declared.resume.After.{After}
use Rattle.stepper.specs.declared.resume.After.TheVariants.{More, Done}
use Rattle.helping.specs.declared.op.Op.{Op}
use Rattle.protocol.specs.Machine.{next_of}
use Rattle.protocol.specs.declared.UnderWay.{UnderWay}
use Rattle.interleave.specs.Calls.{answer_of}
use Rattle.interleave.specs.Core.{CoreState, machine_over, state_of}
use Rattle.interleave.specs.Queue.{after_return}
use Rattle.interleave.specs.State.{after_one_access, queue_left}
use Rattle.interleave.specs.Stepped.{IsSteppedBy}
use Rattle.interleave.specs.Trace.{state_with}
use Rattle.interleave.specs.declared.queue.Queue.{Queue}

-- a call that is answered returns
pub queue_answered : (queue : Queue) (u : UnderWay) (next : After Op Reply) → is_some (answer_of next) ≡ true
    → queue_left queue u next ≡ after_return queue u.begun.client u.begun.number
queue_answered queue u (More op) e = cc
queue_answered queue u (Done answer) e = refl

-- and one that goes on does not
pub queue_still : (queue : Queue) (u : UnderWay) (next : After Op Reply) → is_some (answer_of next) ≡ false → queue_left queue u next ≡ queue
queue_still queue u (More op) e = refl
queue_still queue u (Done answer) e = cc

-- all but the queue
pub stepped_rest : (old new : CoreState) (ws left : Words) (client : Client) (u : UnderWay) (noted : Noted (Option Reply))
    → IsSteppedBy u client old ws new left noted → new.shape ≡ old.shape → new.trace.base ≡ old.trace.base → new.trace.told ≡ old.trace.told → new.trace.recovery ≡ old.trace.recovery
    → state_with new.shape left (queue_left old.queue u (next_of (machine_over old ws) u)) new.calls new.trace ≡ after_one_access (state_of old ws) client u
stepped_rest old new ws left client u noted step shape base told recovery =
    rw (shape, step.words, step.calls, base, told, step.log, recovery) refl
