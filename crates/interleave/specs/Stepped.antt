-- A step of a client's call, of a core over words.
use Rattle.std.specs.Prelude.{◌≡◌, Option, slice_set}
use Rattle.words.specs.declared.call.Client.{Client}
use Rattle.words.specs.declared.call.Reply.{Reply}
use Rattle.persist.specs.Memory.{Lent, Words}
use Rattle.persist.specs.declared.access.Noted.{Noted}
use Rattle.protocol.specs.Machine.{effects_after, next_of, with_next, with_step}
use Rattle.protocol.specs.declared.UnderWay.{UnderWay}
use Rattle.interleave.specs.Calls.{answer_of, OfCall}
use Rattle.interleave.specs.Core.{CoreState, machine_over}
use Rattle.interleave.specs.Points.{change_by_op, lent_by_op, words_by_op}
use Rattle.interleave.specs.Trace.{HaveRoom}

-- there is room for the effects after it
abbrev pub HasRoomToStep : CoreState → Words → UnderWay → Type 0
HasRoomToStep c ws u = HaveRoom c.trace.log (effects_after (machine_over c ws) u u.op)

-- the call made the one access of its waiting point, and went on by the table: what it left of a core and of its words,
-- its answer, and the change of a kept value
pub record IsSteppedBy (u : UnderWay) (client : Client) (old : CoreState) (ws : Words) (new : CoreState) (left : Words)
    (noted : Noted (Option Reply)) : Type 0 where
  pub words : left ≡ words_by_op old.shape u.op ws
  pub calls : new.calls ≡ slice_set old.calls client.0 (with_next u (next_of (machine_over old ws) u))
  pub log : new.trace.log ≡ (with_step (machine_over old ws) client u).log
  pub answer : noted.answer ≡ answer_of (next_of (machine_over old ws) u)
  pub change : noted.change ≡ change_by_op old.shape u.op ws

abbrev pub IsCallStep : Client → CoreState → Words → CoreState → Words → Noted (Option Reply) → Type 0
IsCallStep client old ws new left noted = OfCall old.calls client (λ u. IsSteppedBy u client old ws new left noted)

-- and it lent its port so
abbrev pub IsLentByCall : Client → CoreState → Lent → Lent → Type 0
IsLentByCall client c lent left = OfCall c.calls client (λ u. left ≡ lent_by_op c.shape u.op lent)
