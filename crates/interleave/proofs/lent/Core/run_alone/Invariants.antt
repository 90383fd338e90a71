use Rattle.std.proofs.Common.{◌≡◌, ◌+◌, ◌≤◌, ◌<◌, None, Some, slice_get, slice_index_or}
use Rattle.words.specs.declared.limits.TheConstants.{MAX_STEPS_ALONE}
use Rattle.protocol.specs.declared.UnderWay.{UnderWay}
use Rattle.interleave.specs.Asked.{IfCallAsked, lent_after_alone}
use Rattle.interleave.specs.Core.{state_of}
use Rattle.interleave.specs.Holds.{Holds}
use Rattle.interleave.specs.State.{after_alone}
use Rattle.interleave.proofs.runs.AloneCalls.{left_in}
use Rattle.interleave.proofs.lent.Core.run_alone.Given as goal

-- the call goes on, with as many steps made and left as there are at most, and did not answer yet
abbrev pub invariant-loop-answer : goal.invariant-loop-answer
invariant-loop-answer g l =
    record {
      world : state_of l.self (g.M.WordMemory.words l.memory)
          ≡ after_alone l.steps (state_of l.fn.self (g.M.WordMemory.words l.fn.memory)) l.client;
      client : l.client ≡ l.fn.client;
      holds : Holds (state_of l.self (g.M.WordMemory.words l.memory));
      asked : IfCallAsked l.self.shape (slice_index_or l.self.calls l.client.0 None) (g.M.WordMemory.lent l.memory).request;
      lent : g.M.WordMemory.lent l.memory
          ≡ lent_after_alone l.steps (state_of l.fn.self (g.M.WordMemory.words l.fn.memory)) l.client (g.M.WordMemory.lent l.fn.memory);
      waits : record { call : UnderWay; is : slice_get l.self.calls l.client.0 ≡ Some (Some call) };
      left : l.steps + left_in (state_of l.self (g.M.WordMemory.words l.memory)) l.client ≤ MAX_STEPS_ALONE;
      room : 0 < l.self.trace.room;
      at_first : l.fn.self.trace.room ≤ l.self.trace.room;
    }

abbrev pub decreases-loop-answer : goal.decreases-loop-answer
decreases-loop-answer g l = left_in (state_of l.self (g.M.WordMemory.words l.memory)) l.client
