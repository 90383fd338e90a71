-- Tables of what is known of calls, as calls on a queue.
use Rattle.std.specs.Prelude.{ℕ, List, slice_index_or, length}
use Rattle.deciding.specs.declared.known.Knows.{Knows}
use Rattle.deciding.specs.declared.known.Knows.TheVariants.{NoCall, PutDone, PutNot, PutOpen, Took, FoundNothing, TakeNot, TakeOpen}
use Rattle.windows.specs.Calls.{Known, no_call, put_done, put_not, put_open, took, found_nothing, take_not, take_open, Calls}

abbrev pub known_of : Knows → Known
known_of NoCall = no_call
known_of PutDone = put_done
known_of PutNot = put_not
known_of PutOpen = put_open
known_of (Took source) = took source
known_of FoundNothing = found_nothing
known_of TakeNot = take_not
known_of TakeOpen = take_open

-- the calls of two tables: what is known, and where each ends
abbrev pub calls_by : List Knows → List ℕ → Calls
calls_by knows ends = record {
  places = length knows;
  known = λ p. known_of (slice_index_or knows p NoCall);
  end = λ p. slice_index_or ends p (length knows);
}
