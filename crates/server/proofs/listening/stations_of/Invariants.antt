use Rattle.std.proofs.Common.{◌≡◌, ◌+◌, vec_len}
use Rattle.std.specs.Vec.Iter.{into_iter_len}
use Rattle.server.proofs.listening.stations_of.Given as goal

abbrev pub invariant-loop-post : goal.invariant-loop-post
invariant-loop-post g l = record { counted : vec_len l.stations + into_iter_len l.post-iterator ≡ vec_len l.fn.posts }
