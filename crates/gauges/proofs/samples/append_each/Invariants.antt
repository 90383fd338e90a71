use Rattle.std.proofs.Common.{◌≡◌, ◌++◌, string_bytes, drop}
use Rattle.gauges.specs.Samples.{queue_texts}
use Rattle.gauges.proofs.samples.append_each.Given as goal

-- with what is left, it is all
abbrev pub invariant-loop-place : goal.invariant-loop-place
invariant-loop-place l =
    string_bytes l.text ++ queue_texts l.count (drop l.place-index l.queues) ≡ string_bytes l.fn.text ++ queue_texts l.count l.queues
