use Rattle.std.proofs.Common.{◌≡◌, ◌++◌, drop, map}
use Rattle.serde_json.specs.View.{view}
use Rattle.gauges.specs.Objects.{queue_datas}
use Rattle.gauges.proofs.objects.queues_value.Given as goal

-- with what is left, it is all
abbrev pub invariant-loop-place : goal.invariant-loop-place
invariant-loop-place l = map view l.list.items ++ queue_datas (drop l.place-index l.queues) ≡ queue_datas l.queues
