-- The numbers as a JSON object.
use Rattle.std.specs.Prelude.{ℕ, List, [], ◌∷◌, codes, Option, Some, None}
use Rattle.serde_json.specs.Data.{Data, array, boolean, member, no_members, null, number, object, string, unsigned, Members}
use Rattle.serde_json.specs.View.{items_of}
use Rattle.wire.specs.Kinds.{kind_text}
use Rattle.gauges.specs.Samples.{keeping_text}
use Rattle.gauges.specs.declared.numbers.Gauges.{Gauges}
use Rattle.gauges.specs.declared.numbers.JournalGauges.{JournalGauges}
use Rattle.gauges.specs.declared.numbers.QueueGauges.{QueueGauges}

-- a whole number at a key, with the members whose keys come behind it
abbrev pub whole : List ℕ → ℕ → Members → Members
whole key n rest = member key (number (unsigned n)) rest

abbrev pub queue_data : QueueGauges → Data
queue_data q = object (whole (codes "clients") q.clients (whole (codes "items") q.items
    (member (codes "kind") (string (kind_text q.queue.kind)) (member (codes "queue") (string q.queue.name)
    (whole (codes "records") q.records no_members)))))

abbrev pub queue_datas : List (Option QueueGauges) → List Data
queue_datas [] = []
queue_datas (None ∷ more) = queue_datas more
queue_datas (Some q ∷ more) = queue_data q ∷ queue_datas more

abbrev pub journal_data : JournalGauges → Data
journal_data j = object (whole (codes "batches") j.batches (whole (codes "bytes") j.bytes
    (member (codes "failed") (boolean j.failed) (whole (codes "failures") j.failures (whole (codes "kept") j.kept
    (member (codes "sync") (string (keeping_text j.keeping)) no_members))))))

abbrev pub journal_data_of : Option JournalGauges → Data
journal_data_of None = null
journal_data_of (Some j) = journal_data j

abbrev pub stats_data : Gauges → Data
stats_data g = object (whole (codes "connections") g.connections (member (codes "journal") (journal_data_of g.journal)
    (member (codes "queues") (array (items_of (queue_datas g.broker.queues))) (member (codes "ready") (boolean g.broker.ready)
    (whole (codes "replies") g.replies (whole (codes "uptime") g.uptime (whole (codes "workers") g.workers no_members)))))))
