-- The numbers as Prometheus reads them.
use Rattle.std.specs.Prelude.{ℕ, Bool, true, false, List, [], ◌∷◌, ◌++◌, codes, decimal, Option, Some, None}
use Rattle.wire.specs.Kinds.{kind_text}
use Rattle.gauges.specs.declared.numbers.BrokerGauges.{BrokerGauges}
use Rattle.gauges.specs.declared.numbers.Gauges.{Gauges}
use Rattle.gauges.specs.declared.numbers.JournalGauges.{JournalGauges}
use Rattle.gauges.specs.declared.numbers.Keeping.{Keeping}
use Rattle.gauges.specs.declared.numbers.Keeping.TheVariants.{Always, EachSecond, Never}
use Rattle.gauges.specs.declared.numbers.QueueGauges.{QueueGauges}
use Rattle.gauges.specs.declared.samples.Count.{Count}
use Rattle.gauges.specs.declared.samples.Count.TheVariants.{Items, Clients, Records}

-- the two lines above the samples of a name: what they are, and of which kind
unfoldable pub family_text : List ℕ → List ℕ → List ℕ → List ℕ
family_text name kind help = codes "# HELP " ++ name ++ codes " " ++ help ++ codes "\n# TYPE " ++ name ++ codes " " ++ kind
    ++ codes "\n"

-- a sample that is the only one of its name
abbrev pub plain_text : List ℕ → List ℕ → List ℕ → ℕ → List ℕ
plain_text name kind help value = family_text name kind help ++ (name ++ codes " " ++ decimal value ++ codes "\n")

-- one that may fall, and one that only grows
unfoldable pub gauge_text : List ℕ → List ℕ → ℕ → List ℕ
gauge_text name help value = plain_text name (codes "gauge") help value

unfoldable pub counter_text : List ℕ → List ℕ → ℕ → List ℕ
counter_text name help value = plain_text name (codes "counter") help value

abbrev pub flag : Bool → ℕ
flag true = 1
flag false = 0

abbrev pub keeping_text : Keeping → List ℕ
keeping_text Always = codes "always"
keeping_text EachSecond = codes "second"
keeping_text Never = codes "never"

abbrev pub server_samples : Gauges → List ℕ
server_samples g = gauge_text (codes "wistaku_uptime_seconds") (codes "Seconds since connections were first taken.") g.uptime
    ++ gauge_text (codes "wistaku_connections") (codes "Connections that are open.") g.connections
    ++ gauge_text (codes "wistaku_workers") (codes "Threads that serve connections.") g.workers
    ++ counter_text (codes "wistaku_replies_total") (codes "Replies that were sent.") g.replies

-- how the samples of a number of queues are called, and what they are
abbrev pub name_of : Count → List ℕ
name_of Items = codes "wistaku_queue_items"
name_of Clients = codes "wistaku_queue_clients"
name_of Records = codes "wistaku_queue_records"

abbrev pub help_of : Count → List ℕ
help_of Items = codes "Items that a queue holds."
help_of Clients = codes "Clients of a queue."
help_of Records = codes "Records of each client of a queue, used and free."

abbrev pub count_of : Count → QueueGauges → ℕ
count_of Items q = q.items
count_of Clients q = q.clients
count_of Records q = q.records

-- a number of a queue, by the queue's kind and its name
unfoldable pub queue_text : Count → QueueGauges → List ℕ
queue_text count q = name_of count ++ codes "{kind=\"" ++ kind_text q.queue.kind ++ codes "\",queue=\""
    ++ q.queue.name ++ codes "\"} " ++ decimal (count_of count q) ++ codes "\n"

-- that of each queue, in the order of their slots
abbrev pub queue_texts : Count → List (Option QueueGauges) → List ℕ
queue_texts count [] = []
queue_texts count (None ∷ more) = queue_texts count more
queue_texts count (Some q ∷ more) = queue_text count q ++ queue_texts count more

abbrev pub queue_samples : Count → List (Option QueueGauges) → List ℕ
queue_samples count queues = family_text (name_of count) (codes "gauge") (help_of count) ++ queue_texts count queues

abbrev pub broker_samples : BrokerGauges → List ℕ
broker_samples b = gauge_text (codes "wistaku_ready") (codes "1 where the broker is ready, and 0 while it recovers.") (flag b.ready)
    ++ queue_samples Items b.queues ++ queue_samples Clients b.queues ++ queue_samples Records b.queues

-- whether a journal has failed, by when it is kept
unfoldable pub failed_text : List ℕ → JournalGauges → List ℕ
failed_text name j = name ++ codes "{sync=\"" ++ keeping_text j.keeping ++ codes "\"} " ++ decimal (flag j.failed)
    ++ codes "\n"

unfoldable pub counts_samples : JournalGauges → List ℕ
counts_samples j = gauge_text (codes "wistaku_journal_bytes") (codes "Bytes of the journal.") j.bytes
    ++ gauge_text (codes "wistaku_journal_kept_bytes") (codes "Bytes that were there when all were last synced.") j.kept
    ++ counter_text (codes "wistaku_journal_batches_total") (codes "Batches that were appended.") j.batches
    ++ counter_text (codes "wistaku_journal_failures_total") (codes "Failures to append or to sync.") j.failures

abbrev pub journal_samples : JournalGauges → List ℕ
journal_samples j = counts_samples j
    ++ family_text (codes "wistaku_journal_failed") (codes "gauge") (codes "1 where the journal has failed for good.")
    ++ failed_text (codes "wistaku_journal_failed") j

abbrev pub journal_samples_of : Option JournalGauges → List ℕ
journal_samples_of None = []
journal_samples_of (Some j) = journal_samples j

abbrev pub metrics_text : Gauges → List ℕ
metrics_text g = server_samples g ++ broker_samples g.broker ++ journal_samples_of g.journal
