-- The numbers are whole, so that their object has one text.
use Rattle.std.proofs.Common.{◌≡◌, List, [], ◌∷◌, false, refl}
use Rattle.std.specs.Prelude.{Option, Some, None}
use Rattle.serde_json.specs.View.{items_of}
use Rattle.serde_json.specs.Written.{has_float, items_have_float}
use Rattle.gauges.specs.Objects.{journal_data_of, queue_datas, stats_data}
use Rattle.gauges.specs.declared.numbers.Gauges.{Gauges}
use Rattle.gauges.specs.declared.numbers.JournalGauges.{JournalGauges}
use Rattle.gauges.specs.declared.numbers.QueueGauges.{QueueGauges}

queues_whole : (queues : List (Option QueueGauges)) → items_have_float (items_of (queue_datas queues)) ≡ false
queues_whole [] = refl
queues_whole (None ∷ more) = queues_whole more
queues_whole (Some q ∷ more) = queues_whole more

journal_whole : (journal : Option JournalGauges) → has_float (journal_data_of journal) ≡ false
journal_whole None = refl
journal_whole (Some j) = refl

pub all_whole : (g : Gauges) → has_float (stats_data g) ≡ false
all_whole g = rw (journal_whole g.journal, queues_whole g.broker.queues) refl
