-- What clients and the server call the kinds of queues.
use Rattle.std.specs.Prelude.{ℕ, List, codes}
use Rattle.words.specs.declared.call.Kind.{Kind}
use Rattle.words.specs.declared.call.Kind.TheVariants.{Durable, Log}

abbrev pub kind_text : Kind → List ℕ
kind_text Durable = codes "durable"
kind_text Log = codes "log"
