-- What clients are told, by the kind of their queue.
use Rattle.words.specs.declared.call.Kind.{Kind}
use Rattle.words.specs.declared.call.Kind.TheVariants.{Durable, Log}
use Rattle.words.specs.declared.told.Row.TheVariants.{NoCall}
use Rattle.words.specs.declared.told.Told.{Told}
use Rattle.words.specs.declared.told.Told.TheVariants.{None as told_none, Row as told_row}

-- a client that made no call
abbrev pub no_call : Kind → Told
no_call Durable = told_row NoCall
no_call Log = told_none
