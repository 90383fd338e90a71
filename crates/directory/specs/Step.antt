-- One access to a place of a broker, and what it leaves.
use Rattle.std.specs.Prelude.{◌≡◌, ℕ, Option, slice_index}
use Rattle.persist.specs.Noted.{change_made_by}
use Rattle.persist.specs.declared.access.Change.{Change}
use Rattle.persist.specs.Memory.{Words, Access, Load, Store, Cas, Flush, Fence, Lent, Request, Word, after, lent_after}
use Rattle.arena.specs.Broker.{broker_word}
use Rattle.arena.specs.Shape.{Counts}
use Rattle.arena.specs.declared.broker.BrokerPlace.{BrokerPlace}

abbrev pub place_of : Access BrokerPlace → BrokerPlace
place_of (Load place) = place
place_of (Store place value) = place
place_of (Cas place old new) = place
place_of (Flush place) = place
place_of (Fence place) = place

-- the access to the place's word
abbrev pub at_word : Counts → Access BrokerPlace → Access ℕ
at_word c (Load place) = Load (broker_word c place)
at_word c (Store place value) = Store (broker_word c place) value
at_word c (Cas place old new) = Cas (broker_word c place) old new
at_word c (Flush place) = Flush (broker_word c place)
at_word c (Fence place) = Fence (broker_word c place)

-- the words after exactly one access, this one
abbrev pub after_one : Counts → Access BrokerPlace → Words → Words
after_one c access ws = after (at_word c access) ws

-- the change of a kept word that it makes
abbrev pub change_by : Counts → Access BrokerPlace → Words → Option Change
change_by c access ws = change_made_by (at_word c access) ws

-- and how they are lent then
abbrev pub lent_after_one : Counts → Access BrokerPlace → Lent → Lent
lent_after_one c access lent = lent_after (at_word c access) lent

-- a fence completes the request for its place's word: that was asked for
abbrev pub IsAskedFor : Counts → Access BrokerPlace → Request → Type 0
IsAskedFor c (Load place) request = Unit {0}
IsAskedFor c (Store place value) request = Unit {0}
IsAskedFor c (Cas place old new) request = Unit {0}
IsAskedFor c (Flush place) request = Unit {0}
IsAskedFor c (Fence place) request = request ≡ Word (broker_word c place)

-- the cached value that the access finds
abbrev pub value_found : Counts → Access BrokerPlace → Words → ℕ
value_found c access ws = slice_index ws.cached (broker_word c (place_of access))
