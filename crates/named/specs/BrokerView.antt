-- What the fields of a broker come to.
use Rattle.named.specs.Brokers.{Brokered}
use Rattle.named.specs.declared.broker.Broker.TheInside.{Inside}

abbrev pub broker_view : Inside → Brokered
broker_view b = record {
  counts = b.layout;
  words = b.memory.words;
  slots = b.slots.items;
  directory = b.directory;
  creation = b.creation;
  recovery = b.recovery;
}
