-- The steps of a creation: one access each, and what comes then.
use Rattle.std.specs.Prelude.{ℕ, ◌+◌, ◌*◌, ◌-◌, Option, Some, None, option_map}
use Rattle.persist.specs.Memory.{Access, Store, Flush, Fence, Request}
use Rattle.arena.specs.Shape.{Counts}
use Rattle.arena.specs.declared.broker.SlotId.{SlotId}
use Rattle.arena.specs.declared.broker.BrokerPlace.{BrokerPlace}
use Rattle.arena.specs.declared.broker.BrokerPlace.TheVariants.{FirstName, SecondName, QueueKind, Gate}
use Rattle.arena.specs.declared.codes.TheConstants.{OPEN_GATE}
use Rattle.stepper.specs.Steps.{keep_steps}
use Rattle.stepper.specs.declared.resume.After.{After}
use Rattle.stepper.specs.declared.resume.After.TheVariants.{More, Done}
use Rattle.directory.specs.Name.{first_word, second_word}
use Rattle.directory.specs.Queue.{kind_code}
use Rattle.directory.specs.Step.{IsAskedFor}
use Rattle.directory.specs.declared.queue.Queue.{Queue}
use Rattle.directory.specs.declared.creation.Creation.{Creation}
use Rattle.directory.specs.declared.creation.CreationPoint.{CreationPoint}
use Rattle.directory.specs.declared.creation.CreationPoint.TheVariants.{Store as StoreWord, Flush as FlushWord, Fence as FenceWord}
use Rattle.directory.specs.declared.creation.SlotWord.{SlotWord}
use Rattle.directory.specs.declared.creation.SlotWord.TheVariants.{FirstName as first_name, SecondName as second_name, Kind as kind_word, Gate as gate_word}

abbrev pub creation_at : SlotId → Queue → CreationPoint → Creation
creation_at slot queue at = record { slot = slot; queue = queue; at = at }

abbrev pub new_creation : SlotId → Queue → Creation
new_creation slot queue = creation_at slot queue (StoreWord first_name)

-- where each word stands, and what is stored there
abbrev pub place_in : SlotId → SlotWord → BrokerPlace
place_in slot first_name = FirstName slot
place_in slot second_name = SecondName slot
place_in slot kind_word = QueueKind slot
place_in slot gate_word = Gate slot

abbrev pub value_for : Queue → SlotWord → ℕ
value_for queue first_name = first_word queue.name
value_for queue second_name = second_word queue.name
value_for queue kind_word = kind_code queue.kind
value_for queue gate_word = OPEN_GATE

-- the one access of each waiting point
abbrev pub access_at : SlotId → Queue → CreationPoint → Access BrokerPlace
access_at slot queue (StoreWord word) = Store (place_in slot word) (value_for queue word)
access_at slot queue (FlushWord word) = Flush (place_in slot word)
access_at slot queue (FenceWord word) = Fence (place_in slot word)

abbrev pub access_of : Creation → Access BrokerPlace
access_of creation = access_at creation.slot creation.queue creation.at

-- each word is kept before the next is stored
abbrev pub word_after : SlotWord → Option SlotWord
word_after first_name = Some second_name
word_after second_name = Some kind_word
word_after kind_word = Some gate_word
word_after gate_word = None

-- what comes then
abbrev pub next_of : CreationPoint → Option CreationPoint
next_of (StoreWord word) = Some (FlushWord word)
next_of (FlushWord word) = Some (FenceWord word)
next_of (FenceWord word) = option_map StoreWord (word_after word)

-- the last step answers the slot
abbrev pub after_point : SlotId → Queue → Option CreationPoint → After Creation SlotId
after_point slot queue (Some at) = More (creation_at slot queue at)
after_point slot queue None = Done slot

abbrev pub successor : Creation → After Creation SlotId
successor creation = after_point creation.slot creation.queue (next_of creation.at)

-- the next step has what it asks for: a fence, that its word was asked for
abbrev pub IsNextAskedFor : Counts → After Creation SlotId → Request → Type 0
IsNextAskedFor c (More next) request = IsAskedFor c (access_of next) request
IsNextAskedFor c (Done slot) request = Unit {0}

-- how many words a creation keeps from this one on
abbrev pub words_from : SlotWord → ℕ
words_from first_name = 4
words_from second_name = 3
words_from kind_word = 2
words_from gate_word = 1

-- how many steps it has left: a store and those of keeping a word, so twelve at first, and one less after each
abbrev pub left_at : CreationPoint → ℕ
left_at (StoreWord word) = (1 + keep_steps) * words_from word
left_at (FlushWord word) = (1 + keep_steps) * words_from word - 1
left_at (FenceWord word) = (1 + keep_steps) * words_from word - 2

abbrev pub left_after : After Creation SlotId → ℕ
left_after (More next) = left_at next.at
left_after (Done slot) = 0
