-- A message that is loaded part by part: its length, and then its three words.
use Rattle.std.specs.Prelude.{◌≡◌, ℕ}
use Rattle.words.specs.PlainQueue.{Value}
use Rattle.arena.specs.Words.{part_at, value_of}
use Rattle.arena.specs.declared.place.Part.{Part}
use Rattle.arena.specs.declared.place.Part.TheVariants.{Length, First, Second, Third}
use Rattle.arena.specs.declared.place.Place.{Place}
use Rattle.stepper.specs.declared.resume.After.{After}
use Rattle.stepper.specs.declared.resume.After.TheVariants.{More, Done}
use Rattle.stepper.specs.declared.loading.Loading.{Loading}
use Rattle.stepper.specs.declared.loading.Loading.TheVariants.{Length as at_length, First as at_first, Second as at_second, Third as at_third}

-- the part that comes next
abbrev pub part_next : Loading → Part
part_next at_length = Length
part_next (at_first len) = First
part_next (at_second len first) = Second
part_next (at_third len first second) = Third

-- what comes with the word of that part: the next part, or the message
abbrev pub loaded_with : Loading → ℕ → After Loading Value
loaded_with at_length word = More (at_first word)
loaded_with (at_first len) word = More (at_second len word)
loaded_with (at_second len first) word = More (at_third len first word)
loaded_with (at_third len first second) word = Done (value_of len first second word)

-- what is loaded is what the node's words are
abbrev pub IsLoaded : (Place → ℕ) → ℕ → Loading → Type 0
IsLoaded f n at_length = Unit {0}
IsLoaded f n (at_first len) = part_at f n Length ≡ len
IsLoaded f n (at_second len first) = (part_at f n Length ≡ len) × (part_at f n First ≡ first)
IsLoaded f n (at_third len first second) =
    (part_at f n Length ≡ len) × (part_at f n First ≡ first) × (part_at f n Second ≡ second)

-- how many parts are left
abbrev pub parts_left : Loading → ℕ
parts_left at_length = 4
parts_left (at_first len) = 3
parts_left (at_second len first) = 2
parts_left (at_third len first second) = 1
