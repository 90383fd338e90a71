-- What the lines without times add to what has been read of a recording.
use Rattle.std.specs.Prelude.{ℕ, ◌≡◌, ◌+◌, ◌-◌, ◌++◌, ⊤, List, [], ◌∷◌, Bool, true, false, Option, Some, None, slice_get}
use Rattle.std.specs.Prelude.{length, map, option_map, unwrap_or, if◌then◌else◌, is_some, slice_set, IsSome, nat_eq}
use Rattle.std.specs.Prelude.{String, codes, fold, slice_index_or, take}
use Rattle.std.specs.declared.alloc.Global.{Global}
use Rattle.std.specs.List.{list_any, position_or_len}
use Rattle.std.specs.Option.{option_map_or}
use Rattle.std.specs.Str.{bytes_eq}
use Rattle.std.specs.String.{string_bytes}
use Rattle.recording.specs.declared.act.Act.{Act}
use Rattle.recording.specs.declared.act.Act.TheVariants.{Begin, Answer, Refuse, GiveUp, Crash, LearnTaken}
use Rattle.recording.specs.declared.act.Act.TheVariants.{LearnNotTaken}
use Rattle.recording.specs.declared.act.Said.{Said}
use Rattle.recording.specs.declared.act.Said.TheVariants.{Done as said_done, Got as said_got, Empty as said_empty}
use Rattle.recording.specs.declared.act.Step.{Step}
use Rattle.recording.specs.declared.act.CallOf.{CallOf}
use Rattle.recording.specs.declared.line.Answered.{Answered}
use Rattle.recording.specs.declared.line.Answered.TheVariants.{Done, Got, Empty, Refused, Unknown}
use Rattle.recording.specs.declared.line.Line.{Line}
use Rattle.recording.specs.declared.line.Line.TheVariants.{Base as base_said, Final as final_said, Begin as begin_said}
use Rattle.recording.specs.declared.line.Line.TheVariants.{Answer as answer_said, Crash as crash_said}
use Rattle.recording.specs.declared.line.Line.TheVariants.{Told as told_said, Whole as whole_said}
use Rattle.recording.specs.declared.line.Line.TheVariants.{CrashAt as crash_at_said}
use Rattle.recording.specs.declared.line.Told.{Told}
use Rattle.recording.specs.declared.line.Told.TheVariants.{NotTaken, Taken}
use Rattle.recording.specs.declared.reader.At.{At}
use Rattle.recording.specs.declared.state.State.{State}
use Rattle.recording.specs.declared.state.State.TheVariants.{Idle, Calls, GaveUp, Interrupted}

-- the number of a text among these: where it stands, or else the next one
abbrev pub number_in : List (List ℕ) → List ℕ → ℕ
number_in texts text = position_or_len (bytes_eq text) texts

-- the texts and this one, which stands last if it is new
abbrev pub with_text : List (List ℕ) → List ℕ → List (List ℕ)
with_text texts text = if list_any (bytes_eq text) texts then texts else texts ++ text ∷ []

-- what has been read: clients, values and calls by their numbers, and the steps
pub record Read : Type 0 where
  pub clients : List (List ℕ)
  -- what each client is about
  pub states : List State
  pub values : List (List ℕ)
  -- how many of the numbers by which a history knows clients were given since the last crash
  pub numbers : ℕ
  -- and those that are free again
  pub free : List ℕ
  pub calls : List CallOf
  pub steps : List Step

-- with a client of this name; a new one is idle
abbrev pub with_client : Read → List ℕ → Read
with_client read text = record read {
  clients = with_text read.clients text;
  states = if list_any (bytes_eq text) read.clients then read.states else read.states ++ Idle ∷ [];
}

-- with this value
abbrev pub with_value : Read → List ℕ → Read
with_value read text = record read { values = with_text read.values text }

-- with one step more
abbrev pub with_step : Read → Act → At → Read
with_step read act at =
    record read { steps = read.steps ++ (record { act = act; line = at.line; time = at.time }) ∷ [] }

-- with the value that is put, if one is
abbrev pub with_put : Read → Option (List ℕ) → Read
with_put read None = read
with_put read (Some text) = with_value read text

-- the next number that is given: the last one that is free again, or a new one
abbrev pub next_number : Read → ℕ
next_number read = slice_index_or read.free (length read.free - 1) read.numbers

-- it is given
abbrev pub with_number : Read → Read
with_number read = record read {
  numbers = if nat_eq (length read.free) 0 then read.numbers + 1 else read.numbers;
  free = take (length read.free - 1) read.free;
}

-- a call of the client begins: it puts this value, or takes
abbrev pub with_call : Read → ℕ → Option (List ℕ) → Bool → At → Read
with_call read client puts is_base at = with_step
    (record (with_number (with_put read puts)) {
      calls = read.calls ++ (record {
        client = client;
        number = next_number read;
        puts = option_map (number_in read.values) puts;
        is_base = is_base;
      }) ∷ [];
    })
    (Begin (length read.calls)) at

-- whether the call puts
abbrev pub does_put : Read → ℕ → Bool
does_put read call = option_map_or (λ of. is_some of.puts) (slice_get read.calls call) false

-- what an answer says of a call that puts, or takes, if it may be one of such a call
abbrev pub said_by : Read → Bool → Answered → Option Said
said_by read true Done = Some said_done
said_by read false Empty = Some said_empty
said_by read false (Got text) = Some (said_got (number_in read.values (string_bytes text)))
said_by read puts answered = None

-- a value that a take got is known from then on
abbrev pub with_got : Read → Bool → Answered → Read
with_got read false (Got text) = with_value read (string_bytes text)
with_got read puts answered = read

-- the number of a call is free
abbrev pub with_free : Read → Option CallOf → Read
with_free read None = read
with_free read (Some of) = record read { free = read.free ++ of.number ∷ [] }

-- the call was answered so, which frees its number
abbrev pub with_said : Read → ℕ → Option Said → At → Read
with_said read call None at = read
with_said read call (Some said) at = with_step (with_free read (slice_get read.calls call)) (Answer call said) at

-- what became of a call: it was answered, refused or given up
abbrev pub with_answer : Read → ℕ → Answered → At → Read
with_answer read call Unknown at = with_step read (GiveUp call) at
with_answer read call Refused at = with_step (with_free read (slice_get read.calls call)) (Refuse call) at
with_answer read call answered at =
    with_said (with_got read (does_put read call) answered) call (said_by read (does_put read call) answered) at

-- that may become of it
abbrev pub MayAnswer : Read → ℕ → Answered → Type 0
MayAnswer read call Unknown = ⊤
MayAnswer read call Refused = ⊤
MayAnswer read call answered = IsSome (said_by read (does_put read call) answered)

-- a crash interrupts what is open, and frees all numbers
abbrev pub crashed : State → State
crashed (Calls call) = Interrupted call
crashed (GaveUp call) = Interrupted call
crashed state = state

abbrev pub with_crash : Read → At → Read
with_crash read at =
    with_step (record read { numbers = 0; free = []; states = map crashed read.states }) Crash at

-- what the client of this name is about
abbrev pub state_of : Read → List ℕ → State
state_of read client = unwrap_or (slice_get (with_client read client).states (number_in read.clients client)) Idle

-- from now on it is about this
abbrev pub with_state : Read → ℕ → State → Read
with_state read client state = record read { states = slice_set read.states client state }

-- a call of its is under way
abbrev pub IsUnderWay : State → Type 0
IsUnderWay (Calls call) = ⊤
IsUnderWay state = ⊥

-- a line with which a client calls: its last call is over
pub record IsBeginLine (old : Read) (client : List ℕ) (puts : Option (List ℕ)) (at : At) (new : Read) : Type 0 where
  pub idle : IsUnderWay (state_of old client) → ⊥
  pub read : new ≡ with_state (with_call (with_client old client) (number_in old.clients client) puts false at)
      (number_in old.clients client) (Calls (length old.calls))

-- what a client is about once its call was answered, refused or given up
abbrev pub after_answer : ℕ → Answered → State
after_answer call Unknown = GaveUp call
after_answer call answered = Idle

-- a line that says what became of the call that the client has under way
pub record IsAnswerLine (old : Read) (client : List ℕ) (answered : Answered) (at : At) (new : Read) : Type 0 where
  pub call : ℕ
  pub under_way : state_of old client ≡ Calls call
  pub may : MayAnswer (with_client old client) call answered
  pub read : new ≡ with_state (with_answer (with_client old client) call answered at) (number_in old.clients client)
      (after_answer call answered)

-- what is learnt of a call
abbrev pub Learns : Read → ℕ → ℕ → Told → At → Read → Type 0
Learns old client call NotTaken at new =
    new ≡ with_step (with_state old client Idle) (LearnNotTaken call) at
Learns old client call (Taken answered) at new =
    (said : Said) × (said_by old (does_put old call) answered ≡ Some said)
    × (new ≡ with_step (with_state (with_got old (does_put old call) answered) client Idle) (LearnTaken call said) at)

-- a line that says what became of the client's last call, which a crash interrupted
pub record IsToldLine (old : Read) (client : List ℕ) (told : Told) (at : At) (new : Read) : Type 0 where
  pub call : ℕ
  pub interrupted : state_of old client ≡ Interrupted call
  pub learns : Learns (with_client old client) (number_in old.clients client) call told at new

-- a value that the queue held at first: a put of its own, which is done
abbrev pub with_base_value : Read → ℕ → At → List ℕ → Read
with_base_value read client at text =
    with_answer (with_call read client (Some text) true at) (length read.calls) Done at

-- the values that it held at first, one after another
abbrev pub with_base : Read → List (String Global) → At → Read
with_base old values at = fold
    (λ read text. with_base_value read (number_in old.clients (codes "base")) at (string_bytes text))
    (with_client old (codes "base")) values

-- a value that was left: a take of its own, which gets it
abbrev pub with_left_value : Read → ℕ → At → String Global → Read
with_left_value read client at text =
    with_answer (with_call read client None false at) (length read.calls) (Got text) at

-- the values that were left when all had stopped
abbrev pub with_left : Read → List (String Global) → At → Read
with_left old values at = fold
    (λ read text. with_left_value read (number_in old.clients (codes "final")) at text)
    (with_client (with_crash old at) (codes "final")) values

-- and a take that finds nothing
abbrev pub with_final : Read → List (String Global) → At → Read
with_final old values at =
    with_answer (with_call (with_left old values at) (number_in old.clients (codes "final")) None false at)
    (length (with_left old values at).calls) Empty at

-- what a line without times adds
abbrev pub IsLine : Read → Line → At → Read → Type 0
IsLine old (begin_said client puts) at new = IsBeginLine old (string_bytes client) (option_map string_bytes puts) at new
IsLine old (answer_said client answered) at new = IsAnswerLine old (string_bytes client) answered at new
IsLine old crash_said at new = new ≡ with_crash old at
IsLine old (told_said client told) at new = IsToldLine old (string_bytes client) told at new
IsLine old (base_said values) at new = (length old.steps ≡ 0) × (new ≡ with_base old values.items at)
IsLine old (final_said values) at new = new ≡ with_final old values.items at
IsLine old (whole_said whole) at new = ⊥
IsLine old (crash_at_said moment) at new = ⊥
