-- The acts of a script.
use Rattle.std.specs.Prelude.{◌≡◌, ℕ, false, List, [], ◌∷◌, replicate, if◌then◌else◌}
use Rattle.std.specs.List.{flat_map}
use Rattle.words.specs.declared.call.Call.TheVariants.{Enq as enq_call, Deq as deq_call}
use Rattle.arena.specs.Shape.{Shape}
use Rattle.protocol.specs.declared.acts.Act.{Act}
use Rattle.protocol.specs.declared.acts.Act.TheVariants.{Start, Step as step_act, Evict as evict_act, Crash as crash_act, Recover as recover_act}
use Rattle.interleave.specs.State.{State, new_world, after_act, after_acts, is_accepted, most_to_ready}
use Rattle.playing.specs.Play.{after_commands, most_alone, new_play}
use Rattle.grammar.specs.declared.commands.Command.{Command}
use Rattle.grammar.specs.declared.commands.Command.TheVariants.{Enq, NumberedEnq, Deq, NumberedDeq, Step, End, Evict, Crash, Recover, RecoverBy, Content, Order, Again}

-- what a command attempts. A step past the answer is refused, and so is one of recovery once the queue is ready
abbrev pub attempts_of : Shape → Command → List (Act ℕ)
attempts_of s (Enq client value) = Start client 0 (enq_call value) ∷ []
attempts_of s (NumberedEnq client number value) = Start client number (enq_call value) ∷ []
attempts_of s (Deq client) = Start client 0 deq_call ∷ []
attempts_of s (NumberedDeq client number) = Start client number deq_call ∷ []
attempts_of s (Step client most) = replicate most (step_act client)
attempts_of s (End client) = replicate most_alone (step_act client)
attempts_of s (Evict word) = evict_act word ∷ []
attempts_of s Crash = crash_act ∷ []
attempts_of s Recover = replicate (most_to_ready s) recover_act
attempts_of s (RecoverBy most) = replicate most recover_act
attempts_of s Content = []
attempts_of s Order = []
attempts_of s Again = []

-- the acts that a list of commands attempts, one command after another
abbrev pub attempts_of_all : Shape → List Command → List (Act ℕ)
attempts_of_all s commands = flat_map (attempts_of s) commands

-- the world that a transcript follows: a new one, on which the commands were followed; and one on which all that they
-- attempt was attempted
abbrev pub followed_world : Shape → List Command → State
followed_world s commands = (after_commands (new_play s) commands).world

abbrev pub attempted_world : Shape → List Command → State
attempted_world s commands = after_acts (new_world s) (attempts_of_all s commands)

-- which of the acts are accepted, one attempted after another
abbrev pub accepted_of : State → List (Act ℕ) → List (Act ℕ)
accepted_of w [] = []
accepted_of w (act ∷ acts) =
    if is_accepted w act then act ∷ accepted_of (after_act w act) acts else accepted_of (after_act w act) acts

-- those of a command
abbrev pub accepted_by : State → Command → List (Act ℕ)
accepted_by w command = accepted_of w (attempts_of w.shape command)

-- the acts of a script on a new world of this shape: those of its commands that are accepted
abbrev pub acts_of : Shape → List Command → List (Act ℕ)
acts_of s commands = accepted_of (new_world s) (attempts_of_all s commands)

-- an act that changes nothing where it is refused
abbrev pub IsSteady : Act ℕ → Type 0
IsSteady act = (w : State) → is_accepted w act ≡ false → after_act w act ≡ w
