-- Each client that stopped, going on alone.
use Rattle.std.specs.Prelude.{ℕ, zero, suc, ◌+◌, false, List, [], ◌∷◌, ◌++◌, Option, Some, None, Result, Ok, Err, length, take, codes, decimal}
use Rattle.std.specs.List.{flat_map, range_with_len}
use Rattle.words.specs.Text.{reply_text}
use Rattle.words.specs.declared.call.Client.{Client}
use Rattle.words.specs.declared.call.Reply.{Reply}
use Rattle.words.specs.declared.refusal.Refusal.{Refusal}
use Rattle.arena.specs.Shape.{Shape}
use Rattle.protocol.specs.declared.acts.Act.{Act}
use Rattle.interleave.specs.State.{State, new_world, after_acts, after_step, step_result}
use Rattle.grammar.specs.Grammar.{shape_by}
use Rattle.explore.specs.Acts.{acts_of}
use Rattle.playing.specs.Play.{most_alone}
use Rattle.grammar.specs.declared.commands.Command.{Command}
use Rattle.grammar.specs.declared.commands.QueueLine.{QueueLine}
use Rattle.explore.specs.declared.answers.Alone.{Alone}

-- by a step that is its so manieth: the answer of a call, or what comes of its next steps
abbrev pub answer_or : ℕ → ℕ → Client → Result (Option Reply) Refusal → List Alone → List Alone
answer_or point steps client (Ok (Some reply)) going =
    record { point = point; client = client; reply = reply; steps = steps } ∷ []
answer_or point steps client (Ok None) going = going
answer_or point steps client (Err refusal) going = []

-- what comes of a client's call in a world after so many acts, if it has one: it has made so many steps alone, and
-- makes at most so many more
abbrev pub answer_alone : ℕ → ℕ → ℕ → State → Client → List Alone
answer_alone point steps zero w client = []
answer_alone point steps (suc more) w client =
    answer_or point (suc steps) client (step_result false w client)
    (answer_alone point (suc steps) more (after_step false w client) client)

-- what comes of a client's call that stopped in a world after so many acts, and goes on alone
abbrev pub lone_answer : ℕ → State → Client → List Alone
lone_answer point w client = answer_alone point 0 most_alone w client

-- of each client's in turn
abbrev pub lone_answers : ℕ → State → List Alone
lone_answers point w =
    flat_map (λ number. lone_answer point w (record { 0 = number })) (range_with_len 0 w.shape.clients)

-- after these acts, and after the first of them, so many
abbrev pub alone_after : Shape → List (Act ℕ) → ℕ → List Alone
alone_after s acts point = lone_answers point (after_acts (new_world s) acts)

abbrev pub alone_at : Shape → List (Act ℕ) → ℕ → List Alone
alone_at s acts point = alone_after s (take point acts) point

-- before the first of them, and after each
abbrev pub alone_at_each : Shape → List (Act ℕ) → List Alone
alone_at_each s acts = flat_map (alone_at s acts) (range_with_len 0 (length acts + 1))

-- and at each point of a script
abbrev pub alone_on : Shape → List Command → List Alone
alone_on s commands = alone_at_each s (acts_of s commands)

abbrev pub alone_of : Option QueueLine → List Command → List Alone
alone_of None commands = []
alone_of (Some queue) commands = alone_on (shape_by queue) commands

-- one of them, as text
abbrev pub alone_text : Alone → List ℕ
alone_text alone =
    codes "point " ++ decimal alone.point ++ codes " client " ++ decimal alone.client.0 ++ codes ": "
    ++ reply_text alone.reply ++ codes " steps " ++ decimal alone.steps
