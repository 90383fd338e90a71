-- What a script may give: the plain lines, and refusals of memory among them.
use Rattle.std.proofs.Common.{◌≡◌, ◌≢◌, refl, sym, ap, ◌∙◌, subst, ℕ, ◌+◌, ◌<◌, Bool, true, false, List, [], ◌∷◌, ◌++◌, append_assoc, drop, get_or, length}
use Rattle.std.proofs.lemmas.List.{append-nil}
use Rattle.std.proofs.lemmas.List.Elements.{All-head, All-tail}
use Rattle.std.specs.Prelude.{Option, Some, None, All, slice_get}
use Rattle.arena.specs.Layout.{size_of}
use Rattle.arena.specs.Shape.{Shape}
use Rattle.grammar.specs.Grammar.{shape_by}
use Rattle.grammar.specs.declared.commands.Command.{Command}
use Rattle.grammar.specs.declared.commands.Command.TheVariants.{Again}
use Rattle.grammar.specs.declared.commands.QueueLine.{QueueLine}
use Rattle.playing.proofs.Again.{comes_next, pending, put_off_first}
use Rattle.playing.specs.Play.{Play, after_command, new_play}
use Rattle.playing.specs.Prints.{text_of}
use Rattle.playing.specs.Transcript.{command_lines, lines_of_all, refused_memory, script_lines, script_text, AreButForRefusals, no_line, one_line, refusal, AreLinesOf, IsTranscript, MayGive, none, more, made_again, MayGiveOn}
use Rattle.playing.specs.declared.lines.Line.{Line}
use Rattle.playing.specs.declared.lines.Line.TheVariants.{Size}

-- the same lines before
but_for_more : (first plain lines : List Line) → AreButForRefusals plain lines → AreButForRefusals (first ++ plain) (first ++ lines)
but_for_more [] plain lines differ = differ
but_for_more (line ∷ first) plain lines differ = one_line (but_for_more first plain lines differ)

differs : {play : Play} {commands : List Command} {lines : List Line} → MayGive play commands lines
    → AreButForRefusals (lines_of_all play commands) lines
differs none = no_line
differs {play = play} (more {command = command} {commands = commands} rest gives) =
    but_for_more (command_lines play command) (lines_of_all (after_command play command) commands) rest (differs gives)
differs (made_again rest gives) = refusal (differs gives)

pub script_differs : (queue : Option QueueLine) (commands : List Command) (lines : List Line)
    → AreLinesOf queue commands lines → AreButForRefusals (script_lines queue commands) lines
script_differs None commands lines given = subst (AreButForRefusals []) (sym given) no_line
script_differs (Some queue) commands lines given =
    subst (AreButForRefusals (script_lines (Some queue) commands)) (sym given.is) (one_line (differs given.gives))

-- without `again` they are the plain ones
IsAct : Command → Type 0
IsAct command = command ≢ Again

plain : {play : Play} {commands : List Command} {lines : List Line} → MayGive play commands lines
    → All (λ (command : Command). command ≢ Again) commands → lines ≡ lines_of_all play commands
plain none acts = refl
plain {play = play} (more {command = command} {commands = commands} rest gives) acts =
    ap (λ (l : List Line). command_lines play command ++ l) (plain gives (All-tail (λ (c : Command). c ≢ Again) command commands acts))
plain (made_again {command = command} {commands = commands} rest gives) acts =
    absurd (All-head (λ (c : Command). c ≢ Again) Again commands
    (All-tail (λ (c : Command). c ≢ Again) command (Again ∷ commands) acts) refl)

plain_lines : (queue : Option QueueLine) (commands : List Command) (lines : List Line)
    → All (λ (command : Command). command ≢ Again) commands → AreLinesOf queue commands lines
    → lines ≡ script_lines queue commands
plain_lines None commands lines acts given = given
plain_lines (Some queue) commands lines acts given =
    given.is ∙ ap (λ (l : List Line). Size (size_of (shape_by queue)) ∷ l) (plain given.gives acts)

pub only_transcript : (queue : Option QueueLine) (commands : List Command) (text : List ℕ)
    → All (λ (command : Command). command ≢ Again) commands → IsTranscript queue commands text
    → text ≡ script_text queue commands
only_transcript queue commands text acts transcript =
    transcript.is ∙ ap text_of (plain_lines queue commands transcript.lines acts transcript.given)

-- the lines so far, and those that the commands which are left give, are all
pub record MayLead (s : Shape) (all : List Command) (now : Play) (left : List Command) (lines : List Line) : Type 0 where
  pub on : (rest : List Line) → MayGive now left rest → MayGiveOn s all (lines ++ rest)

pub may_start : (s : Shape) (all : List Command) → MayLead s all (new_play s) all (Size (size_of s) ∷ [])
may_start s all = record { on = λ rest gives. record { given = rest; gives = gives; is = refl } }

pub may_more : (s : Shape) (all : List Command) (now : Play) (left : List Command) (command : Command) (lines : List Line)
    → MayLead s all now (command ∷ left) lines
    → MayLead s all (after_command now command) left (lines ++ command_lines now command)
may_more s all now left command lines leads = record {
  on = λ rest gives.
      subst (MayGiveOn s all) (sym (append_assoc lines (command_lines now command) rest))
      (leads.on (command_lines now command ++ rest) (more rest gives));
}

pub may_again : (s : Shape) (all : List Command) (now : Play) (left : List Command) (command : Command) (lines : List Line)
    → MayLead s all now (command ∷ Again ∷ left) lines
    → MayLead s all now (command ∷ left) (lines ++ refused_memory ∷ [])
may_again s all now left command lines leads = record {
  on = λ rest gives.
      subst (MayGiveOn s all) (sym (append_assoc lines (refused_memory ∷ []) rest))
      (leads.on (refused_memory ∷ rest) (made_again rest gives));
}

-- the next one is followed, or put off before an `again`
pub may_next : (s : Shape) (all : List Command) (now next : Play) (m at : ℕ) (command : Command) (lines after : List Line)
    (b : Bool) → MayLead s all now (command ∷ drop (at + 1) all) lines → m < length all → command ≡ get_or all m command
    → (b ≡ false → next ≡ after_command now command) → (b ≡ false → after ≡ lines ++ command_lines now command)
    → (b ≡ true → next ≡ now) → (b ≡ true → after ≡ lines ++ refused_memory ∷ [])
    → (b ≡ true → slice_get all (at + 1) ≡ Some Again)
    → MayLead s all next (pending b m (at + 1) all) after
may_next s all now next m at command lines after false leads within value play given same refused again =
    subst (λ (p : Play). MayLead s all p (drop (at + 1) all) after) (sym (play refl))
    (subst (MayLead s all (after_command now command) (drop (at + 1) all)) (sym (given refl))
    (may_more s all now (drop (at + 1) all) command lines leads))
may_next s all now next m at command lines after true leads within value play given same refused again =
    let follows : drop (at + 1) all ≡ Again ∷ drop (at + 1 + 1) all = comes_next all (at + 1) Again (again refl) in
    let left : MayLead s all now (command ∷ drop (at + 1 + 1) all) (lines ++ refused_memory ∷ []) =
    may_again s all now (drop (at + 1 + 1) all) command lines
    (subst (λ (l : List Command). MayLead s all now (command ∷ l) lines) follows leads) in
    subst (λ (p : Play). MayLead s all p (pending true m (at + 1) all) after) (sym (same refl))
    (subst (λ (l : List Command). MayLead s all now l after) (sym (put_off_first all m (at + 1) command within value))
    (subst (MayLead s all now (command ∷ drop (at + 1 + 1) all)) (sym (refused refl)) left))

pub may_end : (s : Shape) (all : List Command) (now : Play) (lines : List Line) → MayLead s all now [] lines
    → MayGiveOn s all lines
may_end s all now lines leads = subst (MayGiveOn s all) (append-nil lines) (leads.on [] none)
