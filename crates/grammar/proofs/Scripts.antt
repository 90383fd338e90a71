-- With one line more, lines that said a script say one with a command more, or none.
use Rattle.std.proofs.Common.{◌≡◌, ℕ, ◌<◌, ◌≤◌, ◌+◌, ◌-◌, Bool, true, false, cond, List, [], ◌∷◌, ◌++◌, length, take, get_or, filter, map, sym, ap, subst, ◌∙◌, arith, refl, length-append}
use Rattle.std.proofs.lemmas.List.{map-append, take_more, length-take}
use Rattle.std.proofs.lemmas.List.Elements.{filter-append, All-head, All-tail, All-push}
use Rattle.std.specs.Prelude.{Option, Some, None, All, not}
use Rattle.grammar.specs.Lines.{words_of, is_statement}
use Rattle.words.specs.declared.call.Kind.{Kind}
use Rattle.words.specs.declared.call.Kind.TheVariants.{Durable, Log}
use Rattle.grammar.specs.Grammar.{queue_words, kind_word, command_words, is_on, IsServed, SaysCommand}
use Rattle.grammar.specs.Script.{Says, Continues, EndsBadly, IsFirstBad}
use Rattle.std.proofs.lemmas.Bool.{not-false}
use Rattle.grammar.specs.declared.limits.TheConstants.{MAX_LINES}
use Rattle.grammar.specs.declared.commands.Command.{Command}
use Rattle.grammar.specs.declared.commands.QueueLine.{QueueLine}

statements_more : (lines : List (List ℕ)) (line : List ℕ) → is_statement line ≡ true → map words_of (filter is_statement (lines ++ line ∷ [])) ≡ map words_of (filter is_statement lines) ++ words_of line ∷ []
statements_more lines line told =
    ap (map words_of) (filter-append is_statement lines (line ∷ []) ∙ ap (λ (b : Bool). filter is_statement lines ++ cond b (line ∷ []) []) told)
    ∙ map-append words_of (filter is_statement lines) (line ∷ [])

one_more : (lines : List (List ℕ)) (line : List ℕ) → length lines < MAX_LINES → length (lines ++ line ∷ []) ≤ MAX_LINES
one_more lines line few = omega (arith, length-append lines (line ∷ []))

pub says_command : (lines : List (List ℕ)) (line : List ℕ) (queue : QueueLine) (commands : List Command) (command : Command) → Says lines (Some queue) commands → length lines < MAX_LINES → is_statement line ≡ true → SaysCommand line command → is_on queue.kind command ≡ true → Says (lines ++ line ∷ []) (Some queue) (commands ++ command ∷ [])
says_command lines line queue commands command says few told line_says on = record {
  few = one_more lines line few;
  words =
      statements_more lines line told
      ∙ ap (λ ws. ws ++ words_of line ∷ []) says.words
      ∙ ap (λ w. (queue_words queue ∷ map command_words commands) ++ w ∷ []) line_says.words
      ∙ ap (λ ws. queue_words queue ∷ ws) (sym (map-append command_words commands (command ∷ [])));
  queue_first = λ e. absurd (cc);
  queue_served = says.queue_served;
  commands_served = All-push IsServed commands command says.commands_served line_says.served;
  of_kind = All-push (λ c. is_on queue.kind c ≡ true) commands command says.of_kind on;
}

-- where the last of some words is a command's
last_command : (P : Command → Type 0) (xs : List (List (List ℕ))) (word : List (List ℕ)) (commands : List Command) → xs ++ word ∷ [] ≡ map command_words commands → All IsServed commands → All P commands → (command : Command) × (word ≡ command_words command) × IsServed command × P command
last_command P [] word [] same served held = absurd (cc)
last_command P [] word (command ∷ commands) same served held = (command, (cc), All-head IsServed command commands served, All-head P command commands held)
last_command P (x ∷ xs) word [] same served held = absurd (cc)
last_command P (x ∷ xs) word (command ∷ commands) same served held = last_command P xs word commands (cc) (All-tail IsServed command commands served) (All-tail P command commands held)

-- the word of a kind is no other kind's
pub same_kind : (a b : Kind) → kind_word a ≡ kind_word b → a ≡ b
same_kind Durable Durable e = refl
same_kind Durable Log e = let long : 7 ≡ 3 = ap length e in absurd (omega (arith, long))
same_kind Log Durable e = let long : 3 ≡ 7 = ap length e in absurd (omega (arith, long))
same_kind Log Log e = refl

-- a line that is no command's can't come later
pub bad_later : (lines : List (List ℕ)) (line : List ℕ) (first : QueueLine) (commands : List Command) → Says lines (Some first) commands → is_statement line ≡ true → ((command : Command) → SaysCommand line command → is_on first.kind command ≡ true → ⊥) → (queue : Option QueueLine) (more : List Command) → Says (lines ++ line ∷ []) queue more → ⊥
bad_later lines line first commands says told never None more bad =
    let some : map words_of (filter is_statement lines) ++ words_of line ∷ [] ≡ map command_words more = sym (statements_more lines line told) ∙ bad.words in
    let none : map command_words more ≡ [] = ap (map command_words) (bad.queue_first refl) in
    let long : length (map words_of (filter is_statement lines) ++ words_of line ∷ []) ≡ 0 = ap length (some ∙ none) in
    omega (arith, long, length-append (map words_of (filter is_statement lines)) (words_of line ∷ []))
bad_later lines line first commands says told never (Some queue) more bad =
    let same : queue_words first ∷ (map command_words commands ++ words_of line ∷ []) ≡ queue_words queue ∷ map command_words more = ap (λ ws. ws ++ words_of line ∷ []) (sym says.words) ∙ sym (statements_more lines line told) ∙ bad.words in
    let last = last_command (λ c. is_on queue.kind c ≡ true) (map command_words commands) (words_of line) more (cc) bad.commands_served bad.of_kind in
    let words : kind_word queue.kind ≡ kind_word first.kind = cc in
    never last.0 (record { words = last.1; served = last.2 }) (ap (λ k. is_on k last.0) (same_kind first.kind queue.kind (sym words)) ∙ last.3)

-- there is no line past the last allowed
pub too_many : (lines : List (List ℕ)) (line : List ℕ) (queue : Option QueueLine) (commands : List Command) → MAX_LINES ≤ length lines → Says (lines ++ line ∷ []) queue commands → ⊥
too_many lines line queue commands many says = let few = says.few in omega (arith, few, length-append lines (line ∷ []))

-- once there is a queue, a line that is no command's of its kind ends badly
pub ends_badly : (queue : QueueLine) (commands : List Command) (line : List ℕ) → not (is_statement line) ≡ false → ((command : Command) → SaysCommand line command → is_on queue.kind command ≡ true → ⊥) → EndsBadly (Some queue) commands line
ends_badly queue commands line told never = λ lines says. bad_later lines line queue commands says (not-false (is_statement line) told) never

-- the lines up to the one at k
next_lines : (lines : List (List ℕ)) (k : ℕ) (line : List ℕ) → (k < length lines) × (line ≡ get_or lines k line) → take (k + 1) lines ≡ take k lines ++ line ∷ []
next_lines lines k line turn = take_more lines k line turn.0 ∙ ap (λ (l : List ℕ). take k lines ++ l ∷ []) (sym turn.1)

-- a good line
pub goes_on : (lines : List (List ℕ)) (k : ℕ) (line : List ℕ) → (k < length lines) × (line ≡ get_or lines k line) → k < MAX_LINES → (queue new_queue : Option QueueLine) (commands new_commands : List Command) → Says (take k lines) queue commands → Continues queue commands line new_queue new_commands → Says (take (k + 1) lines) new_queue new_commands
goes_on lines k line turn few queue new_queue commands new_commands says continues =
    let here = turn.0 in
    subst (λ (ls : List (List ℕ)). Says ls new_queue new_commands) (sym (next_lines lines k line turn)) (continues (take k lines) says (omega (arith, length-take k lines)))

-- a bad line
pub stops : (lines : List (List ℕ)) (k : ℕ) (line : List ℕ) → (k < length lines) × (line ≡ get_or lines k line) → (queue : Option QueueLine) (commands : List Command) → Says (take k lines) queue commands → EndsBadly queue commands line → IsFirstBad lines (k + 1)
stops lines k line turn queue commands says ends =
    let here = turn.0 in
    let before : k ≡ k + 1 - 1 = omega arith in
    record {
      some = omega arith;
      there = omega arith;
      good = (queue, commands, subst (λ (n : ℕ). Says (take n lines) queue commands) before says);
      bad = λ other more bad. ends (take k lines) says other more (subst (λ (ls : List (List ℕ)). Says ls other more) (next_lines lines k line turn) bad);
    }

-- a line past the last allowed
pub stops_past : (lines : List (List ℕ)) (k : ℕ) (line : List ℕ) → (k < length lines) × (line ≡ get_or lines k line) → MAX_LINES ≤ k → (queue : Option QueueLine) (commands : List Command) → Says (take k lines) queue commands → IsFirstBad lines (k + 1)
stops_past lines k line turn many queue commands says =
    let here = turn.0 in
    let before : k ≡ k + 1 - 1 = omega arith in
    record {
      some = omega arith;
      there = omega arith;
      good = (queue, commands, subst (λ (n : ℕ). Says (take n lines) queue commands) before says);
      bad = λ other more bad. too_many (take k lines) line other more (omega (arith, length-take k lines)) (subst (λ (ls : List (List ℕ)). Says ls other more) (next_lines lines k line turn) bad);
    }
