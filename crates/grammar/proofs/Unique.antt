-- Lines say at most one script: each command, and each queue, is read back from its words.
use Rattle.std.proofs.Common.{◌≡◌, ℕ, ◌<◌, ◌+◌, ◌*◌, ◌^◌, ◌==◌, List, [], ◌∷◌, length, slice_index, slice_index_or, drop, map, decimal, sym, ap, ◌∙◌, arith, refl, if◌then◌else◌}
use Rattle.std.proofs.lemmas.Fmt.{digits_value-decimal}
use Rattle.std.proofs.lemmas.List.Elements.{All-head, All-tail}
use Rattle.std.specs.Prelude.{Option, Some, None, unwrap_or, All}
use Rattle.std.specs.Str.Parse.{digits_value}
use Rattle.arena.specs.Limits.{AreCounts}
use Rattle.words.proofs.Facts.{hex_again}
use Rattle.words.specs.Item.{item_in}
use Rattle.words.specs.PlainQueue.{Value, FitsValue}
use Rattle.words.specs.Text.{value_text}
use Rattle.words.specs.declared.call.Client.{Client}
use Rattle.words.specs.declared.call.Kind.{Kind}
use Rattle.grammar.specs.Grammar.{kind_word, queue_words, command_words, IsServedQueue, IsServed}
use Rattle.grammar.specs.Script.{Says, SaysScript}
use Rattle.grammar.specs.Scripted.{Scripted}
use Rattle.grammar.specs.declared.commands.Command.{Command}
use Rattle.grammar.specs.declared.commands.Command.TheVariants.{Enq, NumberedEnq, Deq, NumberedDeq, Step, End, Evict}
use Rattle.grammar.specs.declared.commands.Command.TheVariants.{Crash, Recover, RecoverBy, Content, Order, Again}
use Rattle.grammar.specs.declared.commands.QueueLine.{QueueLine}
use Rattle.grammar.proofs.Numbers.{own}
use Rattle.grammar.proofs.Scripts.{same_kind}

-- a number read back
pub read : (n : ℕ) → n < 2 ^ 64 → digits_value 10 (decimal n) ≡ n
read n small = digits_value-decimal own n small

-- a value read back
pub value_in : List ℕ → Value
value_in word = unwrap_or (item_in word) []

pub value_back : (value : Value) → FitsValue value → value_in (value_text value) ≡ value
unfolding value_in
value_back [] fits = refl
value_back (first ∷ rest) fits = ap (λ (item : Option Value). unwrap_or item []) (hex_again (first ∷ rest) fits)

-- which row some words are of: by how many there are, and by the first bytes of the first
tag : List (List ℕ) → ℕ
tag [] = 0
tag (name ∷ rest) = ((slice_index name 0 * 256 + slice_index name 1) * 256 + slice_index name 2) * 4 + length rest

-- the numbers among some words
numbers : List (List ℕ) → List ℕ
numbers words = map (digits_value 10) (drop 1 words)

client_of : List ℕ → Client
client_of ns = record { 0 = slice_index ns 0 }

-- the value that stands at a place among some words
value_at : List (List ℕ) → ℕ → Value
value_at words place = value_in (slice_index_or words place [])

command_of : ℕ → List (List ℕ) → List ℕ → Command
command_of row words ns =
    (if row == 26589638 then Enq (client_of ns) (value_at words 2) else
    (if row == 26589639 then NumberedEnq (client_of ns) (slice_index ns 1) (value_at words 3) else
    (if row == 26318277 then Deq (client_of ns) else
    (if row == 26318278 then NumberedDeq (client_of ns) (slice_index ns 1) else
    (if row == 30265750 then Step (client_of ns) (slice_index ns 1) else
    (if row == 26589585 then End (client_of ns) else
    (if row == 26597797 then Evict (slice_index ns 0) else
    (if row == 26069380 then Crash else
    (if row == 29988236 then Recover else
    (if row == 29988237 then RecoverBy (slice_index ns 0) else
    (if row == 26066360 then Content else
    (if row == 29215120 then Order else
    Again))))))))))))

read_back : (command : Command) → IsServed command → command_of (tag (command_words command)) (command_words command) (numbers (command_words command)) ≡ command
unfolding command_of tag numbers client_of value_at
read_back (Enq client value) served =
    let e0 : digits_value 10 (decimal client.0) ≡ client.0 = read client.0 (omega (arith, served)) in
    let e1 : value_in (value_text value) ≡ value = value_back value served.1 in
    ap (λ n. Enq (record { 0 = n }) (value_in (value_text value))) e0 ∙ ap (λ v. Enq (record { 0 = client.0 }) v) e1
read_back (NumberedEnq client number value) served =
    let e0 : digits_value 10 (decimal client.0) ≡ client.0 = read client.0 (omega (arith, served)) in
    let e1 : digits_value 10 (decimal number) ≡ number = read number (omega (arith, served)) in
    let e2 : value_in (value_text value) ≡ value = value_back value served.2 in
    ap (λ n. NumberedEnq (record { 0 = n }) (digits_value 10 (decimal number)) (value_in (value_text value))) e0 ∙ ap (λ n. NumberedEnq (record { 0 = client.0 }) (n) (value_in (value_text value))) e1 ∙ ap (λ v. NumberedEnq (record { 0 = client.0 }) (number) v) e2
read_back (Deq client) served =
    let e0 : digits_value 10 (decimal client.0) ≡ client.0 = read client.0 (omega (arith, served)) in
    ap (λ n. Deq (record { 0 = n })) e0
read_back (NumberedDeq client number) served =
    let e0 : digits_value 10 (decimal client.0) ≡ client.0 = read client.0 (omega (arith, served)) in
    let e1 : digits_value 10 (decimal number) ≡ number = read number (omega (arith, served)) in
    ap (λ n. NumberedDeq (record { 0 = n }) (digits_value 10 (decimal number))) e0 ∙ ap (λ n. NumberedDeq (record { 0 = client.0 }) (n)) e1
read_back (Step client most) served =
    let e0 : digits_value 10 (decimal client.0) ≡ client.0 = read client.0 (omega (arith, served)) in
    let e1 : digits_value 10 (decimal most) ≡ most = read most (omega (arith, served)) in
    ap (λ n. Step (record { 0 = n }) (digits_value 10 (decimal most))) e0 ∙ ap (λ n. Step (record { 0 = client.0 }) (n)) e1
read_back (End client) served =
    let e0 : digits_value 10 (decimal client.0) ≡ client.0 = read client.0 (omega (arith, served)) in
    ap (λ n. End (record { 0 = n })) e0
read_back (Evict word) served =
    let e0 : digits_value 10 (decimal word) ≡ word = read word (omega (arith, served)) in
    ap (λ n. Evict (n)) e0
read_back Crash served = refl
read_back Recover served = refl
read_back (RecoverBy most) served =
    let e0 : digits_value 10 (decimal most) ≡ most = read most (omega (arith, served)) in
    ap (λ n. RecoverBy (n)) e0
read_back Content served = refl
read_back Order served = refl
read_back Again served = refl

-- a command read back from its words
pub command_in : List (List ℕ) → Command
command_in words = command_of (tag words) words (numbers words)

pub command_back : (command : Command) → IsServed command → command_in (command_words command) ≡ command
unfolding command_in
command_back command served = read_back command served

-- words are those of one command at most
pub same_command : (c d : Command) → IsServed c → IsServed d → command_words c ≡ command_words d → c ≡ d
same_command c d sc sd e = sym (read_back c sc) ∙ ap (λ (ws : List (List ℕ)). command_of (tag ws) ws (numbers ws)) e ∙ read_back d sd

same_commands : (cs ds : List Command) → All IsServed cs → All IsServed ds → map command_words cs ≡ map command_words ds → cs ≡ ds
same_commands [] [] sc sd e = refl
same_commands [] (d ∷ ds) sc sd e = absurd (cc)
same_commands (c ∷ cs) [] sc sd e = absurd (cc)
same_commands (c ∷ cs) (d ∷ ds) sc sd e =
    let first : c ≡ d = same_command c d (All-head IsServed c cs sc) (All-head IsServed d ds sd) (cc) in
    let rest : cs ≡ ds = same_commands cs ds (All-tail IsServed c cs sc) (All-tail IsServed d ds sd) (cc) in
    cc

-- the counts read back, with the kind at hand
queue_of : Kind → List (List ℕ) → QueueLine
queue_of kind ws = record { kind = kind; clients = digits_value 10 (slice_index_or ws 2 []); records = digits_value 10 (slice_index_or ws 3 []) }

queue_back : (queue : QueueLine) → AreCounts queue.clients queue.records → queue_of queue.kind (queue_words queue) ≡ queue
unfolding queue_of
queue_back queue counts =
    let few = counts.few_clients in
    let small = counts.few_records in
    let e0 : digits_value 10 (decimal queue.clients) ≡ queue.clients = read queue.clients (omega arith) in
    let e1 : digits_value 10 (decimal queue.records) ≡ queue.records = read queue.records (omega arith) in
    ap (λ n. record queue { clients = n; records = digits_value 10 (decimal queue.records) }) e0 ∙ ap (λ n. record queue { records = n }) e1

-- and of one queue
pub same_queue : (q r : QueueLine) → IsServedQueue q → IsServedQueue r → queue_words q ≡ queue_words r → q ≡ r
same_queue q r sq sr e =
    let words : kind_word q.kind ≡ kind_word r.kind = cc in
    let kind : q.kind ≡ r.kind = same_kind q.kind r.kind words in
    sym (queue_back q sq) ∙ (ap (λ k. queue_of k (queue_words q)) kind ∙ ap (queue_of r.kind) e) ∙ queue_back r sr

-- so lines say at most one queue and at most one list of commands
same_script : (lines : List (List ℕ)) (q r : Option QueueLine) (cs ds : List Command) → Says lines q cs → Says lines r ds → (q ≡ r) × (cs ≡ ds)
same_script lines None None cs ds a b = (refl, a.queue_first refl ∙ sym (b.queue_first refl))
same_script lines None (Some r) cs ds a b =
    let none : map command_words cs ≡ [] = ap (map command_words) (a.queue_first refl) in
    let some : map command_words cs ≡ queue_words r ∷ map command_words ds = sym a.words ∙ b.words in
    absurd (cc)
same_script lines (Some q) None cs ds a b =
    let none : map command_words ds ≡ [] = ap (map command_words) (b.queue_first refl) in
    let some : map command_words ds ≡ queue_words q ∷ map command_words cs = sym b.words ∙ a.words in
    absurd (cc)
same_script lines (Some q) (Some r) cs ds a b =
    let both : queue_words q ∷ map command_words cs ≡ queue_words r ∷ map command_words ds = sym a.words ∙ b.words in
    (ap Some (same_queue q r a.queue_served b.queue_served (cc)), same_commands cs ds a.commands_served b.commands_served (cc))

-- and at most one script
pub one_script : (lines : List (List ℕ)) (one other : Scripted) → SaysScript lines one → SaysScript lines other → one ≡ other
one_script lines one other a b =
    let same : (one.queue ≡ other.queue) × (one.commands ≡ other.commands) =
    same_script lines one.queue other.queue one.commands other.commands a b in
    ap (λ q. record one { queue = q }) same.0 ∙ ap (λ cs. record other { commands = cs }) same.1
