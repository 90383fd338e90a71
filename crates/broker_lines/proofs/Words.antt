-- Each statement, and each broker, is read back from its words.
use Rattle.std.proofs.Common.{◌≡◌, ℕ, ◌+◌, ◌-◌, ◌*◌, ◌==◌, Bool, true, false, List, [], ◌∷◌, length, slice_index, slice_index_or, take, drop, decimal, sym, ap, ap₂, ◌∙◌, arith, refl, if◌then◌else◌}
use Rattle.std.proofs.lemmas.List.{length_push}
use Rattle.std.proofs.Math.Seq.{get_or-append_seam, take-append_seam}
use Rattle.std.proofs.lemmas.List.Elements.{All-head, All-tail}
use Rattle.std.specs.Prelude.{All, codes, map}
use Rattle.std.specs.Str.Parse.{digits_value}
use Rattle.words.specs.declared.call.Client.{Client}
use Rattle.words.specs.declared.call.Kind.{Kind}
use Rattle.words.specs.declared.call.Kind.TheVariants.{Durable, Log}
use Rattle.grammar.proofs.Facts.{command_back, command_in, read, value_back, value_in}
use Rattle.words.specs.declared.call.Call.{Call}
use Rattle.words.specs.declared.call.Call.TheVariants.{Enq as enq_call, Deq as deq_call}
use Rattle.grammar.specs.Grammar.{command_words, kind_word, IsServed}
use Rattle.grammar.specs.declared.commands.Command.{Command}
use Rattle.grammar.specs.declared.commands.Command.TheVariants.{Enq, NumberedEnq, Deq, NumberedDeq, Step, End, Evict}
use Rattle.grammar.specs.declared.commands.Command.TheVariants.{Crash, Recover, RecoverBy, Content, Order, Again}
use Rattle.broker_lines.specs.Grammar.{ask_words, broker_words, call_words, label, statement_words, IsServedAsk}
use Rattle.broker_lines.specs.Grammar.{IsServedBroker, IsServedCall, IsServedStatement}
use Rattle.broker_lines.specs.declared.statements.Ask.{Ask}
use Rattle.broker_lines.specs.declared.statements.Ask.TheVariants.{Request, Plain, Begin}
use Rattle.broker_lines.specs.declared.statements.BrokerLine.{BrokerLine}
use Rattle.broker_lines.specs.declared.statements.Statement.{Statement}
use Rattle.broker_lines.specs.declared.statements.Statement.TheVariants.{Create, BeginCreation, CreateStep}
use Rattle.broker_lines.specs.declared.statements.Statement.TheVariants.{CreateSteps, Find, List as list_queues}
use Rattle.broker_lines.specs.declared.statements.Statement.TheVariants.{Rotate, Renew, Image, SetWord, Boot, Whole}
use Rattle.broker_lines.specs.declared.statements.Statement.TheVariants.{On, Told, Asks}

-- the words from the second one on, each as a number
number_at : List (List ℕ) → ℕ → ℕ
number_at words place = digits_value 10 (slice_index_or words place [])

-- the kind that a word is, by its first byte
kind_in : List ℕ → Kind
kind_in word = if slice_index word 0 == 100 then Durable else Log

kind_back : (kind : Kind) → kind_in (kind_word kind) ≡ kind
unfolding kind_in
kind_back Durable = refl
kind_back Log = refl

-- whether a word ends in a colon, and what comes before
is_label : List ℕ → Bool
is_label word = slice_index word (length word - 1) == 58

name_in : List ℕ → List ℕ
name_in word = take (length word - 1) word

label_back : (name : List ℕ) → name_in (label name) ≡ name
unfolding name_in
label_back name =
    let last : length (label name) - 1 ≡ length name = omega (arith, length_push name 58) in
    ap (λ (n : ℕ). take n (label name)) last ∙ take-append_seam name (codes ":")

label_told : (name : List ℕ) → is_label (label name) ≡ true
unfolding is_label
label_told name =
    let last : length (label name) - 1 ≡ length name = omega (arith, length_push name 58) in
    let colon : slice_index (label name) (length name) ≡ 58 = get_or-append_seam name 58 [] 0 in
    ap (λ (n : ℕ). slice_index (label name) n == 58) last ∙ ap (λ (b : ℕ). b == 58) colon

-- which row some words are of: by how many there are, and by the first bytes of the first
row_of : List (List ℕ) → ℕ
row_of [] = 0
row_of (name ∷ rest) = ((slice_index name 0 * 256 + slice_index name 1) * 256 + slice_index name 2) * 4 + length rest

plain_of : ℕ → List (List ℕ) → Statement
plain_of row words =
    (if row == 26069398 then Create (slice_index_or words 1 []) (kind_in (slice_index_or words 2 [])) else
    (if row == 26069399 then BeginCreation (slice_index_or words 1 []) (kind_in (slice_index_or words 2 [])) (number_at words 3) else
    (if row == 26069396 then CreateStep else
    (if row == 26069397 then CreateSteps (number_at words 1) else
    (if row == 26846649 then Find (slice_index_or words 1 []) else
    (if row == 28419532 then list_queues else
    (if row == 29998544 then Rotate else
    (if row == 29988281 then Renew (slice_index_or words 1 []) else
    (if row == 27637124 then Image else
    (if row == 30250450 then SetWord (number_at words 1) (number_at words 2) else
    (if row == 25804220 then Boot else
    Whole (command_in words))))))))))))

-- the call that some words are, by the first byte of the first
call_in : List (List ℕ) → Call
call_in words =
    if slice_index (slice_index_or words 0 []) 0 == 101 then enq_call (value_in (slice_index_or words 1 [])) else deq_call

call_back : (call : Call) → IsServedCall call → call_in (call_words call) ≡ call
unfolding call_in
call_back (enq_call value) served = ap enq_call (value_back value served)
call_back deq_call served = refl

-- which word comes first, by its first bytes
first_of : List (List ℕ) → ℕ
first_of [] = 0
first_of (name ∷ rest) = (slice_index name 0 * 256 + slice_index name 1) * 256 + slice_index name 2

client_at : List (List ℕ) → Client
client_at words = record { 0 = number_at words 1 }

-- the words after a label
told_of : List ℕ → List (List ℕ) → Statement
told_of name words =
    (if row_of words == 30522801 then Told name (record { 0 = number_at words 1 }) else
    (if first_of words == 7497073 then Asks name (Request (client_at words) (number_at words 2) (call_in (drop 3 words))) else
    (if first_of words == 7367777 then Asks name (Plain (client_at words) (call_in (drop 2 words))) else
    (if first_of words == 6448487 then Asks name (Begin (client_at words) (number_at words 2) (call_in (drop 3 words))) else
    On name (command_in words)))))

statement_by : Bool → List (List ℕ) → Statement
statement_by true words = told_of (name_in (slice_index_or words 0 [])) (drop 1 words)
statement_by false words = plain_of (row_of words) words

statement_in : List (List ℕ) → Statement
statement_in words = statement_by (is_label (slice_index_or words 0 [])) words

whole_back : (command : Command) → IsServed command → statement_in (command_words command) ≡ Whole command
unfolding statement_in statement_by plain_of row_of is_label
whole_back (Enq client value) served = ap Whole (command_back (Enq client value) served)
whole_back (NumberedEnq client number value) served = ap Whole (command_back (NumberedEnq client number value) served)
whole_back (Deq client) served = ap Whole (command_back (Deq client) served)
whole_back (NumberedDeq client number) served = ap Whole (command_back (NumberedDeq client number) served)
whole_back (Step client most) served = ap Whole (command_back (Step client most) served)
whole_back (End client) served = ap Whole (command_back (End client) served)
whole_back (Evict word) served = ap Whole (command_back (Evict word) served)
whole_back Crash served = ap Whole (command_back Crash served)
whole_back Recover served = ap Whole (command_back Recover served)
whole_back (RecoverBy most) served = ap Whole (command_back (RecoverBy most) served)
whole_back Content served = ap Whole (command_back Content served)
whole_back Order served = ap Whole (command_back Order served)
whole_back Again served = ap Whole (command_back Again served)

on_back : (name : List ℕ) (command : Command) → IsServed command → told_of name (command_words command) ≡ On name command
unfolding told_of row_of first_of
on_back name (Enq client value) served = ap (On name) (command_back (Enq client value) served)
on_back name (NumberedEnq client number value) served = ap (On name) (command_back (NumberedEnq client number value) served)
on_back name (Deq client) served = ap (On name) (command_back (Deq client) served)
on_back name (NumberedDeq client number) served = ap (On name) (command_back (NumberedDeq client number) served)
on_back name (Step client most) served = ap (On name) (command_back (Step client most) served)
on_back name (End client) served = ap (On name) (command_back (End client) served)
on_back name (Evict word) served = ap (On name) (command_back (Evict word) served)
on_back name Crash served = ap (On name) (command_back Crash served)
on_back name Recover served = ap (On name) (command_back Recover served)
on_back name (RecoverBy most) served = ap (On name) (command_back (RecoverBy most) served)
on_back name Content served = ap (On name) (command_back Content served)
on_back name Order served = ap (On name) (command_back Order served)
on_back name Again served = ap (On name) (command_back Again served)

-- words after a label, read back by it
labelled_back : (name : List ℕ) (words : List (List ℕ)) → statement_in (label name ∷ words) ≡ told_of name words
unfolding statement_in statement_by
labelled_back name words =
    ap (λ (b : Bool). statement_by b (label name ∷ words)) (label_told name) ∙ ap (λ n. told_of n words) (label_back name)

asked_back : (name : List ℕ) (ask : Ask) → IsServedAsk ask → told_of name (ask_words ask) ≡ Asks name ask
unfolding told_of row_of first_of client_at number_at
asked_back name (Request client number (enq_call value)) served =
    let e0 : digits_value 10 (decimal client.0) ≡ client.0 = read client.0 (omega (arith, served)) in
    let e1 : digits_value 10 (decimal number) ≡ number = read number (omega (arith, served)) in
    let call : Call = enq_call value in
    ap (λ n. Asks name (Request (record { 0 = n }) (digits_value 10 (decimal number)) (call_in (call_words call)))) e0
    ∙ ap (λ n. Asks name (Request client n (call_in (call_words call)))) e1
    ∙ ap (λ c. Asks name (Request client number c)) (call_back call served.2)
asked_back name (Request client number deq_call) served =
    let e0 : digits_value 10 (decimal client.0) ≡ client.0 = read client.0 (omega (arith, served)) in
    let e1 : digits_value 10 (decimal number) ≡ number = read number (omega (arith, served)) in
    ap (λ n. Asks name (Request (record { 0 = n }) (digits_value 10 (decimal number)) (call_in (call_words deq_call)))) e0
    ∙ ap (λ n. Asks name (Request client n (call_in (call_words deq_call)))) e1
    ∙ ap (λ c. Asks name (Request client number c)) (call_back deq_call served.2)
asked_back name (Plain client (enq_call value)) served =
    let e0 : digits_value 10 (decimal client.0) ≡ client.0 = read client.0 (omega (arith, served)) in
    let call : Call = enq_call value in
    ap (λ n. Asks name (Plain (record { 0 = n }) (call_in (call_words call)))) e0
    ∙ ap (λ c. Asks name (Plain client c)) (call_back call served.1)
asked_back name (Plain client deq_call) served =
    let e0 : digits_value 10 (decimal client.0) ≡ client.0 = read client.0 (omega (arith, served)) in
    ap (λ n. Asks name (Plain (record { 0 = n }) (call_in (call_words deq_call)))) e0
    ∙ ap (λ c. Asks name (Plain client c)) (call_back deq_call served.1)
asked_back name (Begin client number (enq_call value)) served =
    let e0 : digits_value 10 (decimal client.0) ≡ client.0 = read client.0 (omega (arith, served)) in
    let e1 : digits_value 10 (decimal number) ≡ number = read number (omega (arith, served)) in
    let call : Call = enq_call value in
    ap (λ n. Asks name (Begin (record { 0 = n }) (digits_value 10 (decimal number)) (call_in (call_words call)))) e0
    ∙ ap (λ n. Asks name (Begin client n (call_in (call_words call)))) e1
    ∙ ap (λ c. Asks name (Begin client number c)) (call_back call served.2)
asked_back name (Begin client number deq_call) served =
    let e0 : digits_value 10 (decimal client.0) ≡ client.0 = read client.0 (omega (arith, served)) in
    let e1 : digits_value 10 (decimal number) ≡ number = read number (omega (arith, served)) in
    ap (λ n. Asks name (Begin (record { 0 = n }) (digits_value 10 (decimal number)) (call_in (call_words deq_call)))) e0
    ∙ ap (λ n. Asks name (Begin client n (call_in (call_words deq_call)))) e1
    ∙ ap (λ c. Asks name (Begin client number c)) (call_back deq_call served.2)

statement_back : (statement : Statement) → IsServedStatement statement
    → statement_in (statement_words statement) ≡ statement
unfolding statement_in statement_by plain_of row_of is_label number_at told_of
statement_back (Create name kind) served = ap (Create name) (kind_back kind)
statement_back (BeginCreation name kind most) served =
    let e : digits_value 10 (decimal most) ≡ most = read most (omega (arith, served)) in
    ap (λ k. BeginCreation name k (digits_value 10 (decimal most))) (kind_back kind) ∙ ap (BeginCreation name kind) e
statement_back CreateStep served = refl
statement_back (CreateSteps most) served = ap CreateSteps (read most (omega (arith, served)))
statement_back (Find name) served = refl
statement_back list_queues served = refl
statement_back Rotate served = refl
statement_back (Renew name) served = refl
statement_back Image served = refl
statement_back (SetWord word value) served =
    ap₂ SetWord (read word served.0) (read value served.1)
statement_back Boot served = refl
statement_back (Whole command) served = whole_back command served.0
statement_back (On name command) served = labelled_back name (command_words command) ∙ on_back name command served.1
statement_back (Told name client) served =
    let e : digits_value 10 (decimal client.0) ≡ client.0 = read client.0 (omega (arith, served)) in
    labelled_back name (codes "told" ∷ decimal client.0 ∷ []) ∙ ap (λ n. Told name (record { 0 = n })) e
statement_back (Asks name ask) served = labelled_back name (ask_words ask) ∙ asked_back name ask served.1

pub same_statement : (s t : Statement) → IsServedStatement s → IsServedStatement t → statement_words s ≡ statement_words t
    → s ≡ t
same_statement s t served_s served_t same =
    sym (statement_back s served_s) ∙ ap statement_in same ∙ statement_back t served_t

pub same_statements : (ss ts : List Statement) → All IsServedStatement ss → All IsServedStatement ts
    → map statement_words ss ≡ map statement_words ts → ss ≡ ts
same_statements [] [] served_ss served_ts same = refl
same_statements [] (t ∷ ts) served_ss served_ts same = absurd (cc)
same_statements (s ∷ ss) [] served_ss served_ts same = absurd (cc)
same_statements (s ∷ ss) (t ∷ ts) served_ss served_ts same =
    let first : s ≡ t =
    same_statement s t (All-head IsServedStatement s ss served_ss) (All-head IsServedStatement t ts served_ts) (cc) in
    let rest : ss ≡ ts =
    same_statements ss ts (All-tail IsServedStatement s ss served_ss) (All-tail IsServedStatement t ts served_ts) (cc) in
    cc

-- a broker's line
broker_in : List (List ℕ) → BrokerLine
broker_in words = record { clients = number_at words 1; records = number_at words 2 }

broker_back : (broker : BrokerLine) → IsServedBroker broker → broker_in (broker_words broker) ≡ broker
unfolding broker_in number_at
broker_back broker served =
    let few = served.few_clients in
    let small = served.few_records in
    let e0 : digits_value 10 (decimal broker.clients) ≡ broker.clients = read broker.clients (omega arith) in
    let e1 : digits_value 10 (decimal broker.records) ≡ broker.records = read broker.records (omega arith) in
    ap (λ n. record broker { clients = n; records = digits_value 10 (decimal broker.records) }) e0
    ∙ ap (λ n. record broker { records = n }) e1

pub same_broker : (b c : BrokerLine) → IsServedBroker b → IsServedBroker c → broker_words b ≡ broker_words c → b ≡ c
same_broker b c served_b served_c same = sym (broker_back b served_b) ∙ ap broker_in same ∙ broker_back c served_c
