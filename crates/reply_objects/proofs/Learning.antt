-- A client learns each answer by its object.
use Rattle.std.proofs.Common.{◌≡◌, ◌∙◌, ℕ, List, [], ◌∷◌, Option, Some, None, refl, sym, ap}
use Rattle.std.specs.Prelude.{Bool, codes, if◌then◌else◌, is_some, option_and_then, option_map}
use Rattle.std.specs.Str.{bytes_eq}
use Rattle.serde_json.specs.Data.{Data, Items, no_items, item, array, object}
use Rattle.serde_json.specs.Find.{get}
use Rattle.serde_json.specs.Read.{read}
use Rattle.words.specs.PlainQueue.{Value}
use Rattle.words.specs.Refusal.{code_of, refusal_at}
use Rattle.words.specs.declared.call.Kind.{Kind}
use Rattle.words.specs.declared.call.Kind.TheVariants.{Durable, Log}
use Rattle.words.specs.declared.call.Reply.{Reply}
use Rattle.words.specs.declared.call.Reply.TheVariants as reply
use Rattle.words.specs.declared.refusal.Refusal.{Refusal}
use Rattle.words.specs.declared.refusal.Refusal.TheVariants as refusal
use Rattle.words.specs.declared.told.Outcome.{Outcome}
use Rattle.words.specs.declared.told.Outcome.TheVariants.{NotTaken, Taken}
use Rattle.words.specs.declared.told.Row.{Row}
use Rattle.words.specs.declared.told.Row.TheVariants as row
use Rattle.words.specs.declared.told.Told.{Told}
use Rattle.words.specs.declared.told.Told.TheVariants as told
use Rattle.words.proofs.Facts.{hex_again}
use Rattle.directory.specs.declared.queue.Queue.{Queue}
use Rattle.wire.specs.declared.answer.Answer.{Answer}
use Rattle.wire.specs.declared.answer.Answer.TheVariants as answer
use Rattle.replies.specs.Texts.{answer_text}
use Rattle.requests.specs.Members.{text_at, whole_at}
use Rattle.requests.specs.Rows.{kind_in, value_in}
use Rattle.reply_objects.specs.Objects.{FitsOutcome, IsOfServer, Learnt, MayBeWritten, learnt_by, object_of}
use Rattle.reply_objects.specs.Objects.{outcome_members, queue_items, queue_object, queues_in}
use Rattle.reply_objects.specs.Objects.Learnt.{listed, said}
use Rattle.reply_objects.proofs.Writing.{read_again}

refusal_again : (r : Refusal) → IsOfServer r → refusal_at (code_of r) ≡ Some r
refusal_again (refusal.BadLine line) fits = absurd fits
refusal_again (refusal.Damaged rule) fits = absurd fits
refusal_again _ fits = refl

-- what stands at each key
abbrev has : List ℕ → Data → Bool
has key json = is_some (get key json)

abbrev value_got : Data → Option Value
value_got json = option_and_then value_in (text_at (codes "got") json)

abbrev reply_of : List ℕ → Data → Option Reply
reply_of words json =
    if bytes_eq words (codes "done") then Some reply.Done
    else (if bytes_eq words (codes "got") then option_map reply.Got (value_got json)
    else (if bytes_eq words (codes "empty") then Some reply.Empty else None))

abbrev reply_in : Data → Option Reply
reply_in json = option_and_then (λ words. reply_of words json) (text_at (codes "reply") json)

-- what the client was last told
abbrev outcome_of : List ℕ → Data → Option Told
outcome_of words json =
    if bytes_eq words (codes "none") then Some told.None
    else (if bytes_eq words (codes "nottaken")
    then option_map (λ n. told.Verdict (record { number = n; outcome = NotTaken })) (whole_at (codes "number") json)
    else option_and_then (λ n. option_map (λ r. told.Verdict (record { number = n; outcome = Taken r })) (reply_in json))
    (whole_at (codes "number") json))

abbrev row_of : List ℕ → Data → Option Row
row_of words json =
    if bytes_eq words (codes "nocall") then Some row.NoCall
    else (if bytes_eq words (codes "open") then Some row.Open
    else (if bytes_eq words (codes "empty") then Some row.Empty else option_map row.Got (value_got json)))

-- the queues that are listed
abbrev queue_in : Data → Option Queue
queue_in json =
    option_and_then (λ name. option_map (λ kind. record { name = name; kind = kind })
    (option_and_then kind_in (text_at (codes "kind") json))) (text_at (codes "queue") json)

abbrev queues_of : Items → Option (List Queue)
queues_of no_items = Some []
queues_of (item json more) =
    option_and_then (λ queue. option_map (λ queues. queue ∷ queues) (queues_of more)) (queue_in json)

abbrev listed_in : Option Data → Option Learnt
listed_in (Some (array items)) = option_map listed (queues_of items)
listed_in _ = None

-- the answers that are one word
abbrev word_of : List ℕ → Data → Option Answer
word_of words json =
    if bytes_eq words (codes "created") then option_map (λ n. answer.Created (record { 0 = n })) (whole_at (codes "slot") json)
    else (if bytes_eq words (codes "interrupted") then Some answer.Interrupted
    else (if bytes_eq words (codes "unfinished") then Some answer.Unfinished
    else (if bytes_eq words (codes "crashed") then Some answer.Crashed
    else (if bytes_eq words (codes "ready") then Some answer.Ready
    else (if bytes_eq words (codes "stopping") then Some answer.Stopping
    else option_map answer.Reply (reply_of words json))))))

-- what a client learns by an object
unfoldable learnt_in : Data → Option Learnt
learnt_in json =
    if has (codes "error") json
    then option_map (λ r. said (answer.Refused r)) (option_and_then refusal_at (whole_at (codes "error") json))
    else (if has (codes "queues") json then listed_in (get (codes "queues") json)
    else (if has (codes "row") json
    then option_map (λ r. said (answer.Told (told.Row r))) (option_and_then (λ words. row_of words json) (text_at (codes "row") json))
    else (if has (codes "told") json
    then option_map (λ t. said (answer.Told t)) (option_and_then (λ words. outcome_of words json) (text_at (codes "told") json))
    else option_map said (option_and_then (λ words. word_of words json) (text_at (codes "reply") json)))))

queue_again : (name : List ℕ) (kind : Kind)
    → queue_in (queue_object (record { name = name; kind = kind })) ≡ Some (record { name = name; kind = kind })
queue_again name Durable = refl
queue_again name Log = refl

queues_again : (queues : List Queue) → queues_of (queue_items queues) ≡ Some queues
queues_again [] = refl
queues_again (queue ∷ more) = rw (queue_again queue.name queue.kind, queues_again more) refl

outcome_again : (n : ℕ) (o : Outcome) → FitsOutcome o
    → learnt_in (object (outcome_members n o)) ≡ Some (said (answer.Told (told.Verdict (record { number = n; outcome = o }))))
unfolding learnt_in
outcome_again n NotTaken fits = refl
outcome_again n (Taken reply.Done) fits = refl
outcome_again n (Taken reply.Empty) fits = refl
outcome_again n (Taken (reply.Got value)) fits = rw (hex_again value fits) refl

learnt_again : (a : Answer) → MayBeWritten a → learnt_in (object_of a) ≡ Some (learnt_by a)
unfolding learnt_in
learnt_again (answer.Created slot) fits = refl
learnt_again (answer.Queues places) fits = ap (option_map listed) (queues_again (queues_in places))
learnt_again (answer.Reply reply.Done) fits = refl
learnt_again (answer.Reply (reply.Got value)) fits = rw (hex_again value fits) refl
learnt_again (answer.Reply reply.Empty) fits = refl
learnt_again answer.Interrupted fits = refl
learnt_again answer.Unfinished fits = refl
learnt_again (answer.Told told.None) fits = refl
learnt_again (answer.Told (told.Verdict verdict)) fits = outcome_again verdict.number verdict.outcome fits.1
learnt_again (answer.Told (told.Row row.NoCall)) fits = refl
learnt_again (answer.Told (told.Row row.Open)) fits = refl
learnt_again (answer.Told (told.Row row.Empty)) fits = refl
learnt_again (answer.Told (told.Row (row.Got value))) fits = rw (hex_again value fits) refl
learnt_again answer.Crashed fits = refl
learnt_again answer.Ready fits = refl
learnt_again answer.Stopping fits = refl
learnt_again (answer.Refused r) fits = ap (option_map (λ r. said (answer.Refused r))) (refusal_again r fits)

-- so one text has one
pub learnt_once : (one other : Answer) → MayBeWritten one → MayBeWritten other → answer_text one ≡ answer_text other
    → learnt_by one ≡ learnt_by other
learnt_once one other fits fit same =
    let objects : Some (object_of one) ≡ Some (object_of other) =
    sym (read_again one fits) ∙ (ap read same ∙ read_again other fit) in
    some_is (sym (learnt_again one fits)
    ∙ (ap (λ (o : Option Data). option_and_then learnt_in o) objects ∙ learnt_again other fit))
  where
    some_is : {x y : Learnt} → (let o : Option Learnt = Some x in o) ≡ Some y → x ≡ y
    some_is e = cc (e)
