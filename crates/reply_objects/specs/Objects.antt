-- The JSON object that each answer is written as, and what a client learns by it.
use Rattle.std.specs.Prelude.{◌≡◌, ◌<◌, ◌^◌, ℕ, List, [], ◌∷◌, codes, None, Some, ⊤}
use Rattle.hex.specs.Hex.{encode_lower}
use Rattle.serde_json.specs.Data.{Data, unsigned, number, string, array, object, Items, no_items, item, Members, no_members, member}
use Rattle.words.specs.PlainQueue.{FitsValue, Value}
use Rattle.words.specs.Refusal.{code_of, name_of}
use Rattle.words.specs.declared.call.Reply.{Reply}
use Rattle.words.specs.declared.call.Reply.TheVariants as reply
use Rattle.words.specs.declared.refusal.Refusal.{Refusal}
use Rattle.words.specs.declared.refusal.Refusal.TheVariants.{BadLine, Damaged}
use Rattle.words.specs.declared.told.Outcome.{Outcome}
use Rattle.words.specs.declared.told.Outcome.TheVariants.{NotTaken, Taken}
use Rattle.words.specs.declared.told.Row.{Row}
use Rattle.words.specs.declared.told.Row.TheVariants as row
use Rattle.words.specs.declared.told.Told.{Told}
use Rattle.words.specs.declared.told.Told.TheVariants as told
use Rattle.directory.specs.Directory.{Directory}
use Rattle.directory.specs.Name.{IsName}
use Rattle.directory.specs.declared.queue.Queue.{Queue}
use Rattle.replies.specs.Texts.{answer_text}
use Rattle.wire.specs.Kinds.{kind_text}
use Rattle.wire.specs.declared.answer.Answer.{Answer}
use Rattle.wire.specs.declared.answer.Answer.TheVariants as answer

-- a text or a whole number at a key, with the members whose keys come behind it
abbrev pub text : List ℕ → List ℕ → Members → Members
text key words rest = member key (string words) rest

abbrev pub whole : List ℕ → ℕ → Members → Members
whole key n rest = member key (number (unsigned n)) rest

-- a message is a text of two lowercase hexadecimal digits for each byte
abbrev pub got : Value → Members → Members
got value rest = text (codes "got") (encode_lower value) rest

-- what these members say alone
abbrev pub replies : List ℕ → Members
replies words = text (codes "reply") words no_members

abbrev pub reply_members : Reply → Members
reply_members reply.Done = replies (codes "done")
reply_members (reply.Got value) = got value (replies (codes "got"))
reply_members reply.Empty = replies (codes "empty")

-- the call of this number took effect, with this reply
abbrev pub taken : ℕ → List ℕ → Members
taken n words = whole (codes "number") n (text (codes "reply") words (text (codes "told") (codes "taken") no_members))

abbrev pub outcome_members : ℕ → Outcome → Members
outcome_members n NotTaken = whole (codes "number") n (text (codes "told") (codes "nottaken") no_members)
outcome_members n (Taken reply.Done) = taken n (codes "done")
outcome_members n (Taken (reply.Got value)) = got value (taken n (codes "got"))
outcome_members n (Taken reply.Empty) = taken n (codes "empty")

abbrev pub rows : List ℕ → Members
rows words = text (codes "row") words no_members

abbrev pub row_members : Row → Members
row_members row.NoCall = rows (codes "nocall")
row_members row.Open = rows (codes "open")
row_members row.Empty = rows (codes "empty")
row_members (row.Got value) = got value (rows (codes "got"))

abbrev pub told_members : Told → Members
told_members told.None = text (codes "told") (codes "none") no_members
told_members (told.Verdict verdict) = outcome_members verdict.number verdict.outcome
told_members (told.Row row) = row_members row

-- the queues that there are, in the order of their slots
abbrev pub queue_object : Queue → Data
queue_object queue = object (text (codes "kind") (kind_text queue.kind) (text (codes "queue") queue.name no_members))

abbrev pub queues_in : Directory → List Queue
queues_in [] = []
queues_in (None ∷ places) = queues_in places
queues_in (Some queue ∷ places) = queue ∷ queues_in places

abbrev pub queue_items : List Queue → Items
queue_items [] = no_items
queue_items (queue ∷ more) = item (queue_object queue) (queue_items more)

abbrev pub members_of : Answer → Members
members_of (answer.Created slot) = text (codes "reply") (codes "created") (whole (codes "slot") slot.0 no_members)
members_of (answer.Queues places) = member (codes "queues") (array (queue_items (queues_in places))) no_members
members_of (answer.Reply reply) = reply_members reply
members_of answer.Interrupted = replies (codes "interrupted")
members_of answer.Unfinished = replies (codes "unfinished")
members_of (answer.Told told) = told_members told
members_of answer.Crashed = replies (codes "crashed")
members_of answer.Ready = replies (codes "ready")
members_of answer.Stopping = replies (codes "stopping")
members_of (answer.Refused refusal) =
    whole (codes "error") (code_of refusal) (text (codes "name") (name_of refusal) no_members)

abbrev pub object_of : Answer → Data
object_of answer = object (members_of answer)

-- the messages are messages and the names names, the numbers fit 64 bits, and no refusal comes with a number beside its
-- own
abbrev pub FitsReply : Reply → Type 0
FitsReply reply.Done = ⊤
FitsReply (reply.Got value) = FitsValue value
FitsReply reply.Empty = ⊤

abbrev pub FitsOutcome : Outcome → Type 0
FitsOutcome NotTaken = ⊤
FitsOutcome (Taken reply) = FitsReply reply

abbrev pub FitsTold : Told → Type 0
FitsTold told.None = ⊤
FitsTold (told.Verdict verdict) = (verdict.number < 2 ^ 64) × FitsOutcome verdict.outcome
FitsTold (told.Row (row.Got value)) = FitsValue value
FitsTold (told.Row _) = ⊤

abbrev pub AreNames : List Queue → Type 0
AreNames [] = ⊤
AreNames (queue ∷ more) = IsName queue.name × AreNames more

abbrev pub IsOfServer : Refusal → Type 0
IsOfServer (BadLine line) = ⊥
IsOfServer (Damaged rule) = ⊥
IsOfServer _ = ⊤

abbrev pub MayBeWritten : Answer → Type 0
MayBeWritten (answer.Created slot) = slot.0 < 2 ^ 64
MayBeWritten (answer.Queues places) = AreNames (queues_in places)
MayBeWritten (answer.Reply reply) = FitsReply reply
MayBeWritten (answer.Told told) = FitsTold told
MayBeWritten (answer.Refused refusal) = IsOfServer refusal
MayBeWritten _ = ⊤

-- what a client learns: the queues that are listed, without their slots, or the answer
pub data Learnt : Type 0 where
  listed : List Queue → Learnt
  said : Answer → Learnt

abbrev pub learnt_by : Answer → Learnt
learnt_by (answer.Queues places) = listed (queues_in places)
learnt_by answer = said answer

-- if two answers have one text, a client learns the same by both
abbrev pub AreLearntAlike : Answer → Answer → Type 0
AreLearntAlike one other = answer_text one ≡ answer_text other → learnt_by one ≡ learnt_by other
