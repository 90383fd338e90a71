-- The JSON object that asks each request.
use Rattle.std.specs.Prelude.{◌≡◌, ◌≤◌, ◌<◌, ◌^◌, ℕ, List, codes, Some, None, Ok}
use Rattle.hex.specs.Hex.{encode_lower}
use Rattle.serde_json.specs.Data.{Data, unsigned, number, string, object, Members, no_members, member}
use Rattle.serde_json.specs.Written.{compact_text}
use Rattle.words.specs.declared.call.Kind.{Kind}
use Rattle.words.specs.PlainQueue.{Value, FitsValue}
use Rattle.words.specs.declared.limits.TheConstants.{MAX_CALL_NUMBER}
use Rattle.wire.specs.declared.request.Request.{Request}
use Rattle.wire.specs.declared.request.Request.TheVariants.{Create, List as ListAll, Put, Take, Told, Crash, Recover, Stop}
use Rattle.wire.specs.Kinds.{kind_text}
use Rattle.requests.specs.Line.{meaning}
use Rattle.requests.specs.Rows.{name_in}

-- a message is written as a text of two lowercase hexadecimal digits for each byte
abbrev pub value_data : Value → Data
value_data v = string (encode_lower v)

-- one member each, with those whose keys come behind it
abbrev pub client : ℕ → Members → Members
client n rest = member (codes "client") (number (unsigned n)) rest

abbrev pub kind : Kind → Members → Members
kind of_queue rest = member (codes "kind") (string (kind_text of_queue)) rest

abbrev pub call_number : ℕ → Members → Members
call_number n rest = member (codes "number") (number (unsigned n)) rest

abbrev pub op : List ℕ → Members → Members
op name rest = member (codes "op") (string name) rest

abbrev pub queue : List ℕ → Members → Members
queue text rest = member (codes "queue") (string text) rest

abbrev pub value : Value → Members → Members
value v rest = member (codes "value") (value_data v) rest

-- the members of the object that asks a request, where this is the text at `queue`
abbrev pub members_asking : List ℕ → Request → Members
members_asking text (Create q k) = kind k (op (codes "create") (queue text no_members))
members_asking text ListAll = op (codes "list") no_members
members_asking text (Put c q v None) = client c (op (codes "put") (queue text (value v no_members)))
members_asking text (Put c q v (Some n)) = client c (call_number n (op (codes "put") (queue text (value v no_members))))
members_asking text (Take c q None) = client c (op (codes "take") (queue text no_members))
members_asking text (Take c q (Some n)) = client c (call_number n (op (codes "take") (queue text no_members)))
members_asking text (Told c q) = client c (op (codes "told") (queue text no_members))
members_asking text Crash = op (codes "crash") no_members
members_asking text Recover = op (codes "recover") no_members
members_asking text Stop = op (codes "stop") no_members

-- the line that asks a request: the compact text of that object
abbrev pub line_asking : List ℕ → Request → List ℕ
line_asking text request = compact_text (object (members_asking text request))

-- the text at `queue` names the request's queue, or is no name where it has none, and its numbers are within limits
abbrev pub MayAsk : List ℕ → Request → Type 0
MayAsk text (Create q k) = name_in text ≡ q
MayAsk text ListAll = Unit {0}
MayAsk text (Put c q v None) = (name_in text ≡ q) × (c < 2 ^ 64) × FitsValue v
MayAsk text (Put c q v (Some n)) =
    (name_in text ≡ q) × (c < 2 ^ 64) × FitsValue v × (1 ≤ n) × (n ≤ MAX_CALL_NUMBER)
MayAsk text (Take c q None) = (name_in text ≡ q) × (c < 2 ^ 64)
MayAsk text (Take c q (Some n)) = (name_in text ≡ q) × (c < 2 ^ 64) × (1 ≤ n) × (n ≤ MAX_CALL_NUMBER)
MayAsk text (Told c q) = (name_in text ≡ q) × (c < 2 ^ 64)
MayAsk text Crash = Unit {0}
MayAsk text Recover = Unit {0}
MayAsk text Stop = Unit {0}

-- the line that asks the request means it
abbrev pub IsMeant : List ℕ → Request → Type 0
IsMeant text request = meaning (line_asking text request) ≡ Ok request
