-- Each line that asks a request means it.
use Rattle.std.proofs.Common.{◌≡◌, ◌∙◌, ◌≤◌, ℕ, List, Some, None, Ok, Err, refl, ap, IsUtf8, arith}
use Rattle.std.specs.Prelude.{codes}
use Rattle.std.specs.Option.{option_map_or}
use Rattle.serde_json.specs.Data.{no_members, object, depth}
use Rattle.serde_json.specs.Read.{max_depth}
use Rattle.words.specs.declared.call.Kind.{Kind}
use Rattle.words.specs.declared.call.Kind.TheVariants.{Durable, Log}
use Rattle.words.specs.declared.refusal.Refusal.TheVariants.{BadJson, BadRequest}
use Rattle.wire.specs.declared.request.Request.{Request}
use Rattle.wire.specs.declared.request.Request.TheVariants.{Create, List as ListAll, Put, Take, Told, Crash, Recover}
use Rattle.wire.specs.declared.request.Request.TheVariants.{Stop}
use Rattle.words.proofs.Facts.{digits_text}
use Rattle.json.proofs.Printed.Utf8.{IsUtf8-are_ascii}
use Rattle.wire.specs.Kinds.{kind_text}
use Rattle.requests.specs.Line.{meaning, value_meaning}
use Rattle.requests.specs.Objects.{members_asking, line_asking, MayAsk}
use Rattle.requests.proofs.Asked.{asked}
use Rattle.requests.proofs.Texts.{text_meant}
use Rattle.requests.proofs.Written.{ArePlain, put_all, object_utf8, read-compact_text}

kind_utf8 : (kind : Kind) → IsUtf8 (kind_text kind)
kind_utf8 Durable = IsUtf8-are_ascii _ refl
kind_utf8 Log = IsUtf8-are_ascii _ refl

client_key : IsUtf8 (codes "client")
client_key = IsUtf8-are_ascii _ refl

kind_key : IsUtf8 (codes "kind")
kind_key = IsUtf8-are_ascii _ refl

number_key : IsUtf8 (codes "number")
number_key = IsUtf8-are_ascii _ refl

op_key : IsUtf8 (codes "op")
op_key = IsUtf8-are_ascii _ refl

queue_key : IsUtf8 (codes "queue")
queue_key = IsUtf8-are_ascii _ refl

value_key : IsUtf8 (codes "value")
value_key = IsUtf8-are_ascii _ refl

plain : (text : List ℕ) (request : Request) → IsUtf8 text → MayAsk text request → ArePlain (members_asking text request)
plain text (Create q k) utf8 may = (kind_key, kind_utf8 k, (op_key, IsUtf8-are_ascii _ refl, (queue_key, utf8, tt)))
plain text ListAll utf8 may = (op_key, IsUtf8-are_ascii _ refl, tt)
plain text (Put c q v None) utf8 may = (client_key, may.1, (op_key, IsUtf8-are_ascii _ refl, (queue_key, utf8, (value_key, digits_text v, tt))))
plain text (Put c q v (Some n)) utf8 may = (client_key, may.1, (number_key, omega (arith, may.4), (op_key, IsUtf8-are_ascii _ refl, (queue_key, utf8, (value_key, digits_text v, tt)))))
plain text (Take c q None) utf8 may = (client_key, may.1, (op_key, IsUtf8-are_ascii _ refl, (queue_key, utf8, tt)))
plain text (Take c q (Some n)) utf8 may = (client_key, may.1, (number_key, omega (arith, may.3), (op_key, IsUtf8-are_ascii _ refl, (queue_key, utf8, tt))))
plain text (Told c q) utf8 may = (client_key, may.1, (op_key, IsUtf8-are_ascii _ refl, (queue_key, utf8, tt)))
plain text Crash utf8 may = (op_key, IsUtf8-are_ascii _ refl, tt)
plain text Recover utf8 may = (op_key, IsUtf8-are_ascii _ refl, tt)
plain text Stop utf8 may = (op_key, IsUtf8-are_ascii _ refl, tt)

in_order : (text : List ℕ) (request : Request) → put_all (members_asking text request) no_members ≡ members_asking text request
in_order text (Create q k) = refl
in_order text ListAll = refl
in_order text (Put c q v None) = refl
in_order text (Put c q v (Some n)) = refl
in_order text (Take c q None) = refl
in_order text (Take c q (Some n)) = refl
in_order text (Told c q) = refl
in_order text Crash = refl
in_order text Recover = refl
in_order text Stop = refl

shallow : (text : List ℕ) (request : Request) → depth (object (members_asking text request)) ≤ max_depth
shallow text (Create q k) = omega arith
shallow text ListAll = omega arith
shallow text (Put c q v None) = omega arith
shallow text (Put c q v (Some n)) = omega arith
shallow text (Take c q None) = omega arith
shallow text (Take c q (Some n)) = omega arith
shallow text (Told c q) = omega arith
shallow text Crash = omega arith
shallow text Recover = omega arith
shallow text Stop = omega arith

pub asked_by_line : (text : List ℕ) (request : Request) → IsUtf8 text → MayAsk text request → meaning (line_asking text request) ≡ Ok request
asked_by_line text request utf8 may =
    let are_plain : ArePlain (members_asking text request) = plain text request utf8 may in
    text_meant (line_asking text request) (object_utf8 (members_asking text request) are_plain)
    ∙ ap (λ found. option_map_or value_meaning found (Err BadJson)) (read-compact_text (object (members_asking text request)) (are_plain, in_order text request) (shallow text request))
    ∙ ap (λ found. option_map_or Ok found (Err BadRequest)) (asked text request may)
