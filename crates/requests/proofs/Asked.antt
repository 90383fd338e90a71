-- Each object that asks a request is that request.
use Rattle.std.proofs.Common.{◌≡◌, ℕ, List, Some, None, refl, ap}
use Rattle.std.proofs.lemmas.Bool.{le-leb}
use Rattle.serde_json.specs.Data.{object}
use Rattle.words.specs.declared.call.Kind.TheVariants.{Durable, Log}
use Rattle.words.specs.declared.limits.TheConstants.{MAX_CALL_NUMBER}
use Rattle.wire.specs.declared.request.Request.{Request}
use Rattle.wire.specs.declared.request.Request.TheVariants.{Create, List as ListAll, Put, Take, Told, Crash, Recover}
use Rattle.wire.specs.declared.request.Request.TheVariants.{Stop}
use Rattle.words.proofs.Facts.{hex_again}
use Rattle.requests.specs.Rows.{request_in, create_in, put_in, numbered_put_in, take_in, numbered_take_in, told_in}
use Rattle.requests.specs.Rows.{value_at, number_at, queue_at, kind_at}
use Rattle.requests.specs.Objects.{members_asking, MayAsk}

pub asked : (text : List ℕ) (request : Request) → MayAsk text request → request_in (object (members_asking text request)) ≡ Some request
unfolding request_in create_in put_in numbered_put_in take_in numbered_take_in told_in value_at number_at queue_at kind_at
asked text (Create q Durable) may = ap (λ name. Some (Create name Durable)) may
asked text (Create q Log) may = ap (λ name. Some (Create name Log)) may
asked text ListAll may = refl
asked text (Put c q v None) may = rw (hex_again v may.2) (ap (λ name. Some (Put c name v None)) may.0)
asked text (Put c q v (Some n)) may = rw (hex_again v may.2, le-leb 1 n may.3, le-leb n MAX_CALL_NUMBER may.4) (ap (λ name. Some (Put c name v (Some n))) may.0)
asked text (Take c q None) may = ap (λ name. Some (Take c name None)) may.0
asked text (Take c q (Some n)) may = rw (le-leb 1 n may.2, le-leb n MAX_CALL_NUMBER may.3) (ap (λ name. Some (Take c name (Some n))) may.0)
asked text (Told c q) may = ap (λ name. Some (Told c name)) may.0
asked text Crash may = refl
asked text Recover may = refl
asked text Stop may = refl
