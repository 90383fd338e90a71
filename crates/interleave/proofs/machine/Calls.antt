-- A client's call, and what is so of it.
use Rattle.std.proofs.Common.{◌≡◌, ℕ, List, Option, Some, None, slice_get, slice_index_or, sym, subst, ap, ◌∙◌}
use Rattle.std.specs.Prelude.{IfSome, unwrap_or}
use Rattle.std.proofs.lemmas.Option.{get_or_from_slice_get, unwrap_or-slice_get}
use Rattle.words.specs.declared.call.Client.{Client}
use Rattle.protocol.specs.declared.UnderWay.{UnderWay}
use Rattle.interleave.specs.Calls.{OfCall}

-- a client that has a call has a place
pub call_at : (calls : List (Option UnderWay)) (t : ℕ) (u : UnderWay) → slice_index_or calls t None ≡ Some u → slice_get calls t ≡ Some (Some u)
call_at calls t u here = at (slice_get calls t) (unwrap_or-slice_get calls t None ∙ here)
  where
    at : (o : Option (Option UnderWay)) → unwrap_or o None ≡ Some u → o ≡ Some (Some u)
    at None e = cc
    at (Some call) e = ap Some e

-- what is so of the call is so of this one
pub of_call : (calls : List (Option UnderWay)) (client : Client) (u : UnderWay) (P : UnderWay → Type 0)
    → slice_index_or calls client.0 None ≡ Some u → P u → OfCall calls client P
of_call calls client u P here h = subst (λ o. IfSome o P) (sym here) h

pub the_call : (calls : List (Option UnderWay)) (client : Client) (u : UnderWay) (P : UnderWay → Type 0)
    → slice_index_or calls client.0 None ≡ Some u → OfCall calls client P → P u
the_call calls client u P here h = subst (λ o. IfSome o P) here h

-- a client that has a place with a call has it
pub call_there : (calls : List (Option UnderWay)) (t : ℕ) (u : UnderWay) → slice_get calls t ≡ Some (Some u) → slice_index_or calls t None ≡ Some u
call_there calls t u here = get_or_from_slice_get calls t (Some u) None here
