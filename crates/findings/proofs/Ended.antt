-- A call ends once.
use Rattle.std.proofs.Common.{ℕ, ◌≡◌, ◌<◌, ◌≤◌, List, Some, slice_get, arith, ap, sym, ◌∙◌, subst, ⊎_elim}
use Rattle.std.proofs.lemmas.Bool.{cases_lt}
use Rattle.std.proofs.lemmas.Option.{same_Some}
use Rattle.words.specs.declared.call.Client.{Client}
use Rattle.words.specs.declared.call.Reply.{Reply}
use Rattle.events.specs.declared.event.Event.{Event}
use Rattle.events.specs.declared.event.Event.TheVariants.{Return as return_event}
use Rattle.events.specs.declared.event.Entry.{Entry}
use Rattle.events.specs.Explains.{IsAnswered}
use Rattle.events.specs.History.{BeginsAt, IsEnd, Precedes, ReturnAt}
use Rattle.events.specs.Orders.{IsTakenAs}
use Rattle.findings.specs.Facts.{HasEnd, HasNone}
use Rattle.findings.specs.Findings.{IsOverBy, IsReturned}

-- one client's call has one end
one_end : (events : List Event) (client : Client) (p e f : ℕ) → IsEnd events client p e → IsEnd events client p f
    → e ≡ f
one_end events client p e f one two =
    ⊎_elim
    (λ (lt : e < f). absurd (two.first e one.after lt one.ends))
    (λ (le : f ≤ e). ⊎_elim
    (λ (lt : f < e). absurd (one.first f two.after lt two.ends))
    (λ (ge : e ≤ f). omega arith)
    (cases_lt f e))
    (cases_lt e f)

-- one call begins at a place
one_client : (events : List Event) (p : ℕ) (one two : Client) → BeginsAt events one p → BeginsAt events two p
    → one ≡ two
one_client events p one two begins begins_too = cc (begins.1.1, begins_too.1.1)

pub one_ending : (events : List Event) (p e f : ℕ) → HasEnd events p e → HasEnd events p f → e ≡ f
one_ending events p e f one two =
    let same : two.client ≡ one.client = one_client events p two.client one.client two.begins one.begins in
    one_end events one.client p e f one.ends (subst (λ (c : Client). IsEnd events c p f) same two.ends)

-- what ended by a place, or before a call
pub over_from : (events : List Event) (p e t : ℕ) → HasEnd events p e → e ≤ t → IsOverBy events p t
over_from events p e t has le =
    record { client = has.client; begins = has.begins; end = e; ends = has.ends; by = le }

pub over_end : (events : List Event) (p e t : ℕ) → HasEnd events p e → IsOverBy events p t → e ≤ t
over_end events p e t has over =
    let other : HasEnd events p over.end = record { client = over.client; begins = over.begins; ends = over.ends } in
    let same : e ≡ over.end = one_ending events p e over.end has other in
    omega (arith, over.by)

pub over_none : (events : List Event) (p t : ℕ) → HasNone events p → IsOverBy events p t → ⊥
over_none events p t has over =
    has.none over.end (record { client = over.client; begins = over.begins; ends = over.ends })

pub precedes_from : (events : List Event) (p e q : ℕ) → HasEnd events p e → e < q → Precedes events p q
precedes_from events p e q has lt =
    record { client = has.client; begins = has.begins; end = e; ends = has.ends; before = lt }

pub precedes_end : (events : List Event) (p e q : ℕ) → HasEnd events p e → Precedes events p q → e < q
precedes_end events p e q has before =
    let other : HasEnd events p before.end =
    record { client = before.client; begins = before.begins; ends = before.ends } in
    let same : e ≡ before.end = one_ending events p e before.end has other in
    omega (arith, before.before)

pub precedes_none : (events : List Event) (p q : ℕ) → HasNone events p → Precedes events p q → ⊥
precedes_none events p q has before =
    has.none before.end (record { client = before.client; begins = before.begins; ends = before.ends })

-- a call whose end is a Return
pub returned_from : (events : List Event) (p e : ℕ) (who : Client) (reply : Reply) → HasEnd events p e
    → slice_get events e ≡ Some (return_event who reply) → IsReturned events p reply
returned_from events p e who reply has at = record {
  client = has.client;
  begins = has.begins;
  end = e;
  ends = has.ends;
  returns =
      ⊎_elim
      (λ returned. let clients : who ≡ has.client = cc (at, returned.1) in
      subst (λ (c : Client). ReturnAt events e c reply) clients at)
      (λ crash. cc (at, crash))
      has.ends.ends;
}

-- it returned one reply
pub one_return : (events : List Event) (p : ℕ) (one two : Reply) → IsReturned events p one → IsReturned events p two
    → one ≡ two
one_return events p one two is is_too =
    let end : HasEnd events p is.end = record { client = is.client; begins = is.begins; ends = is.ends } in
    let end_too : HasEnd events p is_too.end =
    record { client = is_too.client; begins = is_too.begins; ends = is_too.ends } in
    let same : is.end ≡ is_too.end = one_ending events p is.end is_too.end end end_too in
    cc (is.returns, is_too.returns, ap (slice_get events) same)

-- and where its end is something else, or there is none, it returned nothing
pub not_returned : (events : List Event) (p e : ℕ) (event : Event) → HasEnd events p e
    → slice_get events e ≡ Some event
    → ((client : Client) (reply : Reply) → event ≡ return_event client reply → ⊥)
    → (reply : Reply) → IsReturned events p reply → ⊥
not_returned events p e event has at other reply is =
    let end : HasEnd events p is.end = record { client = is.client; begins = is.begins; ends = is.ends } in
    let same : e ≡ is.end = one_ending events p e is.end has end in
    other is.client reply (same_Some _ _ (sym at ∙ ap (slice_get events) same ∙ is.returns))

pub none_returned : (events : List Event) (p : ℕ) → HasNone events p → (reply : Reply)
    → IsReturned events p reply → ⊥
none_returned events p has reply is =
    has.none is.end (record { client = is.client; begins = is.begins; ends = is.ends })

-- a call that returned is answered, if its reply is in the order
pub answered_from : (events : List Event) (order : List Entry) (p : ℕ) (reply : Reply) → IsReturned events p reply
    → IsTakenAs order p reply → IsAnswered events order p
answered_from events order p reply is taken = record {
  taken = λ e client other begins ends returns.
      let same : reply ≡ other = one_return events p reply other is
      (record { client = client; begins = begins; end = e; ends = ends; returns = returns }) in
      subst (IsTakenAs order p) same taken;
}

pub taken_if_answered : (events : List Event) (order : List Entry) (p : ℕ) (reply : Reply)
    → IsReturned events p reply → IsAnswered events order p → IsTakenAs order p reply
taken_if_answered events order p reply is answered =
    answered.taken is.end is.client reply is.begins is.ends is.returns

-- and one that returned nothing is
pub answered_nothing : (events : List Event) (order : List Entry) (p : ℕ)
    → ((reply : Reply) → IsReturned events p reply → ⊥) → IsAnswered events order p
answered_nothing events order p none = record {
  taken = λ e client reply begins ends returns. absurd (none reply
      (record { client = client; begins = begins; end = e; ends = ends; returns = returns }));
}
