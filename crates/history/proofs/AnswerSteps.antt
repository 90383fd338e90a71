-- A client's pass over the events: which of its complete calls are in the order.
use Rattle.std.proofs.Common.{ℕ, ◌≡◌, ◌<◌, ◌≤◌, ◌+◌, List, Some, slice_get, get_or, length, inl, refl, ap, arith, subst}
use Rattle.std.proofs.Common.{sym, ◌∙◌, ⊎_elim}
use Rattle.std.specs.Prelude.{EachIndex}
use Rattle.std.proofs.lemmas.Bool.{cases_lt}
use Rattle.std.proofs.lemmas.Option.{slice_get_within, slice_get-get_or, get_or_from_slice_get}
use Rattle.words.specs.declared.call.Client.{Client}
use Rattle.words.specs.declared.call.Reply.{Reply}
use Rattle.events.specs.declared.event.Event.{Event}
use Rattle.events.specs.declared.event.Entry.{Entry}
use Rattle.events.specs.Explains.{IsAnswered, KeepsPrecedence}
use Rattle.events.specs.History.{BeginsAt, EndsAt, ReturnAt, HasNoEnd, IsEnd, IsOpenFrom, IsUnderWay, IsHistory}
use Rattle.events.specs.Orders.{IsTakenAs, IsNew}
use Rattle.history.specs.Sweeps.{HasEndedEntry, IsAnsweredTo, IsAnsweredOf, IsNextEntry, HasNoEntryFrom}
use Rattle.events.proofs.Facts.{no_two_open, one_reply, taken_at}

ended_longer : (events : List Event) (order : List Entry) (client : Client) (k from : ℕ)
    → HasEndedEntry events order client k from → HasEndedEntry events order client (k + 1) from
ended_longer events order client k from has =
    record {
      index = has.index;
      last = has.last;
      entry = has.entry;
      at = has.at;
      begins = has.begins;
      end = has.end;
      ends = has.ends;
      before = omega (arith, has.before);
    }

-- a call of the client begins
pub pass_call : (events : List Event) (order : List Entry) (client : Client) (k call from : ℕ)
    → IsAnsweredTo events order client k call from → BeginsAt events client k
    → IsAnsweredTo events order client (k + 1) k from
pass_call events order client k call from so_far begins = record {
  last = λ way. record { begins = begins; no_end = λ n low high ends. absurd (omega arith) };
  before = λ way. omega arith;
  answered = λ p e reply lt begun end returned.
      ⊎_elim
      (λ old. so_far.answered p e reply old begun end returned)
      (λ new. let same : e ≡ k = omega arith in let at : ReturnAt events k client reply =
      subst (λ (n : ℕ). ReturnAt events n client reply) same returned in cc (at, begins.1.1))
      (cases_lt e k);
  ended = λ some. ended_longer events order client k from (so_far.ended some);
}

-- nothing of the client begins or returns
pub pass_other : (events : List Event) (order : List Entry) (client : Client) (k call from : ℕ)
    → IsAnsweredTo events order client k call from → (BeginsAt events client k → ⊥)
    → ((reply : Reply) → ReturnAt events k client reply → ⊥)
    → IsAnsweredTo events order client (k + 1) call from
pass_other events order client k call from so_far no_call no_return =
    let earlier : (way : IsUnderWay events client (k + 1))
    → way.place < k = λ way. ⊎_elim (λ lt. lt)
    (λ le. let same : way.place ≡ k = omega (arith, way.before) in
    absurd (no_call (subst (BeginsAt events client) same way.open_from.begins))) (cases_lt way.place k) in
    let still : (way : IsUnderWay events client (k + 1)) → IsUnderWay events client k =
    λ way. record {
      place = way.place;
      before = earlier way;
      open_from = record {
        begins = way.open_from.begins;
        no_end = λ n low high. way.open_from.no_end n low (omega arith);
      };
    } in
    record {
      last = λ way. record {
        begins = (so_far.last (still way)).begins;
        no_end = λ n low high ends.
            ⊎_elim
            (λ old. (so_far.last (still way)).no_end n low old ends)
            (λ new. let same : n ≡ k = omega arith in
            way.open_from.no_end k (earlier way) (omega arith) (subst (EndsAt events client) same ends))
            (cases_lt n k);
      };
      before = λ way. let lt : call < k = so_far.before (still way) in omega arith;
      answered = λ p e reply lt begun end returned.
          ⊎_elim
          (λ old. so_far.answered p e reply old begun end returned)
          (λ new. let same : e ≡ k = omega arith in
          absurd (no_return reply (subst (λ (n : ℕ). ReturnAt events n client reply) same returned)))
          (cases_lt e k);
      ended = λ some. ended_longer events order client k from (so_far.ended some);
    }

-- the client's call returns: it is the last one, which ends here
ends_here : (events : List Event) (order : List Entry) (client : Client) (k call from : ℕ) (reply : Reply)
    → IsHistory events → IsAnsweredTo events order client k call from → ReturnAt events k client reply
    → IsEnd events client call k
ends_here events order client k call from reply history so_far returned =
    let way : IsUnderWay events client k = (history.places k _ returned).0 in
    record { after = so_far.before way; ends = inl (reply, returned); first = (so_far.last way).no_end }

-- and is in the order with its reply
pub pass_return : (events : List Event) (order : List Entry) (client : Client) (k call from after : ℕ) (reply : Reply)
    → IsHistory events → IsAnsweredTo events order client k call from → ReturnAt events k client reply
    → IsNextEntry order from call reply after → IsAnsweredTo events order client (k + 1) call after
pass_return events order client k call from after reply history so_far returned taken =
    let way : IsUnderWay events client k = (history.places k _ returned).0 in
    let end : IsEnd events client call k = ends_here events order client k call from reply history so_far returned in
    let begins : BeginsAt events client call = (so_far.last way).begins in
    let over : IsUnderWay events client (k + 1) → ⊥ = λ later.
    ⊎_elim
    (λ lt. later.open_from.no_end k lt (omega arith) end.ends)
    (λ le. let same : later.place ≡ k = omega (arith, later.before) in let again : BeginsAt events client k =
    subst (BeginsAt events client) same later.open_from.begins in cc (again.1.1, returned))
    (cases_lt later.place k) in
    record {
      last = λ later. absurd (over later);
      before = λ later. absurd (over later);
      answered = λ p e other lt begun ended at.
          ⊎_elim
          (λ old. so_far.answered p e other old begun ended at)
          (λ new.
          let same : e ≡ k = omega arith in
          let here : ReturnAt events k client other = subst (λ (n : ℕ). ReturnAt events n client other) same at in
          let one_reply : reply ≡ other = cc (here, returned) in
          let still : IsOpenFrom events client k p =
          record { begins = begun; no_end = subst (HasNoEnd events client p) same ended.first } in
          let call_lt : call < k = so_far.before way in
          let p_lt : p < k = omega (arith, ended.after, same) in
          let one_call : call ≡ p = ⊎_elim
          (λ less. absurd (no_two_open events history.places client k call p (so_far.last way) still p_lt less))
          (λ le. ⊎_elim (λ less. absurd (no_two_open events history.places client k p call still
          (so_far.last way) call_lt less)) (λ more. omega arith) (cases_lt p call))
          (cases_lt call p) in
          taken_at order taken.index p other taken.entry taken.at (taken.place ∙ one_call) (taken.same ∙ one_reply))
          (cases_lt e k);
      ended = λ some. record {
        index = taken.index;
        last = taken.last;
        entry = taken.entry;
        at = taken.at;
        begins = subst (BeginsAt events client) (sym taken.place) begins;
        end = k;
        ends = subst (λ (n : ℕ). IsEnd events client n k) (sym taken.place) end;
        before = omega arith;
      };
    }

-- or is not
pub pass_fails : (events : List Event) (order : List Entry) (client : Client) (k call from : ℕ) (reply : Reply)
    → IsHistory events → KeepsPrecedence events order → IsAnsweredTo events order client k call from
    → ReturnAt events k client reply → HasNoEntryFrom order from call reply → IsAnsweredOf events order client
    → ⊥
pass_fails events order client k call from reply history keeps so_far returned out answered =
    let way : IsUnderWay events client k = (history.places k _ returned).0 in
    let begins : BeginsAt events client call = (so_far.last way).begins in
    let end : IsEnd events client call k = ends_here events order client k call from reply history so_far returned in
    let taken : IsTakenAs order call reply = (answered.each call begins).taken k client reply begins end returned in
    let at : slice_get order taken.0 ≡ Some (record { place = call; reply = reply }) =
    slice_get-get_or order taken.0 _ taken.1 ∙ ap Some taken.2 in
    ⊎_elim
    (λ lt.
    let has : HasEndedEntry events order client k from = so_far.ended (omega arith) in
    let first : has.end < call = ⊎_elim (λ less. less)
    (λ le. ⊎_elim (λ less. absurd (end.first has.end less has.before has.ends.ends))
    (λ more. let same : has.end ≡ call = omega arith in
    absurd (⊎_elim (λ ended. not_both events client call begins
    (subst (EndsAt events client) same has.ends.ends))
    (λ ended. not_both events client call begins (subst (EndsAt events client) same has.ends.ends))
    has.ends.ends)) (cases_lt call has.end)) (cases_lt has.end call) in
    let order_lt : has.index < taken.0 = keeps has.index taken.0 has.entry _ has.at at
    (record { client = client; begins = has.begins; end = has.end; ends = has.ends; before = first }) in
    omega (arith, has.last, order_lt, lt))
    (λ le. out.none taken.0 _ le at refl refl)
    (cases_lt taken.0 from)
  where
    not_both : (events : List Event) (client : Client) (p : ℕ) → BeginsAt events client p → EndsAt events client p → ⊥
    not_both events client p begins ends = ⊎_elim (λ returned. cc (begins.1.1, returned.1))
        (λ crash. cc (begins.1.1, crash)) ends

pub pass_all : (events : List Event) (order : List Entry) (client : Client) (n call from : ℕ)
    → length events ≤ n → IsAnsweredTo events order client n call from → IsAnsweredOf events order client
pass_all events order client n call from all so_far = record {
  each = λ p begins. record {
    taken = λ e other reply begun end returned.
        let same : other ≡ client = cc (begins.1.1, begun.1.1) in
        let within : e < length events = slice_get_within events e _ returned in
        so_far.answered p e reply (omega arith) begins (subst (λ (c : Client). IsEnd events c p e) same end)
        (subst (λ (c : Client). ReturnAt events e c reply) same returned);
  };
}

-- each client's calls are all calls
pub answered_from_clients : (events : List Event) (order : List Entry) → IsHistory events
    → ((client : Client) → client.0 < 16 → IsAnsweredOf events order client)
    → EachIndex events (λ p. IsAnswered events order p)
answered_from_clients events order history each p lt = record {
  taken = λ e client reply begins end returned.
      ((each client (history.places p _ begins.1.1).0).each p begins).taken e client reply begins end returned;
}

pub answered_of_client : (events : List Event) (order : List Entry) (client : Client)
    → EachIndex events (λ p. IsAnswered events order p) → IsAnsweredOf events order client
answered_of_client events order client each =
    record { each = λ p begins. each p (slice_get_within events p _ begins.1.1) }

-- where the first entry of a call has another reply, none has this one
pub not_taken_here : (order : List Entry) (from i p : ℕ) (reply : Reply) (d : Entry)
    → EachIndex order (λ j. IsNew order j) → i < length order → (get_or order i d).place ≡ p
    → ((get_or order i d).reply ≡ reply → ⊥) → HasNoEntryFrom order from p reply
not_taken_here order from i p reply d once within place other = record {
  none = λ k entry le at same_place same_reply.
      let here : IsTakenAs order p (get_or order i d).reply =
      taken_at order i p _ (get_or order i d) (slice_get-get_or order i d within) place refl in
      other (one_reply order once p (get_or order i d).reply reply here
      (taken_at order k p reply entry at same_place same_reply));
}

-- one entry more is of another call
pub none_more : (order : List Entry) (from i p : ℕ) (d : Entry) → i < length order
    → ((k : ℕ) (entry : Entry) → k < i → from ≤ k → slice_get order k ≡ Some entry → entry.place ≡ p → ⊥)
    → ((get_or order i d).place ≡ p → ⊥) → (k : ℕ) (entry : Entry) → k < i + 1 → from ≤ k
    → slice_get order k ≡ Some entry → entry.place ≡ p → ⊥
none_more order from i p d within none other k entry lt le at place =
    ⊎_elim
    (λ old. none k entry old le at place)
    (λ new.
    let same : k ≡ i = omega arith in
    let is : get_or order i d ≡ entry = get_or_from_slice_get order i entry d (ap (slice_get order) (sym same) ∙ at) in
    other (ap (λ (e : Entry). e.place) is ∙ place))
    (cases_lt k i)
