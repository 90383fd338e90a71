-- Where a client's call ends in a history, and what became of it as the history grows.
use Rattle.std.proofs.Common.{◌≡◌, ◌⊎◌, ◌++◌, ℕ, zero, suc, ◌<◌, ◌≤◌, false, List, [], ◌∷◌, length, Option, Some, None, slice_get, inl, inr, refl, ap, ◌∙◌, subst, ⊎_elim, arith, true≢false}
use Rattle.std.proofs.lemmas.Bool.{cases_eq, cases_lt}
use Rattle.std.proofs.lemmas.Option.{slice_get_within}
use Rattle.words.specs.declared.call.Client.{Client}
use Rattle.words.specs.declared.call.Reply.{Reply}
use Rattle.events.specs.History.{EndsAt, HasNoEnd, IsEnd}
use Rattle.events.specs.declared.event.Event.{Event}
use Rattle.events.specs.declared.event.Event.TheVariants.{Call as call_event, Return as return_event}
use Rattle.events.specs.declared.event.Event.TheVariants.{Crash as crash_event, Ready as ready_event}
use Rattle.events.proofs.Facts.{get_before, get_longer, is_end_before, is_end_longer}
use Rattle.workers.specs.Lists.{HasEndedAs, HasNotReturned, HasReturned, IsCutOff, is_open}
use Rattle.workers.specs.declared.entry.End.{End}
use Rattle.workers.specs.declared.entry.End.TheVariants.{Answered, Interrupted, Open}

-- whether an event ends a call of the client
returned_of : (events : List Event) (client other : Client) (reply : Reply) (k : ℕ)
    → slice_get events k ≡ Some (return_event other reply) → (other.0 ≡ client.0) ⊎ (other.0 ≡ client.0 → ⊥)
    → EndsAt events client k ⊎ (EndsAt events client k → ⊥)
returned_of events client other reply k at (inl same) =
    let who : other ≡ client = ap (λ (n : ℕ). let x : Client = record { 0 = n } in x) same in
    inl (inl (reply, at ∙ ap (λ (c : Client). Some (return_event c reply)) who))
returned_of events client other reply k at (inr apart) = inr (λ ends. ⊎_elim
    (λ returned. let who : other ≡ client = cc (at, returned.1) in apart (ap (λ (c : Client). c.0) who))
    (λ crash. cc (at, crash)) ends)

ends_by : (events : List Event) (client : Client) (k : ℕ) (o : Option Event) → slice_get events k ≡ o
    → EndsAt events client k ⊎ (EndsAt events client k → ⊥)
ends_by events client k None at = inr (λ ends. ⊎_elim (λ returned. cc (at, returned.1)) (λ crash. cc (at, crash)) ends)
ends_by events client k (Some (call_event other number call)) at =
    inr (λ ends. ⊎_elim (λ returned. cc (at, returned.1)) (λ crash. cc (at, crash)) ends)
ends_by events client k (Some (return_event other reply)) at =
    returned_of events client other reply k at (cases_eq other.0 client.0)
ends_by events client k (Some crash_event) at = inl (inr at)
ends_by events client k (Some (ready_event told)) at =
    inr (λ ends. ⊎_elim (λ returned. cc (at, returned.1)) (λ crash. cc (at, crash)) ends)

-- the first end from p on, if there is one before q
abbrev pub HasEndOrNone : List Event → Client → ℕ → ℕ → Type 0
HasEndOrNone events client p q = ((e : ℕ) × IsEnd events client p e) ⊎ HasNoEnd events client p q

end_at : (events : List Event) (client : Client) (p q : ℕ) → HasNoEnd events client p q → (p < q) ⊎ (q ≤ p)
    → EndsAt events client q ⊎ (EndsAt events client q → ⊥) → HasEndOrNone events client p (suc q)
end_at events client p q none (inl lt) (inl ends) = inl (q, record { after = lt; ends = ends; first = none })
end_at events client p q none (inl lt) (inr not) = inr (λ k low high ends. elim (cases_lt k q) [
  | inl less ↦ none k low less ends
  | inr le ↦ let same : k ≡ q = omega arith in not (subst (EndsAt events client) same ends)
])
end_at events client p q none (inr le) ends = inr (λ k low high. absurd (omega arith))

pub end_or_none_before : (events : List Event) (client : Client) (p q : ℕ) → HasEndOrNone events client p q
end_or_none_before events client p zero = inr (λ k low high. absurd (omega arith))
end_or_none_before events client p (suc q) = elim (end_or_none_before events client p q) [
  | inl end ↦ inl end
  | inr none ↦
      end_at events client p q none (cases_lt p q) (ends_by events client q (slice_get events q) refl)
]

-- what stands in a longer history past the old one stands in what was added
pub get_added : {X : Type 0} (xs ys : List X) (p : ℕ) (x : X) → length xs ≤ p → slice_get (xs ++ ys) p ≡ Some x
    → (k : ℕ) × (slice_get ys k ≡ Some x)
get_added [] ys p x le at = (p, at)
get_added (y ∷ xs) ys zero x le at = absurd (omega arith)
get_added (y ∷ xs) ys (suc p) x le at = get_added xs ys p x (omega arith) at

-- no return of the client was added
abbrev pub NoReturnIn : Client → List Event → Type 0
NoReturnIn client rest = (k : ℕ) (reply : Reply) → slice_get rest k ≡ Some (return_event client reply) → ⊥

-- so what became of an old call stays what became of it
module _ (client : Client) (old rest : List Event) (place : ℕ) where
  pub returned_grown : (reply : Reply) → HasReturned old client place reply
      → HasReturned (old ++ rest) client place reply
  returned_grown reply returned = record {
    end = returned.end;
    ends =
        is_end_longer old rest client place returned.end (slice_get_within old returned.end _ returned.returns)
        returned.ends;
    returns = get_longer old rest returned.end _ returned.returns;
  }

  pub cut_off_grown : IsCutOff old client place → IsCutOff (old ++ rest) client place
  cut_off_grown cut = record {
    end = cut.end;
    ends = is_end_longer old rest client place cut.end (slice_get_within old cut.end _ cut.crash) cut.ends;
    crash = get_longer old rest cut.end _ cut.crash;
  }

  pub not_returned_grown : NoReturnIn client rest → HasNotReturned old client place
      → HasNotReturned (old ++ rest) client place
  not_returned_grown none not end reply ends returns = elim (cases_lt end (length old)) [
    | inl lt ↦
        not end reply (is_end_before old rest client place end lt ends)
        (get_before old rest end _ lt returns)
    | inr le ↦ let added = get_added old rest end (return_event client reply) le returns in none added.0 reply added.1
  ]

  -- one that has ended stays so whatever was added
  pub closed_grown : (end : End) → is_open end ≡ false → HasEndedAs old client place end
      → HasEndedAs (old ++ rest) client place end
  closed_grown Open closed ended = absurd (true≢false closed)
  closed_grown Interrupted closed ended = cut_off_grown ended
  closed_grown (Answered reply) closed ended = returned_grown reply ended

  pub ended_grown : NoReturnIn client rest → (end : End) → HasEndedAs old client place end
      → HasEndedAs (old ++ rest) client place end
  ended_grown none Open ended = not_returned_grown none ended
  ended_grown none Interrupted ended = cut_off_grown ended
  ended_grown none (Answered reply) ended = returned_grown reply ended
