-- Tables of a recording are its calls.
use Rattle.std.proofs.Common.{ℕ, ◌≡◌, ◌<◌, ◌≤◌, ◌⊎◌, List, Option, Some, None, length, get_or, inl, inr, refl, sym, ◌∙◌}
use Rattle.std.proofs.Common.{subst, arith}
use Rattle.std.proofs.lemmas.Bool.{cases_lt}
use Rattle.std.proofs.lemmas.List.{get_or_past, get_or_default}
use Rattle.words.specs.declared.call.Call.{Call}
use Rattle.words.specs.declared.told.Outcome.{Outcome}
use Rattle.events.specs.declared.event.Event.{Event}
use Rattle.events.specs.Replay.{call_at}
use Rattle.findings.specs.Findings.{HasNoOrder}
use Rattle.findings.specs.FourPatterns.{IsOfQueue, HasPattern, HasOrder}
use Rattle.findings.proofs.Offered.{Means, means_none, HasMeaning, calls_of, are_calls, order, explains, pattern_is, end_at}
use Rattle.findings.proofs.Offered.{place_end, pattern_refutes, within_events}
use Rattle.windows.specs.Runs.{Step}
use Rattle.windows.specs.Calls.{Calls, AreCalls, Explain, Pattern}
use Rattle.deciding.specs.declared.known.Knows.{Knows}
use Rattle.deciding.specs.declared.known.Knows.TheVariants.{NoCall}
use Rattle.deciding.specs.Table.{known_of, calls_by}
use Rattle.deciding.specs.Tables.{HasEach}
use Rattle.deciding.specs.AllMean.{AllMean}

no_call_behind : (events : List Event) (p : ℕ) → length events ≤ p → call_at events p ≡ None
no_call_behind events p le = go (call_at events p) refl
  where
    go : (call : Option Call) → call_at events p ≡ call → call_at events p ≡ None
    go None is = is
    go (Some call) is = absurd (let lt : p < length events = within_events events p call is in omega (arith, lt, le))

module _ (events : List Event) (learnt : List (Option Outcome)) (knows : List Knows) (ends : List ℕ)
    (all : AllMean events learnt knows) (each : HasEach (end_at events) (length events) ends) where
  means_at : (p : ℕ) → (p < length events) ⊎ (length events ≤ p)
      → Means events learnt p (known_of (get_or knows p NoCall))
  means_at p (inl lt) = all.each p lt
  means_at p (inr le) =
      let past : get_or knows p NoCall ≡ NoCall =
      get_or_past knows p NoCall (let long : length knows ≡ length events = all.long in omega (arith, long, le)) in
      subst (λ (k : Knows). Means events learnt p (known_of k)) (sym past)
      (means_none (no_call_behind events p le))

  meaning : (p : ℕ) → HasMeaning events learnt p
  meaning p = record {
    known = known_of (get_or knows p NoCall);
    means = means_at p (cases_lt p (length events));
  }

  end_same : (p : ℕ) → (p < length events) ⊎ (length events ≤ p)
      → get_or ends p (length knows) ≡ end_at events p
  end_same p (inl lt) =
      get_or_default ends p (length knows) 0 (let long : length ends ≡ length events = each.long in omega (arith, long, lt))
      ∙ each.each p lt
  end_same p (inr le) =
      get_or_past ends p (length knows) (let long : length ends ≡ length events = each.long in omega (arith, long, le))
      ∙ all.long ∙ sym ((place_end events p).none (no_call_behind events p le))

  same_calls : calls_by knows ends ≡ calls_of events learnt meaning
  unfolding meaning
  same_calls = λ i. record {
    places = all.long i;
    known = λ p. known_of (get_or knows p NoCall);
    end = λ p. end_same p (cases_lt p (length events)) i;
  }

  pub are : AreCalls (calls_by knows ends)
  are = subst (λ (c : Calls). AreCalls c) (sym same_calls) (are_calls events learnt meaning)

  pub order_if : IsOfQueue events learnt → (steps : List Step) × Explain (calls_by knows ends) steps
      → HasOrder events learnt
  order_if is explained = has (subst (λ (c : Calls). (steps : List Step) × Explain c steps) same_calls explained)
    where
      has : (steps : List Step) × Explain (calls_of events learnt meaning) steps → HasOrder events learnt
      has (steps, explain) = record {
        order = order events learnt is meaning steps explain;
        explains = explains events learnt is meaning steps explain;
      }

  pub pattern_if : IsOfQueue events learnt → Pattern (calls_by knows ends) → HasPattern events learnt
  pattern_if is pattern =
      pattern_is events learnt is meaning (subst (λ (c : Calls). Pattern c) same_calls pattern)

pub none_if : (events : List Event) (learnt : List (Option Outcome)) → IsOfQueue events learnt
    → HasPattern events learnt → HasNoOrder events learnt
none_if events learnt is pattern =
    record { none = λ order explains. pattern_refutes events learnt is.distinct pattern order explains }
