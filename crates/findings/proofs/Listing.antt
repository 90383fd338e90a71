-- Which takes are listed.
use Rattle.std.proofs.Common.{ℕ, ◌≡◌, ◌≢◌, ◌<◌, List, Option, length, arith, min, get_or}
use Rattle.std.specs.Prelude.{AllPairs}
use Rattle.words.specs.declared.call.Call.TheVariants.{Deq}
use Rattle.words.specs.declared.told.Outcome.{Outcome}
use Rattle.events.specs.declared.event.Event.{Event}
use Rattle.findings.specs.declared.witness.Since.{Since}
use Rattle.findings.specs.Shows.{IsListed}
use Rattle.findings.proofs.Showing.{within_events}

-- where those of the events are listed, all are
pub listed_all : (events : List Event) (learnt : List (Option Outcome)) (puts takes : List ℕ) (since : Option Since)
    (bound n : ℕ) → n ≡ min bound (length events)
    → ((k : ℕ) → k < n → IsListed events learnt puts takes since k) → (take : ℕ) → take < bound
    → IsListed events learnt puts takes since take
listed_all events learnt puts takes since bound n is each take lt = record {
  contained = λ can.
      let within : take < length events = within_events events take Deq can.takes in
      (each take (omega arith)).contained can;
}

-- numbers of which each is below the later ones differ
pub pairs_differ : (xs : List ℕ) → AllPairs (λ x y. x < y) xs → AllPairs (λ x y. x ≢ y) xs
pairs_differ xs pairs i j d lt within same =
    let less : get_or xs i d < get_or xs j d = pairs i j d lt within in omega arith
