-- Replies that fit at each place make a recording one of a queue.
use Rattle.std.proofs.Common.{ℕ, ◌<◌, List, Option, length}
use Rattle.words.specs.declared.call.Call.TheVariants.{Enq, Deq}
use Rattle.words.specs.declared.told.Outcome.{Outcome}
use Rattle.events.specs.declared.event.Event.{Event}
use Rattle.findings.specs.Filling.{IsRecordedOfAny}
use Rattle.findings.specs.Findings.{HasDistinctValues}
use Rattle.findings.specs.FourPatterns.{HasFittingReply, IsOfQueue}
use Rattle.findings.proofs.Showing.{within_events}

pub of_queue : (events : List Event) (learnt : List (Option Outcome)) → IsRecordedOfAny events learnt
    → HasDistinctValues events → ((p : ℕ) → p < length events → HasFittingReply events learnt p)
    → IsOfQueue events learnt
of_queue events learnt recorded distinct fitting = record {
  recorded = recorded;
  distinct = distinct;
  puts = λ p value reply puts known.
      (fitting p (within_events events p (Enq value) puts)).fits (Enq value) reply puts known;
  takes = λ p reply takes known. (fitting p (within_events events p Deq takes)).fits Deq reply takes known;
}
