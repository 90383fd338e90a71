-- No recovery of a broker of so many clients and records has more steps left.
use Rattle.std.proofs.Common.{◌≡◌, ℕ, ◌+◌, ◌*◌, ◌≤◌, List, [], ◌∷◌, length, Option, Some, None, sym, ap, subst, ◌∙◌, arith}
use Rattle.std.specs.List.{All}
use Rattle.std.proofs.lemmas.List.Sums.{sum_by-le}
use Rattle.std.proofs.lemmas.List.FromFn.{length-map-range_with_len}
use Rattle.std.proofs.lemmas.List.Elements.{All-cons, All-nil}
use Rattle.words.specs.declared.limits.TheConstants.{STEPS_BESIDES, STEPS_PER_CLIENT, STEPS_PER_RECORD}
use Rattle.arena.specs.Broker.{broker_size}
use Rattle.std.proofs.Math.Nat.{mul-le-mul_left}
use Rattle.arena.specs.Limits.{AreCounts}
use Rattle.arena.specs.Shape.{Counts}
use Rattle.arena.specs.declared.broker.TheConstants.{SLOTS}
use Rattle.directory.specs.Queue.{directory_of, slot_in}
use Rattle.directory.specs.declared.queue.Queue.{Queue}
use Rattle.named.specs.Brokers.{Brokered, IsWell}
use Rattle.named.specs.Lasting.{most_kept, most_of, steps_left}
use Rattle.named.proofs.downtime.StepsLeft.{few_left}

-- those of one queue
abbrev pub most_each : Counts → ℕ
most_each c = STEPS_PER_RECORD * (c.clients * c.records) + STEPS_PER_CLIENT * c.clients + STEPS_BESIDES

most_one : (c : Counts) (place : Option Queue) → most_of c place ≤ most_each c
most_one c None = omega arith
most_one c (Some queue) = omega arith

all_most : (c : Counts) (places : List (Option Queue)) → All (λ place. most_of c place ≤ most_each c) places
all_most c [] = All-nil (λ place. most_of c place ≤ most_each c)
all_most c (place ∷ places) =
    All-cons (λ place. most_of c place ≤ most_each c) place places (most_one c place) (all_most c places)

eight : (kept : List ℕ) → length (directory_of kept) ≡ SLOTS
unfolding directory_of
eight kept = length-map-range_with_len (slot_in kept) 0 SLOTS

pub recovery_most : (b : Brokered) → IsWell b → steps_left b ≤ 32 + SLOTS * most_each b.counts
recovery_most b well =
    let some = sum_by-le (most_of b.counts) (most_each b.counts) (directory_of b.words.kept) (all_most b.counts (directory_of b.words.kept)) in
    let kept : most_kept b ≤ SLOTS * most_each b.counts =
    subst (λ (n : ℕ). most_kept b ≤ n * most_each b.counts) (eight b.words.kept) some in
    let left = few_left b well in
    omega (arith, kept, left)

-- the kept words of brokers with the same counts are equally many
pub equally_long : (old new : Brokered) → IsWell old → IsWell new → new.counts ≡ old.counts
    → length old.words.kept ≡ length new.words.kept
equally_long old new well after same =
    well.room.kept ∙ (ap (λ (c : Counts). broker_size c) (sym same) ∙ sym after.room.kept)

-- and they are few
pub few_each : (clients records : ℕ) → AreCounts clients records → clients * records ≤ 65536
few_each clients records counts =
    omega (arith, mul-le-mul_left clients counts.few_records, counts.few_clients)

pub few_product : (clients records many each : ℕ) → AreCounts many each → clients ≡ many → records ≡ each
    → (clients * records ≤ 65536) × (clients ≤ 16)
few_product clients records many each counts same alike =
    let less : many * each ≤ 65536 = few_each many each counts in
    (rw (same, alike) less, rw same counts.few_clients)
