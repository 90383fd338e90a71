-- A client that was admitted to an open slot.
use Rattle.std.proofs.Common.{◌≡◌, ℕ, nat_lt, is_ok, is_some, if◌then◌else◌, Option, Some, Result, Ok, Err, sym, ap, ◌∙◌}
use Rattle.words.specs.declared.call.Client.{Client}
use Rattle.words.specs.declared.refusal.Refusal.{Refusal}
use Rattle.words.specs.declared.refusal.Refusal.TheVariants.{NoClient, NotReady}
use Rattle.arena.specs.Shape.{Shape}
use Rattle.interleave.specs.State.{State}
use Rattle.named.specs.Acting.{IsSameBeside}
use Rattle.named.specs.Brokers.{Brokered, IsWell, admission, answer_at, answer_if, world_after, world_at}
use Rattle.named.specs.Slots.{acted, answered}
use Rattle.named.specs.declared.recovery.BrokerRecovery.{BrokerRecovery}
use Rattle.named.specs.Looking.{IsOpenTo}
use Rattle.session.proofs.brokers.Worlds.{clients_there}

-- a client that was admitted still is, while the queue of a slot is laid out in the same way and the broker is ready
pub still_admitted : (old new : Brokered) (client : Client) (slot : ℕ) (w v : State) → IsWell old → IsWell new
    → world_at old slot ≡ Some w → world_at new slot ≡ Some v → v.shape ≡ w.shape → new.recovery ≡ old.recovery
    → admission old client ≡ Ok tt → admission new client ≡ Ok tt
still_admitted old new client slot w v well next here there shape recovery ok =
    let counts : new.counts.clients ≡ old.counts.clients =
    sym (clients_there new next slot v there) ∙ ap (λ (s : Shape). s.clients) shape ∙ clients_there old well slot w here in
    ap (λ n. by n new.recovery) counts ∙ ap (by old.counts.clients) recovery ∙ ok
  where
    by : ℕ → Option BrokerRecovery → Result Unit Refusal
    by n recovery = if nat_lt client.0 n then (if is_some recovery then Err NotReady else Ok tt) else Err NoClient

-- where only one slot's queue acted, and again
pub alike_further : (old now new : Brokered) (slot : ℕ) → IsSameBeside slot old now → IsSameBeside slot now new
    → IsSameBeside slot old new
alike_further old now new slot one other = record {
  counts = other.counts ∙ one.counts;
  other_rooms = λ at ne. other.other_rooms at ne ∙ one.other_rooms at ne;
  others = λ at ne. other.others at ne ∙ one.others at ne;
  directory = other.directory ∙ one.directory;
  creation = other.creation ∙ one.creation;
  recovery = other.recovery ∙ one.recovery;
  directory_words = record {
    room = other.directory_words.room;
    cached = λ word below. other.directory_words.cached word below ∙ one.directory_words.cached word below;
    kept = λ word below. other.directory_words.kept word below ∙ one.directory_words.kept word below;
  };
}

-- what an act of a client comes to that is not refused before its queue is looked at
pub open_answer : {T : Type 0} (f : State → Result T Refusal) (b : Brokered) (slot : ℕ) (client : Client) (opened : IsOpenTo b slot client)
    → answer_at f b slot client ≡ f opened.world
open_answer f b slot client opened =
    ap (λ a. answer_if a (answered f (world_at b slot))) opened.admitted ∙ ap (answered f) opened.here

pub open_after : (f : State → State) (b : Brokered) (slot : ℕ) (client : Client) (opened : IsOpenTo b slot client)
    → world_after f b slot client ≡ Some (f opened.world)
open_after f b slot client opened =
    ap (λ (a : Result Unit Refusal). if is_ok a then acted f (world_at b slot) else world_at b slot) opened.admitted
    ∙ ap (acted f) opened.here
