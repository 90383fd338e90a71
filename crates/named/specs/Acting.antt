-- A client's act on the queue of a slot.
use Rattle.std.specs.Prelude.{◌≡◌, ◌≢◌, ◌≤◌, ◌+◌, ◌⊎◌, ℕ, true, Result, Err, IfOk, IfErr}
use Rattle.words.specs.declared.call.Client.{Client}
use Rattle.words.specs.declared.call.Reply.{Reply}
use Rattle.words.specs.declared.limits.TheConstants.{MAX_STEPS_ALONE}
use Rattle.words.specs.declared.refusal.Refusal.{Refusal}
use Rattle.words.specs.declared.refusal.Refusal.TheVariants.{NoMemory}
use Rattle.directory.specs.UnderWay.{HaveSameDirectory}
use Rattle.interleave.specs.Calls.{is_no_memory}
use Rattle.interleave.specs.Rules.{Rule, waiting_in}
use Rattle.interleave.specs.State.{after_alone, IsAnsweredAlone}
use Rattle.named.specs.Slots.{acted, IfWorld}
use Rattle.named.specs.Brokers.{Brokered, answer_at, quiet, room_at, world_after, world_at}

-- it was made or refused by the rule of the queue's world, once the client was admitted; for want of memory it was
-- refused only where there was no room, of which it used up that of one act at most, and none where it was refused
pub record IsActAt {A : Type 0} (rule : Rule A) (slot : ℕ) (client : Client) (old : Brokered) (result : Result A Refusal)
    (new : Brokered) : Type 0 where
  pub world : world_at new slot ≡ world_after (rule.leaves (is_no_memory result)) old slot client
  pub answers : result ≡ answer_at (rule.answers (is_no_memory result)) old slot client
  pub full : is_no_memory result ≡ true → room_at old slot ≡ 0
  pub room : room_at old slot ≤ room_at new slot + 1
  pub spare : IfErr result (λ e. room_at old slot ≤ room_at new slot)

-- the client's call went on alone until it answered; or it cannot go on, or there was no room, and nothing changed
pub record IsAloneAt (slot : ℕ) (client : Client) (old : Brokered) (result : Result (Reply × ℕ) Refusal) (new : Brokered)
    : Type 0 where
  pub refused : (refusal : Refusal) → answer_at (λ w. waiting_in w client) old slot client ≡ Err refusal
      → result ≡ Err refusal
  pub errors : IfErr result (λ e. (e ≡ NoMemory) ⊎ (answer_at (λ w. waiting_in w client) old slot client ≡ Err e))
  pub full : is_no_memory result ≡ true → room_at old slot ≡ 0
  pub same : IfErr result (λ e. world_at new slot ≡ world_at old slot)
  pub steps : IfOk result (λ answer. answer.1 ≤ MAX_STEPS_ALONE)
  pub answer : IfOk result (λ answer. IfWorld (world_at old slot) (λ w. IsAnsweredAlone w client answer.1 answer.0))
  pub world : IfOk result (λ answer. world_at new slot ≡ acted (λ w. after_alone answer.1 w client) (world_at old slot))
  pub room : room_at old slot ≤ room_at new slot + 1
  pub spare : IfErr result (λ e. room_at old slot ≤ room_at new slot)

-- nothing else changed: the other queues, but for the count of accesses, the counts, the directory, and what is under
-- way of the broker's own
pub record IsSameBeside (slot : ℕ) (old new : Brokered) : Type 0 where
  pub counts : new.counts ≡ old.counts
  pub other_rooms : (other : ℕ) → other ≢ slot → room_at new other ≡ room_at old other
  pub others : (other : ℕ) → other ≢ slot → quiet (world_at new other) ≡ quiet (world_at old other)
  pub directory : new.directory ≡ old.directory
  pub creation : new.creation ≡ old.creation
  pub recovery : new.recovery ≡ old.recovery
  pub directory_words : HaveSameDirectory old.words new.words
