-- What a call prepares in its record before it acts: words that each take a store, a flush and a fence, in order.
use Rattle.std.specs.Prelude.{◌≡◌, ℕ, ◌+◌, ◌≤◌, ◌<◌, List, [], ◌∷◌, Option, Some, None, slice_get}
use Rattle.words.specs.PlainQueue.{Value, FitsValue}
use Rattle.words.specs.declared.call.Kind.{Kind}
use Rattle.words.specs.declared.call.Kind.TheVariants.{Durable, Log}
use Rattle.words.specs.declared.call.Call.{Call}
use Rattle.words.specs.declared.call.Call.TheVariants.{Enq, Deq}
use Rattle.words.specs.declared.limits.TheConstants.{MAX_CALL_NUMBER}
use Rattle.arena.specs.Shape.{Shape, record_of}
use Rattle.arena.specs.declared.codes.TheConstants.{ENQUEUE_KIND, DEQUEUE_KIND}
use Rattle.arena.specs.Place.{IsClient, IsRecord}
use Rattle.arena.specs.declared.place.Write.{Write}
use Rattle.arena.specs.declared.place.Part.{Part}
use Rattle.arena.specs.declared.place.Part.TheVariants.{Length, First, Second, Third}
use Rattle.arena.specs.Words.{item_part}
use Rattle.arena.specs.declared.place.Place.{Place}
use Rattle.arena.specs.declared.place.Place.TheVariants.{Announcement, Bump, Item, Insert, Number, EntryKind, EntryNode}
use Rattle.persist.specs.Memory.{Access, Store, Flush, Fence}
use Rattle.stepper.specs.declared.resume.After.{After}
use Rattle.stepper.specs.declared.resume.After.TheVariants.{More, Done}
use Rattle.stepper.specs.declared.prepare.Begun.{Begun}
use Rattle.stepper.specs.declared.prepare.Prepare.{Prepare}
use Rattle.stepper.specs.declared.prepare.Prepare.TheVariants.{Store as store_next, Flush as flush_next, Fence as fence_next}

abbrev pub write : Place → ℕ → Write
write place value = record { place = place; value = value }

-- that the record is used
abbrev pub bump : Begun → Write
bump b = write (Bump b.client) (b.used + 1)

-- that the record is the client's last
abbrev pub announcement : Begun → Write
announcement b = write (Announcement b.client) b.token.0

-- a part of the message, in the node of the record
abbrev pub part_write : Begun → Value → Part → Write
part_write b value part = write (Item (record { 0 = b.token.0 }) part) (item_part value part)

-- all four parts of a message, also those that are 0, the length first; what comes then
abbrev pub item_writes : Begun → Value → List Write → List Write
item_writes b value rest =
    part_write b value Length ∷ part_write b value First ∷ part_write b value Second ∷ part_write b value Third ∷ rest

abbrev pub preparation_from : Kind → Call → Begun → List Write
preparation_from Durable (Enq value) b = bump b ∷ item_writes b value []
preparation_from Durable Deq b = bump b ∷ announcement b ∷ []
preparation_from Log (Enq value) b =
    bump b ∷ write (Number b.token) b.number ∷ write (EntryKind b.token) ENQUEUE_KIND
    ∷ write (EntryNode b.token) b.token.0
    ∷ item_writes b value (write (Insert (record { 0 = b.token.0 })) b.token.0 ∷ announcement b ∷ [])
preparation_from Log Deq b =
    bump b ∷ write (Number b.token) b.number ∷ write (EntryKind b.token) DEQUEUE_KIND ∷ announcement b ∷ []

abbrev pub preparation_of : Kind → Begun → List Write
preparation_of kind b = preparation_from kind b.call b

-- what comes with the write at this index; after the last the record is prepared
abbrev pub prepared_with : Begun → ℕ → Option Write → After Prepare Begun
prepared_with b index (Some w) = More (store_next (record { begun = b; index = index; write = w }))
prepared_with b index None = Done b

abbrev pub prepared_to : Kind → Begun → ℕ → After Prepare Begun
prepared_to kind b index = prepared_with b index (slice_get (preparation_of kind b) index)

-- the one access of each waiting point
abbrev pub access_of : Prepare → Access Place
access_of (store_next p) = Store p.write.place p.write.value
access_of (flush_next p) = Flush p.write.place
access_of (fence_next p) = Fence p.write.place

-- what comes then
abbrev pub successor : Kind → Prepare → After Prepare Begun
successor kind (store_next p) = More (flush_next (record { begun = p.begun; index = p.index; write = p.write }))
successor kind (flush_next p) = More (fence_next (record { begun = p.begun; index = p.index; write = p.write }))
successor kind (fence_next p) = prepared_to kind p.begun (p.index + 1)

-- a call that took a record of its client's
pub record IsBegun (s : Shape) (b : Begun) : Type 0 where
  pub client : IsClient s b.client.0
  pub unused : b.used < s.records
  pub is_record : IsRecord s b.token.0
  pub own : b.token.0 ≡ record_of s b.client.0 b.used
  pub number : b.number ≤ MAX_CALL_NUMBER
  pub value : (v : Value) → b.call ≡ Enq v → FitsValue v

-- the write in hand is the one at the index
pub record IsPreparing (s : Shape) (b : Begun) (index : ℕ) (w : Write) : Type 0 where
  pub begun : IsBegun s b
  pub in_hand : slice_get (preparation_of s.kind b) index ≡ Some w

-- what a waiting point holds is in range
abbrev pub IsPoint : Shape → Prepare → Type 0
IsPoint s (store_next p) = IsPreparing s p.begun p.index p.write
IsPoint s (flush_next p) = IsPreparing s p.begun p.index p.write
IsPoint s (fence_next p) = IsPreparing s p.begun p.index p.write
