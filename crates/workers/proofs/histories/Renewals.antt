-- What a renewal makes of the histories, and why it is refused.
use Rattle.std.proofs.Common.{◌≡◌, ◌∙◌, ◌<◌, ℕ, Bool, true, false, [], Option, Some, None, Result, Ok, Err, refl, sym, ap, subst}
use Rattle.std.specs.Prelude.{◌||◌, ◌&&◌, IfErr, is_some, not, if◌then◌else◌}
use Rattle.std.specs.List.{list_any}
use Rattle.words.specs.declared.refusal.Refusal.{Refusal}
use Rattle.words.specs.declared.refusal.Refusal.TheVariants.{Busy, NoMemory, NoQueue, NoRoom, NotReady}
use Rattle.named.specs.Memory.{Words}
use Rattle.arena.specs.Shape.{Counts}
use Rattle.arena.specs.declared.broker.SlotId.{SlotId}
use Rattle.arena.specs.declared.broker.TheConstants.{SLOTS}
use Rattle.directory.specs.Directory.{HasQueue}
use Rattle.directory.specs.Queue.{slot_in}
use Rattle.directory.specs.declared.creation.Creation.{Creation}
use Rattle.directory.specs.declared.queue.Queue.{Queue}
use Rattle.interleave.specs.State.{State}
use Rattle.named.specs.Booting.{IsBooted, world_booted}
use Rattle.named.specs.Brokers.{Brokered, IsWell, is_creating, is_down, world_at}
use Rattle.named.specs.Renewing.{IsRenewedAt, IsWhyNotRenewedAt, MayRenew}
use Rattle.named.specs.Rotating.{has_calls_in, rotate_result}
use Rattle.named.specs.Slots.{IsWhyUnread}
use Rattle.named.proofs.Facts.{listed_open, open_below}
use Rattle.session.specs.Sessions.{Sessioned}
use Rattle.workers.specs.Creating.{IsCreationKnown}
use Rattle.workers.specs.Following.{Guarded, IsGuardedWell}
use Rattle.workers.specs.Lists.{events_at, events_of}
use Rattle.workers.specs.Refusals.{IsWhyNotRenewed, IsWhyNoUsage}
use Rattle.workers.specs.Usage.{IsUsageOf}
use Rattle.workers.specs.declared.locked.Creating.{Creating}
use Rattle.workers.specs.declared.looks.Usage.{Usage}
use Rattle.workers.proofs.seats.FirstSession.{all_clients}
use Rattle.workers.proofs.brokers.Comings.{counts_through, queues_through}

-- nothing happened yet in a queue that begins
booted_empty : (c : Counts) (slot : ℕ) (ws : Words) (place : Option Queue) (now : Option State)
    → now ≡ world_booted c slot ws place → events_of now ≡ []
booted_empty c slot ws None now is = ap events_of is
booted_empty c slot ws (Some queue) now is = ap events_of is

booted_at : (ws : Words) (b : Brokered) → IsBooted ws b → (at : ℕ) → at < SLOTS → events_at b at ≡ []
booted_at ws b booted at below =
    booted_empty b.counts at ws (slot_in ws.kept at) (world_at b at) (booted.worlds at below)

empty_if_open : (now : Option State) → ((w : State) → now ≡ Some w → events_of now ≡ []) → events_of now ≡ []
empty_if_open None how = refl
empty_if_open (Some w) how = how w refl

pub renewed_empty : (old new : Brokered) (slot : ℕ) → IsWell new → IsRenewedAt old new slot → (at : ℕ)
    → events_at new at ≡ []
renewed_empty old new slot well renewed at =
    empty_if_open (world_at new at) (λ w there. booted_at _ new renewed.booted at (open_below new well at w there))

-- no creation is under way in a broker that begins, as none was before
creation_none : (b : Brokered) → b.creation ≡ None → is_creating b ≡ false
creation_none b none = go (is_down b) (ap (λ (o : Option Creation). not (is_down b) && is_some o) none)
  where
    go : (down : Bool) → is_creating b ≡ (not down && false) → is_creating b ≡ false
    go true is = is
    go false is = is

none_before : (b : Brokered) → rotate_result false b ≡ Ok tt → is_creating b ≡ false
none_before b rests = go (is_down b) b.creation (list_any has_calls_in b.slots) rests
  where
    go : (down : Bool) (creation : Option Creation) (busy : Bool)
        → (let x : Result Unit Refusal = if down then Err NotReady else (if is_some creation || busy then Err Busy else Ok tt) in x) ≡ Ok tt
        → (not down && is_some creation) ≡ false
    go true creation busy e = refl
    go false None busy e = refl
    go false (Some creation) busy e = absurd (cc (e))

pub known_if_renewed : (old new : Brokered) (creating : Creating) (slot : ℕ) → MayRenew old slot
    → IsRenewedAt old new slot → IsCreationKnown old creating → IsCreationKnown new creating
known_if_renewed old new creating slot may renewed known =
    creation_none new renewed.booted.creation ∙ (sym (none_before old may.rests) ∙ known)

-- a slot that has no queue now had none
module _ (all : ℕ) (first : Sessioned) (g : Guarded) (well : IsGuardedWell all first g) (slot : SlotId) where
  none_at_first : world_at g.session.broker slot.0 ≡ None → (q : Queue) → HasQueue first.broker.directory slot.0 q → ⊥
  none_at_first none q has =
      let still = queues_through first.broker g.rotated g.session.broker well.came slot.0 q has in
      let there = listed_open g.session.broker slot.0 q well.promises.broker.well still in
      absurd (cc (there, none))

  pub renewal_refused : (refusal : Refusal) → IsWhyNotRenewedAt g.session.broker slot.0 refusal
      → IsWhyNotRenewed first slot refusal
  renewal_refused NotReady why = tt
  renewal_refused NoQueue why = none_at_first why.1
  renewal_refused Busy why = tt
  renewal_refused NoRoom why = tt
  renewal_refused NoMemory why = tt
  renewal_refused _ why = absurd why

  -- why it is not told what the queue of the slot holds
  pub usage_refused : {T : Type 0} (result : Result T Refusal)
      → IfErr result (IsWhyUnread (world_at g.session.broker slot.0)) → IfErr result (IsWhyNoUsage first slot)
  usage_refused (Ok usage) why = tt
  usage_refused (Err refusal) why = go (world_at g.session.broker slot.0) refl why
    where
      go : (o : Option State) → world_at g.session.broker slot.0 ≡ o → IsWhyUnread o refusal
          → IsWhyNoUsage first slot refusal
      go None there why = subst (IsWhyNoUsage first slot) (sym why) (none_at_first there)
      go (Some w) there why = subst (IsWhyNoUsage first slot) (sym why) tt

-- how many clients and records a queue has
pub usage_is : (all : ℕ) (first : Sessioned) (g : Guarded) → IsGuardedWell all first g → (u : Usage) (b c : Brokered)
    → b ≡ g.session.broker → c ≡ g.session.broker → u.clients ≡ b.counts.clients → u.records ≡ c.counts.records
    → IsUsageOf all first u
usage_is all first g well u b c of_b of_c clients records = record {
  clients_are = clients ∙ (ap (λ (x : Brokered). x.counts.clients) of_b ∙ all_clients all first g well);
  records_are =
      records ∙ (ap (λ (x : Brokered). x.counts.records) of_c
      ∙ ap (λ (x : Counts). x.records) (counts_through first.broker g.session.broker g.rotated well.came));
}
