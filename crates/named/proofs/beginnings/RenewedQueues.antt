-- A queue of a broker at rest in fresh records: the broker begins on the same words but those of its block.
use Rattle.std.proofs.Common.{◌≡◌, ◌<◌, ℕ, inl, inr, Bool, true, false, ◌||◌, is_some, List, length, Option, Some, None, Result, Ok, Err, if◌then◌else◌, get_or, slice_get, refl, sym, ap, ap₂, subst, ◌∙◌, arith}
use Rattle.std.specs.Prelude.{IsSome}
use Rattle.std.specs.Option.{option_map}
use Rattle.std.specs.List.{list_any}
use Rattle.std.proofs.lemmas.Bool.{cases_eq, cases_lt}
use Rattle.std.proofs.lemmas.Option.{slice_get-get_or, slice_get_past, slice_get_within}
use Rattle.words.specs.declared.call.Kind.{Kind}
use Rattle.words.specs.declared.refusal.Refusal.{Refusal}
use Rattle.words.specs.declared.refusal.Refusal.TheVariants.{Busy, NoMemory, NoQueue, NoRoom, NotReady}
use Rattle.persist.specs.Memory.{Words, words_at_rest}
use Rattle.arena.specs.Broker.{block_in}
use Rattle.arena.specs.Content.{kept_content as content_of}
use Rattle.arena.specs.Form.{running}
use Rattle.arena.specs.Shape.{Counts, Shape, shape_of}
use Rattle.sound_words.specs.Kept.{kept_in}
use Rattle.sound_words.specs.Sound.{AreSoundWords}
use Rattle.sound_words.specs.Told.{tells_by}
use Rattle.directory.specs.Directory.{Directory, HasQueue}
use Rattle.directory.specs.Queue.{directory_of, slot_in}
use Rattle.directory.specs.Sound.{counts_in}
use Rattle.directory.specs.UnderWay.{IsAtRest}
use Rattle.directory.specs.declared.creation.Creation.{Creation}
use Rattle.directory.specs.declared.queue.Queue.{Queue}
use Rattle.directory.proofs.Facts.{directory_at, kept_directory}
use Rattle.interleave.specs.Booted.{booted_world}
use Rattle.interleave.specs.State.{State, kept_tells}
use Rattle.interleave.specs.Values.{value_of_place}
use Rattle.renewal.specs.Broker.{BlockFits}
use Rattle.renewal.specs.OneQueue.{IsQueueRenewalOf, IsWhyNotRenewed, queue_renewed}
use Rattle.named.specs.Booting.{AreBootWords, IsBooted, world_booted}
use Rattle.named.specs.Brokers.{Brokered, IsDirectoryAt, IsDirectoryIn, IsWell, block_words, world_at}
use Rattle.named.specs.Brokers.{world_of}
use Rattle.named.specs.Renewing.{BeginsOn, IsRenewedAt, IsWhyNotRenewedAt, MayRenew}
use Rattle.named.specs.Rotating.{has_calls_in, rotate_result}
use Rattle.named.specs.Slots.{answered, world_in}
use Rattle.named.specs.declared.recovery.BrokerRecovery.{BrokerRecovery}
use Rattle.named.specs.declared.slot.Slot.{Slot}
use Rattle.named.specs.declared.slot.Slot.TheVariants.{Closed, Open}
use Rattle.named.proofs.creations.Beginnings.{get_there}
use Rattle.named.proofs.acts.OneSlot.{ready_there}
use Rattle.named.proofs.promises.KeptQueues.{IsThere, there}
use Rattle.named.proofs.beginnings.Migrations.{same_some}
use Rattle.named.proofs.promises.Promises.{boots_well, head_is}
use Rattle.named.proofs.beginnings.Renewals.{content_shown, tells_shown}

-- where the histories may end the broker is ready, and no creation is under way
free_to : (r : Option BrokerRecovery) (c : Option Creation) (busy : Bool)
    → (let x : Result Unit Refusal = if is_some r then Err NotReady else (if is_some c || busy then Err Busy else Ok tt) in x) ≡ Ok tt
    → (r ≡ None) × (c ≡ None)
free_to (Some r) c busy e = absurd (cc (e))
free_to None (Some k) busy e = absurd (cc (e))
free_to None None true e = absurd (cc (e))
free_to None None false e = (refl, refl)

-- and where it is, and none is, and nobody calls, they may
pub rests_as : (b shown : Brokered) → b ≡ shown → (ready : Result Unit Refusal)
    → ready ≡ (if is_some shown.recovery then Err NotReady else Ok tt) → ready ≡ Ok tt → (creating : Bool)
    → creating ≡ is_some b.creation → creating ≡ false → (slots : List Slot) → slots ≡ b.slots → (busy : Bool)
    → busy ≡ list_any has_calls_in slots → busy ≡ false → rotate_result false b ≡ Ok tt
rests_as b shown view ready asked ok creating begun idle slots same busy calling nobody =
    let up : b.recovery ≡ None =
    ready_there b.recovery ready (asked ∙ ap (λ (x : Brokered). if is_some x.recovery then Err NotReady else Ok tt) (sym view)) ok in
    let none : is_some b.creation ≡ false = sym begun ∙ idle in
    let quiet : list_any has_calls_in b.slots ≡ false = ap (list_any has_calls_in) (sym same) ∙ sym calling ∙ nobody in
    rw (up, none, quiet) refl

-- a slot whose queue is of a kind is open
there_of : (o : Option State) (r : Result Kind Refusal) (kind : Kind) → r ≡ answered (λ w. Ok w.shape.kind) o → r ≡ Ok kind → IsSome o
there_of (Some w) r kind is ok = refl
there_of None r kind is ok = absurd (cc (is, ok))

pub may_renew : (b shown : Brokered) → b ≡ shown → rotate_result false b ≡ Ok tt → (slot : ℕ) (r : Result Kind Refusal) (kind : Kind)
    → r ≡ answered (λ w. Ok w.shape.kind) (world_at shown slot) → r ≡ Ok kind → MayRenew shown slot
may_renew b shown view rests slot r kind is ok = record {
  rests = subst (λ (x : Brokered). rotate_result false x ≡ Ok tt) view rests;
  there = there_of (world_at shown slot) r kind is ok;
}

module _ (b : Brokered) (holds : IsWell b) where
  module _ (rests : rotate_result false b ≡ Ok tt) where
    up : b.recovery ≡ None
    up = (free_to b.recovery b.creation (list_any has_calls_in b.slots) rests).0

    pub idle : b.creation ≡ None
    idle = (free_to b.recovery b.creation (list_any has_calls_in b.slots) rests).1

    at_rest : IsAtRest b.words b.directory
    at_rest =
        subst (λ (o : Option Creation). IsDirectoryIn b.words o b.directory) idle
        (subst (λ (o : Option BrokerRecovery). IsDirectoryAt b.words o b.creation b.directory) up holds.directory)

    pub known : directory_of b.words.kept ≡ b.directory
    known = kept_directory b.words b.directory at_rest

    -- the slot's queue is in the kept directory
    pub kept_there : (at : ℕ) (w : State) → world_at b at ≡ Some w → (queue : Queue) × HasQueue (directory_of b.words.kept) at queue
    kept_there at w here =
        let is = there b holds at w here in
        (is.queue, subst (λ (d : Directory). HasQueue d at is.queue) (sym known) is.has)

    module _ (slot : ℕ) (new : List ℕ) (same : IsQueueRenewalOf b.words.kept slot new) where
      abbrev c : Counts
      c = counts_in b.words.kept

      pub block_sound : (at : ℕ) (queue : Queue) → HasQueue (directory_of b.words.kept) at queue
          → AreSoundWords (shape_of queue.kind c) (block_in running c at new)
      block_sound at queue has = elim (cases_eq at slot) [
        | inl here ↦
            let both : HasQueue (directory_of b.words.kept) slot queue = subst (λ (n : ℕ). HasQueue (directory_of b.words.kept) n queue) here has in
            let one : queue ≡ same.queue = cc (both, same.has) in
            subst (λ (q : Queue). AreSoundWords (shape_of q.kind c) (block_in running c at new)) (sym one)
            (subst (λ (n : ℕ). AreSoundWords (shape_of same.queue.kind c) (block_in running c n new)) (sym here) same.renewed.sound)
        | inr apart ↦
            let below : at < 8 = omega (arith, slice_get_within (directory_of b.words.kept) at (Some queue) has, (boots_well b holds).broker.directory.names.count) in
            subst (AreSoundWords (shape_of queue.kind c)) (sym (same.others at below apart)) ((boots_well b holds).blocks at queue has)
      ]

      -- a broker may begin on the new words
      pub renewed_boots_at : AreBootWords new
      renewed_boots_at = record {
        broker = same.sound;
        blocks = λ at queue has.
            subst (λ (k : Counts). AreSoundWords (shape_of queue.kind k) (block_in running k at new)) (sym same.counts)
            (block_sound at queue (subst (λ (d : Directory). HasQueue d at queue) same.directory has));
      }

      -- the block of each queue holds and tells what it did
      pub content_same : (at : ℕ) (queue : Queue) → HasQueue (directory_of b.words.kept) at queue
          → content_of (shape_of queue.kind c) (value_of_place (shape_of queue.kind c) (block_in running c at new))
          ≡ content_of (shape_of queue.kind c) (value_of_place (shape_of queue.kind c) (block_in running c at b.words.kept))
      content_same at queue has = elim (cases_eq at slot) [
        | inl here ↦
            let both : HasQueue (directory_of b.words.kept) slot queue = subst (λ (n : ℕ). HasQueue (directory_of b.words.kept) n queue) here has in
            let one : queue ≡ same.queue = cc (both, same.has) in
            let s : Shape = shape_of queue.kind c in
            let moved : content_of s (kept_in s (block_in running c at new)) ≡ content_of s (kept_in s (block_in running c at b.words.kept)) =
            subst (λ (q : Queue). content_of (shape_of q.kind c) (kept_in (shape_of q.kind c) (block_in running c at new))
            ≡ content_of (shape_of q.kind c) (kept_in (shape_of q.kind c) (block_in running c at b.words.kept))) (sym one)
            (subst (λ (n : ℕ). content_of (shape_of same.queue.kind c) (kept_in (shape_of same.queue.kind c) (block_in running c n new))
            ≡ content_of (shape_of same.queue.kind c) (kept_in (shape_of same.queue.kind c) (block_in running c n b.words.kept))) (sym here) same.renewed.content) in
            content_shown s (block_in running c at new) (block_sound at queue has) ∙ moved
            ∙ sym (content_shown s (block_in running c at b.words.kept) ((boots_well b holds).blocks at queue has))
        | inr apart ↦
            let below : at < 8 = omega (arith, slice_get_within (directory_of b.words.kept) at (Some queue) has, (boots_well b holds).broker.directory.names.count) in
            ap (λ (ws : List ℕ). content_of (shape_of queue.kind c) (value_of_place (shape_of queue.kind c) ws)) (same.others at below apart)
      ]

      pub tells_same : (at : ℕ) (queue : Queue) → HasQueue (directory_of b.words.kept) at queue
          → tells_by (shape_of queue.kind c) (value_of_place (shape_of queue.kind c) (block_in running c at new))
          ≡ tells_by (shape_of queue.kind c) (value_of_place (shape_of queue.kind c) (block_in running c at b.words.kept))
      tells_same at queue has = elim (cases_eq at slot) [
        | inl here ↦
            let both : HasQueue (directory_of b.words.kept) slot queue = subst (λ (n : ℕ). HasQueue (directory_of b.words.kept) n queue) here has in
            let one : queue ≡ same.queue = cc (both, same.has) in
            let s : Shape = shape_of queue.kind c in
            let moved : tells_by s (kept_in s (block_in running c at new)) ≡ tells_by s (kept_in s (block_in running c at b.words.kept)) =
            subst (λ (q : Queue). tells_by (shape_of q.kind c) (kept_in (shape_of q.kind c) (block_in running c at new))
            ≡ tells_by (shape_of q.kind c) (kept_in (shape_of q.kind c) (block_in running c at b.words.kept))) (sym one)
            (subst (λ (n : ℕ). tells_by (shape_of same.queue.kind c) (kept_in (shape_of same.queue.kind c) (block_in running c n new))
            ≡ tells_by (shape_of same.queue.kind c) (kept_in (shape_of same.queue.kind c) (block_in running c n b.words.kept))) (sym here) (same.renewed.tells refl)) in
            tells_shown s (block_in running c at new) (block_sound at queue has) ∙ moved
            ∙ sym (tells_shown s (block_in running c at b.words.kept) ((boots_well b holds).blocks at queue has))
        | inr apart ↦
            let below : at < 8 = omega (arith, slice_get_within (directory_of b.words.kept) at (Some queue) has, (boots_well b holds).broker.directory.names.count) in
            ap (λ (ws : List ℕ). tells_by (shape_of queue.kind c) (value_of_place (shape_of queue.kind c) ws)) (same.others at below apart)
      ]

      module _ (x : Brokered) (booted : IsBooted (words_at_rest new) x) (well : IsWell x) where
        counts_now : x.counts ≡ c
        counts_now = booted.counts ∙ same.counts

        slot_now : (at : ℕ) (o : Option Queue) → at < 8 → slice_get (directory_of b.words.kept) at ≡ Some o → slot_in new at ≡ o
        slot_now at o below entry =
            let listed : slice_get (directory_of new) at ≡ Some o = ap (λ (d : Directory). slice_get d at) same.directory ∙ entry in
            same_some _ _ (sym (directory_at new at below) ∙ listed)

        world_now : (at : ℕ) (o : Option Queue) → at < 8 → slice_get (directory_of b.words.kept) at ≡ Some o
            → world_at x at ≡ world_booted c at (words_at_rest new) o
        world_now at o below entry =
            booted.worlds at below
            ∙ ap (λ (q : Option Queue). world_booted x.counts at (words_at_rest new) q) (slot_now at o below entry)
            ∙ ap (λ (k : Counts). world_booted k at (words_at_rest new) o) counts_now

        begins_on : (at : ℕ) (w : State) → world_at b at ≡ Some w → BeginsOn w (world_at x at)
        begins_on at w here =
            let is : IsThere b at w = there b holds at w here in
            let has : HasQueue (directory_of b.words.kept) at is.queue = subst (λ (d : Directory). HasQueue d at is.queue) (sym known) is.has in
            let below : at < 8 = omega (arith, slice_get_within (directory_of b.words.kept) at (Some is.queue) has, (boots_well b holds).broker.directory.names.count) in
            let s : Shape = shape_of is.queue.kind c in
            let shape : w.shape ≡ s = is.shape ∙ ap (λ (k : Counts). shape_of is.queue.kind k) (sym (head_is b holds)) in
            let words : w.words ≡ block_words c at b.words = is.words ∙ ap (λ (k : Counts). block_words k at b.words) (sym (head_is b holds)) in
            let world : State = booted_world s (block_words c at (words_at_rest new)) in
            let tells : kept_tells world ≡ kept_tells w =
            tells_same at is.queue has
            ∙ sym (ap₂ (λ (z : Shape) (ws : Words). tells_by z (value_of_place z ws.kept)) shape words) in
            record {
              world = world;
              is = world_now at (Some is.queue) below has;
              shape = sym shape;
              down = refl;
              base = content_same at is.queue has
                  ∙ sym (ap₂ (λ (z : Shape) (ws : Words). content_of z (value_of_place z ws.kept)) shape words);
              told = tells;
              tells = tells;
            }

        -- a closed slot stays closed
        no_queue_in : (s : Slot) (at : ℕ) → slice_get b.slots at ≡ Some s → world_in b.words s ≡ None → at < 8 → slice_get (directory_of b.words.kept) at ≡ Some None
        no_queue_in (Open block) at e none below = absurd (cc (none))
        no_queue_in Closed at e none below =
            let within : at < length b.directory = omega (arith, below, holds.listed.count) in
            let entry : slice_get b.directory at ≡ Some (get_or b.directory at None) = slice_get-get_or b.directory at None within in
            let kind : None ≡ option_map (λ (q : Queue). q.kind) (get_or b.directory at None) = holds.kinds at Closed (get_or b.directory at None) e entry in
            ap (λ (d : Directory). slice_get d at) known ∙ entry ∙ ap (λ (o : Option Queue). let y : Option (Option Queue) = Some o in y) (none_listed (get_or b.directory at None) kind)
          where
            none_listed : (o : Option Queue) → None ≡ option_map (λ (q : Queue). q.kind) o → o ≡ None
            none_listed None e = refl
            none_listed (Some q) e = absurd (cc (e))

        stays_closed : (at : ℕ) → world_at b at ≡ None → world_at x at ≡ None
        stays_closed at none = go (slice_get b.slots at) refl none
          where
            go : (o : Option Slot) → slice_get b.slots at ≡ o → world_of b.words o ≡ None → world_at x at ≡ None
            go (Some s) e is =
                let below : at < 8 = omega (arith, slice_get_within b.slots at s e, holds.count) in
                world_now at None below (no_queue_in s at e is below)
            go None e is = elim (cases_lt at 8) [
              | inl below ↦ absurd (get_there b.slots at (omega (arith, below, holds.count)) e)
              | inr past ↦ ap (λ (o : Option Slot). world_of x.words o) (slice_get_past x.slots at (omega (arith, past, well.count)))
            ]

        -- so it is the broker with that queue in fresh records
        pub renewed_there : new ≡ queue_renewed slot b.words.kept → IsRenewedAt b x slot
        renewed_there is = record {
          booted = subst (λ (ws : List ℕ). IsBooted (words_at_rest ws) x) is booted;
          words = subst (IsQueueRenewalOf b.words.kept slot) (sym (ap (λ (ws : Words). ws.kept) booted.words)) same;
          counts = counts_now ∙ head_is b holds;
          directory = booted.directory ∙ same.directory ∙ known;
          worlds = begins_on;
          closed = stays_closed;
        }

-- why the words were not written
some_there : (o : Option State) → IsSome o → (w : State) × (o ≡ Some w)
some_there None there = absurd (cc (there))
some_there (Some w) there = (w, refl)

pub why_at : (b shown : Brokered) (holds : IsWell b) → b ≡ shown → (slot : ℕ) → MayRenew shown slot → (e : Refusal)
    → IsWhyNotRenewed b.words.kept slot e → IsWhyNotRenewedAt shown slot e
why_at b shown holds view slot may NoQueue h =
    let rests : rotate_result false b ≡ Ok tt = ap (rotate_result false) view ∙ may.rests in
    let here = some_there (world_at shown slot) may.there in
    let its = kept_there b holds rests slot here.0 (ap (λ (x : Brokered). world_at x slot) view ∙ here.1) in
    absurd (h its.0 its.1)
why_at b shown holds view slot may NoRoom h =
    (may, subst (λ (x : Brokered). BlockFits (counts_in x.words.kept) x.words.kept slot → ⊥) view h)
why_at b shown holds view slot may NoMemory h = may
why_at b shown holds view slot may _ h = absurd h
