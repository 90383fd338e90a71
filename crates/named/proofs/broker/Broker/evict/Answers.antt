use Rattle.std.proofs.Common.{arith, ◌≡◌, ◌⊎◌, ℕ, inl, inr, List, Option, None, slice_get, slice_index_or, slice_set, ap, sym, subst, ◌∙◌}
use Rattle.std.proofs.lemmas.Option.{slice_get_read, slice_get_within}
use Rattle.std.proofs.lemmas.Bool.{cases_eq}
use Rattle.persist.specs.Memory.{Words, seen_whole, words_after_eviction}
use Rattle.interleave.proofs.Facts.{get_set}
use Rattle.named.specs.BrokerView.{broker_view}
use Rattle.named.specs.Evicting.{IsInNoBlock, world_evicted}
use Rattle.named.specs.Slots.{acted}
use Rattle.named.specs.Blocks.{IsSameWords}
use Rattle.named.specs.Brokers.{Brokered, IsWell, room_at, room_of, world_at, world_of}
use Rattle.named.proofs.acts.Continuity.{eviction_downtime}
use Rattle.named.proofs.downtime.StepsLeft.{left_evicted}
use Rattle.named.proofs.acts.OneSlot.{get_set_other, others_stay, slot_is_well, slot_now, still_well}
use Rattle.named.proofs.acts.EvictionOutcomes.{outside_evicted, well_before, word_of_block, worlds_before, worlds_past}
use Rattle.named.proofs.acts.EvictionOutcomes.{worlds_within}
use Rattle.persist.proofs.Facts.{lent_alike}
use Rattle.named.specs.Asked.{IfCreationAsked}
use Rattle.named.specs.declared.broker.TheConstants.{CREATION_PORT}
use Rattle.named.proofs.acts.Requests.{acted_asked, creation_waits, evicted_asked, slot_asked_here}
use Rattle.named.proofs.promises.Promises.{promises_well}
use Rattle.std.proofs.Common.{Bool, Result, Ok, Err, if◌then◌else◌, ◌<◌, ◌-◌}
use Rattle.std.proofs.lemmas.Nat.{mul-add-lt}
use Rattle.std.proofs.lemmas.Bool.Decides.{Decides-ltb}
use Rattle.words.specs.declared.refusal.Refusal.{Refusal}
use Rattle.words.specs.declared.refusal.Refusal.TheVariants.{NoWord}
use Rattle.persist.specs.Changes.{change_of}
use Rattle.persist.specs.declared.access.Change.{Change}
use Rattle.arena.specs.Broker.{block_from, block_size_of, broker_size}
use Rattle.arena.specs.Shape.{Counts}
use Rattle.named.specs.Evicting.{IsInBlockOf, evict_result}
use Rattle.named.proofs.broker.Broker.evict.Goals as goal

pub evict-requires-clause-well : goal.evict-requires-clause-well
evict-requires-clause-well c =
    let b : Brokered = broker_view c.self.inside in
    let i = c.in-Some.slot.0 in
    let was = c.index_mut.result.now in
    let here = slice_get_read b.slots 8 i was (sym c.self.invariant.well.count) c.in-Some.ensures.in_range c.index_mut.ensures.value in
    slot_is_well b.counts b.words i was (c.self.invariant.well.slots i was here)

pub evict-requires-clause-asked : goal.evict-requires-clause-asked
evict-requires-clause-asked c =
    let b : Brokered = broker_view c.self.inside in
    let was = c.index_mut.result.now in
    let here = slice_get_read b.slots 8 c.in-Some.slot.0 was (sym c.self.invariant.well.count) c.in-Some.ensures.in_range c.index_mut.ensures.value in
    slot_asked_here b c.self.inside.memory c.in-Some.slot.0 was c.self.invariant here

pub evict-requires-clause-block : goal.evict-requires-clause-block
evict-requires-clause-block c =
    let b : Brokered = broker_view c.self.inside in
    let i = c.in-Some.slot.0 in
    let was = c.index_mut.result.now in
    let here = slice_get_read b.slots 8 i was (sym c.self.invariant.well.count) c.in-Some.ensures.in_range c.index_mut.ensures.value in
    word_of_block b.counts i c.args.word b.words was (c.self.invariant.well.slots i was here) c.in-Some.ensures.low c.in-Some.ensures.high

pub invariant_of-self : goal.invariant_of-self
invariant_of-self c =
    let b : Brokered = broker_view c.self.inside in
    let i = c.in-Some.slot.0 in
    let was = c.index_mut.result.now in
    let here = slice_get_read b.slots 8 i was (sym c.self.invariant.well.count) c.in-Some.ensures.in_range c.index_mut.ensures.value in
    let outside = outside_evicted b.counts i c.args.word b.words c.evict.new.memory.words was (c.self.invariant.well.slots i was here) c.in-Some.ensures.low c.in-Some.ensures.high c.evict.ensures.outside in
    record {
      well = still_well b i was c.evict.new.self c.evict.new.memory.words c.self.invariant.well here c.evict.ensures.well outside c.evict.ensures.same c.evict.ensures.as_ready;
      slots = acted_asked b c.self.inside.memory c.evict.new.memory i was c.evict.new.self c.self.invariant here c.in-Some.ensures.in_range c.evict.ensures.beside c.evict.new.memory.words
          (slot_now b.counts b.words c.evict.new.memory.words i was c.evict.new.self (c.self.invariant.well.slots i was here) c.evict.ensures.well c.evict.ensures.same outside)
          c.evict.ensures.asked (λ j ne. others_stay b i was c.evict.new.self c.evict.new.memory.words c.self.invariant.well here c.evict.ensures.well outside c.evict.ensures.same j ne);
      creation = creation_waits b c.self.inside.memory c.evict.new.memory i was c.evict.new.self c.self.invariant here c.in-Some.ensures.in_range c.evict.ensures.beside;
    }

pub returns-in-Some-clause-worlds : goal.returns-in-Some-clause-worlds
returns-in-Some-clause-worlds c = λ slot.
    let b : Brokered = broker_view c.self.inside in
    let i = c.in-Some.slot.0 in
    let was = c.index_mut.result.now in
    let here = slice_get_read b.slots 8 i was (sym c.self.invariant.well.count) c.in-Some.ensures.in_range c.index_mut.ensures.value in
    worlds_within b i c.args.word was c.evict.new.self c.evict.new.memory.words c.self.invariant.well here c.in-Some.ensures.low c.in-Some.ensures.high c.evict.ensures.words c.evict.ensures.world slot
    ∙ ap (λ (x : Brokered). acted (world_evicted x.counts slot c.args.word) (world_at x slot)) c.self.view_is

pub returns-in-Some-clause-room : goal.returns-in-Some-clause-room
returns-in-Some-clause-room c = λ slot.
    let b : Brokered = broker_view c.self.inside in
    let i = c.in-Some.slot.0 in
    let was = c.index_mut.result.now in
    let here = slice_get_read b.slots 8 i was (sym c.self.invariant.well.count) c.in-Some.ensures.in_range c.index_mut.ensures.value in
    let go : (slot ≡ i) ⊎ (slot ≡ i → ⊥) → room_of (slice_get (slice_set b.slots i c.evict.new.self) slot) ≡ room_of (slice_get b.slots slot) = elim [
      | inl e ↦ subst (λ (n : ℕ). room_of (slice_get (slice_set b.slots i c.evict.new.self) n) ≡ room_of (slice_get b.slots n)) (sym e)
          (ap room_of (get_set b.slots i c.evict.new.self (slice_get_within b.slots i was here)) ∙ c.evict.ensures.room ∙ sym (ap room_of here))
      | inr ne ↦ ap room_of (get_set_other b.slots i c.evict.new.self slot ne)
    ] in
    go (cases_eq slot i) ∙ ap (λ (x : Brokered). room_at x slot) c.self.view_is

pub invariant_of-self-in-None : goal.invariant_of-self-in-None
invariant_of-self-in-None c =
    let b : Brokered = broker_view c.self.inside in
    let new = c.evict-in-None.new.self in
    let outside : IsInNoBlock b.counts c.args.word = c.in-None.ensures in
    let asked = lent_alike 0 0 c.self.inside.memory new c.evict-in-None.ensures.lent in
    let well : IsInNoBlock b.counts c.args.word → IsWell (record b { words = new.words }) = elim [
      | inl low ↦ subst (λ (w : Words). let x : Brokered = record b { words = w } in IsWell x) (sym (c.evict-in-None.ensures.done (omega (arith, low, c.self.invariant.well.room.cached)))) (well_before b c.args.word c.self.invariant.well low)
      | inr past ↦ subst (λ (w : Words). let x : Brokered = record b { words = w } in IsWell x) (sym (c.evict-in-None.ensures.same (omega (arith, past, c.self.invariant.well.room.cached)))) c.self.invariant.well
    ] in
    let worlds : IsInNoBlock b.counts c.args.word → (slot : ℕ) → world_of new.words (slice_get b.slots slot) ≡ acted (world_evicted b.counts slot c.args.word) (world_at b slot) = elim [
      | inl low ↦ λ slot. ap (λ (w : Words). world_of w (slice_get b.slots slot)) (c.evict-in-None.ensures.done (omega (arith, low, c.self.invariant.well.room.cached))) ∙ worlds_before b c.args.word c.self.invariant.well low slot
      | inr past ↦ λ slot. ap (λ (w : Words). world_of w (slice_get b.slots slot)) (c.evict-in-None.ensures.same (omega (arith, past, c.self.invariant.well.room.cached))) ∙ worlds_past b c.args.word c.self.invariant.well past slot
    ] in
    record {
      well = well outside;
      slots = λ slot. evicted_asked b.counts c.self.inside.memory new slot c.args.word (world_at b slot) _ (worlds outside slot) asked (c.self.invariant.slots slot);
      creation = subst (λ (l : List (Option ℕ)). IfCreationAsked b.counts b.recovery b.creation (seen_whole (slice_index_or l CREATION_PORT None))) (sym asked) c.self.invariant.creation;
    }

pub returns-in-None-clause-worlds : goal.returns-in-None-clause-worlds
returns-in-None-clause-worlds c = λ slot.
    let b : Brokered = broker_view c.self.inside in
    let outside : IsInNoBlock b.counts c.args.word = c.in-None.ensures in
    let go : IsInNoBlock b.counts c.args.word → world_of c.evict-in-None.new.self.words (slice_get b.slots slot) ≡ acted (world_evicted b.counts slot c.args.word) (world_at b slot) = elim [
      | inl low ↦ ap (λ (w : Words). world_of w (slice_get b.slots slot)) (c.evict-in-None.ensures.done (omega (arith, low, c.self.invariant.well.room.cached))) ∙ worlds_before b c.args.word c.self.invariant.well low slot
      | inr past ↦ ap (λ (w : Words). world_of w (slice_get b.slots slot)) (c.evict-in-None.ensures.same (omega (arith, past, c.self.invariant.well.room.cached))) ∙ worlds_past b c.args.word c.self.invariant.well past slot
    ] in go outside ∙ ap (λ (x : Brokered). acted (world_evicted x.counts slot c.args.word) (world_at x slot)) c.self.view_is

pub returns-in-Some-clause-promises : goal.returns-in-Some-clause-promises
returns-in-Some-clause-promises c = promises_well _ (invariant_of-self c).well

pub returns-in-None-clause-promises : goal.returns-in-None-clause-promises
returns-in-None-clause-promises c = promises_well _ (invariant_of-self-in-None c).well

pub returns-in-Some-clause-left : goal.returns-in-Some-clause-left
returns-in-Some-clause-left c =
    let b : Brokered = broker_view c.self.inside in
    let new : Brokered = record b { words = c.evict.new.memory.words; slots = slice_set b.slots c.in-Some.slot.0 c.evict.new.self } in
    let kept : new.words.kept ≡ (words_after_eviction c.args.word c.args.self.now.words).kept = c.evict.ensures.words.kept ∙ ap (λ (x : Brokered). (words_after_eviction c.args.word x.words).kept) c.self.view_is in
    left_evicted c.args.self.now new c.args.word (subst IsWell c.self.view_is c.self.invariant.well)
    (ap (λ (x : Brokered). let y : Brokered = record x { words = new.words; slots = new.slots } in y) c.self.view_is) (inl kept) (returns-in-Some-clause-worlds c)

pub returns-in-Some-clause-downtime : goal.returns-in-Some-clause-downtime
returns-in-Some-clause-downtime c =
    let b : Brokered = broker_view c.self.inside in
    let new : Brokered = record b { words = c.evict.new.memory.words; slots = slice_set b.slots c.in-Some.slot.0 c.evict.new.self } in
    eviction_downtime c.args.self.now new c.args.word (subst IsWell c.self.view_is c.self.invariant.well)
    (ap (λ (x : Brokered). let y : Brokered = record x { words = new.words; slots = new.slots } in y) c.self.view_is) (returns-in-Some-clause-worlds c)

pub returns-in-None-clause-left : goal.returns-in-None-clause-left
returns-in-None-clause-left c =
    let b : Brokered = broker_view c.self.inside in
    let new : Brokered = record b { words = c.evict-in-None.new.self.words } in
    let outside : IsInNoBlock b.counts c.args.word = c.in-None.ensures in
    let kept : (new.words.kept ≡ (words_after_eviction c.args.word c.args.self.now.words).kept) ⊎ (new.words.kept ≡ c.args.self.now.words.kept) = elim outside [
      | inl low ↦ inl (ap (λ (w : Words). w.kept) (c.evict-in-None.ensures.done (omega (arith, low, c.self.invariant.well.room.cached))) ∙ ap (λ (x : Brokered). (words_after_eviction c.args.word x.words).kept) c.self.view_is)
      | inr past ↦ inr (ap (λ (w : Words). w.kept) (c.evict-in-None.ensures.same (omega (arith, past, c.self.invariant.well.room.cached))) ∙ ap (λ (x : Brokered). x.words.kept) c.self.view_is)
    ] in
    left_evicted c.args.self.now new c.args.word (subst IsWell c.self.view_is c.self.invariant.well)
    (ap (λ (x : Brokered). let y : Brokered = record x { words = new.words; slots = new.slots } in y) c.self.view_is) kept (returns-in-None-clause-worlds c)

pub returns-in-None-clause-downtime : goal.returns-in-None-clause-downtime
returns-in-None-clause-downtime c =
    let b : Brokered = broker_view c.self.inside in
    let new : Brokered = record b { words = c.evict-in-None.new.self.words } in
    eviction_downtime c.args.self.now new c.args.word (subst IsWell c.self.view_is c.self.invariant.well)
    (ap (λ (x : Brokered). let y : Brokered = record x { words = new.words; slots = new.slots } in y) c.self.view_is) (returns-in-None-clause-worlds c)

pub evict-requires-in-None : goal.evict-requires-in-None
evict-requires-in-None c = tt

pub returns-in-Some-clause-words : goal.returns-in-Some-clause-words
returns-in-Some-clause-words c = subst (λ (x : Brokered). IsSameWords (words_after_eviction c.args.word x.words) c.evict.new.memory.words) c.self.view_is c.evict.ensures.words

pub returns-in-Some-clause-same : goal.returns-in-Some-clause-same
returns-in-Some-clause-same c =
    let b : Brokered = broker_view c.self.inside in
    let new : Brokered = record b { words = c.evict.new.memory.words; slots = slice_set b.slots c.in-Some.slot.0 c.evict.new.self } in
    ap (λ (x : Brokered). let y : Brokered = record x { words = new.words; slots = new.slots } in y) c.self.view_is

pub returns-in-None-clause-same : goal.returns-in-None-clause-same
returns-in-None-clause-same c =
    let b : Brokered = broker_view c.self.inside in
    let new : Brokered = record b { words = c.evict-in-None.new.self.words } in
    ap (λ (x : Brokered). let y : Brokered = record x { words = new.words; slots = new.slots } in y) c.self.view_is

pub returns-in-None-clause-room : goal.returns-in-None-clause-room
returns-in-None-clause-room c = λ slot. ap (λ (x : Brokered). room_at x slot) c.self.view_is

-- a word of a block is one of the broker's, and is evicted
word_below : (c : Counts) (slot word : ℕ) → IsInBlockOf c slot word → word < broker_size c
word_below c slot word is =
    let size : ℕ = block_size_of c.clients c.records in
    omega (arith, is.low, mul-add-lt slot size (word - block_from c slot) 8 is.in_range (omega (arith, is.low, is.high)))

evicted_so : (b shown : Brokered) (word : ℕ) (r : Result (Option Change) Refusal) → b ≡ shown → word < broker_size b.counts → r ≡ Ok (change_of b.words word)
    → r ≡ evict_result shown word
evicted_so b shown word r view below is =
    subst (λ (x : Brokered). r ≡ evict_result x word) view
    (is ∙ sym (ap (λ (t : Bool). let x : Result (Option Change) Refusal = if t then Ok (change_of b.words word) else Err NoWord in x) ((Decides-ltb word (broker_size b.counts)).1 below)))

pub evict-requires-clause-word : goal.evict-requires-clause-word
evict-requires-clause-word c = omega (arith, word_below c.self.inside.layout c.in-Some.slot.0 c.args.word c.in-Some.ensures, c.self.invariant.well.room.cached)

pub returns-in-Some-clause-result : goal.returns-in-Some-clause-result
returns-in-Some-clause-result c =
    evicted_so (broker_view c.self.inside) c.args.self.now c.args.word c.evict.result c.self.view_is
    (word_below c.self.inside.layout c.in-Some.slot.0 c.args.word c.in-Some.ensures) c.evict.ensures.result

pub index_mut-requires : goal.index_mut-requires
index_mut-requires c = omega (arith, c.in-Some.ensures.in_range, c.self.invariant.well.count)
