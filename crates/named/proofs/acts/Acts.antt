-- An act on the queue of a slot.
use Rattle.std.proofs.Common.{◌≡◌, ◌≢◌, ℕ, ◌<◌, ◌≤◌, ◌⊎◌, arith, is_ok, if◌then◌else◌, Option, Some, None, Result, Ok, Err, slice_get, slice_set, refl, sym, ap, subst, ◌∙◌}
use Rattle.std.specs.Prelude.{IfErr, IfOk}
use Rattle.std.proofs.lemmas.Option.{slice_get_within}
use Rattle.words.specs.declared.call.Client.{Client}
use Rattle.words.specs.declared.call.Reply.{Reply}
use Rattle.words.specs.declared.refusal.Refusal.{Refusal}
use Rattle.words.specs.declared.refusal.Refusal.TheVariants.{NoMemory}
use Rattle.persist.specs.Memory.{MemoryState}
use Rattle.protocol.specs.declared.UnderWay.{UnderWay}
use Rattle.protocol.specs.declared.acts.Act.{Act}
use Rattle.interleave.specs.Calls.{is_no_memory}
use Rattle.interleave.specs.Rules.{Rule, waiting_in}
use Rattle.interleave.specs.State.{State, after_alone, after_attempt, IsAnsweredAlone}
use Rattle.interleave.proofs.Facts.{get_set}
use Rattle.named.specs.Acting.{IsActAt, IsAloneAt, IsSameBeside}
use Rattle.named.specs.Asked.{IsWellOver}
use Rattle.named.specs.Brokers.{Brokered, IsWell, admission, answer_at, quiet, room_at, room_of, world_at}
use Rattle.named.specs.GoingOn.{BrokerGoesOn}
use Rattle.named.specs.Slots.{IfWorld, IsActInSlot, IsAloneInSlot, IsWithinSlot, acted, answered, room_in, world_in}
use Rattle.named.specs.declared.slot.Slot.{Slot}
use Rattle.named.proofs.acts.Requests.{acted_asked, creation_waits}
use Rattle.named.proofs.acts.Continuity.{alone_goes_on, client_goes_on}
use Rattle.named.proofs.acts.OneSlot.{answer_done, directory_as_it_was, get_set_other, others_stay, same_directory}
use Rattle.named.proofs.acts.OneSlot.{slot_now, still_well, world_done, world_now, world_was}

-- the slot as it was and as it is, over the memory as it was and as it is; the rest of the broker stays
module _ (rest : Brokered) (m n : MemoryState) (at : ℕ) (was is : Slot)
    (holds : IsWellOver (record rest { words = m.words }) m) (here : slice_get rest.slots at ≡ Some was) (below : at < 8)
    (within : IsWithinSlot m was n is) where
  abbrev old : Brokered
  old = record rest { words = m.words }

  abbrev new : Brokered
  new = record rest { words = n.words; slots = slice_set rest.slots at is }

  quiet_others : (other : ℕ) → other ≢ at → quiet (world_at new other) ≡ quiet (world_at old other)
  quiet_others = others_stay old at was is n.words holds.well here within.well within.outside within.same

  -- all is well with it
  pub still_over : IsWellOver new n
  still_over = record {
    well = still_well old at was is n.words holds.well here within.well within.outside within.same within.as_ready;
    slots = acted_asked old m n at was is holds here below within.beside n.words
        (slot_now old.counts m.words n.words at was is (holds.well.slots at was here) within.well within.same within.outside)
        within.asked quiet_others;
    creation = creation_waits old m n at was is holds here below within.beside;
  }

  pub same_beside : IsSameBeside at old new
  same_beside = record {
    counts = refl;
    other_rooms = λ other ne. ap room_of (get_set_other rest.slots at is other ne);
    others = quiet_others;
    directory = refl;
    creation = refl;
    recovery = refl;
    directory_words = same_directory old at was is n.words holds.well here within.well within.outside within.same;
  }

  room_was : room_at old at ≡ room_in was
  room_was = ap room_of here

  room_is : room_at new at ≡ room_in is
  room_is = ap room_of (get_set rest.slots at is (slice_get_within rest.slots at was here))

  world_then : world_at old at ≡ world_in m.words was
  world_then = world_was old at was is n.words holds.well here within.well within.outside within.same

  world_there : world_at new at ≡ world_in n.words is
  world_there = world_now old at was is n.words holds.well here within.well within.outside within.same

  -- an act by a rule, of a client that was admitted
  module _ {A : Type 0} (rule : Rule A) (client : Client) (result : Result A Refusal) (admitted : admission old client ≡ Ok tt)
      (act : IsActInSlot rule m.words was result n.words is) where
    pub act_at : IsActAt rule at client old result new
    act_at = record {
      world = world_done old at was is n.words holds.well here within.well within.outside within.same
          (rule.leaves (is_no_memory result)) client admitted act.world;
      answers = answer_done old at was is n.words holds.well here within.well within.outside within.same
          (rule.answers (is_no_memory result)) client result admitted act.answers;
      full = λ full. room_was ∙ act.full full;
      room = omega (arith, room_was, room_is, act.room);
      spare = subst (λ r. IfErr result (λ e. r ≤ room_at new at)) (sym room_was)
          (subst (λ r. IfErr result (λ e. room_in was ≤ r)) (sym room_is) act.spare);
    }

    -- where the rule is that of an act
    pub goes_on_at : (acts : Act ℕ) → ((w : State) → rule.leaves (is_no_memory result) w ≡ after_attempt (is_no_memory result) w acts)
        → BrokerGoesOn old new
    goes_on_at acts is_act =
        client_goes_on (is_no_memory result) acts old new at client holds.well refl refl
        (act_at.world ∙ by_act (admission old client) (world_at old at)) quiet_others
      where
        by_act : (r : Result Unit Refusal) (o : Option State)
            → (if is_ok r then acted (rule.leaves (is_no_memory result)) o else o)
            ≡ (if is_ok r then acted (λ w. after_attempt (is_no_memory result) w acts) o else o)
        by_act (Err refusal) o = refl
        by_act (Ok u) None = refl
        by_act (Ok u) (Some w) = ap (λ (v : State). Some v) (is_act w)

  -- a call alone, of a client that was admitted
  module _ (client : Client) (result : Result (Reply × ℕ) Refusal) (admitted : admission old client ≡ Ok tt)
      (act : IsAloneInSlot client m.words was result n.words is) where
    waits : answered (λ w. waiting_in w client) (world_in m.words was) ≡ answer_at (λ w. waiting_in w client) old at client
    waits = answer_done old at was is n.words holds.well here within.well within.outside within.same
        (λ w. waiting_in w client) client (answered (λ w. waiting_in w client) (world_in m.words was)) admitted refl

    pub alone_at : IsAloneAt at client old result new
    alone_at = record {
      refused = λ refusal e. act.refused refusal (waits ∙ e);
      errors = subst (λ (r : Result UnderWay Refusal). IfErr result (λ e. (e ≡ NoMemory) ⊎ (r ≡ Err e))) waits act.errors;
      full = λ full. room_was ∙ act.full full;
      same = subst (λ (o : Option State). IfErr result (λ e. o ≡ world_at old at)) (sym world_there)
          (subst (λ (o : Option State). IfErr result (λ e. world_in n.words is ≡ o)) (sym world_then) act.same);
      steps = act.steps;
      answer = subst (λ (o : Option State). IfOk result (λ answer. IfWorld o (λ w. IsAnsweredAlone w client answer.1 answer.0))) (sym world_then) act.answer;
      world = subst (λ (o : Option State). IfOk result (λ answer. o ≡ acted (λ w. after_alone answer.1 w client) (world_at old at))) (sym world_there)
          (subst (λ (o : Option State). IfOk result (λ answer. world_in n.words is ≡ acted (λ w. after_alone answer.1 w client) o)) (sym world_then) act.world);
      room = omega (arith, room_was, room_is, act.room);
      spare = subst (λ r. IfErr result (λ e. r ≤ room_at new at)) (sym room_was)
          (subst (λ r. IfErr result (λ e. room_in was ≤ r)) (sym room_is) act.spare);
    }

    pub alone_on : BrokerGoesOn old new
    alone_on =
        alone_goes_on client result old new at holds.well refl refl alone_at.same alone_at.answer alone_at.world quiet_others

-- an act that changes nothing
pub nothing_beside : (b : Brokered) (at : ℕ) → IsWell b → IsSameBeside at b b
nothing_beside b at well = record {
  counts = refl;
  other_rooms = λ other ne. refl;
  others = λ other ne. refl;
  directory = refl;
  creation = refl;
  recovery = refl;
  directory_words = directory_as_it_was b b well refl;
}
