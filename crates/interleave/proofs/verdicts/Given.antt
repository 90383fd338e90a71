-- What a client of a log queue was given, by what the kept words tell it.
use Rattle.std.proofs.Common.{◌≡◌, ◌≢◌, ℕ, zero, suc, ◌<◌, ◌≤◌, ◌⊎◌, inl, inr, Bool, true, List, Option, Some}
use Rattle.std.proofs.Common.{None}
use Rattle.std.proofs.Common.{Ok, replicate, slice_get, refl, sym, ap, ◌∙◌, subst, arith, ⊎_elim}
use Rattle.std.specs.Prelude.{unwrap_or}
use Rattle.std.proofs.lemmas.Bool.{cases_lt}
use Rattle.std.proofs.lemmas.Option.{same_Some}
use Rattle.words.specs.declared.call.Client.{Client}
use Rattle.words.specs.declared.call.Kind.{Kind}
use Rattle.words.specs.declared.call.Kind.TheVariants.{Log as log_kind}
use Rattle.words.specs.declared.call.Reply.{Reply}
use Rattle.words.specs.declared.limits.TheConstants.{MAX_CLIENTS}
use Rattle.words.specs.declared.told.Outcome.{Outcome}
use Rattle.words.specs.declared.told.Outcome.TheVariants.{NotTaken, Taken}
use Rattle.words.specs.declared.told.Told.{Told}
use Rattle.words.specs.declared.told.Told.TheVariants.{None as told_none, Verdict as told_verdict, Row as told_row}
use Rattle.words.specs.declared.told.Verdict.{Verdict}
use Rattle.persist.specs.Memory.{Words}
use Rattle.interleave.specs.LogQueue.{floor_of, verdict_of}
use Rattle.arena.specs.Shape.{Shape}
use Rattle.arena.specs.Words.{announcements, numbers}
use Rattle.arena.specs.declared.place.Place.{Place}
use Rattle.sound_words.specs.Told.{told_by}
use Rattle.recover.specs.declared.recovery.Recovery.{Recovery}
use Rattle.events.specs.History.{CallAt}
use Rattle.events.specs.Orders.{IsTakenAs}
use Rattle.events.specs.Trace.{queue_of}
use Rattle.events.proofs.Facts.{in_order_from_taken, one_reply as one_reply_at}
use Rattle.protocol.specs.Kept.{TellsBy, TellsOf}
use Rattle.protocol.specs.Machine.{World}
use Rattle.protocol.specs.invariants.Records.{IsEntry}
use Rattle.protocol.specs.invariants.Sound.{memory_at_rest}
use Rattle.protocol.specs.invariants.Worlds.{InvAt}
use Rattle.protocol.proofs.Facts.{tells_now, told_at}
use Rattle.interleave.specs.Holds.{Holds, from_invariant}
use Rattle.interleave.specs.Numbers.{AreNumbersRisingIn, NumbersRise, told_floor}
use Rattle.interleave.specs.Queue.{new_queue, told_in}
use Rattle.interleave.specs.Ranges.{IsOfKind}
use Rattle.interleave.specs.State.{State, machine, after_recover, kept_tells, order_in, recover_result, world_over}
use Rattle.interleave.specs.Verdicts.{IsIdle, IsLast, IsRecalled, IsReplyOf, IsRested, IsTakenByBase, IsTakenNumber}
use Rattle.interleave.specs.Verdicts.{IsToldAbove, NoneIsAbove, floor_by, floor_in, kept_told, taken_as, told_as}
use Rattle.interleave.specs.declared.queue.Queue.{Queue}
use Rattle.interleave.specs.declared.queue.Queue.TheVariants.{Durable, Log}
use Rattle.interleave.proofs.machine.Holding.{explained_world, holds_after_recover}
use Rattle.interleave.proofs.words.KeptWords.{tells_on, told_by_kept}
use Rattle.interleave.proofs.numbers.Uniqueness.{there_at, told_covers}
use Rattle.interleave.proofs.words.Values.{zero_at}
use Rattle.interleave.proofs.verdicts.Acts.{floor_ready, log_ready, nobody_ready}
use Rattle.interleave.proofs.verdicts.Tells.{IsLogTold, kept_is, told_now}

none_some : {X : Type 0} {x : X} → None ≡ Some x → ⊥
none_some e = cc

-- an announced entry has a number
numbered_at : (w : World) (o : Option Recovery) → InvAt w o → w.shape.kind ≡ log_kind → (t : ℕ)
    → announcements w.memory.kept t ≢ 0 → 1 ≤ numbers w.memory.kept (announcements w.memory.kept t)
numbered_at w None h log t some =
    let entry : IsEntry w.memory (announcements w.memory.kept t) = h.working.records.entry_kept log t some in
    omega (arith, entry.some, entry.numbered.1)
numbered_at w (Some r) h log t some =
    let entry : IsEntry (memory_at_rest w.memory.kept) (announcements w.memory.kept t) =
    (h.sound.records (queue_of w.log.events w.base w.log.effects)).entry_kept log t some in
    omega (arith, entry.some, entry.numbered.1)

-- so what kept words tell is nothing, or a verdict whose number is at least 1
none_or_above : (kept : Place → ℕ) (t : ℕ)
    → (announcements kept t ≢ 0 → 1 ≤ numbers kept (announcements kept t)) → (x : Told) → TellsBy log_kind kept t x
    → (x ≡ told_none) ⊎ IsToldAbove 0 x
none_or_above kept t numbered (told_verdict verdict) tells =
    let least = numbered tells.0 in inr (omega (arith, least, tells.1))
none_or_above kept t numbered (told_row row) tells = absurd tells
none_or_above kept t numbered told_none tells = inl refl

-- the reply that is told of, else this one
abbrev reply_from : Reply → Outcome → Reply
reply_from other (Taken reply) = reply
reply_from other NotTaken = other

abbrev reply_told : Reply → Option Told → Reply
reply_told other (Some (told_verdict verdict)) = reply_from other verdict.outcome
reply_told other (Some (told_row row)) = other
reply_told other (Some told_none) = other
reply_told other None = other

module _ (w : State) (holds : Holds w) (log : w.shape.kind ≡ log_kind) (client : Client)
    (few : client.0 < MAX_CLIENTS) where
  pub some_told : (kept_told w client ≡ told_none) ⊎ IsToldAbove 0 (kept_told w client)
  some_told =
      subst (λ (x : Told). (x ≡ told_none) ⊎ IsToldAbove 0 x) (sym (kept_is w client few))
      (elim (cases_lt client.0 w.shape.clients) [
        | inl lt ↦ none_or_above (machine w).memory.kept client.0
            (numbered_at (machine w) w.recovery (from_invariant _ holds.inv) log client.0) _
            (subst (λ (k : Kind). TellsBy k (machine w).memory.kept client.0
            (told_by w.shape (machine w).memory.kept client.0)) log (tells.0 lt))
        | inr ge ↦ inl (tells.1 (omega (arith, ge)))
      ])
    where
      tells : TellsOf w.shape (machine w).memory.kept client.0 (told_by w.shape (machine w).memory.kept client.0)
      tells = tells_now (machine w) (from_invariant _ holds.inv) client.0

  -- nothing is recalled by anyone who was given nothing
  pub recalled_none : IsRecalled w client None
  recalled_none = record {
    reply = λ number reply is. absurd (none_some is);
    told = some_told;
    floor = λ up. omega arith;
  }

  -- what the kept words tell, as a verdict
  pub kept_verdict : told_as (verdict_of (Some (kept_told w client))) ≡ kept_told w client
  kept_verdict = go (kept_told w client) some_told
    where
      go : (x : Told) → (x ≡ told_none) ⊎ IsToldAbove 0 x → told_as (verdict_of (Some x)) ≡ x
      go (told_verdict verdict) some = refl
      go told_none some = refl
      go (told_row row) (inl none) = cc
      go (told_row row) (inr above) = absurd above

  pub kept_at : slice_get (kept_tells w) client.0 ≡ Some (kept_told w client)
  kept_at =
      told_at w.shape (machine w).memory.kept client.0 few ∙ ap (λ (x : Told). Some x) (sym (kept_is w client few))

  -- where it tells that a number took effect, so it is
  pub told_reply : (number : ℕ) (reply : Reply) → kept_told w client ≡ told_verdict (taken_as number reply)
      → IsReplyOf w client number reply
  told_reply number reply told = go
      (subst (IsLogTold (machine w) (announcements (machine w).memory.kept client.0) client) told
      (told_now w holds log client few))
    where
      go : IsLogTold (machine w) (announcements (machine w).memory.kept client.0) client
          (told_verdict (taken_as number reply)) → IsReplyOf w client number reply
      go (inl some) = inl (record {
        place = some.0.place;
        has_number = (
          some.0.tells.begins.call,
          subst (λ (n : ℕ). CallAt w.log.events some.0.place client n some.0.tells.begins.call)
              (sym some.0.tells.says.0) some.0.tells.begins.begins,
        );
        taken = some.0.tells.says.1;
      })
      go (inr none) = inr none.0.same

  -- the last verdict of an idle client of a ready queue is recalled
  pub recalled_last : (last : Option Verdict) → w.recovery ≡ None → IsIdle w client → IsLast w client last
      → IsRecalled w client last
  recalled_last last up idle is = record {
    reply = λ number reply e. told_reply number reply (is.told idle ∙ ap told_as e);
    told = inl (is.told idle);
    floor = λ ready. omega (arith, is.floor);
  }

  -- each of its numbers in the order is at most the floor by it
  pub none_above : (last : Option Verdict) → IsIdle w client → IsLast w client last
      → NoneIsAbove w client (floor_by last)
  none_above last idle is i number x = go w.queue holds.kind holds.numbers
    where
      same : floor_of (kept_told w client) ≡ floor_by last
      same = ap floor_of (is.told idle)

      go : (queue : Queue) → IsOfKind w.shape.kind queue
          → AreNumbersRisingIn queue w.told w.log.events (order_in w) → number ≤ floor_by last
      go (Durable reports) kind v = absurd (subst (λ (k : Kind). IsOfKind k (Durable reports)) log kind)
      go (Log clients) kind v =
          let low = told_covers w.told w.log.events (order_in w) clients.floors v client (kept_told w client)
          (⊎_elim (λ some. inl some.0) (λ none. inr none.0) (told_now w holds log client few))
          x.entry.place number x.has_number (there_at (order_in w) i x.entry x.at) in
          omega (arith, low, same)

  -- a number has one reply
  pub one_reply : (number : ℕ) (a b : Reply) → IsReplyOf w client number a → IsReplyOf w client number b → a ≡ b
  one_reply number a b = go w.queue holds.kind holds.numbers
    where
      by_base : IsTakenByBase w client number a → IsTakenByBase w client number b → a ≡ b
      by_base x y = ap (reply_told a) (sym x ∙ y)

      base_floor : (r : Reply) → IsTakenByBase w client number r → told_floor w.told client ≡ number
      base_floor r x = ap (λ (o : Option Told). floor_of (unwrap_or o told_none)) x

      both : (floors : List ℕ) → NumbersRise w.told w.log.events (order_in w) floors → IsTakenNumber w client number a
          → IsTakenNumber w client number b → a ≡ b
      both floors v x y = elim (cases_lt x.place y.place) [
        | inl lt ↦
            let less = v.rise x.place y.place number number client x.has_number y.has_number lt
            (in_order_from_taken (order_in w) x.place a x.taken) in
            absurd (omega (arith, less))
        | inr ge ↦ elim (cases_lt y.place x.place) [
          | inl lt ↦
              let less = v.rise y.place x.place number number client y.has_number x.has_number lt
              (in_order_from_taken (order_in w) y.place b y.taken) in
              absurd (omega (arith, less))
          | inr le ↦
              let same : y.place ≡ x.place = omega (arith, ge, le) in
              one_reply_at (order_in w) (explained_world w holds).explains.is_order.once x.place a b x.taken
              (subst (λ (p : ℕ). IsTakenAs (order_in w) p b) same y.taken)
        ]
      ]

      not_both : (floors : List ℕ) → NumbersRise w.told w.log.events (order_in w) floors → (r s : Reply)
          → IsTakenNumber w client number r → IsTakenByBase w client number s → ⊥
      not_both floors v r s x y =
          let above = v.base x.place number client x.has_number in
          let floor = base_floor s y in
          omega (arith, above, floor)

      go : (queue : Queue) → IsOfKind w.shape.kind queue
          → AreNumbersRisingIn queue w.told w.log.events (order_in w) → IsReplyOf w client number a
          → IsReplyOf w client number b → a ≡ b
      go (Durable reports) kind v x y = absurd (subst (λ (k : Kind). IsOfKind k (Durable reports)) log kind)
      go (Log clients) kind v (inl x) (inl y) = both clients.floors v x y
      go (Log clients) kind v (inl x) (inr y) = absurd (not_both clients.floors v a b x y)
      go (Log clients) kind v (inr x) (inl y) = absurd (not_both clients.floors v b a y x)
      go (Log clients) kind v (inr x) (inr y) = by_base x y

-- at a Ready what each client is told is its last verdict
pub rested_at_ready : (full : Bool) (w : State) → Holds w → w.shape.kind ≡ log_kind → recover_result full w ≡ Ok true
    → IsRested (after_recover full w)
rested_at_ready full w holds log is = record { nobody = nobody_ready full w holds is; last = last }
  where
    new : State
    new = after_recover full w

    last : (client : Client) → client.0 < MAX_CLIENTS
        → IsLast new client (verdict_of (slice_get (told_in new.queue) client.0))
    last client few =
        let keeps : Holds new = holds_after_recover full w holds in
        let log_new : new.shape.kind ≡ log_kind = log_ready full w holds is log in
        let told : told_in new.queue ≡ kept_tells new = told_by_kept full w holds is ∙ sym (tells_on full w holds).0 in
        let given : slice_get (told_in new.queue) client.0 ≡ Some (kept_told new client) =
        ap (λ (ts : List Told). slice_get ts client.0) told ∙ kept_at new keeps log_new client few in
        let same : told_as (verdict_of (slice_get (told_in new.queue) client.0)) ≡ kept_told new client =
        ap (λ (o : Option Told). told_as (verdict_of o)) given ∙ kept_verdict new keeps log_new client few in
        record {
          floor = floor_ready full w holds is log client few ∙ ap floor_of (sym same);
          told = λ idle. sym same;
        }

copies_are : {X : Type 0} (n t : ℕ) (x y : X) → slice_get (replicate n x) t ≡ Some y → y ≡ x
copies_are zero t x y at = absurd (none_some at)
copies_are (suc n) zero x y at = sym (same_Some x y at)
copies_are (suc n) (suc t) x y at = copies_are n t x y at

-- in a new world nobody was given any
pub last_new : (s : Shape) (ws : Words) → Holds (world_over s ws) → s.kind ≡ log_kind → (client : Client)
    → client.0 < MAX_CLIENTS → IsLast (world_over s ws) client None
last_new s ws holds log client few = record {
  floor = ap (λ (k : Kind). floor_in (new_queue k s.clients) client) log ∙ zero_at MAX_CLIENTS client.0;
  told = λ idle. go (kept_told w client) (told_now w holds log client few);
}
  where
    w : State
    w = world_over s ws

    go : (x : Told) → IsLogTold (machine w) (announcements (machine w).memory.kept client.0) client x → x ≡ told_none
    go x (inl some) = absurd (none_some some.0.tells.begins.begins)
    go x (inr none) = copies_are MAX_CLIENTS client.0 told_none x
        (subst (λ (k : Kind). slice_get (told_in (new_queue k s.clients)) client.0 ≡ Some x) log none.0.same)
