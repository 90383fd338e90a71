-- What took effect is settled: a client's last verdict is of its number, or of a later one.
use Rattle.std.proofs.Common.{◌≡◌, ℕ, ◌<◌, ◌≤◌, ◌⊎◌, inl, inr, Option, Some, None, refl, sym, ap, ◌∙◌, subst}
use Rattle.std.proofs.Common.{arith, ⊎_elim, List}
use Rattle.std.specs.Prelude.{unwrap_or}
use Rattle.std.proofs.lemmas.Bool.{cases_lt}
use Rattle.std.proofs.lemmas.Option.{same_Some}
use Rattle.words.specs.declared.call.Client.{Client}
use Rattle.words.specs.declared.call.Kind.{Kind}
use Rattle.words.specs.declared.call.Kind.TheVariants.{Log as log_kind}
use Rattle.words.specs.declared.call.Reply.{Reply}
use Rattle.words.specs.declared.limits.TheConstants.{MAX_CLIENTS}
use Rattle.words.specs.declared.told.Outcome.{Outcome}
use Rattle.words.specs.declared.told.Outcome.TheVariants.{NotTaken, Taken}
use Rattle.words.specs.declared.told.Told.{Told}
use Rattle.words.specs.declared.told.Told.TheVariants.{None as told_none, Verdict as told_verdict, Row as told_row}
use Rattle.words.specs.declared.told.Verdict.{Verdict}
use Rattle.interleave.specs.LogQueue.{floor_from, floor_of}
use Rattle.arena.specs.Words.{announcements}
use Rattle.events.specs.Telling.{Says}
use Rattle.events.specs.declared.event.Entry.{Entry}
use Rattle.events.proofs.Facts.{in_order_from_taken}
use Rattle.interleave.specs.Holds.{Holds}
use Rattle.interleave.specs.Numbers.{AreNumbersRisingIn, told_floor}
use Rattle.interleave.specs.Ranges.{IsOfKind}
use Rattle.interleave.specs.State.{State, machine, order_in}
use Rattle.interleave.specs.Verdicts.{IsIdle, IsLast, IsReplyOf, IsTakenByBase, IsTakenNumber, IsToldAbove}
use Rattle.interleave.specs.Verdicts.{floor_by, kept_told, taken_as, told_as}
use Rattle.interleave.specs.declared.queue.Queue.{Queue}
use Rattle.interleave.specs.declared.queue.Queue.TheVariants.{Durable, Log}
use Rattle.interleave.proofs.numbers.Uniqueness.{told_covers}
use Rattle.interleave.proofs.verdicts.Given.{one_reply, told_reply}
use Rattle.interleave.proofs.verdicts.Tells.{IsLogTold, told_now}

-- by what is told now: the number is told of, or a later one is
abbrev pub IsSettledBy : ℕ → Reply → Told → Type 0
IsSettledBy number reply told = (told ≡ told_verdict (taken_as number reply)) ⊎ IsToldAbove number told

-- what is told of a call with a later number
later_told : (order : List Entry) (place called number : ℕ) (told : Told) → Says log_kind order place called told
    → number < called → IsToldAbove number told
later_told order place called number (told_verdict verdict) says less = omega (arith, says.0, less)
later_told order place called number (told_row row) says less = absurd says
later_told order place called number told_none says less = absurd says

-- the same of verdicts
settled_verdict : (number : ℕ) (reply : Reply) (last : Option Verdict) → IsSettledBy number reply (told_as last)
    → (last ≡ Some (taken_as number reply)) ⊎ IsToldAbove number (told_as last)
settled_verdict number reply (Some verdict) (inl same) = inl (cc (same))
settled_verdict number reply (Some verdict) (inr above) = inr above
settled_verdict number reply None (inl same) = absurd (cc (same))
settled_verdict number reply None (inr above) = absurd above

-- so the floor is not below the number
floor_if_settled : (number : ℕ) (reply : Reply) (told : Told) → IsSettledBy number reply told → number ≤ floor_of told
floor_if_settled number reply told (inl same) =
    let floor : floor_of told ≡ number = ap floor_of same in omega (arith, floor)
floor_if_settled number reply (told_verdict verdict) (inr above) = go verdict.outcome
  where
    go : (outcome : Outcome) → number ≤ floor_from verdict.number outcome
    go (Taken r) = omega (arith, above)
    go NotTaken = omega (arith, above)
floor_if_settled number reply (told_row row) (inr above) = absurd above
floor_if_settled number reply told_none (inr above) = absurd above

module _ (w : State) (holds : Holds w) (log : w.shape.kind ≡ log_kind) (client : Client)
    (few : client.0 < MAX_CLIENTS) where
  abbrev told : Told
  told = kept_told w client

  now : IsLogTold (machine w) (announcements (machine w).memory.kept client.0) client told
  now = told_now w holds log client few

  -- of what the base tells
  by_base : (number : ℕ) (reply : Reply) → IsTakenByBase w client number reply → IsSettledBy number reply told
  by_base number reply base = go w.queue holds.kind holds.numbers now
    where
      floor : told_floor w.told client ≡ number
      floor = ap (λ (o : Option Told). floor_of (unwrap_or o told_none)) base

      go : (queue : Queue) → IsOfKind w.shape.kind queue
          → AreNumbersRisingIn queue w.told w.log.events (order_in w)
          → IsLogTold (machine w) (announcements (machine w).memory.kept client.0) client told
          → IsSettledBy number reply told
      go (Durable reports) kind v x = absurd (subst (λ (k : Kind). IsOfKind k (Durable reports)) log kind)
      go (Log clients) kind v (inl some) =
          let called = some.0.tells.number in
          let above = v.base some.0.place called client (some.0.tells.begins.call, some.0.tells.begins.begins) in
          inr (later_told (order_in w) some.0.place called number told some.0.tells.says (omega (arith, above, floor)))
      go (Log clients) kind v (inr none) =
          inl (same_Some told (told_verdict (taken_as number reply)) (sym none.0.same ∙ base))

  -- and of the order: the number is at least 1 and at most the floor
  in_range : (number : ℕ) (reply : Reply) → IsTakenNumber w client number reply
      → (1 ≤ number) × (number ≤ floor_of told)
  in_range number reply taken = go w.queue holds.kind holds.numbers
    where
      go : (queue : Queue) → IsOfKind w.shape.kind queue
          → AreNumbersRisingIn queue w.told w.log.events (order_in w) → (1 ≤ number) × (number ≤ floor_of told)
      go (Durable reports) kind v = absurd (subst (λ (k : Kind). IsOfKind k (Durable reports)) log kind)
      go (Log clients) kind v =
          let above = v.base taken.place number client taken.has_number in
          let low = told_covers w.told w.log.events (order_in w) clients.floors v client told
          (⊎_elim (λ some. inl some.0) (λ none. inr none.0) now) taken.place number taken.has_number
          (in_order_from_taken (order_in w) taken.place reply taken.taken) in
          (omega (arith, above), low)

  by_order : (number : ℕ) (reply : Reply) → IsTakenNumber w client number reply → IsSettledBy number reply told
  by_order number reply taken = go told refl (in_range number reply taken)
    where
      own : (verdict : Verdict) (outcome : Outcome) → verdict.outcome ≡ outcome → told ≡ told_verdict verdict
          → (1 ≤ number) × (number ≤ floor_from verdict.number outcome)
          → IsSettledBy number reply (told_verdict verdict)
      own verdict (Taken other) e is range = elim (cases_lt number verdict.number) [
        | inl lt ↦ inr lt
        | inr ge ↦
            let same : verdict.number ≡ number = omega (arith, ge, range.1) in
            let given : verdict ≡ taken_as number other =
            ap (λ (n : ℕ). let v : Verdict = record { number = n; outcome = verdict.outcome } in v) same
            ∙ ap (λ (o : Outcome). let v : Verdict = record { number = number; outcome = o } in v) e in
            let one : other ≡ reply =
            one_reply w holds log client few number other reply
            (told_reply w holds log client few number other (is ∙ ap (λ (v : Verdict). told_verdict v) given))
            (inl taken) in
            inl (ap (λ (v : Verdict). told_verdict v) given ∙ ap (λ (r : Reply). told_verdict (taken_as number r)) one)
      ]
      own verdict NotTaken e is range = inr (omega (arith, range.0, range.1))

      go : (x : Told) → told ≡ x → (1 ≤ number) × (number ≤ floor_of x) → IsSettledBy number reply x
      go (told_verdict verdict) is range = own verdict verdict.outcome refl is range
      go (told_row row) is range = absurd (omega (arith, range.0, range.1))
      go told_none is range = absurd (omega (arith, range.0, range.1))

  told_settled : (number : ℕ) (reply : Reply) → IsReplyOf w client number reply → IsSettledBy number reply told
  told_settled number reply (inl taken) = by_order number reply taken
  told_settled number reply (inr base) = by_base number reply base

  module _ (last : Option Verdict) (idle : IsIdle w client) (is : IsLast w client last) where
    -- a number that the base tells as taken is at most the floor by the client's last verdict
    pub base_below : (number : ℕ) (reply : Reply) → IsTakenByBase w client number reply → number ≤ floor_by last
    base_below number reply base =
        floor_if_settled number reply (told_as last)
        (subst (IsSettledBy number reply) (is.told idle) (by_base number reply base))

    -- a number with a reply is the last one, with that reply, or below it
    pub settled : (number : ℕ) (reply : Reply) → IsReplyOf w client number reply
        → (last ≡ Some (taken_as number reply)) ⊎ IsToldAbove number (told_as last)
    settled number reply x =
        settled_verdict number reply last
        (subst (IsSettledBy number reply) (is.told idle) (told_settled number reply x))
