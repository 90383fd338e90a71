-- A call that runs alone ends: how many steps it has left at most.
use Rattle.std.proofs.Common.{◌≡◌, ◌≢◌, ℕ, ◌+◌, ◌-◌, ◌*◌, ◌≤◌, ◌<◌, List, length, Bool, true, false, Option, Some, None, if◌then◌else◌, ◌==◌, refl, sym, ◌∙◌, ap, subst, arith}
use Rattle.std.specs.Prelude.{slice_get}
use Rattle.std.proofs.lemmas.Bool.{eqb-true, eqb-false, eq-eqb, ne_eqb}
use Rattle.std.proofs.lemmas.Option.{slice_get_within}
use Rattle.words.specs.PlainQueue.{Value}
use Rattle.words.specs.declared.call.Call.{Call}
use Rattle.words.specs.declared.call.Call.TheVariants.{Enq, Deq}
use Rattle.words.specs.declared.call.Client.{Client}
use Rattle.words.specs.declared.call.Kind.{Kind}
use Rattle.words.specs.declared.call.Kind.TheVariants.{Durable, Log}
use Rattle.words.specs.declared.call.NodeId.{NodeId}
use Rattle.words.specs.declared.call.Token.{Token}
use Rattle.persist.specs.Memory.{Cas, Fence}
use Rattle.words.specs.declared.limits.TheConstants.{MAX_STEPS_ALONE}
use Rattle.arena.specs.Answers.{result_of}
use Rattle.arena.specs.Shape.{Shape}
use Rattle.arena.specs.Words.{links, marks, part_at}
use Rattle.arena.specs.declared.place.Write.{Write}
use Rattle.arena.specs.declared.place.Place.{Place}
use Rattle.arena.specs.declared.place.Place.TheVariants.{Head, Tail, Next, Mark}
use Rattle.stepper.specs.Preparation.{preparation_of, preparation_from, prepared_to, prepared_with}
use Rattle.stepper.specs.Step.{place_of}
use Rattle.stepper.specs.Steps.{keep_steps, load_steps}
use Rattle.stepper.specs.Loading.{part_next, parts_left}
use Rattle.stepper.specs.declared.loading.Loading.{Loading}
use Rattle.stepper.specs.declared.loading.Loading.TheVariants.{Length as at_length, First as at_first, Second as at_second, Third as at_third}
use Rattle.stepper.specs.declared.resume.After.{After}
use Rattle.stepper.specs.declared.resume.After.TheVariants.{More, Done}
use Rattle.stepper.specs.declared.prepare.Begun.{Begun}
use Rattle.helping.specs.Claims.{winner}
use Rattle.helping.specs.Table.{token_of, access_of, successor, first_from, prepared_op, answer_or_again}
use Rattle.helping.specs.declared.dequeue.Claim.{Claim}
use Rattle.helping.specs.declared.dequeue.Claim.TheVariants.{Won, LostTo}
use Rattle.helping.specs.declared.op.Op.{Op}
use Rattle.helping.specs.declared.op.Op.TheVariants.{PrepareStore, PrepareFlush, PrepareFence, EnqueueLoadTail, EnqueueLoadNext, EnqueueCheckTail, EnqueueLink, EnqueueMoveTail, EnqueueHelpTail, DequeueLoadHead, DequeueLoadTail, DequeueLoadNext, DequeueCheckHead, DequeueStoreEmpty, DequeueHelpTail, DequeueLoadItem, DequeueClaim, DequeueStoreResult, DequeueMoveHead, Flush as FlushPoint, Fence as FencePoint}
use Rattle.helping.specs.declared.keeping.Keeping.{Keeping}
use Rattle.helping.specs.declared.keeping.Keeping.TheVariants.{Link as KeepLink, PassedLink as KeepPassedLink, Empty as KeepEmpty, DequeuePassedLink as KeepDequeuePassedLink, Claim as KeepClaim, Result as KeepResult}
use Rattle.words.specs.declared.call.Reply.{Reply}
use Rattle.protocol.specs.Machine.{Memory, World, put, with_store, with_access, with_step, next_of, MayStep}
use Rattle.protocol.specs.declared.UnderWay.{UnderWay}
use Rattle.protocol.proofs.chain.Chains.{leads_next}
use Rattle.protocol.specs.invariants.Ledger.{Ledger}
use Rattle.protocol.specs.invariants.Base.{Base}
use Rattle.protocol.specs.invariants.Places.{IsOwnWord}
use Rattle.protocol.specs.invariants.Knows.{Preparing, Knows}
use Rattle.protocol.proofs.changes.Puts.{put_other}
use Rattle.protocol.proofs.calls.Stable.{IsOwnWrite, own_write, result_own}
use Rattle.protocol.proofs.changes.Stores.{same_links, same_marks}
use Rattle.protocol.proofs.calls.Rows.{behind_head}
use Rattle.protocol.specs.invariants.Worlds.{ledger_of, Working}
use Rattle.protocol.proofs.worlds.Moments.{calling}

-- 1 where this is another number than 0
abbrev pub one_if : ℕ → ℕ
one_if n = if n == 0 then 0 else 1

-- whether the tail lags, and whether the node behind the head is claimed
abbrev pub tail_lag : Memory → ℕ
tail_lag m = one_if (links m.cached (m.cached Tail))

abbrev pub head_lag : Memory → ℕ
head_lag m = if links m.cached (m.cached Head) == 0 then 0 else one_if (marks m.cached (links m.cached (m.cached Head)))

-- the steps of an enqueue from its first load of the tail, and of a dequeue from its first load of the head, where nothing
-- lags
abbrev pub enqueue_alone : ℕ
enqueue_alone = 5 + keep_steps

abbrev pub dequeue_alone : ℕ
dequeue_alone = 7 + load_steps + 2 * keep_steps

-- and where something may
abbrev pub enqueue_left : Memory → ℕ
enqueue_left m = enqueue_alone + (4 + keep_steps) * tail_lag m

abbrev pub dequeue_left : Memory → ℕ
dequeue_left m = dequeue_alone + (5 + keep_steps) * tail_lag m + dequeue_alone * head_lag m

abbrev pub call_left : Memory → Call → ℕ
call_left m (Enq v) = enqueue_left m
call_left m Deq = dequeue_left m

abbrev pub link_left : Memory → ℕ → ℕ
link_left m last = if links m.cached last == 0 then 2 + keep_steps else 1 + enqueue_left m

abbrev pub help_enqueue_left : Memory → ℕ → ℕ
help_enqueue_left m last = if m.cached Tail == last then 1 + enqueue_alone else 1 + enqueue_left m

abbrev pub check_tail_left : Memory → ℕ → ℕ → ℕ
check_tail_left m last next =
    if m.cached Tail == last then (if next == 0 then 1 + link_left m last else 1 + keep_steps + help_enqueue_left m last) else 1 + enqueue_left m

abbrev pub help_dequeue_left : Memory → ℕ → ℕ
help_dequeue_left m last = if m.cached Tail == last then 1 + dequeue_alone + dequeue_alone * head_lag m else 1 + dequeue_left m

-- after a claim: the winner ends, another begins again
abbrev pub lost_left : Memory → ℕ → ℕ
lost_left m first = if m.cached Head == first then 1 + dequeue_alone + (5 + keep_steps) * tail_lag m else 1 + dequeue_left m

abbrev pub move_head_left : Memory → ℕ → Claim → ℕ
move_head_left m first Won = 1
move_head_left m first (LostTo other) = lost_left m first

abbrev pub claim_left : Memory → ℕ → ℕ → ℕ
claim_left m first next = if marks m.cached next == 0 then 3 + 2 * keep_steps else 2 + 2 * keep_steps + lost_left m first

abbrev pub check_head_left : Memory → ℕ → ℕ → ℕ → ℕ
check_head_left m first last next =
    if m.cached Head == first
    then (if first == last then (if next == 0 then 2 + keep_steps else 1 + keep_steps + help_dequeue_left m last) else 1 + load_steps + claim_left m first next)
    else 1 + dequeue_left m

-- what is left once it has kept a word
abbrev pub kept_left : Memory → Keeping → ℕ
kept_left m (KeepLink p) = 1
kept_left m (KeepPassedLink p) = help_enqueue_left m p.last.0
kept_left m (KeepEmpty p) = 0
kept_left m (KeepDequeuePassedLink p) = help_dequeue_left m p.last.0
kept_left m (KeepClaim p) = 1 + keep_steps + move_head_left m p.claimed.first.0 p.claimed.claim
kept_left m (KeepResult p) = move_head_left m p.claimed.first.0 p.claimed.claim

-- how many steps a call that runs alone has left at most
abbrev pub left : Shape → Memory → Op → ℕ
left s m (PrepareStore p) = (1 + keep_steps) * (length (preparation_of s.kind p.begun) - p.index) + call_left m p.begun.call
left s m (PrepareFlush p) = (1 + keep_steps) * (length (preparation_of s.kind p.begun) - p.index) - 1 + call_left m p.begun.call
left s m (PrepareFence p) = (1 + keep_steps) * (length (preparation_of s.kind p.begun) - p.index) - 2 + call_left m p.begun.call
left s m (EnqueueLoadTail p) = enqueue_left m
left s m (EnqueueLoadNext p) = 1 + check_tail_left m p.last.0 (links m.cached p.last.0)
left s m (EnqueueCheckTail p) = check_tail_left m p.last.0 p.next.0
left s m (EnqueueLink p) = link_left m p.last.0
left s m (EnqueueMoveTail p) = 1
left s m (EnqueueHelpTail p) = help_enqueue_left m p.last.0
left s m (DequeueLoadHead p) = dequeue_left m
left s m (DequeueLoadTail p) = 2 + check_head_left m p.first.0 (m.cached Tail) (links m.cached p.first.0)
left s m (DequeueLoadNext p) = 1 + check_head_left m p.first.0 p.last.0 (links m.cached p.first.0)
left s m (DequeueCheckHead p) = check_head_left m p.first.0 p.last.0 p.next.0
left s m (DequeueStoreEmpty p) = 1 + keep_steps
left s m (DequeueHelpTail p) = help_dequeue_left m p.last.0
left s m (DequeueLoadItem p) = parts_left p.loading + claim_left m p.first.0 p.next.0
left s m (DequeueClaim p) = claim_left m p.first.0 p.next.0
left s m (DequeueStoreResult p) = 1 + keep_steps + move_head_left m p.claimed.first.0 p.claimed.claim
left s m (DequeueMoveHead p) = move_head_left m p.claimed.first.0 p.claimed.claim
left s m (FlushPoint k) = kept_left m k + keep_steps
left s m (FencePoint k) = kept_left m k + keep_steps - 1

-- fewer steps are left than these
abbrev pub Falls : Shape → Memory → After Op Reply → ℕ → Type 0
Falls s m (More op) k = left s m op < k
Falls s m (Done reply) k = 0 < k

one_if_most : (n : ℕ) → one_if n ≤ 1
one_if_most n = go (n == 0)
  where
    go : (t : Bool) → (if t then 0 else 1) ≤ 1
    go true = omega arith
    go false = omega arith

head_lag_most : (m : Memory) → head_lag m ≤ 1
head_lag_most m = go (links m.cached (m.cached Head) == 0)
  where
    go : (t : Bool) → (if t then 0 else one_if (marks m.cached (links m.cached (m.cached Head)))) ≤ 1
    go true = omega arith
    go false = one_if_most (marks m.cached (links m.cached (m.cached Head)))

one_if_some : (n : ℕ) → n ≢ 0 → one_if n ≡ 1
one_if_some n ne = rw (ne_eqb n 0 ne) refl

one_if_none : (n : ℕ) → n ≡ 0 → one_if n ≡ 0
one_if_none n z = rw (eq-eqb n 0 z) refl

-- the first load
tail_fresh : (m : Memory) → 2 + check_tail_left m (m.cached Tail) (links m.cached (m.cached Tail)) ≡ enqueue_left m
tail_fresh m = go (m.cached Tail == m.cached Tail) (eq-eqb (m.cached Tail) (m.cached Tail) refl) (links m.cached (m.cached Tail) == 0)
  where
    go : (t : Bool) → t ≡ true → (z : Bool)
        → 2 + (if t then (if z then 1 + (if z then 2 + keep_steps else 1 + (enqueue_alone + (4 + keep_steps) * (if z then 0 else 1))) else 1 + keep_steps + (if t then 1 + enqueue_alone else 1 + (enqueue_alone + (4 + keep_steps) * (if z then 0 else 1)))) else 1 + (enqueue_alone + (4 + keep_steps) * (if z then 0 else 1)))
        ≡ enqueue_alone + (4 + keep_steps) * (if z then 0 else 1)
    go true e true = refl
    go true e false = refl
    go false e z = absurd (cc)

-- the next write, or the first step after the last
falls_fence : (s : Shape) (m : Memory) (bg : Begun) (index : ℕ) → index < length (preparation_of s.kind bg)
    → left s m (prepared_op (prepared_to s.kind bg (index + 1))) < (1 + keep_steps) * (length (preparation_of s.kind bg) - index) - 2 + call_left m bg.call
falls_fence s m bg index inside = go (slice_get (preparation_of s.kind bg) (index + 1)) refl
  where
    first : (call : Call) → left s m (first_from call bg) ≡ call_left m call
    first (Enq v) = refl
    first Deq = refl

    go : (o : Option Write) → slice_get (preparation_of s.kind bg) (index + 1) ≡ o → left s m (prepared_op (prepared_with bg (index + 1) o)) < (1 + keep_steps) * (length (preparation_of s.kind bg) - index) - 2 + call_left m bg.call
    go (Some w) e = omega (arith, inside)
    go None e = omega (arith, inside, first bg.call)

module _ (s : Shape) (m : Memory) (l : Ledger) (claimed waiting : List ℕ) (b : Base s m l claimed waiting) (i : ℕ) where
  -- a store to a client's own word moves neither head nor tail
  own_lags : (p : Place) (v : ℕ) → IsOwnWord p → (tail_lag (with_store m p v) ≡ tail_lag m) × (head_lag (with_store m p v) ≡ head_lag m) × (put m.cached p v Head ≡ m.cached Head)
  own_lags p v own =
      let tail : put m.cached p v Tail ≡ m.cached Tail = put_other m.cached p v Tail (λ e. subst IsOwnWord (sym e) own) in
      let head : put m.cached p v Head ≡ m.cached Head = put_other m.cached p v Head (λ e. subst IsOwnWord (sym e) own) in
      let behind : links (put m.cached p v) (put m.cached p v Head) ≡ links m.cached (m.cached Head) = same_links s m l p v own (put m.cached p v Head) ∙ ap (links m.cached) head in
      let mark : marks (put m.cached p v) (links (put m.cached p v) (put m.cached p v Head)) ≡ marks m.cached (links m.cached (m.cached Head)) =
      same_marks s m l p v own (links (put m.cached p v) (put m.cached p v Head)) ∙ ap (marks m.cached) behind in (
        ap one_if (same_links s m l p v own (put m.cached p v Tail) ∙ ap (links m.cached) tail),
        ap (λ x. if x == 0 then 0 else one_if (marks (put m.cached p v) (links (put m.cached p v) (put m.cached p v Head)))) behind
            ∙ ap (λ y. if links m.cached (m.cached Head) == 0 then 0 else one_if y) mark,
        head,
      )

  own_call_left : (p : Place) (v : ℕ) (call : Call) → IsOwnWord p → call_left (with_store m p v) call ≡ call_left m call
  own_call_left p v (Enq x) own = ap (λ t. enqueue_alone + (4 + keep_steps) * t) (own_lags p v own).0
  own_call_left p v Deq own = ap (λ t. dequeue_alone + (5 + keep_steps) * t + dequeue_alone * head_lag (with_store m p v)) (own_lags p v own).0 ∙ ap (λ t. dequeue_alone + (5 + keep_steps) * tail_lag m + dequeue_alone * t) (own_lags p v own).1

  own_move_head_left : (p : Place) (v : ℕ) (first : ℕ) (claim : Claim) → IsOwnWord p → move_head_left (with_store m p v) first claim ≡ move_head_left m first claim
  own_move_head_left p v first Won own = refl
  own_move_head_left p v first (LostTo other) own =
      let o : (tail_lag (with_store m p v) ≡ tail_lag m) × (head_lag (with_store m p v) ≡ head_lag m) × (put m.cached p v Head ≡ m.cached Head) = own_lags p v own in
      ap (λ h. if h == first then 1 + dequeue_alone + (5 + keep_steps) * tail_lag (with_store m p v) else 1 + (dequeue_alone + (5 + keep_steps) * tail_lag (with_store m p v) + dequeue_alone * head_lag (with_store m p v))) o.2
      ∙ ap (λ t. if m.cached Head == first then 1 + dequeue_alone + (5 + keep_steps) * t else 1 + (dequeue_alone + (5 + keep_steps) * t + dequeue_alone * head_lag (with_store m p v))) o.0
      ∙ ap (λ t. if m.cached Head == first then 1 + dequeue_alone + (5 + keep_steps) * tail_lag m else 1 + (dequeue_alone + (5 + keep_steps) * tail_lag m + dequeue_alone * t)) o.1

  falls_store : (bg : Begun) (index : ℕ) (w : Write) → Preparing s m l i bg index w
      → (1 + keep_steps) * (length (preparation_of s.kind bg) - index) - 1 + call_left (with_store m w.place w.value) bg.call < (1 + keep_steps) * (length (preparation_of s.kind bg) - index) + call_left m bg.call
  falls_store bg index w h =
      let o : IsOwnWrite s bg w = own_write s bg index w (h.before.mine.own ∙ sym h.own) h.in_hand in
      let inside : index < length (preparation_of s.kind bg) = slice_get_within (preparation_of s.kind bg) index w h.in_hand in
      omega (arith, inside, own_call_left w.place w.value bg.call o.own)

  falls_check_tail : (node last next : NodeId) → Falls s m (successor s.kind (EnqueueCheckTail (record { node = node; last = last; next = next })) (m.cached Tail)) (check_tail_left m last.0 next.0)
  falls_check_tail node last next = go (m.cached Tail == last.0) (next.0 == 0)
    where
      go : (t z : Bool) → Falls s m (if t
          then (if z
          then More (EnqueueLink (record { node = node; last = last }))
          else More (FlushPoint (KeepPassedLink (record { node = node; last = last; next = next }))))
          else More (EnqueueLoadTail (record { node = node })))
          (if t then (if z then 1 + link_left m last.0 else 1 + keep_steps + help_enqueue_left m last.0) else 1 + enqueue_left m)
      go true true = omega arith
      go true false = omega arith
      go false z = omega arith

  falls_link : (node last : NodeId) → Falls s (with_access m (Cas (Next last) 0 node.0)) (successor s.kind (EnqueueLink (record { node = node; last = last })) (m.cached (Next last))) (link_left m last.0)
  falls_link node last = go (links m.cached last.0 == 0)
    where
      go : (t : Bool) → Falls s (if t then with_store m (Next last) node.0 else m) (if t then More (FlushPoint (KeepLink (record { node = node; last = last }))) else More (EnqueueLoadTail (record { node = node })))
          (if t then 2 + keep_steps else 1 + enqueue_left m)
      go true = omega arith
      go false = omega arith

  -- past a linked node the tail does not lag
  no_lag : (last next : ℕ) → m.cached Tail ≡ last → links m.kept last ≡ next → next ≢ 0 → links m.cached next ≡ 0
  no_lag last next at link some =
      let here : links m.cached (m.cached Tail) ≡ next = ap (links m.cached) at ∙ b.chained.kept last (λ z. some (sym link ∙ z)) ∙ link in
      ap (links m.cached) (sym here) ∙ b.lag (λ z. some (sym here ∙ z))

  falls_help_enqueue : (last next : ℕ) → links m.kept last ≡ next → next ≢ 0 → enqueue_left (with_access m (Cas Tail last next)) < help_enqueue_left m last
  falls_help_enqueue last next link some = go (m.cached Tail == last) refl
    where
      go : (t : Bool) → (m.cached Tail == last) ≡ t → enqueue_left (if t then with_store m Tail next else m) < (if t then 1 + enqueue_alone else 1 + enqueue_left m)
      go true e = let none : one_if (links m.cached next) ≡ 0 = one_if_none (links m.cached next) (no_lag last next (eqb-true (m.cached Tail) last e) link some) in omega (arith, none)
      go false e = omega arith

  falls_help_dequeue : (last next : ℕ) → links m.kept last ≡ next → next ≢ 0 → dequeue_left (with_access m (Cas Tail last next)) < help_dequeue_left m last
  falls_help_dequeue last next link some = go (m.cached Tail == last) refl
    where
      go : (t : Bool) → (m.cached Tail == last) ≡ t → dequeue_left (if t then with_store m Tail next else m) < (if t then 1 + dequeue_alone + dequeue_alone * head_lag m else 1 + dequeue_left m)
      go true e = let none : one_if (links m.cached next) ≡ 0 = one_if_none (links m.cached next) (no_lag last next (eqb-true (m.cached Tail) last e) link some) in omega (arith, none)
      go false e = omega arith

  head_fresh : 2 + check_head_left m (m.cached Head) (m.cached Tail) (links m.cached (m.cached Head)) < dequeue_left m
  head_fresh =
      go (m.cached Head == m.cached Head) (eq-eqb (m.cached Head) (m.cached Head) refl) (m.cached Head == m.cached Tail) refl (links m.cached (m.cached Head) == 0) refl (marks m.cached (links m.cached (m.cached Head)) == 0) refl
    where
      again : (t : Bool) → t ≡ true → (x y : ℕ) → (if t then x else y) ≡ x
      again true e x y = refl
      again false e x y = absurd (cc)

      go : (t : Bool) → t ≡ true → (e : Bool) → (m.cached Head == m.cached Tail) ≡ e → (z : Bool) → (links m.cached (m.cached Head) == 0) ≡ z → (y : Bool) → (marks m.cached (links m.cached (m.cached Head)) == 0) ≡ y
          → 2 + (if t then (if e then (if z then 2 + keep_steps else 1 + keep_steps + help_dequeue_left m (m.cached Tail)) else 1 + load_steps + (if y then 3 + 2 * keep_steps else 2 + 2 * keep_steps + (if t then 1 + dequeue_alone + (5 + keep_steps) * tail_lag m else 1 + dequeue_left m))) else 1 + dequeue_left m)
          < dequeue_alone + (5 + keep_steps) * tail_lag m + dequeue_alone * (if z then 0 else (if y then 0 else 1))
      go false a e f z g y h = absurd (cc)
      go true a true f true g y h = omega arith
      go true a true f false g y h =
          let lags : tail_lag m ≡ 1 = one_if_some (links m.cached (m.cached Tail)) (λ q. eqb-false (links m.cached (m.cached Head)) 0 g (ap (links m.cached) (eqb-true (m.cached Head) (m.cached Tail) f) ∙ q)) in
          let fresh : help_dequeue_left m (m.cached Tail) ≡ 1 + dequeue_alone + dequeue_alone * head_lag m = again (m.cached Tail == m.cached Tail) (eq-eqb (m.cached Tail) (m.cached Tail) refl) (1 + dequeue_alone + dequeue_alone * head_lag m) (1 + dequeue_left m) in
          let same : head_lag m ≡ (if y then 0 else 1) = rw (g, h) refl in
          omega (arith, lags, fresh, same)
      go true a false f true g y h =
          let r : links m.kept (m.cached Head) ≢ 0 = (leads_next (links m.kept) (m.cached Head) (m.cached Tail) b.head_to_tail (eqb-false (m.cached Head) (m.cached Tail) f)).0 in
          absurd (r (sym (b.chained.kept (m.cached Head) r) ∙ eqb-true (links m.cached (m.cached Head)) 0 g))
      go true a false f false g true h = omega arith
      go true a false f false g false h = omega arith

  falls_check_head : (token : Token) (first last next : NodeId)
      → Falls s m (successor s.kind (DequeueCheckHead (record { token = token; first = first; last = last; next = next })) (m.cached Head)) (check_head_left m first.0 last.0 next.0)
  falls_check_head token first last next = go (m.cached Head == first.0) (first.0 == last.0) (next.0 == 0)
    where
      go : (t e z : Bool) → Falls s m (if t
          then (if e
          then (if z
          then More (DequeueStoreEmpty (record { token = token }))
          else More (FlushPoint (KeepDequeuePassedLink (record { token = token; last = last; next = next }))))
          else More (DequeueLoadItem (record { token = token; first = first; next = next; loading = at_length })))
          else More (DequeueLoadHead (record { token = token })))
          (if t then (if e then (if z then 2 + keep_steps else 1 + keep_steps + help_dequeue_left m last.0) else 1 + load_steps + claim_left m first.0 next.0) else 1 + dequeue_left m)
      go true true true = omega arith
      go true true false = omega arith
      go true false z = omega arith
      go false e z = omega arith

  falls_load : (token : Token) (first next : NodeId) (loading : Loading)
      → Falls s m (successor s.kind (DequeueLoadItem (record { token = token; first = first; next = next; loading = loading })) (part_at m.cached next.0 (part_next loading)))
      (parts_left loading + claim_left m first.0 next.0)
  falls_load token first next at_length = omega arith
  falls_load token first next (at_first len) = omega arith
  falls_load token first next (at_second len one) = omega arith
  falls_load token first next (at_third len one two) = omega arith

  falls_claim : (token : Token) (first next : NodeId) (v : Value)
      → Falls s (with_access m (Cas (Mark next) 0 token.0)) (successor s.kind (DequeueClaim (record { token = token; first = first; next = next; value = v })) (m.cached (Mark next))) (claim_left m first.0 next.0)
  falls_claim token first next v = go (marks m.cached next.0 == 0)
    where
      go : (t : Bool) → Falls s (if t then with_store m (Mark next) token.0 else m)
          (More (FlushPoint (KeepClaim (record { claimed = record { token = token; first = first; next = next; value = v; claim = if t then Won else LostTo (token_of (marks m.cached next.0)) } }))))
          (if t then 3 + 2 * keep_steps else 2 + 2 * keep_steps + lost_left m first.0)
      go true = omega arith
      go false = omega arith

  falls_move_head : (token : Token) (first next : NodeId) (v : Value) (claim : Claim) → Knows s m l i (DequeueMoveHead (record { claimed = record { token = token; first = first; next = next; value = v; claim = claim } }))
      → Falls s (with_access m (Cas Head first.0 next.0)) (answer_or_again claim token v) (move_head_left m first.0 claim)
  falls_move_head token first next v Won h = omega arith
  falls_move_head token first next v (LostTo other) h = go (m.cached Head == first.0) refl
    where
      marked : marks m.cached next.0 ≢ 0
      marked = λ z. h.1.some (sym h.1.marked ∙ sym (b.marked.kept next.0 (λ q. h.1.some (sym h.1.marked ∙ q))) ∙ z)

      none : m.cached Head ≡ first.0 → (z : Bool) → (links m.cached next.0 == 0) ≡ z → (if z then 0 else one_if (marks m.cached (links m.cached next.0))) ≡ 0
      none at true e = refl
      none at false e =
          let linked : links m.cached (m.cached Head) ≡ next.0 = ap (links m.cached) at ∙ b.chained.kept first.0 (λ z. h.1.claims.some (sym h.1.claims.link ∙ z)) ∙ h.1.claims.link in
          one_if_none (marks m.cached (links m.cached next.0)) (behind_head s m l claimed waiting b i next.0 linked h.1.claims.some marked (eqb-false (links m.cached next.0) 0 e))

      go : (t : Bool) → (m.cached Head == first.0) ≡ t → dequeue_left (if t then with_store m Head next.0 else m) < (if t then 1 + dequeue_alone + (5 + keep_steps) * tail_lag m else 1 + dequeue_left m)
      go true e =
          let gone : head_lag (with_store m Head next.0) ≡ 0 = none (eqb-true (m.cached Head) first.0 e) (links m.cached next.0 == 0) refl in
          omega (arith, gone)
      go false e = omega arith

  same_move : (k : Memory) (first : ℕ) (claim : Claim) → k.cached ≡ m.cached → move_head_left k first claim ≡ move_head_left m first claim
  same_move k first Won e = refl
  same_move k first (LostTo other) e =
      ap (λ (f : Place → ℕ). let n : Memory = record { cached = f; kept = k.kept } in lost_left n first) e

  same_call : (k : Memory) (call : Call) → k.cached ≡ m.cached → call_left k call ≡ call_left m call
  same_call k (Enq v) e = ap (λ (f : Place → ℕ). let n : Memory = record { cached = f; kept = k.kept } in enqueue_left n) e
  same_call k Deq e = ap (λ (f : Place → ℕ). let n : Memory = record { cached = f; kept = k.kept } in dequeue_left n) e

  -- each step leaves fewer
  pub falls : (op : Op) → Knows s m l i op → Falls s (with_access m (access_of s.kind op)) (successor s.kind op (m.cached (place_of (access_of s.kind op)))) (left s m op)
  falls (PrepareStore p) h = falls_store p.begun p.index p.write h.0
  falls (PrepareFlush p) h =
      let inside : p.index < length (preparation_of s.kind p.begun) = slice_get_within (preparation_of s.kind p.begun) p.index p.write h.0.in_hand in
      omega (arith, inside)
  falls (PrepareFence p) h =
      let inside : p.index < length (preparation_of s.kind p.begun) = slice_get_within (preparation_of s.kind p.begun) p.index p.write h.0.in_hand in
      subst (λ x. left s (with_access m (Fence p.write.place)) (prepared_op (prepared_to s.kind p.begun (p.index + 1))) < (1 + keep_steps) * (length (preparation_of s.kind p.begun) - p.index) - 2 + x)
      (same_call (with_access m (Fence p.write.place)) p.begun.call refl) (falls_fence s (with_access m (Fence p.write.place)) p.begun p.index inside)
  falls (EnqueueLoadTail p) h = omega (arith, tail_fresh m)
  falls (EnqueueLoadNext p) h = omega arith
  falls (EnqueueCheckTail p) h = falls_check_tail p.node p.last p.next
  falls (EnqueueLink p) h = falls_link p.node p.last
  falls (FlushPoint k) h = omega arith
  falls (FencePoint (KeepLink p)) h = omega arith
  falls (EnqueueMoveTail p) h = omega arith
  falls (FencePoint (KeepPassedLink p)) h = omega arith
  falls (EnqueueHelpTail p) h = falls_help_enqueue p.last.0 p.next.0 h.2 h.1
  falls (DequeueLoadHead p) h = head_fresh
  falls (DequeueLoadTail p) h = omega arith
  falls (DequeueLoadNext p) h = omega arith
  falls (DequeueCheckHead p) h = falls_check_head p.token p.first p.last p.next
  falls (DequeueStoreEmpty p) h = omega arith
  falls (FencePoint (KeepEmpty p)) h = omega arith
  falls (FencePoint (KeepDequeuePassedLink p)) h = omega arith
  falls (DequeueHelpTail p) h = falls_help_dequeue p.last.0 p.next.0 h.2 h.1
  falls (DequeueLoadItem p) h = falls_load p.token p.first p.next p.loading
  falls (DequeueClaim p) h = falls_claim p.token p.first p.next p.value
  falls (FencePoint (KeepClaim p)) h = omega (arith, same_move (with_access m (Fence (Mark p.claimed.next))) p.claimed.first.0 p.claimed.claim refl)
  falls (DequeueStoreResult p) h =
      omega (
        arith,
        own_move_head_left (result_of s.kind (winner p.claimed.claim p.claimed.token) p.claimed.next).place (result_of s.kind (winner p.claimed.claim p.claimed.token) p.claimed.next).value p.claimed.first.0 p.claimed.claim
            (result_own s.kind (winner p.claimed.claim p.claimed.token) p.claimed.next),
      )
  falls (FencePoint (KeepResult p)) h = omega (arith, same_move (with_access m (Fence (result_of s.kind (winner p.claimed.claim p.claimed.token) p.claimed.next).place)) p.claimed.first.0 p.claimed.claim refl)
  falls (DequeueMoveHead p) h = falls_move_head p.claimed.token p.claimed.first p.claimed.next p.claimed.value p.claimed.claim h

either : (t : Bool) (x y k : ℕ) → x ≤ k → y ≤ k → (if t then x else y) ≤ k
either true x y k h g = h
either false x y k h g = g

pub loading_most : (loading : Loading) → parts_left loading ≤ 4
loading_most at_length = omega arith
loading_most (at_first len) = omega arith
loading_most (at_second len first) = omega arith
loading_most (at_third len first second) = omega arith

preparation_most : (kind : Kind) (call : Call) (b : Begun) → length (preparation_from kind call b) ≤ 10
preparation_most Durable (Enq v) b = omega arith
preparation_most Durable Deq b = omega arith
preparation_most Log (Enq v) b = omega arith
preparation_most Log Deq b = omega arith

module _ (s : Shape) (m : Memory) where
  enqueue_most : enqueue_left m ≤ 13
  enqueue_most = omega (arith, one_if_most (links m.cached (m.cached Tail)))

  dequeue_most : dequeue_left m ≤ 37
  dequeue_most = omega (arith, one_if_most (links m.cached (m.cached Tail)), head_lag_most m)

  call_most : (call : Call) → call_left m call ≤ 37
  call_most (Enq v) = omega (arith, enqueue_most)
  call_most Deq = dequeue_most

  link_most : (last : ℕ) → link_left m last ≤ 14
  link_most last = either (links m.cached last == 0) (2 + keep_steps) (1 + enqueue_left m) 14 (omega arith) (omega (arith, enqueue_most))

  help_enqueue_most : (last : ℕ) → help_enqueue_left m last ≤ 14
  help_enqueue_most last = either (m.cached Tail == last) (1 + enqueue_alone) (1 + enqueue_left m) 14 (omega arith) (omega (arith, enqueue_most))

  check_tail_most : (last next : ℕ) → check_tail_left m last next ≤ 17
  check_tail_most last next =
      either (m.cached Tail == last) (if next == 0 then 1 + link_left m last else 1 + keep_steps + help_enqueue_left m last) (1 + enqueue_left m) 17
      (either (next == 0) (1 + link_left m last) (1 + keep_steps + help_enqueue_left m last) 17 (omega (arith, link_most last)) (omega (arith, help_enqueue_most last))) (omega (arith, enqueue_most))

  help_dequeue_most : (last : ℕ) → help_dequeue_left m last ≤ 38
  help_dequeue_most last = either (m.cached Tail == last) (1 + dequeue_alone + dequeue_alone * head_lag m) (1 + dequeue_left m) 38 (omega (arith, head_lag_most m)) (omega (arith, dequeue_most))

  lost_most : (first : ℕ) → lost_left m first ≤ 38
  lost_most first =
      either (m.cached Head == first) (1 + dequeue_alone + (5 + keep_steps) * tail_lag m) (1 + dequeue_left m) 38 (omega (arith, one_if_most (links m.cached (m.cached Tail)))) (omega (arith, dequeue_most))

  move_head_most : (first : ℕ) (claim : Claim) → move_head_left m first claim ≤ 38
  move_head_most first Won = omega arith
  move_head_most first (LostTo other) = lost_most first

  claim_most : (first next : ℕ) → claim_left m first next ≤ 44
  claim_most first next = either (marks m.cached next == 0) (3 + 2 * keep_steps) (2 + 2 * keep_steps + lost_left m first) 44 (omega arith) (omega (arith, lost_most first))

  check_head_most : (first last next : ℕ) → check_head_left m first last next ≤ 49
  check_head_most first last next =
      either (m.cached Head == first) (if first == last then (if next == 0 then 2 + keep_steps else 1 + keep_steps + help_dequeue_left m last) else 1 + load_steps + claim_left m first next) (1 + dequeue_left m) 49
      (either (first == last) (if next == 0 then 2 + keep_steps else 1 + keep_steps + help_dequeue_left m last) (1 + load_steps + claim_left m first next) 49
      (either (next == 0) (2 + keep_steps) (1 + keep_steps + help_dequeue_left m last) 49 (omega arith) (omega (arith, help_dequeue_most last))) (omega (arith, claim_most first next)))
      (omega (arith, dequeue_most))

  kept_most : (k : Keeping) → kept_left m k ≤ 49
  kept_most (KeepLink p) = omega arith
  kept_most (KeepPassedLink p) = omega (arith, help_enqueue_most p.last.0)
  kept_most (KeepEmpty p) = omega arith
  kept_most (KeepDequeuePassedLink p) = omega (arith, help_dequeue_most p.last.0)
  kept_most (KeepClaim p) = omega (arith, move_head_most p.claimed.first.0 p.claimed.claim)
  kept_most (KeepResult p) = omega (arith, move_head_most p.claimed.first.0 p.claimed.claim)

  -- and never more than these
  pub left_most : (op : Op) → left s m op ≤ MAX_STEPS_ALONE
  left_most (PrepareStore p) = omega (arith, preparation_most s.kind p.begun.call p.begun, call_most p.begun.call)
  left_most (PrepareFence p) = omega (arith, preparation_most s.kind p.begun.call p.begun, call_most p.begun.call)
  left_most (PrepareFlush p) = omega (arith, preparation_most s.kind p.begun.call p.begun, call_most p.begun.call)
  left_most (EnqueueLoadTail p) = omega (arith, enqueue_most)
  left_most (EnqueueLoadNext p) = omega (arith, check_tail_most p.last.0 (links m.cached p.last.0))
  left_most (EnqueueCheckTail p) = omega (arith, check_tail_most p.last.0 p.next.0)
  left_most (EnqueueLink p) = omega (arith, link_most p.last.0)
  left_most (EnqueueMoveTail p) = omega arith
  left_most (EnqueueHelpTail p) = omega (arith, help_enqueue_most p.last.0)
  left_most (DequeueLoadHead p) = omega (arith, dequeue_most)
  left_most (DequeueLoadTail p) = omega (arith, check_head_most p.first.0 (m.cached Tail) (links m.cached p.first.0))
  left_most (DequeueLoadNext p) = omega (arith, check_head_most p.first.0 p.last.0 (links m.cached p.first.0))
  left_most (DequeueCheckHead p) = omega (arith, check_head_most p.first.0 p.last.0 p.next.0)
  left_most (DequeueStoreEmpty p) = omega arith
  left_most (DequeueHelpTail p) = omega (arith, help_dequeue_most p.last.0)
  left_most (DequeueLoadItem p) = omega (arith, loading_most p.loading, claim_most p.first.0 p.next.0)
  left_most (DequeueClaim p) = omega (arith, claim_most p.first.0 p.next.0)
  left_most (DequeueStoreResult p) = omega (arith, move_head_most p.claimed.first.0 p.claimed.claim)
  left_most (DequeueMoveHead p) = omega (arith, move_head_most p.claimed.first.0 p.claimed.claim)
  left_most (FlushPoint k) = omega (arith, kept_most k)
  left_most (FencePoint k) = omega (arith, kept_most k)

-- a lone step of a call under way leaves it fewer steps, or answers it
pub step_falls : (w : World) (v : Working w) (client : Client) (u : UnderWay) (may : MayStep w client u) → Falls w.shape (with_step w client u).memory (next_of w u) (left w.shape w.memory u.op)
step_falls w v client u may = falls w.shape w.memory (ledger_of w) v.claimed v.waiting v.base client.0 u.op (calling w v client.0 u may.waits).0
