-- Each step keeps what holds at every moment, and leads its call to what it knows next.
use Rattle.std.proofs.Common.{◌≡◌, ◌≢◌, ℕ, suc, ◌+◌, ◌≤◌, ◌<◌, inl, inr, List, ◌∷◌, ◌++◌, Bool, true, false, Option, Some, None, if◌then◌else◌, ◌==◌, refl, sym, ◌∙◌, ap, subst, arith}
use Rattle.std.specs.Prelude.{slice_get}
use Rattle.std.proofs.lemmas.Bool.{cases_eq, eqb-true, eqb-false}
use Rattle.arena.specs.declared.place.Part.TheVariants.{Length, First, Second, Third}
use Rattle.stepper.specs.Loading.{part_next}
use Rattle.stepper.specs.declared.loading.Loading.{Loading}
use Rattle.stepper.specs.declared.loading.Loading.TheVariants.{Length as at_length, First as at_first}
use Rattle.stepper.specs.declared.loading.Loading.TheVariants.{Second as at_second, Third as at_third}
use Rattle.protocol.proofs.calls.Messages.{message_stored}
use Rattle.arena.specs.declared.place.Part.{Part}
use Rattle.words.specs.PlainQueue.{Value}
use Rattle.words.specs.declared.call.Call.{Call}
use Rattle.words.specs.declared.call.Call.TheVariants.{Enq, Deq}
use Rattle.words.specs.declared.call.Client.{Client}
use Rattle.words.specs.declared.call.NodeId.{NodeId}
use Rattle.words.specs.declared.call.Reply.{Reply}
use Rattle.words.specs.declared.call.Reply.TheVariants.{Done as Answered, Got, Empty}
use Rattle.words.specs.declared.call.Token.{Token}
use Rattle.persist.specs.Memory.{Cas}
use Rattle.arena.specs.Answers.{empty_answer_of, result_of}
use Rattle.arena.specs.Chain.{IsAmong, LeadsTo}
use Rattle.arena.specs.Chain.LeadsTo.{there}
use Rattle.arena.specs.Place.{number_of}
use Rattle.arena.specs.Shape.{Shape, owner, greatest}
use Rattle.arena.specs.Words.{links, marks, values, bumps, announcements, part_at, IsWritten, value_of}
use Rattle.arena.specs.declared.place.Write.{Write}
use Rattle.arena.specs.declared.place.Place.{Place}
use Rattle.arena.specs.declared.place.Place.TheVariants.{Announcement, Head, Tail, Bump, Item, Next, Mark}
use Rattle.stepper.specs.Preparation.{preparation_of, prepared_to, prepared_with, IsBegun}
use Rattle.stepper.specs.Step.{place_of, kept_by}
use Rattle.stepper.specs.declared.resume.After.{After}
use Rattle.stepper.specs.declared.resume.After.TheVariants.{More, Done}
use Rattle.stepper.specs.declared.prepare.Begun.{Begun}
use Rattle.helping.specs.Claims.{winner}
use Rattle.helping.specs.Table.{node_of, token_of, access_of, successor, first_from, prepared_op, answer_or_again}
use Rattle.helping.specs.declared.dequeue.Claim.{Claim}
use Rattle.helping.specs.declared.dequeue.Claim.TheVariants.{Won, LostTo}
use Rattle.helping.specs.declared.op.Op.{Op}
use Rattle.helping.specs.declared.op.Op.TheVariants.{PrepareStore, PrepareFlush, PrepareFence, EnqueueLoadTail}
use Rattle.helping.specs.declared.op.Op.TheVariants.{EnqueueLoadNext, EnqueueCheckTail, EnqueueLink, EnqueueMoveTail}
use Rattle.helping.specs.declared.op.Op.TheVariants.{EnqueueHelpTail, DequeueLoadHead, DequeueLoadTail, DequeueLoadNext}
use Rattle.helping.specs.declared.op.Op.TheVariants.{DequeueCheckHead, DequeueStoreEmpty, DequeueHelpTail}
use Rattle.helping.specs.declared.op.Op.TheVariants.{DequeueLoadItem, DequeueClaim, DequeueStoreResult, DequeueMoveHead}
use Rattle.helping.specs.declared.op.Op.TheVariants.{Flush as FlushPoint, Fence as FencePoint}
use Rattle.helping.specs.declared.keeping.Keeping.TheVariants.{Link as KeepLink, PassedLink as KeepPassedLink}
use Rattle.helping.specs.declared.keeping.Keeping.TheVariants.{Empty as KeepEmpty}
use Rattle.helping.specs.declared.keeping.Keeping.TheVariants.{DequeuePassedLink as KeepDequeuePassedLink}
use Rattle.helping.specs.declared.keeping.Keeping.TheVariants.{Claim as KeepClaim, Result as KeepResult}
use Rattle.protocol.specs.Machine.{Memory, put, with_store, with_fence, with_access}
use Rattle.sound_words.specs.Sound.{IsIssued, IsOwn}
use Rattle.arena.proofs.Facts.{in_left, leads_at, leads_one, leads_trans}
use Rattle.protocol.proofs.chain.Chains.{upd, upd_same, upd_other, leads_from, leads_in, leads_next, in_chain}
use Rattle.protocol.specs.invariants.Ledger.{Stage, Ledger, held_token, asked_call}
use Rattle.protocol.specs.invariants.Places.{IsOwnWord, IsOfRecord, Says, SaysEmpty, empties}
use Rattle.protocol.specs.invariants.Base.{IsMessage, IsLinking, IsClaiming, IsAnswering, Empties, Base}
use Rattle.protocol.specs.invariants.Knows.{Mine, Loose, Before, Written, Unwritten, UnwrittenBelow, Unstored}
use Rattle.protocol.specs.invariants.Knows.{Preparing, Prepared, Acting, Enqueuing, Linked, Dequeuing, IsPassed, Claims}
use Rattle.protocol.specs.invariants.Knows.{Knows}
use Rattle.protocol.specs.invariants.Grows.{Grows}
use Rattle.protocol.specs.invariants.Ledger.Stage.{Unmoved, Seen, Took}
use Rattle.protocol.proofs.changes.Puts.{IsEmptyWord, empty_word, put_cases, put_same, put_other, put_empties}
use Rattle.protocol.proofs.calls.Stable.{empty_own, IsOwnWrite, own_write, stable}
use Rattle.protocol.proofs.changes.Keeps.{restaged, kept_ledger, Kept}
use Rattle.protocol.proofs.changes.Fences.{chain_part, keep_any}
use Rattle.protocol.proofs.calls.Preparations.{IsLastWrite, IsPlanned, planned, planned_write, turn_of, one_plan}
use Rattle.protocol.proofs.calls.Preparations.{prepared_issued, written_issued, all_written, prepared_part}
use Rattle.protocol.proofs.calls.Preparations.{prepared_value}
use Rattle.protocol.proofs.changes.Stores.{none_grows, same_links, same_marks, own_store_grows, no_result, MayStore}
use Rattle.protocol.proofs.changes.Stores.{own_base, head_base, tail_base, link_base, claim_base, empty_base}
use Rattle.protocol.proofs.changes.Stores.{result_base, head_grows, tail_grows, link_grows, claim_grows, empty_grows}
use Rattle.protocol.proofs.changes.Stores.{result_grows}

-- what a call knows after a step, or that it took effect with its answer
abbrev pub KnowsNext : Shape → Memory → Ledger → ℕ → After Op Reply → Type 0
KnowsNext s m l i (More op) = Knows s m l i op
KnowsNext s m l i (Done reply) = record { took : l.stage i ≡ Took reply; at : ℕ; acting : Acting s m l i at }

-- what a dequeue notes when it has looked behind its first node
abbrev pub looked_stage : ℕ → Stage
looked_stage found = if found == 0 then Seen else Unmoved

abbrev pub fence_ledger : Shape → Memory → Ledger → Option Place → Ledger
fence_ledger s m l (Some p) = kept_ledger s m l p
fence_ledger s m l None = l

-- the ledger after client i's step
abbrev pub ledger_after : Shape → Memory → Ledger → ℕ → Op → Ledger
ledger_after s m l i (DequeueLoadNext p) = restaged l i (looked_stage (links m.cached p.first.0)) l.queue
ledger_after s m l i op = fence_ledger s m l (kept_by (access_of s.kind op))

-- client i's step from one state to another
pub record Row (s : Shape) (m : Memory) (l : Ledger) (n : Memory) (k : Ledger) (i : ℕ) (next : After Op Reply) : Type 0 where
  pub claimed : List ℕ
  pub waiting : List ℕ
  pub base : Base s n k claimed waiting
  pub grows : Grows i s m l n k
  pub knows : KnowsNext s n k i next

-- where a call is that has written this much of its record
pub arrives : (s : Shape) (m : Memory) (l : Ledger) (i : ℕ) (b : Begun) (index : ℕ) → Before s m l i b.token.0 → l.stage i ≡ Unmoved → l.begun i ≡ b → b.client.0 ≡ i → Written s m b index → bumps m.cached i ≤ b.used + 1
    → ((p : Place) → IsOwnWord p → IsOfRecord p → number_of p ≡ b.token.0 → UnwrittenBelow s b index p → (m.cached p ≡ 0) × (m.kept p ≡ 0))
    → (Unwritten s b index (Announcement (record { 0 = i })) → (announcements m.cached i ≢ b.token.0) × (announcements m.kept i ≢ b.token.0))
    → Knows s m l i (prepared_op (prepared_to s.kind b index))
arrives s m l i b index before unmoved begun own written bump rest unannounced = go (slice_get (preparation_of s.kind b) index) refl
  where
    acting : Prepared s m b → Acting s m l i b.token.0
    acting p = record { mine = before.mine; prepared = subst (Prepared s m) (sym begun) p; client = ap (λ x. x.client.0) begun ∙ own }

    first : Prepared s m b → (call : Call) → b.call ≡ call → Knows s m l i (first_from call b)
    first p (Enq v) c =
        let at : values m.cached b.token.0 ≡ v = prepared_value s m b v p c in
        let r : Enqueuing s m l i b.token.0 = record {
          before = before;
          acting = acting p;
          unmoved = unmoved;
          asks = ap (λ x. x.call) begun ∙ c ∙ ap Enq (sym at);
          kept = λ part. (prepared_part s m b v part p c).1 ∙ sym (prepared_part s m b v part p c).0;
        } in
        r
    first p Deq c =
        let r : Dequeuing s m l i b.token.0 = record { before = before; acting = acting p; asks = ap (λ x. x.call) begun ∙ c } in
        r

    go : (o : Option Write) → slice_get (preparation_of s.kind b) index ≡ o → Knows s m l i (prepared_op (prepared_with b index o))
    go (Some w) e =
        let r : Preparing s m l i b index w = record {
          before = before;
          unmoved = unmoved;
          begun = begun;
          own = own;
          in_hand = e;
          so_far = written;
          bump = bump;
          rest = λ p whose of named none. rest p whose of named (λ j v lt f. none j v (omega (arith, lt)) f);
          unannounced = unannounced;
        } in
        let pl : IsPlanned s s.kind b.call b index w = planned_write s b index w written.begun e in
        let fresh : Unstored m w = λ x part at.
        rest w.place (own_write s b index w (before.mine.own ∙ sym own) e).own (subst IsOfRecord (sym at) tt) (pl.numbered (subst IsOfRecord (sym at) tt)).0
        (λ j v lt f same.
        let one : turn_of s.kind b.call v.place ≡ j = (planned_write s b j v written.begun f).turn in
        let two : turn_of s.kind b.call w.place ≡ index = pl.turn in
        let both : turn_of s.kind b.call v.place ≡ turn_of s.kind b.call w.place = ap (turn_of s.kind b.call) same in
        absurd (omega (arith, lt, one, two, both))) in
        (r, fresh)
    go None e = first (all_written s m b index written e) b.call refl

looked_cases : (found : ℕ) (t : Bool) → (found == 0) ≡ t
    → (found ≢ 0 → (if t then Seen else Unmoved) ≡ Unmoved) × (found ≡ 0 → (if t then Seen else Unmoved) ≡ Seen) × ((r : Reply) → (if t then Seen else Unmoved) ≢ Took r)
looked_cases found true e = (λ some. absurd (some (eqb-true found 0 e)), λ none. refl, λ r q. cc)
looked_cases found false e = (λ some. refl, λ none. absurd (eqb-false found 0 e none), λ r q. cc)

module _ (s : Shape) (m : Memory) (l : Ledger) (claimed waiting : List ℕ) (b : Base s m l claimed waiting) (i : ℕ) where
  -- the words and the log stay
  quiet : (next : After Op Reply) → KnowsNext s m l i next → Row s m l m l i next
  quiet next h = record { claimed = claimed; waiting = waiting; base = b; grows = none_grows i s m l; knows = h }

  -- a change that nobody's knowledge suffers from, the actor's own neither
  anyone : (old : Op) (next : After Op Reply) (n : Memory) (k : Ledger) → Kept s m l n k → Knows s m l i old → (Kept s m l n k → Knows s n k i old → KnowsNext s n k i next) → Row s m l n k i next
  anyone old next n k c h f = record {
    claimed = c.claimed;
    waiting = c.waiting;
    base = c.base;
    grows = c.grows i;
    knows = f c (stable (suc i) i s m l n k (λ e. absurd (omega (arith, e))) (c.grows (suc i)) old h);
  }

  -- a kept word
  fences : (old : Op) (next : After Op Reply) (p : Place) → Knows s m l i old
      → (Kept s m l (with_fence m p) (kept_ledger s m l p) → Knows s (with_fence m p) (kept_ledger s m l p) i old → KnowsNext s (with_fence m p) (kept_ledger s m l p) i next)
      → Row s m l (with_fence m p) (kept_ledger s m l p) i next
  fences old next p h f = anyone old next (with_fence m p) (kept_ledger s m l p) (keep_any s m l claimed waiting b p) h f

  same : Kept s m l m l
  same = record { claimed = claimed; waiting = waiting; base = b; grows = λ a. none_grows a s m l }

  -- the tail is moved along a kept link
  tail_moves : (from to : ℕ) → links m.kept from ≡ to → to ≢ 0 → Kept s m l (with_access m (Cas Tail from to)) l
  tail_moves from to e some = go (m.cached Tail == from) refl
    where
      go : (t : Bool) → (m.cached Tail == from) ≡ t → Kept s m l (if t then with_store m Tail to else m) l
      go true t =
          let r : LeadsTo (links m.kept) to (m.cached Tail) = subst (λ x. LeadsTo (links m.kept) to x) (sym (eqb-true (m.cached Tail) from t)) (leads_one (links m.kept) from to e some) in
          let fit : to ≤ greatest s = subst (λ x. x ≤ greatest s) e (b.fits_kept (Next (node_of from)) tt) in
          let linked : links m.cached (m.cached Tail) ≡ to = ap (links m.cached) (eqb-true (m.cached Tail) from t) ∙ b.chained.kept from (λ z. some (sym e ∙ z)) ∙ e in
          let no_lag : links m.cached to ≢ 0 → links m.cached (links m.cached to) ≡ 0 = λ h.
          absurd (h (ap (links m.cached) (sym linked) ∙ b.lag (λ z. some (sym linked ∙ z)))) in
          record { claimed = claimed; waiting = waiting; base = tail_base s m l claimed waiting b to fit r no_lag; grows = λ a. tail_grows s m l claimed waiting b a to r }
      go false t = same

  -- the node behind a claimed one behind the head has no mark
  pub behind_head : (next : ℕ) → links m.cached (m.cached Head) ≡ next → next ≢ 0 → marks m.cached next ≢ 0 → links m.cached next ≢ 0 → marks m.cached (links m.cached next) ≡ 0
  behind_head next at some marked linked =
      ap (λ x. marks m.cached (links m.cached x)) (sym at)
      ∙ b.one_claim (λ z. some (sym at ∙ z)) (λ z. marked (ap (marks m.cached) (sym at) ∙ z)) (λ z. linked (ap (links m.cached) (sym at) ∙ z))

  -- the head is moved to the claimed node behind it
  head_moves : (first next : ℕ) → Claims m first next → marks m.kept next ≢ 0 → Kept s m l (with_access m (Cas Head first next)) l
  head_moves first next c claimed_now = go (m.cached Head == first) refl
    where
      go : (t : Bool) → (m.cached Head == first) ≡ t → Kept s m l (if t then with_store m Head next else m) l
      go true t =
          let r : LeadsTo (links m.kept) next (m.cached Head) = subst (λ x. LeadsTo (links m.kept) next x) (sym (eqb-true (m.cached Head) first t)) (leads_one (links m.kept) first next c.link c.some) in
          let fit : next ≤ greatest s = subst (λ x. x ≤ greatest s) c.link (b.fits_kept (Next (node_of first)) tt) in
          let linked : links m.cached (m.cached Head) ≡ next = ap (links m.cached) (eqb-true (m.cached Head) first t) ∙ b.chained.kept first (λ z. c.some (sym c.link ∙ z)) ∙ c.link in
          let marked : marks m.cached next ≢ 0 = λ z. claimed_now (sym (b.marked.kept next claimed_now) ∙ z) in
          let no_more : links m.cached next ≢ 0 → marks m.cached (links m.cached next) ≢ 0 → links m.cached (links m.cached next) ≢ 0 → marks m.cached (links m.cached (links m.cached next)) ≡ 0 =
          λ h g f. absurd (g (behind_head next linked c.some marked h)) in
          record { claimed = claimed; waiting = waiting; base = head_base s m l claimed waiting b next fit (inr (b.marked.back next claimed_now)) c.tail r no_more; grows = λ a. head_grows s m l claimed waiting b a next r }
      go false t = same

  -- the record of a call that acts is issued
  acting_issued : (c : ℕ) → Acting s m l i c → IsIssued s m.kept c
  acting_issued c h =
      subst (IsIssued s m.kept) h.mine.holds (prepared_issued s m (l.begun i) h.prepared (ap (owner s) h.mine.holds ∙ h.mine.own ∙ sym h.client))

  row_PrepareStore : (bg : Begun) (index : ℕ) (w : Write) → Preparing s m l i bg index w → Unstored m w
      → Row s m l (with_store m w.place w.value) l i (More (PrepareFlush (record { begun = bg; index = index; write = w })))
  row_PrepareStore bg index w h fresh =
      let g : IsBegun s bg = h.so_far.begun in
      let c : ℕ = bg.token.0 in
      let o : IsOwnWrite s bg w = own_write s bg index w (h.before.mine.own ∙ sym h.own) h.in_hand in
      let pl : IsPlanned s s.kind bg.call bg index w = planned_write s bg index w g h.in_hand in
      let may : MayStore s m w.place w.value = record {
        issued = λ r some. subst (IsIssued s m.kept) (sym (pl.numbered r).0) (written_issued s m bg index h.so_far (pl.numbered r).1 (h.before.mine.own ∙ sym h.own));
        of_kind = pl.of_kind;
        fits = pl.fits;
      } in
      let loose : (x : NodeId) (part : Part) → w.place ≡ Item x part → ((j : ℕ) → links m.cached j ≢ x.0) × IsMessage (with_store m w.place w.value) x.0 = λ x part e. (
        λ j q. h.before.loose.link j (q ∙ sym (ap number_of e) ∙ (pl.numbered (subst IsOfRecord (sym e) tt)).0),
        message_stored s m l i bg index w h fresh x part e,
      ) in
      let bump : (t : Client) → w.place ≡ Bump t → (bumps m.kept t.0 ≤ w.value) × (t.0 < s.clients) = λ t e.
      let who : t.0 ≡ bg.client.0 = pl.bump t.0 e in
      let up : w.value ≡ bg.used + 1 = pl.value ∙ ap (planned bg) e in
      let at : t.0 ≡ i = who ∙ h.own in (
        subst (λ x. bumps m.kept x ≤ w.value) (sym at) (omega (arith, b.kept_bump i, h.bump, up)),
        subst (λ x. x < s.clients) (sym who) g.client,
      ) in
      let announces : (t : Client) → w.place ≡ Announcement t → w.value ≢ 0 → IsOwn s m.kept t.0 w.value = λ t e some.
      let last : IsLastWrite s.kind bg.call bg index w t.0 = pl.announces t.0 e in
      let issued : IsIssued s m.kept bg.token.0 = written_issued s m bg index h.so_far last.later (h.before.mine.own ∙ sym h.own) in
      subst (IsOwn s m.kept t.0) (sym last.token) (record { issued = issued; owned = h.before.mine.own ∙ sym (last.who ∙ h.own) }) in
      let quiet_put : empties s (put m.cached w.place w.value) ≡ empties s m.cached = put_empties s m.cached w.place w.value pl.speaks in
      let before : Before s (with_store m w.place w.value) l i bg.token.0 = record {
        mine = h.before.mine;
        loose = record {
          link = λ x e. h.before.loose.link x (sym (same_links s m l w.place w.value o.own x) ∙ e);
          mark = λ x e. h.before.loose.mark x (sym (same_marks s m l w.place w.value o.own x) ∙ e);
        };
        silent = λ e. h.before.silent (subst (λ f. Says s f bg.token.0) quiet_put e);
        untaken = h.before.untaken;
      } in
      let so_far : Written s (with_store m w.place w.value) bg index = record {
        begun = g;
        numbered = h.so_far.numbered;
        written = λ j v q e. (
          elim (put_cases m.cached w.place w.value v.place) [
            | inl t ↦ t.1 ∙ sym (one_plan s bg index j w v g h.in_hand e t.0)
            | inr t ↦ t.1 ∙ (h.so_far.written j v q e).0
          ],
          (h.so_far.written j v q e).1,
        );
      } in
      let low : put m.cached w.place w.value (Bump (record { 0 = i })) ≤ bg.used + 1 =
      elim (put_cases m.cached w.place w.value (Bump (record { 0 = i }))) [
        | inl t ↦
            let up : put m.cached w.place w.value (Bump (record { 0 = i })) ≡ bg.used + 1 = t.1 ∙ pl.value ∙ ap (planned bg) (sym t.0) in
            omega (arith, up)
        | inr t ↦ subst (λ x. x ≤ bg.used + 1) (sym t.1) h.bump
      ] in
      record {
        claimed = claimed;
        waiting = waiting;
        base = own_base s m l claimed waiting b w.place w.value may o.own pl.speaks loose bump announces;
        grows = own_store_grows s m l w.place w.value o.own i (inl (o.whose ∙ h.own))
            (no_result s m l claimed waiting w.place w.value b (λ r x e. h.before.loose.mark x (e ∙ (o.answer r).1)));
        knows = (
          record {
            before = before;
            unmoved = h.unmoved;
            begun = h.begun;
            own = h.own;
            in_hand = h.in_hand;
            so_far = so_far;
            bump = low;
            rest = λ p own of named none.
                (put_other m.cached w.place w.value p (λ e. none index w (omega arith) h.in_hand (sym e)) ∙ (h.rest p own of named none).0, (h.rest p own of named none).1);
            unannounced = λ none. (
              λ e. (h.unannounced none).0 (sym (put_other m.cached w.place w.value (Announcement (record { 0 = i })) (λ q. none index w (omega arith) h.in_hand (sym q))) ∙ e),
              (h.unannounced none).1,
            );
          },
          put_same m.cached w.place w.value,
        );
      }

  row_PrepareFence : (bg : Begun) (index : ℕ) (w : Write) → Preparing s m l i bg index w × IsWritten m.cached w
      → Row s m l (with_fence m w.place) (kept_ledger s m l w.place) i (More (prepared_op (prepared_to s.kind bg (index + 1))))
  row_PrepareFence bg index w h = fences (PrepareFence (record { begun = bg; index = index; write = w })) (More (prepared_op (prepared_to s.kind bg (index + 1)))) w.place h
      (λ c g.
      arrives s (with_fence m w.place) (kept_ledger s m l w.place) i bg (index + 1) g.0.before g.0.unmoved g.0.begun g.0.own
      (record {
        begun = g.0.so_far.begun;
        numbered = g.0.so_far.numbered;
        written = λ j v q e. elim (cases_eq j index) [
          | inl t ↦
              let same : Some w ≡ Some v = sym g.0.in_hand ∙ ap (slice_get (preparation_of s.kind bg)) (sym t) ∙ e in
              let is : w ≡ v = cc in
              subst (λ x. IsWritten m.cached x × IsWritten (put m.kept w.place (m.cached w.place)) x) is (g.1, put_same m.kept w.place (m.cached w.place) ∙ g.1)
          | inr t ↦ g.0.so_far.written j v (omega (arith, q, t)) e
        ];
      }) g.0.bump
      (λ p own of named none. g.0.rest p own of named (λ k v le e. none k v (omega (arith, le)) e))
      (λ none. g.0.unannounced (λ k v le e. none k v (omega (arith, le)) e)))

  tail_on_chain : LeadsTo (links m.kept) (m.cached Tail) 0
  tail_on_chain =
      leads_from (links m.kept) 0 (claimed ++ waiting) (m.cached Tail) b.chained.chain
      (leads_in (links m.kept) 0 (claimed ++ waiting) (m.cached Tail) (m.cached Head) b.chained.chain b.head_to_tail (in_left (m.cached Head) (0 ∷ claimed) waiting b.head))

  head_passed : IsPassed m (m.cached Head)
  head_passed = elim b.head [ inl z ↦ inl z | inr h ↦ inr (b.marked.on (m.cached Head) h) ]

  row_EnqueueCheckTail : (node last next : NodeId) → Knows s m l i (EnqueueCheckTail (record { node = node; last = last; next = next }))
      → Row s m l m l i (successor s.kind (EnqueueCheckTail (record { node = node; last = last; next = next })) (m.cached Tail))
  row_EnqueueCheckTail node last next h = go (m.cached Tail == last.0) (next.0 == 0) refl
    where
      go : (t z : Bool) → (next.0 == 0) ≡ z → Row s m l m l i (if t
          then (if z
          then More (EnqueueLink (record { node = node; last = last }))
          else More (FlushPoint (KeepPassedLink (record { node = node; last = last; next = next }))))
          else More (EnqueueLoadTail (record { node = node })))
      go true true e = quiet (More (EnqueueLink (record { node = node; last = last }))) (h.0, h.1)
      go true false e = quiet (More (FlushPoint (KeepPassedLink (record { node = node; last = last; next = next })))) (h.0, eqb-false next.0 0 e, h.2 (eqb-false next.0 0 e))
      go false z e = quiet (More (EnqueueLoadTail (record { node = node }))) h.0

  -- a call's own record is not touched by a link or a claim
  shared_acting : (c : ℕ) (p : Place) (v : ℕ) → (IsOwnWord p → ⊥) → Acting s m l i c → Acting s (with_store m p v) l i c
  shared_acting c p v shared h = record {
    mine = h.mine;
    prepared = record {
      begun = h.prepared.begun;
      written = λ j w e.
          let o : IsOwnWrite s (l.begun i) w = own_write s (l.begun i) j w (ap (owner s) h.mine.holds ∙ h.mine.own ∙ sym h.client) e in
          (put_other m.cached p v w.place (λ q. shared (subst IsOwnWord q o.own)) ∙ (h.prepared.written j w e).0, (h.prepared.written j w e).1);
    };
    client = h.client;
  }

  row_EnqueueLink : (node last : NodeId) → Knows s m l i (EnqueueLink (record { node = node; last = last }))
      → Row s m l (with_access m (Cas (Next last) 0 node.0)) l i (successor s.kind (EnqueueLink (record { node = node; last = last })) (m.cached (Next last)))
  row_EnqueueLink node last h = go (links m.cached last.0 == 0) refl
    where
      go : (t : Bool) → (links m.cached last.0 == 0) ≡ t → Row s m l (if t then with_store m (Next last) node.0 else m) l i
          (if t then More (FlushPoint (KeepLink (record { node = node; last = last }))) else More (EnqueueLoadTail (record { node = node })))
      go true e =
          let empty : links m.cached last.0 ≡ 0 = eqb-true (links m.cached last.0) 0 e in
          let issued : IsIssued s m.kept node.0 = acting_issued node.0 h.0.acting in
          let fit : node.0 ≤ greatest s = subst (λ x. x ≤ greatest s) h.0.acting.mine.holds h.0.acting.prepared.begun.is_record.1 in
          let linked : Linked s (with_store m (Next last) node.0) l i node.0 = record {
            acting = shared_acting node.0 (Next last) node.0 (λ q. q) h.0.acting;
            unmarked = h.0.before.loose.mark;
            asks = h.0.asks;
          } in
          record {
            claimed = claimed;
            waiting = waiting;
            base = link_base s m l claimed waiting b i node.0 last.0 h.0 issued fit h.1 empty;
            grows = link_grows s m l claimed waiting b i node.0 last.0 empty h.0.before.mine.own;
            knows = (linked, upd_same (links m.cached) last.0 node.0);
          }
      go false e = quiet (More (EnqueueLoadTail (record { node = node }))) h.0

  row_EnqueueMoveTail : (node last : NodeId) → Knows s m l i (EnqueueMoveTail (record { node = node; last = last })) → Row s m l (with_access m (Cas Tail last.0 node.0)) l i (Done Answered)
  row_EnqueueMoveTail node last h =
      let holds : held_token l (owner s node.0) ≡ node.0 = ap (held_token l) h.0.acting.mine.own ∙ h.0.acting.mine.holds in
      let took : l.stage (owner s node.0) ≡ Took Answered =
      subst (λ x. held_token l (owner s x) ≡ x → l.stage (owner s x) ≡ Took Answered) h.1 (b.took_link last.0 (λ z. h.0.acting.mine.some (sym h.1 ∙ z))) holds in
      anyone (EnqueueMoveTail (record { node = node; last = last })) (Done Answered) (with_access m (Cas Tail last.0 node.0)) l
      (tail_moves last.0 node.0 h.1 h.0.acting.mine.some) h (λ c g. record { took = ap l.stage (sym h.0.acting.mine.own) ∙ took; at = node.0; acting = g.0.acting })

  -- what a dequeue finds behind its first node changes its own stage alone
  looked_base : (c : ℕ) (st : Stage) → Before s m l i c → Base s m (restaged l i st l.queue) claimed waiting
  looked_base c st h =
      let other : (j x : ℕ) → held_token l (owner s x) ≡ x → (x ≡ c → ⊥) → owner s x ≢ i = λ j x hold ne e. ne (sym hold ∙ ap (held_token l) e ∙ h.mine.holds) in
      let still_took : (j : ℕ) (r : Reply) → l.stage j ≡ Took r → upd l.stage i st j ≡ Took r = λ j r e. upd_other l.stage i st j (λ q. h.untaken r (ap l.stage (sym q) ∙ e)) ∙ e in
      let fl : (n : ℕ) → links m.cached n ≢ 0 → links m.kept n ≡ 0 → IsLinking s (restaged l i st l.queue) (values m.cached) (links m.cached n) = λ n some z.
      let f : IsLinking s l (values m.cached) (links m.cached n) = b.flying_link n some z in
      record { holds = f.holds; asks = f.asks; unmoved = upd_other l.stage i st (owner s (links m.cached n)) (other n (links m.cached n) f.holds (h.loose.link n)) ∙ f.unmoved } in
      let fm : (n : ℕ) → marks m.cached n ≢ 0 → marks m.kept n ≡ 0 → IsClaiming s (restaged l i st l.queue) (marks m.cached n) = λ n some z.
      let f : IsClaiming s l (marks m.cached n) = b.flying_mark n some z in
      record { holds = f.holds; asks = f.asks; unmoved = upd_other l.stage i st (owner s (marks m.cached n)) (other n (marks m.cached n) f.holds (h.loose.mark n)) ∙ f.unmoved } in
      let tl : (n : ℕ) → links m.kept n ≢ 0 → held_token l (owner s (links m.kept n)) ≡ links m.kept n → upd l.stage i st (owner s (links m.kept n)) ≡ Took Answered = λ n some hd.
      still_took (owner s (links m.kept n)) Answered (b.took_link n some hd) in
      let tm : (n : ℕ) → marks m.kept n ≢ 0 → held_token l (owner s (marks m.kept n)) ≡ marks m.kept n → upd l.stage i st (owner s (marks m.kept n)) ≡ Took (Got (values m.kept n)) = λ n some hd.
      still_took (owner s (marks m.kept n)) (Got (values m.kept n)) (b.took_mark n some hd) in
      let e : Empties s (restaged l i st l.queue) (marks m.cached) (empties s m.cached) (empties s m.kept) = record {
        flying = λ d says fresh.
            let f : IsAnswering s l (marks m.cached) d = b.empty.flying d says fresh in
            record {
              holds = f.holds;
              asks = f.asks;
              seen = upd_other l.stage i st (owner s d) (other 0 d f.holds (λ q. h.silent (subst (Says s (empties s m.cached)) q says))) ∙ f.seen;
              unmarked = f.unmarked;
            };
        took = λ d says some hd. still_took (owner s d) Empty (b.empty.took d says some hd);
        unmarked = b.empty.unmarked;
        said = b.empty.said;
      } in
      assumption (b, fl, fm, tl, tm, e)

  looked_grows : (st : Stage) → Grows i s m l m (restaged l i st l.queue)
  looked_grows st =
      let stage : (j : ℕ) → j ≢ i → Loose m (held_token l j) → (SaysEmpty s m.cached (held_token l j) → ⊥) → upd l.stage i st j ≡ l.stage j = λ j ne loose silent. upd_other l.stage i st j ne in
      assumption (none_grows i s m l, stage)

  looked_dequeuing : (c : ℕ) (st : Stage) → ((r : Reply) → st ≢ Took r) → Dequeuing s m l i c → Dequeuing s m (restaged l i st l.queue) i c
  looked_dequeuing c st untaken h =
      let mine : Mine s (restaged l i st l.queue) i c = record { some = h.before.mine.some; holds = h.before.mine.holds; own = h.before.mine.own } in
      record {
        before = record { mine = mine; loose = h.before.loose; silent = h.before.silent; untaken = λ r e. untaken r (sym (upd_same l.stage i st) ∙ e) };
        acting = record { mine = mine; prepared = h.acting.prepared; client = h.acting.client };
        asks = h.asks;
      }

  row_DequeueLoadNext : (token : Token) (first last : NodeId) → Knows s m l i (DequeueLoadNext (record { token = token; first = first; last = last }))
      → Row s m l m (restaged l i (looked_stage (links m.cached first.0)) l.queue) i
      (More (DequeueCheckHead (record { token = token; first = first; last = last; next = node_of (links m.cached first.0) })))
  row_DequeueLoadNext token first last h =
      let st : Stage = looked_stage (links m.cached first.0) in
      let now : upd l.stage i (looked_stage (links m.cached first.0)) i ≡ looked_stage (links m.cached first.0) = upd_same l.stage i (looked_stage (links m.cached first.0)) in
      let cases : (t : Bool) → (links m.cached first.0 == 0) ≡ t → (links m.cached first.0 ≢ 0 → (if t then Seen else Unmoved) ≡ Unmoved) × (links m.cached first.0 ≡ 0 → (if t then Seen else Unmoved) ≡ Seen)
      × ((r : Reply) → (if t then Seen else Unmoved) ≢ Took r) = looked_cases (links m.cached first.0) in
      let c : (links m.cached first.0 ≢ 0 → looked_stage (links m.cached first.0) ≡ Unmoved) × (links m.cached first.0 ≡ 0 → looked_stage (links m.cached first.0) ≡ Seen)
      × ((r : Reply) → looked_stage (links m.cached first.0) ≢ Took r) = cases (links m.cached first.0 == 0) refl in
      record {
        claimed = claimed;
        waiting = waiting;
        base = looked_base token.0 (looked_stage (links m.cached first.0)) h.0.before;
        grows = looked_grows (looked_stage (links m.cached first.0));
        knows = (
          looked_dequeuing token.0 (looked_stage (links m.cached first.0)) c.2 h.0,
          h.1,
          h.2,
          h.3,
          λ some. (refl, now ∙ c.0 some),
          λ none. now ∙ c.1 none,
          λ apart z.
              let r : (links m.kept first.0 ≢ 0) × LeadsTo (links m.kept) last.0 (links m.kept first.0) = leads_next (links m.kept) first.0 last.0 h.2 apart in
              r.0 (sym (b.chained.kept first.0 r.0) ∙ z),
        );
      }

  row_DequeueCheckHead : (token : Token) (first last next : NodeId) → Knows s m l i (DequeueCheckHead (record { token = token; first = first; last = last; next = next }))
      → Row s m l m l i (successor s.kind (DequeueCheckHead (record { token = token; first = first; last = last; next = next })) (m.cached Head))
  row_DequeueCheckHead token first last next h = go (m.cached Head == first.0) refl (first.0 == last.0) refl (next.0 == 0) refl
    where
      go : (t : Bool) → (m.cached Head == first.0) ≡ t → (e : Bool) → (first.0 == last.0) ≡ e → (z : Bool) → (next.0 == 0) ≡ z → Row s m l m l i (if t
          then (if e
          then (if z
          then More (DequeueStoreEmpty (record { token = token }))
          else More (FlushPoint (KeepDequeuePassedLink (record { token = token; last = last; next = next }))))
          else More (DequeueLoadItem (record { token = token; first = first; next = next; loading = at_length })))
          else More (DequeueLoadHead (record { token = token })))
      go false at e q z f = quiet (More (DequeueLoadHead (record { token = token }))) h.0
      go true at true q true f = quiet (More (DequeueStoreEmpty (record { token = token }))) (h.0, h.5 (eqb-true next.0 0 f))
      go true at true q false f = quiet (More (FlushPoint (KeepDequeuePassedLink (record { token = token; last = last; next = next }))))
          (h.0, eqb-false next.0 0 f, ap (links m.cached) (sym (eqb-true first.0 last.0 q)) ∙ (h.4 (eqb-false next.0 0 f)).0)
      go true at false q z f =
          let apart : first.0 ≢ last.0 = eqb-false first.0 last.0 q in
          let some : next.0 ≢ 0 = h.6 apart in
          let r : (links m.kept first.0 ≢ 0) × LeadsTo (links m.kept) last.0 (links m.kept first.0) = leads_next (links m.kept) first.0 last.0 h.2 apart in
          let link : links m.kept first.0 ≡ next.0 = sym (b.chained.kept first.0 r.0) ∙ (h.4 some).0 in
          quiet (More (DequeueLoadItem (record { token = token; first = first; next = next; loading = at_length }))) (
            h.0,
            (h.4 some).1,
            record {
              passed = h.1;
              head = leads_at (links m.kept) first.0 (m.cached Head) (sym (eqb-true (m.cached Head) first.0 at));
              link = link;
              some = some;
              tail = leads_trans (links m.kept) last.0 (m.cached Tail) next.0 (subst (λ x. LeadsTo (links m.kept) last.0 x) link r.1) h.3;
            },
            tt,
          )

  row_DequeueStoreEmpty : (token : Token) → Knows s m l i (DequeueStoreEmpty (record { token = token }))
      → Row s m l (with_store m (empty_answer_of s.kind token).place (empty_answer_of s.kind token).value) l i (More (FlushPoint (KeepEmpty (record { token = token }))))
  row_DequeueStoreEmpty token h =
      let p : Place = (empty_answer_of s.kind token).place in
      let v : ℕ = (empty_answer_of s.kind token).value in
      let own : owner s token.0 ≡ i = h.0.before.mine.own in
      let answering : IsAnswering s l (marks m.cached) token.0 = record {
        holds = ap (held_token l) own ∙ h.0.before.mine.holds;
        asks = ap (asked_call l) own ∙ h.0.asks;
        seen = ap l.stage own ∙ h.1;
        unmarked = h.0.before.loose.mark;
      } in
      let plain : IsOwnWord (empty_answer_of s.kind token).place = empty_own s.kind token in
      let free : (j : ℕ) (w : Write) → slice_get (preparation_of s.kind (l.begun i)) j ≡ Some w → w.place ≢ (empty_answer_of s.kind token).place = λ j w e q.
      (planned_write s (l.begun i) j w h.0.acting.prepared.begun e).speaks (subst IsEmptyWord (sym q) (empty_word s.kind token)) in
      let acting : Acting s (with_store m (empty_answer_of s.kind token).place (empty_answer_of s.kind token).value) l i token.0 = record {
        mine = h.0.before.mine;
        prepared = record {
          begun = h.0.acting.prepared.begun;
          written = λ j w e. (
            put_other m.cached (empty_answer_of s.kind token).place (empty_answer_of s.kind token).value w.place (free j w e) ∙ (h.0.acting.prepared.written j w e).0,
            (h.0.acting.prepared.written j w e).1,
          );
        };
        client = h.0.acting.client;
      } in
      record {
        claimed = claimed;
        waiting = waiting;
        base = empty_base s m l claimed waiting b token h.0.before.mine.some (acting_issued token.0 h.0.acting) answering;
        grows = empty_grows s m l claimed waiting b i token own h.0.before.loose.mark;
        knows = (
          acting,
          h.0.asks,
          record {
            link = λ x e. h.0.before.loose.link x (sym (same_links s m l (empty_answer_of s.kind token).place (empty_answer_of s.kind token).value plain x) ∙ e);
            mark = λ x e. h.0.before.loose.mark x (sym (same_marks s m l (empty_answer_of s.kind token).place (empty_answer_of s.kind token).value plain x) ∙ e);
          },
          put_same m.cached (empty_answer_of s.kind token).place (empty_answer_of s.kind token).value,
        );
      }

  row_KeepEmpty : (token : Token) → Knows s m l i (FencePoint (KeepEmpty (record { token = token })))
      → Row s m l (with_fence m (empty_answer_of s.kind token).place) (kept_ledger s m l (empty_answer_of s.kind token).place) i (Done Empty)
  row_KeepEmpty token h = fences (FencePoint (KeepEmpty (record { token = token }))) (Done Empty) (empty_answer_of s.kind token).place h
      (λ c g.
      let k : Ledger = kept_ledger s m l (empty_answer_of s.kind token).place in
      let own : owner s token.0 ≡ i = g.0.mine.own in
      record {
        took = ap k.stage (sym own)
            ∙ c.base.empty.took token.0 (put_same m.kept (empty_answer_of s.kind token).place (m.cached (empty_answer_of s.kind token).place) ∙ g.3) g.0.mine.some (ap (held_token k) own ∙ g.0.mine.holds);
        at = token.0;
        acting = g.0;
      })

  -- the message of a node that may be claimed
  claims_part : (first next : ℕ) (part : Part) → Claims m first next → part_at m.kept next part ≡ part_at m.cached next part
  claims_part first next part c =
      let among : IsAmong first (0 ∷ claimed ++ waiting) = in_left first (0 ∷ claimed) waiting (elim c.passed [ inl z ↦ inl z | inr q ↦ inr (b.marked.back first q) ]) in
      let linked : IsAmong next (claimed ++ waiting) =
      subst (λ x. IsAmong x (claimed ++ waiting)) c.link (in_chain (links m.kept) 0 (claimed ++ waiting) first b.chained.chain among (λ z. c.some (sym c.link ∙ z))) in
      sym (chain_part s m l claimed waiting b next linked part)

  -- a part of it is loaded, and after the last it is known
  row_DequeueLoadItem : (token : Token) (first next : NodeId) (loading : Loading) → Knows s m l i (DequeueLoadItem (record { token = token; first = first; next = next; loading = loading }))
      → Row s m l m l i (successor s.kind (DequeueLoadItem (record { token = token; first = first; next = next; loading = loading })) (m.cached (Item next (part_next loading))))
  row_DequeueLoadItem token first next at_length h =
      quiet (More (DequeueLoadItem (record { token = token; first = first; next = next; loading = at_first (part_at m.cached next.0 Length) })))
      (h.0, h.1, h.2, claims_part first.0 next.0 Length h.2)
  row_DequeueLoadItem token first next (at_first len) h =
      quiet (More (DequeueLoadItem (record { token = token; first = first; next = next; loading = at_second len (part_at m.cached next.0 First) })))
      (h.0, h.1, h.2, (h.3, claims_part first.0 next.0 First h.2))
  row_DequeueLoadItem token first next (at_second len one) h =
      quiet (More (DequeueLoadItem (record { token = token; first = first; next = next; loading = at_third len one (part_at m.cached next.0 Second) })))
      (h.0, h.1, h.2, (h.3.0, h.3.1, claims_part first.0 next.0 Second h.2))
  row_DequeueLoadItem token first next (at_third len one two) h =
      quiet (More (DequeueClaim (record { token = token; first = first; next = next; value = value_of len one two (part_at m.cached next.0 Third) })))
      (h.0, h.1, h.2, rw (h.3.0, h.3.1, h.3.2, claims_part first.0 next.0 Third h.2) refl)

  row_DequeueClaim : (token : Token) (first next : NodeId) (v : Value) → Knows s m l i (DequeueClaim (record { token = token; first = first; next = next; value = v }))
      → Row s m l (with_access m (Cas (Mark next) 0 token.0)) l i (successor s.kind (DequeueClaim (record { token = token; first = first; next = next; value = v })) (m.cached (Mark next)))
  row_DequeueClaim token first next v h = go (marks m.cached next.0 == 0) refl
    where
      go : (t : Bool) → (marks m.cached next.0 == 0) ≡ t → Row s m l (if t then with_store m (Mark next) token.0 else m) l i
          (More (FlushPoint (KeepClaim (record { claimed = record { token = token; first = first; next = next; value = v; claim = if t then Won else LostTo (token_of (marks m.cached next.0)) } }))))
      go true e =
          let empty : marks m.cached next.0 ≡ 0 = eqb-true (marks m.cached next.0) 0 e in
          let issued : IsIssued s m.kept token.0 = acting_issued token.0 h.0.acting in
          let fit : token.0 ≤ greatest s = subst (λ x. x ≤ greatest s) h.0.acting.mine.holds h.0.acting.prepared.begun.is_record.1 in
          record {
            claimed = claimed;
            waiting = waiting;
            base = claim_base s m l claimed waiting b i token.0 first.0 next.0 h.0 h.1 issued fit h.2 empty;
            grows = claim_grows s m l claimed waiting b i token.0 next.0 empty h.0.before.mine.own;
            knows = (
              (shared_acting token.0 (Mark next) token.0 (λ q. q) h.0.acting, h.0.asks),
              record { passed = h.2.passed; head = h.2.head; link = h.2.link; some = h.2.some; tail = h.2.tail },
              h.3,
              upd_same (marks m.cached) next.0 token.0,
              h.0.before.mine.some,
            );
          }
      go false e =
          quiet (More (FlushPoint (KeepClaim (record { claimed = record { token = token; first = first; next = next; value = v; claim = LostTo (token_of (marks m.cached next.0)) } }))))
          ((h.0, h.1, eqb-false (marks m.cached next.0) 0 e), h.2, h.3, refl, eqb-false (marks m.cached next.0) 0 e)

  row_KeepClaim : (token : Token) (first next : NodeId) (v : Value) (claim : Claim) → Knows s m l i (FencePoint (KeepClaim (record { claimed = record { token = token; first = first; next = next; value = v; claim = claim } })))
      → Row s m l (with_fence m (Mark next)) (kept_ledger s m l (Mark next)) i (More (DequeueStoreResult (record { claimed = record { token = token; first = first; next = next; value = v; claim = claim } })))
  row_KeepClaim token first next v claim h =
      fences (FencePoint (KeepClaim (record { claimed = record { token = token; first = first; next = next; value = v; claim = claim } })))
      (More (DequeueStoreResult (record { claimed = record { token = token; first = first; next = next; value = v; claim = claim } }))) (Mark next) h
      (λ c g. (
        g.0,
        record { claims = g.1; value = g.2; marked = upd_same (marks m.kept) next.0 (marks m.cached next.0) ∙ g.3; some = g.4 },
      ))

  row_DequeueStoreResult : (token : Token) (first next : NodeId) (v : Value) (claim : Claim) → Knows s m l i (DequeueStoreResult (record { claimed = record { token = token; first = first; next = next; value = v; claim = claim } }))
      → Row s m l (with_store m (result_of s.kind (winner claim token) next).place (result_of s.kind (winner claim token) next).value) l i
      (More (FlushPoint (KeepResult (record { claimed = record { token = token; first = first; next = next; value = v; claim = claim } }))))
  row_DequeueStoreResult token first next v claim h =
      let w : Token = winner claim token in
      let cached : marks m.cached next.0 ≡ (winner claim token).0 = b.marked.kept next.0 (λ z. h.1.some (sym h.1.marked ∙ z)) ∙ h.1.marked in
      let node : next.0 ≤ greatest s = subst (λ x. x ≤ greatest s) h.1.claims.link (b.fits_kept (Next first) tt) in
      anyone (DequeueStoreResult (record { claimed = record { token = token; first = first; next = next; value = v; claim = claim } }))
      (More (FlushPoint (KeepResult (record { claimed = record { token = token; first = first; next = next; value = v; claim = claim } }))))
      (with_store m (result_of s.kind (winner claim token) next).place (result_of s.kind (winner claim token) next).value) l
      (record {
        claimed = claimed;
        waiting = waiting;
        base = result_base s m l claimed waiting b (winner claim token) next (λ z. h.1.some (sym cached ∙ z)) cached node;
        grows = λ a. result_grows s m l claimed waiting b a (winner claim token) next h.1.marked h.1.some;
      }) h
      (λ c g. (g.0, g.1, put_same m.cached (result_of s.kind (winner claim token) next).place (result_of s.kind (winner claim token) next).value))

  row_KeepResult : (token : Token) (first next : NodeId) (v : Value) (claim : Claim) → Knows s m l i (FencePoint (KeepResult (record { claimed = record { token = token; first = first; next = next; value = v; claim = claim } })))
      → Row s m l (with_fence m (result_of s.kind (winner claim token) next).place) (kept_ledger s m l (result_of s.kind (winner claim token) next).place) i
      (More (DequeueMoveHead (record { claimed = record { token = token; first = first; next = next; value = v; claim = claim } })))
  row_KeepResult token first next v claim h =
      fences (FencePoint (KeepResult (record { claimed = record { token = token; first = first; next = next; value = v; claim = claim } })))
      (More (DequeueMoveHead (record { claimed = record { token = token; first = first; next = next; value = v; claim = claim } }))) (result_of s.kind (winner claim token) next).place h
      (λ c g. (
        g.0,
        g.1,
        g.2,
        put_same m.kept (result_of s.kind (winner claim token) next).place (m.cached (result_of s.kind (winner claim token) next).place) ∙ g.2,
      ))

  row_DequeueMoveHead : (token : Token) (first next : NodeId) (v : Value) (claim : Claim) → Knows s m l i (DequeueMoveHead (record { claimed = record { token = token; first = first; next = next; value = v; claim = claim } }))
      → Row s m l (with_access m (Cas Head first.0 next.0)) l i (answer_or_again claim token v)
  row_DequeueMoveHead token first next v claim h =
      anyone (DequeueMoveHead (record { claimed = record { token = token; first = first; next = next; value = v; claim = claim } })) (answer_or_again claim token v) (with_access m (Cas Head first.0 next.0)) l
      (head_moves first.0 next.0 h.1.claims (λ z. h.1.some (sym h.1.marked ∙ z))) h (λ c g. go claim h g)
    where
      go : (claim : Claim) → Knows s m l i (DequeueMoveHead (record { claimed = record { token = token; first = first; next = next; value = v; claim = claim } }))
          → Knows s (with_access m (Cas Head first.0 next.0)) l i (DequeueMoveHead (record { claimed = record { token = token; first = first; next = next; value = v; claim = claim } }))
          → KnowsNext s (with_access m (Cas Head first.0 next.0)) l i (answer_or_again claim token v)
      go Won f g =
          let own : owner s token.0 ≡ i = f.0.0.mine.own in
          let holds : held_token l (owner s token.0) ≡ token.0 = ap (held_token l) own ∙ f.0.0.mine.holds in
          let took : l.stage (owner s token.0) ≡ Took (Got (values m.kept next.0)) =
          subst (λ x. held_token l (owner s x) ≡ x → l.stage (owner s x) ≡ Took (Got (values m.kept next.0))) f.1.marked (b.took_mark next.0 (λ z. f.1.some (sym f.1.marked ∙ z))) holds in
          record { took = ap l.stage (sym own) ∙ took ∙ ap (λ x. Took (Got x)) f.1.value; at = token.0; acting = g.0.0 }
      go (LostTo other) f g = g.0.0

  -- each waiting point
  pub row : (op : Op) → Knows s m l i op → Row s m l (with_access m (access_of s.kind op)) (ledger_after s m l i op) i (successor s.kind op (m.cached (place_of (access_of s.kind op))))
  row (PrepareStore p) h = row_PrepareStore p.begun p.index p.write h.0 h.1
  row (PrepareFlush p) h = quiet (More (PrepareFence (record { begun = p.begun; index = p.index; write = p.write }))) h
  row (PrepareFence p) h = row_PrepareFence p.begun p.index p.write h
  row (EnqueueLoadTail p) h = quiet (More (EnqueueLoadNext (record { node = p.node; last = node_of (m.cached Tail) }))) (h, record { chain = tail_on_chain; tail = there })
  row (EnqueueLoadNext p) h = quiet (More (EnqueueCheckTail (record { node = p.node; last = p.last; next = node_of (m.cached (Next p.last)) }))) (h.0, h.1, λ z. refl)
  row (EnqueueCheckTail p) h = row_EnqueueCheckTail p.node p.last p.next h
  row (EnqueueLink p) h = row_EnqueueLink p.node p.last h
  row (FlushPoint k) h = quiet (More (FencePoint k)) h
  row (FencePoint (KeepLink p)) h = fences (FencePoint (KeepLink p)) (More (EnqueueMoveTail (record { node = p.node; last = p.last }))) (Next p.last) h
      (λ c g. (g.0, upd_same (links m.kept) p.last.0 (links m.cached p.last.0) ∙ g.1))
  row (EnqueueMoveTail p) h = row_EnqueueMoveTail p.node p.last h
  row (FencePoint (KeepPassedLink p)) h = fences (FencePoint (KeepPassedLink p)) (More (EnqueueHelpTail (record { node = p.node; last = p.last; next = p.next }))) (Next p.last) h
      (λ c g. (g.0, g.1, upd_same (links m.kept) p.last.0 (links m.cached p.last.0) ∙ g.2))
  row (EnqueueHelpTail p) h = anyone (EnqueueHelpTail p) (More (EnqueueLoadTail (record { node = p.node }))) (with_access m (Cas Tail p.last.0 p.next.0)) l (tail_moves p.last.0 p.next.0 h.2 h.1) h (λ c g. g.0)
  row (DequeueLoadHead p) h = quiet (More (DequeueLoadTail (record { token = p.token; first = node_of (m.cached Head) }))) (h, head_passed, b.head_to_tail)
  row (DequeueLoadTail p) h = quiet (More (DequeueLoadNext (record { token = p.token; first = p.first; last = node_of (m.cached Tail) }))) (h.0, h.1, h.2, there)
  row (DequeueLoadNext p) h = row_DequeueLoadNext p.token p.first p.last h
  row (DequeueCheckHead p) h = row_DequeueCheckHead p.token p.first p.last p.next h
  row (DequeueStoreEmpty p) h = row_DequeueStoreEmpty p.token h
  row (FencePoint (KeepEmpty p)) h = row_KeepEmpty p.token h
  row (FencePoint (KeepDequeuePassedLink p)) h = fences (FencePoint (KeepDequeuePassedLink p)) (More (DequeueHelpTail (record { token = p.token; last = p.last; next = p.next }))) (Next p.last) h
      (λ c g. (g.0, g.1, upd_same (links m.kept) p.last.0 (links m.cached p.last.0) ∙ g.2))
  row (DequeueHelpTail p) h = anyone (DequeueHelpTail p) (More (DequeueLoadHead (record { token = p.token }))) (with_access m (Cas Tail p.last.0 p.next.0)) l (tail_moves p.last.0 p.next.0 h.2 h.1) h (λ c g. g.0)
  row (DequeueLoadItem p) h = row_DequeueLoadItem p.token p.first p.next p.loading h
  row (DequeueClaim p) h = row_DequeueClaim p.token p.first p.next p.value h
  row (FencePoint (KeepClaim p)) h = row_KeepClaim p.claimed.token p.claimed.first p.claimed.next p.claimed.value p.claimed.claim h
  row (DequeueStoreResult p) h = row_DequeueStoreResult p.claimed.token p.claimed.first p.claimed.next p.claimed.value p.claimed.claim h
  row (FencePoint (KeepResult p)) h = row_KeepResult p.claimed.token p.claimed.first p.claimed.next p.claimed.value p.claimed.claim h
  row (DequeueMoveHead p) h = row_DequeueMoveHead p.claimed.token p.claimed.first p.claimed.next p.claimed.value p.claimed.claim h
