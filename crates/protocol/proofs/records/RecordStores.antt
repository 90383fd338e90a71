-- The words of records, when a call stores a word.
use Rattle.std.proofs.Common.{◌≡◌, ◌≢◌, ℕ, zero, suc, ◌≤◌, ◌<◌, ◌⊎◌, inl, inr, List, [], Bool, true, false, Some, if◌then◌else◌, ◌==◌, refl, sym, ◌∙◌, ap, subst, arith}
use Rattle.std.specs.Prelude.{slice_get}
use Rattle.std.proofs.lemmas.Bool.{cases_eq, eqb-true}
use Rattle.words.specs.PlainQueue.{Value}
use Rattle.words.specs.declared.call.Call.{Call}
use Rattle.words.specs.declared.call.Call.TheVariants.{Enq, Deq}
use Rattle.words.specs.declared.call.Kind.{Kind}
use Rattle.words.specs.declared.call.Kind.TheVariants.{Durable, Log}
use Rattle.words.specs.declared.call.NodeId.{NodeId}
use Rattle.words.specs.declared.call.Reply.{Reply}
use Rattle.words.specs.declared.call.Token.{Token}
use Rattle.persist.specs.Memory.{Cas}
use Rattle.arena.specs.Answers.{empty_answer_of, result_of}
use Rattle.arena.specs.Place.{number_of}
use Rattle.arena.specs.Shape.{Shape, owner}
use Rattle.arena.specs.Words.{links, marks, values, entry_kinds, entry_nodes, statuses, announcements, IsWritten}
use Rattle.arena.specs.declared.place.Write.{Write}
use Rattle.arena.specs.declared.place.Place.{Place}
use Rattle.arena.specs.declared.place.Place.TheVariants.{Head, Tail, Announcement, Next, Mark, Cell, Insert, Number, EntryKind, Status, EntryNode}
use Rattle.stepper.specs.Preparation.{preparation_of, preparation_from, announcement, write, IsBegun}
use Rattle.stepper.specs.declared.prepare.Begun.{Begun}
use Rattle.helping.specs.Claims.{winner}
use Rattle.helping.specs.Table.{token_of, node_of, access_of, kept_place}
use Rattle.helping.specs.declared.dequeue.Claim.{Claim}
use Rattle.helping.specs.declared.dequeue.Claim.TheVariants.{Won, LostTo}
use Rattle.helping.specs.declared.op.Op.{Op}
use Rattle.helping.specs.declared.op.Op.TheVariants.{PrepareStore, PrepareFlush, PrepareFence, EnqueueLoadTail, EnqueueLoadNext, EnqueueCheckTail, EnqueueLink, EnqueueMoveTail, EnqueueHelpTail, DequeueLoadHead, DequeueLoadTail, DequeueLoadNext, DequeueCheckHead, DequeueStoreEmpty, DequeueHelpTail, DequeueLoadItem, DequeueClaim, DequeueStoreResult, DequeueMoveHead, Flush as FlushPoint, Fence as FencePoint}
use Rattle.helping.specs.declared.keeping.Keeping.{Keeping}
use Rattle.helping.specs.declared.keeping.Keeping.TheVariants.{Link as KeepLink, PassedLink as KeepPassedLink, Empty as KeepEmpty, DequeuePassedLink as KeepDequeuePassedLink, Claim as KeepClaim, Result as KeepResult}
use Rattle.events.specs.Telling.{IsToldOf}
use Rattle.protocol.specs.Machine.{Memory, put, with_store, with_access}
use Rattle.protocol.proofs.chain.Chains.{upd, upd_other, upd_cases}
use Rattle.protocol.specs.invariants.Ledger.{Ledger, held_token, asked_call}
use Rattle.protocol.specs.invariants.Places.{IsOfRecord, IsOwnWord, IsAnswer, IsOfKind, SaysEmpty}
use Rattle.protocol.specs.invariants.Base.{Base}
use Rattle.protocol.specs.invariants.Knows.{Unwritten, Preparing, Prepared, Acting, Enqueuing, Dequeuing, Claimer, Claimed, Loose, Knows, KnowsKeeping}
use Rattle.protocol.specs.invariants.Ledger.Stage.{Unmoved, Seen, Took}
use Rattle.protocol.proofs.changes.Puts.{IsEmptyWord, empty_word, put_cases, put_other}
use Rattle.protocol.proofs.calls.Stable.{empty_own, empty_number, result_own, IsOwnWrite, own_write}
use Rattle.protocol.proofs.changes.Keeps.{restaged}
use Rattle.protocol.proofs.changes.Fences.{status_says}
use Rattle.protocol.proofs.calls.Preparations.{IsLastWrite, IsPlanned, planned_write, one_plan, is_dequeue}
use Rattle.protocol.proofs.changes.Stores.{same_links, same_marks, result_answer, result_number}
use Rattle.protocol.proofs.calls.Rows.{looked_stage, ledger_after}
use Rattle.protocol.proofs.calls.Rebegun.{rebegun}
use Rattle.protocol.specs.invariants.Records.{Both, answer, IsAnswered, AnsweredTo, IsEnqueued, CellRight, NodeRight, StatusRight, IsEntry, TookBy, IsAnnouncing, Records}
use Rattle.protocol.proofs.records.Records.{both_stored, answered_next, keep_records}

-- what a store of v at p has to obey
pub record Harmless (s : Shape) (m : Memory) (p : Place) (v : ℕ) : Type 0 where
  pub answers : (x : ℕ) → marks m.kept x ≢ 0 → (answer s m x).place ≡ p → (answer s m x).value ≡ v
  pub inserts : s.kind ≡ Log → (x : ℕ) → links m.cached x ≢ 0 → Insert (node_of (links m.cached x)) ≡ p → links m.cached x ≡ v
  pub enqueues : s.kind ≡ Log → (x : ℕ) → links m.cached x ≢ 0 → EntryKind (token_of (links m.cached x)) ≡ p → 1 ≡ v
  pub dequeues : s.kind ≡ Log → (x : ℕ) → marks m.cached x ≢ 0 → EntryKind (token_of (marks m.cached x)) ≡ p → 2 ≡ v
  pub empties : (c : ℕ) → (statuses m.cached c ≡ 2) ⊎ (statuses m.kept c ≡ 2) → EntryKind (token_of c) ≡ p → 2 ≡ v
  pub entries : s.kind ≡ Log → (t e : ℕ) → e ≢ 0 → (announcements m.cached t ≡ e) ⊎ (announcements m.kept t ≡ e) → IsEntry m e → IsEntry (with_store m p v) e
  pub cell : (c : ℕ) → Cell (token_of c) ≡ p → CellRight m c v
  pub node : (c : ℕ) → EntryNode (token_of c) ≡ p → NodeRight m c v
  pub kind : (c : ℕ) → EntryKind (token_of c) ≡ p → v ≡ 2 → (entry_nodes m.cached c ≡ 0) × (entry_nodes m.kept c ≡ 0)
  pub status : (c : ℕ) → Status (token_of c) ≡ p → StatusRight m c v
  pub announces : s.kind ≡ Log → (t : ℕ) → Announcement (record { 0 = t }) ≡ p → v ≢ 0 → IsEntry (with_store m p v) v

-- an entry none of whose words is stored
pub entry_stored : (m : Memory) (p : Place) (v e : ℕ) → (Number (token_of e) ≢ p) → (EntryKind (token_of e) ≢ p) → (EntryNode (token_of e) ≡ p → Both m (EntryKind (token_of e)) 1 → e ≡ v) → IsEntry m e → IsEntry (with_store m p v) e
entry_stored m p v e number kind node h = record {
  number = h.number;
  some = h.some;
  in_range = h.in_range;
  numbered = both_stored m p v (Number (token_of e)) h.number (λ q. absurd (number q)) h.numbered;
  kind = elim h.kind [
    | inl q ↦ inl (both_stored m p v (EntryKind (token_of e)) 1 (λ x. absurd (kind x)) q.0, both_stored m p v (EntryNode (token_of e)) e (λ x. node x q.0) q.1)
    | inr q ↦ inr (both_stored m p v (EntryKind (token_of e)) 2 (λ x. absurd (kind x)) q)
  ];
}

module _ (s : Shape) (m : Memory) (l : Ledger) (r : Records s m l) (p : Place) (v : ℕ) (h : Harmless s m p v) where
  stored_answered : (x : ℕ) → AnsweredTo s m x → AnsweredTo s (with_store m p v) x
  stored_answered x a = record {
    passed = a.passed;
    path = a.path;
    at = a.at;
    claimed = a.claimed;
    answered = λ n i. both_stored m p v (answer s m n).place (answer s m n).value (λ e. h.answers n (a.claimed n i) e) (a.answered n i);
  }

  stored_node : (c x : ℕ) → (x ≢ 0 → (entry_nodes m.cached c ≡ x) ⊎ (entry_nodes m.kept c ≡ x)) → NodeRight m c x → NodeRight (with_store m p v) c x
  stored_node c x from right (inr e) some = right (inr e) some
  stored_node c x from right (inl kind) some = elim (put_cases m.cached p v (EntryKind (token_of c))) [
    | inl t ↦
        let none : (entry_nodes m.cached c ≡ 0) × (entry_nodes m.kept c ≡ 0) = h.kind c t.0 (sym t.1 ∙ kind) in
        absurd (some (elim (from some) [ inl q ↦ sym q ∙ none.0 | inr q ↦ sym q ∙ none.1 ]))
    | inr t ↦ right (inl (sym t.1 ∙ kind)) some
  ]

  stored_status : (c x : ℕ) → (x ≡ 2 → (statuses m.cached c ≡ 2) ⊎ (statuses m.kept c ≡ 2)) → StatusRight m c x → StatusRight (with_store m p v) c x
  stored_status c x from right = record { taken = right.taken; empty = λ e. both_stored m p v (EntryKind (token_of c)) 2 (λ q. h.empties c (from e) q) (right.empty e) }

  -- a new link is that of an enqueue, and a new mark that of a dequeue
  pub stored_records : (s.kind ≡ Log → (x : ℕ) → (links (put m.cached p v) x ≡ links m.cached x) ⊎ IsEnqueued (with_store m p v) (links (put m.cached p v) x))
      → (s.kind ≡ Log → (x : ℕ) → (marks (put m.cached p v) x ≡ marks m.cached x) ⊎ Both (with_store m p v) (EntryKind (token_of (marks (put m.cached p v) x))) 2) → AnsweredTo s (with_store m p v) (put m.cached p v Head)
      → ((t : ℕ) → Announcement (record { 0 = t }) ≡ p → (v ≡ held_token l t) × IsToldOf s.kind (asked_call l t) × (v ≢ 0)) → Records s (with_store m p v) l
  stored_records new_link new_mark head announced = record {
    to_head = head;
    to_kept_head = stored_answered (m.kept Head) r.to_kept_head;
    cell = λ c. elim (put_cases m.cached p v (Cell (token_of c))) [
      | inl t ↦ subst (CellRight m c) (sym t.1) (h.cell c t.0)
      | inr t ↦ subst (CellRight m c) (sym t.1) (r.cell c)
    ];
    cell_kept = r.cell_kept;
    node = λ c. elim (put_cases m.cached p v (EntryNode (token_of c))) [
      | inl t ↦ subst (NodeRight (with_store m p v) c) (sym t.1) (λ kind some. elim kind [
        | inl e ↦ elim (put_cases m.cached p v (EntryKind (token_of c))) [
          | inl q ↦ let wrong : EntryKind (token_of c) ≡ EntryNode (token_of c) = q.0 ∙ sym t.0 in absurd (cc)
          | inr q ↦ h.node c t.0 (inl (sym q.1 ∙ e)) some
        ]
        | inr e ↦ h.node c t.0 (inr e) some
      ])
      | inr t ↦ subst (NodeRight (with_store m p v) c) (sym t.1) (stored_node c (entry_nodes m.cached c) (λ some. inl refl) (r.node c))
    ];
    node_kept = λ c. stored_node c (entry_nodes m.kept c) (λ some. inr refl) (r.node_kept c);
    enqueued = λ k x some. elim (new_link k x) [
      | inl same ↦
          let was : links m.cached x ≢ 0 = λ z. some (same ∙ z) in
          let q : IsEnqueued m (links m.cached x) = r.enqueued k x was in
          subst (IsEnqueued (with_store m p v)) (sym same) (record {
            insert = both_stored m p v (Insert (node_of (links m.cached x))) (links m.cached x) (h.inserts k x was) q.insert;
            kind = both_stored m p v (EntryKind (token_of (links m.cached x))) 1 (h.enqueues k x was) q.kind;
          })
      | inr now ↦ now
    ];
    dequeued = λ k x some. elim (new_mark k x) [
      | inl same ↦
          let was : marks m.cached x ≢ 0 = λ z. some (same ∙ z) in
          subst (λ c. Both (with_store m p v) (EntryKind (token_of c)) 2) (sym same) (both_stored m p v (EntryKind (token_of (marks m.cached x))) 2 (h.dequeues k x was) (r.dequeued k x was))
      | inr now ↦ now
    ];
    status = λ c. elim (put_cases m.cached p v (Status (token_of c))) [
      | inl t ↦ subst (StatusRight (with_store m p v) c) (sym t.1) (
          let q : StatusRight m c v = h.status c t.0 in
          record {
            taken = q.taken;
            empty = λ e. both_stored m p v (EntryKind (token_of c)) 2 (λ x. let wrong : Status (token_of c) ≡ EntryKind (token_of c) = t.0 ∙ sym x in absurd (cc)) (q.empty e);
          }
          )
      | inr t ↦ subst (StatusRight (with_store m p v) c) (sym t.1) (stored_status c (statuses m.cached c) (λ e. inl e) (r.status c))
    ];
    status_kept = λ c. stored_status c (statuses m.kept c) (λ e. inr e) (r.status_kept c);
    entry = λ k t. elim (put_cases m.cached p v (Announcement (record { 0 = t }))) [
      | inl q ↦ subst (λ e. e ≢ 0 → IsEntry (with_store m p v) e) (sym q.1) (h.announces k t q.0)
      | inr q ↦ subst (λ e. e ≢ 0 → IsEntry (with_store m p v) e) (sym q.1) (λ some. h.entries k t (announcements m.cached t) some (inl refl) (r.entry k t some))
    ];
    entry_kept = λ k t some. h.entries k t (announcements m.kept t) some (inr refl) (r.entry_kept k t some);
    took = r.took;
    announcing = λ t h. elim (put_cases m.cached p v (Announcement (record { 0 = t }))) [
      | inl q ↦
          let a : (v ≡ held_token l t) × IsToldOf s.kind (asked_call l t) × (v ≢ 0) = announced t q.0 in
          record { holds = q.1 ∙ a.0; some = λ z. a.2 (sym q.1 ∙ z); told_of = a.1 }
      | inr q ↦
          let old : IsAnnouncing s m l t = r.announcing t (λ e. h (q.1 ∙ e)) in
          record { holds = q.1 ∙ old.holds; some = λ z. old.some (sym q.1 ∙ z); told_of = old.told_of }
    ];
  }

pub one_two : (n : ℕ) → n ≡ 1 → n ≡ 2 → ⊥
one_two n e f = absurd (omega (arith, e, f))

-- a store to no word of a record
pub harmless_shared : (s : Shape) (m : Memory) (p : Place) (v : ℕ) → (IsOwnWord p → ⊥) → Harmless s m p v
harmless_shared s m p v shared = record {
  answers = λ x h e. absurd (shared (subst IsOwnWord e (result_own s.kind (token_of (marks m.kept x)) (node_of x))));
  inserts = λ k x h e. absurd (shared (subst IsOwnWord e tt));
  enqueues = λ k x h e. absurd (shared (subst IsOwnWord e tt));
  dequeues = λ k x h e. absurd (shared (subst IsOwnWord e tt));
  empties = λ c h e. absurd (shared (subst IsOwnWord e tt));
  entries = λ k t e some at h. entry_stored m p v e (λ q. shared (subst IsOwnWord q tt)) (λ q. shared (subst IsOwnWord q tt)) (λ q x. absurd (shared (subst IsOwnWord q tt))) h;
  cell = λ c e. absurd (shared (subst IsOwnWord e tt));
  node = λ c e. absurd (shared (subst IsOwnWord e tt));
  kind = λ c e q. absurd (shared (subst IsOwnWord e tt));
  status = λ c e. absurd (shared (subst IsOwnWord e tt));
  announces = λ k t e some. absurd (shared (subst IsOwnWord e tt));
}

-- a call that announces its record may be told of
announces_told : (kind : Kind) (call : Call) (b : Begun) (j : ℕ) (w : Write) (t : ℕ) → slice_get (preparation_from kind call b) j ≡ Some w → w.place ≡ Announcement (record { 0 = t }) → IsToldOf kind call
announces_told Durable (Enq v) b zero w t e at = absurd (cc)
announces_told Durable (Enq v) b (suc zero) w t e at = absurd (cc)
announces_told Durable (Enq v) b (suc (suc zero)) w t e at = absurd (cc)
announces_told Durable (Enq v) b (suc (suc (suc zero))) w t e at = absurd (cc)
announces_told Durable (Enq v) b (suc (suc (suc (suc zero)))) w t e at = absurd (cc)
announces_told Durable (Enq v) b (suc (suc (suc (suc (suc j))))) w t e at = absurd (cc)
announces_told Durable Deq b j w t e at = tt
announces_told Log call b j w t e at = tt

-- the record of a call that may be told of is announced
pub acting_announced : (s : Shape) (m : Memory) (l : Ledger) (i c : ℕ) → Acting s m l i c → IsToldOf s.kind (asked_call l i) → Both m (Announcement (record { 0 = i })) c
acting_announced s m l i c h told =
    subst (λ t. Both m (Announcement (record { 0 = t })) c) h.client (subst (Both m (Announcement (l.begun i).client)) h.mine.holds (go s.kind (asked_call l i) refl refl told))
  where
    at : (kind : Kind) (call : Call) → s.kind ≡ kind → asked_call l i ≡ call → (j : ℕ) → slice_get (preparation_of s.kind (l.begun i)) j ≡ slice_get (preparation_from kind call (l.begun i)) j
    at kind call k c j = ap (λ x. slice_get (preparation_from x (asked_call l i) (l.begun i)) j) k ∙ ap (λ x. slice_get (preparation_from kind x (l.begun i)) j) c

    go : (kind : Kind) (call : Call) → s.kind ≡ kind → asked_call l i ≡ call → IsToldOf s.kind (asked_call l i) → Both m (Announcement (l.begun i).client) (l.begun i).token.0
    go Durable (Enq v) k c told = absurd (subst (λ x. IsToldOf x (Enq v)) k (subst (IsToldOf s.kind) c told))
    go Durable Deq k c told = h.prepared.written 1 (announcement (l.begun i)) (at Durable Deq k c 1)
    go Log (Enq v) k c told = h.prepared.written 9 (announcement (l.begun i)) (at Log (Enq v) k c 9)
    go Log Deq k c told = h.prepared.written 3 (announcement (l.begun i)) (at Log Deq k c 3)

-- the words of a prepared log record
pub prepared_entry : (s : Shape) (m : Memory) (b : Begun) → IsBegun s b → 1 ≤ b.number → s.kind ≡ Log → ((j : ℕ) (w : Write) → j < 4 → slice_get (preparation_of s.kind b) j ≡ Some w → (b.call ≡ Deq → j < 3) → Both m w.place w.value) → IsEntry m b.token.0
prepared_entry s m b begun some k h = go b.call refl
  where
    at : (call : Call) → b.call ≡ call → (j : ℕ) → slice_get (preparation_of s.kind b) j ≡ slice_get (preparation_from Log call b) j
    at call c j = ap (λ x. slice_get (preparation_from x b.call b) j) k ∙ ap (λ x. slice_get (preparation_from Log x b) j) c

    go : (call : Call) → b.call ≡ call → IsEntry m b.token.0
    go (Enq v) c = record {
      number = b.number;
      some = some;
      in_range = begun.number;
      numbered = h 1 (write (Number b.token) b.number) (omega arith) (at (Enq v) c 1) (λ q. omega arith);
      kind = inl (
        h 2 (write (EntryKind b.token) 1) (omega arith) (at (Enq v) c 2) (λ q. omega arith),
        h 3 (write (EntryNode b.token) b.token.0) (omega arith) (at (Enq v) c 3) (λ q. let wrong : Deq ≡ Enq v = sym q ∙ c in absurd (cc)),
      );
    }
    go Deq c = record {
      number = b.number;
      some = some;
      in_range = begun.number;
      numbered = h 1 (write (Number b.token) b.number) (omega arith) (at Deq c 1) (λ q. omega arith);
      kind = inr (h 2 (write (EntryKind b.token) 2) (omega arith) (at Deq c 2) (λ q. omega arith));
    }

module _ (s : Shape) (m : Memory) (l : Ledger) (claimed waiting : List ℕ) (b : Base s m l claimed waiting) (i : ℕ) where
  -- a word that a preparation writes
  module _ (bg : Begun) (index : ℕ) (w : Write) (h : Preparing s m l i bg index w) where
    own : IsOwnWrite s bg w
    own = own_write s bg index w (h.before.mine.own ∙ sym h.own) h.in_hand

    plan : IsPlanned s s.kind bg.call bg index w
    plan = planned_write s bg index w h.so_far.begun h.in_hand

    -- a place of a record that is written is of its own record
    named : (p : Place) → p ≡ w.place → IsOfRecord p → number_of p ≡ bg.token.0
    named p e of = ap number_of e ∙ (plan.numbered (subst IsOfRecord e of)).0

    -- it announces itself last
    quiet_yet : IsOfRecord w.place → Unwritten s bg index (Announcement (record { 0 = i }))
    quiet_yet of k x le e at =
        let other : IsPlanned s s.kind bg.call bg k x = planned_write s bg k x h.so_far.begun e in
        let last : IsLastWrite s.kind bg.call bg k x i = other.announces i at in
        let same_index : k ≡ index = omega (arith, le, last.last index w h.in_hand) in
        let same : Some x ≡ Some w = sym e ∙ ap (slice_get (preparation_of s.kind bg)) same_index ∙ h.in_hand in
        let is : x ≡ w = cc in
        subst IsOfRecord (ap (λ y. y.place) (sym is) ∙ at) of

    apart : (t e : ℕ) → (announcements m.cached t ≡ e) ⊎ (announcements m.kept t ≡ e) → e ≢ 0 → IsOfRecord w.place → e ≢ bg.token.0
    apart t e at some of same =
        let own_of : owner s e ≡ t = elim at [ inl q ↦ subst (λ x. owner s x ≡ t) q (b.announced t (λ z. some (sym q ∙ z))).owned | inr q ↦ subst (λ x. owner s x ≡ t) q (b.announced_kept t (λ z. some (sym q ∙ z))).owned ] in
        let who : t ≡ i = sym own_of ∙ ap (owner s) same ∙ h.before.mine.own in
        let u : (announcements m.cached i ≢ bg.token.0) × (announcements m.kept i ≢ bg.token.0) = h.unannounced (quiet_yet of) in
        elim at [ inl q ↦ u.0 (ap (announcements m.cached) (sym who) ∙ q ∙ same) | inr q ↦ u.1 (ap (announcements m.kept) (sym who) ∙ q ∙ same) ]

    harmless_preparation : Harmless s m w.place w.value
    harmless_preparation = record {
      answers = λ x marked e.
          let q : marks m.kept x ≡ bg.token.0 =
          sym (result_number s.kind (token_of (marks m.kept x)) (node_of x)) ∙ ap number_of e ∙ (own.answer (subst IsAnswer e (result_answer s.kind (token_of (marks m.kept x)) (node_of x)))).1 in
          absurd (h.before.loose.mark x (b.marked.kept x marked ∙ q));
      inserts = λ k x some e. absurd (h.before.loose.link x (named (Insert (node_of (links m.cached x))) e tt));
      enqueues = λ k x some e. absurd (h.before.loose.link x (named (EntryKind (token_of (links m.cached x))) e tt));
      dequeues = λ k x some e. absurd (h.before.loose.mark x (named (EntryKind (token_of (marks m.cached x))) e tt));
      empties = λ c two e.
          let is : c ≡ bg.token.0 = named (EntryKind (token_of c)) e tt in
          let log : s.kind ≡ Log = (subst (IsOfKind s.kind) (sym e) plan.of_kind).0 in
          let says : SaysEmpty s m.cached c = elim two [
            | inl q ↦ (status_says s m.cached (token_of c) log).1 q
            | inr q ↦ b.empty.said c ((status_says s m.kept (token_of c) log).1 q)
          ] in
          absurd (h.before.silent (subst (SaysEmpty s m.cached) is says));
      entries = λ k t e some at entry.
          entry_stored m w.place w.value e
          (λ q. apart t e at some (subst IsOfRecord q tt) (named (Number (token_of e)) q tt))
          (λ q. apart t e at some (subst IsOfRecord q tt) (named (EntryKind (token_of e)) q tt))
          (λ q x. absurd (apart t e at some (subst IsOfRecord q tt) (named (EntryNode (token_of e)) q tt))) entry;
      cell = λ c e. absurd (plan.speaks (subst IsEmptyWord e tt));
      node = λ c e kind some.
          let is : c ≡ bg.token.0 = named (EntryNode (token_of c)) e tt in
          let after : (2 < index) × (slice_get (preparation_from s.kind bg.call bg) 2 ≡ Some (write (EntryKind bg.token) 1)) = plan.after_kind (token_of c) (sym e) in
          let one : Both m (EntryKind bg.token) 1 = h.so_far.written 2 (write (EntryKind bg.token) 1) after.0 after.1 in
          absurd (elim kind [
            | inl e ↦ one_two (entry_kinds m.cached c) (ap (entry_kinds m.cached) is ∙ one.0) e
            | inr e ↦ one_two (entry_kinds m.kept c) (ap (entry_kinds m.kept) is ∙ one.1) e
          ]);
      kind = λ c e two.
          let is : c ≡ bg.token.0 = named (EntryKind (token_of c)) e tt in
          let call : bg.call ≡ Deq = is_dequeue bg.call (plan.value_kind (token_of c) (sym e) ∙ two) in
          let zeros : (m.cached (EntryNode bg.token) ≡ 0) × (m.kept (EntryNode bg.token) ≡ 0) =
          h.rest (EntryNode bg.token) tt tt refl (λ k x le at q.
          let o : IsOwnWrite s bg x = own_write s bg k x (h.before.mine.own ∙ sym h.own) at in
          (o.answer (subst IsAnswer (sym q) tt)).0 call) in
          (ap (entry_nodes m.cached) is ∙ zeros.0, ap (entry_nodes m.kept) is ∙ zeros.1);
      status = λ c e. absurd (plan.speaks (subst IsEmptyWord e tt));
      announces = λ k t e some.
          let last : IsLastWrite s.kind bg.call bg index w t = plan.announces t (sym e) in
          let entry : IsEntry (with_store m w.place w.value) bg.token.0 = prepared_entry s (with_store m w.place w.value) bg h.so_far.begun (h.so_far.numbered k) k (λ j x lt at deq.
          let le : j ≤ index = last.last j x at in
          both_stored m w.place w.value x.place x.value (λ q. one_plan s bg index j w x h.so_far.begun h.in_hand at q)
          (h.so_far.written j x (before_last j x lt at deq t last k) at)) in
          subst (IsEntry (with_store m w.place w.value)) (sym last.token) entry;
    }
      where
        before_last : (j : ℕ) (x : Write) → j < 4 → slice_get (preparation_of s.kind bg) j ≡ Some x → (bg.call ≡ Deq → j < 3) → (t : ℕ) → IsLastWrite s.kind bg.call bg index w t → s.kind ≡ Log → j < index
        before_last j x lt at deq t last k = go bg.call refl
          where
            go : (call : Call) → bg.call ≡ call → j < index
            go (Enq v) c =
                let nine : slice_get (preparation_of s.kind bg) 9 ≡ Some (announcement bg) = ap (λ y. slice_get (preparation_from y bg.call bg) 9) k ∙ ap (λ y. slice_get (preparation_from Log y bg) 9) c in
                omega (arith, lt, last.last 9 (announcement bg) nine)
            go Deq c =
                let three : slice_get (preparation_of s.kind bg) 3 ≡ Some (announcement bg) = ap (λ y. slice_get (preparation_from y bg.call bg) 3) k ∙ ap (λ y. slice_get (preparation_from Log y bg) 3) c in
                omega (arith, deq c, last.last 3 (announcement bg) three)

-- the entry of a prepared log dequeue has kind 2, that of an enqueue kind 1
pub dequeue_kind : (s : Shape) (m : Memory) (b : Begun) → Prepared s m b → b.call ≡ Deq → s.kind ≡ Log → Both m (EntryKind b.token) 2
dequeue_kind s m b h c k =
    h.written 2 (write (EntryKind b.token) 2) (ap (λ x. slice_get (preparation_from x b.call b) 2) k ∙ ap (λ x. slice_get (preparation_from Log x b) 2) c)

pub enqueue_entry : (s : Shape) (m : Memory) (b : Begun) (v : Value) → Prepared s m b → b.call ≡ Enq v → s.kind ≡ Log → IsEnqueued m b.token.0
enqueue_entry s m b v h c k = record {
  insert = h.written 8 (write (Insert (record { 0 = b.token.0 })) b.token.0) (ap (λ x. slice_get (preparation_from x b.call b) 8) k ∙ ap (λ x. slice_get (preparation_from Log x b) 8) c);
  kind = h.written 2 (write (EntryKind b.token) 1) (ap (λ x. slice_get (preparation_from x b.call b) 2) k ∙ ap (λ x. slice_get (preparation_from Log x b) 2) c);
}

empty_cell : (m : Memory) (kind : Kind) (t : Token) (c : ℕ) → Cell (token_of c) ≡ (empty_answer_of kind t).place → CellRight m c (empty_answer_of kind t).value
empty_cell m Durable t c e = λ some other. absurd (other refl)
empty_cell m Log t c e = absurd (cc)

empty_status : (m : Memory) (kind : Kind) (t : Token) (c : ℕ) → (kind ≡ Log → Both m (EntryKind t) 2) → Status (token_of c) ≡ (empty_answer_of kind t).place → StatusRight m c (empty_answer_of kind t).value
empty_status m Durable t c h e = absurd (cc)
empty_status m Log t c h e =
    let is : t ≡ token_of c = cc in
    record { taken = λ q. absurd (one_two 2 q refl); empty = λ q. subst (λ x. Both m (EntryKind x) 2) is (h refl) }

result_cell : (m : Memory) (kind : Kind) (t : Token) (n : NodeId) (c : ℕ) → marks m.kept n.0 ≡ t.0 → t.0 ≢ 0 → Cell (token_of c) ≡ (result_of kind t n).place → CellRight m c (result_of kind t n).value
result_cell m Durable t n c named some e =
    let is : t ≡ token_of c = cc in
    λ x y. record { at = n.0; named = named ∙ ap (λ z. z.0) is; some = λ z. some (ap (λ q. q.0) is ∙ z); value = refl }
result_cell m Log t n c named some e = absurd (cc)

pub result_node : (m : Memory) (kind : Kind) (t : Token) (n : NodeId) (c : ℕ) → marks m.kept n.0 ≡ t.0 → t.0 ≢ 0 → EntryNode (token_of c) ≡ (result_of kind t n).place → NodeRight m c (result_of kind t n).value
result_node m Durable t n c named some e = absurd (cc)
result_node m Log t n c named some e =
    let is : t ≡ token_of c = cc in
    λ kind x. (named ∙ ap (λ z. z.0) is, λ z. some (ap (λ q. q.0) is ∙ z))

module _ (s : Shape) (m : Memory) (l : Ledger) (claimed waiting : List ℕ) (b : Base s m l claimed waiting) (r : Records s m l) (i : ℕ) where
  -- a dequeue stores that the queue was empty
  harmless_empty : (t : Token) → Dequeuing s m l i t.0 → Harmless s m (empty_answer_of s.kind t).place (empty_answer_of s.kind t).value
  harmless_empty t h =
      let word : IsEmptyWord (empty_answer_of s.kind t).place = empty_word s.kind t in
      let kind : s.kind ≡ Log → Both m (EntryKind t) 2 = λ k.
      subst (λ x. Both m (EntryKind (token_of x)) 2) h.acting.mine.holds (dequeue_kind s m (l.begun i) h.acting.prepared h.asks k) in
      record {
        answers = λ x marked e. absurd (h.before.loose.mark x (b.marked.kept x marked ∙ sym (result_number s.kind (token_of (marks m.kept x)) (node_of x)) ∙ ap number_of e ∙ empty_number s.kind t));
        inserts = λ k x some e. absurd (subst IsEmptyWord (sym e) word);
        enqueues = λ k x some e. absurd (subst IsEmptyWord (sym e) word);
        dequeues = λ k x some e. absurd (subst IsEmptyWord (sym e) word);
        empties = λ c two e. absurd (subst IsEmptyWord (sym e) word);
        entries = λ k x e some at entry.
            entry_stored m (empty_answer_of s.kind t).place (empty_answer_of s.kind t).value e (λ q. subst IsEmptyWord (sym q) word) (λ q. subst IsEmptyWord (sym q) word) (λ q y. absurd (subst IsEmptyWord (sym q) word)) entry;
        cell = λ c e. empty_cell m s.kind t c e;
        node = λ c e. absurd (subst IsEmptyWord (sym e) word);
        kind = λ c e two. absurd (subst IsEmptyWord (sym e) word);
        status = λ c e. empty_status m s.kind t c kind e;
        announces = λ k x e some. absurd (subst IsEmptyWord (sym e) word);
      }

  -- the result of a claimed node is stored
  harmless_result : (t : Token) (n : NodeId) → marks m.kept n.0 ≡ t.0 → t.0 ≢ 0 → Harmless s m (result_of s.kind t n).place (result_of s.kind t n).value
  harmless_result t n named some =
      let word : IsAnswer (result_of s.kind t n).place = result_answer s.kind t n in
      let cached : marks m.cached n.0 ≡ t.0 = b.marked.kept n.0 (λ z. some (sym named ∙ z)) ∙ named in
      record {
        answers = λ x h at.
            let same : marks m.kept x ≡ t.0 = sym (result_number s.kind (token_of (marks m.kept x)) (node_of x)) ∙ ap number_of at ∙ result_number s.kind t n in
            let is_n : x ≡ n.0 = b.one_mark x n.0 (λ z. h (sym (b.marked.kept x h) ∙ z)) (b.marked.kept x h ∙ same ∙ sym cached) in
            ap (λ q. (result_of s.kind (token_of q) (node_of x)).value) same
            ∙ ap (λ q. (result_of s.kind t (node_of q)).value) is_n;
        inserts = λ k x h e. absurd (subst IsAnswer (sym e) word);
        enqueues = λ k x h e. absurd (subst IsAnswer (sym e) word);
        dequeues = λ k x h e. absurd (subst IsAnswer (sym e) word);
        empties = λ c two e. absurd (subst IsAnswer (sym e) word);
        entries = λ k x e other at entry.
            entry_stored m (result_of s.kind t n).place (result_of s.kind t n).value e (λ q. subst IsAnswer (sym q) word) (λ q. subst IsAnswer (sym q) word)
            (λ q one.
            let is : e ≡ t.0 = ap number_of q ∙ result_number s.kind t n in
            let two : Both m (EntryKind (token_of (marks m.cached n.0))) 2 = r.dequeued k n.0 (λ z. some (sym cached ∙ z)) in
            absurd (one_two (entry_kinds m.cached e) one.0 (ap (entry_kinds m.cached) (is ∙ sym cached) ∙ two.0))) entry;
        cell = λ c e. result_cell m s.kind t n c named some e;
        node = λ c e. result_node m s.kind t n c named some e;
        kind = λ c e two. absurd (subst IsAnswer (sym e) word);
        status = λ c e. absurd (subst IsAnswer (sym e) word);
        announces = λ k x e other. absurd (subst IsAnswer (sym e) word);
      }

  -- a store to a word of one's own leaves links, marks and the head
  own_records : (p : Place) (v : ℕ) → IsOwnWord p → Harmless s m p v → ((t : ℕ) → Announcement (record { 0 = t }) ≡ p → (v ≡ held_token l t) × IsToldOf s.kind (asked_call l t) × (v ≢ 0)) → Records s (with_store m p v) l
  own_records p v own h announced =
      stored_records s m l r p v h (λ k x. inl (same_links s m l p v own x)) (λ k x. inl (same_marks s m l p v own x))
      (subst (AnsweredTo s (with_store m p v)) (sym (put_other m.cached p v Head (λ e. subst IsOwnWord (sym e) own))) (stored_answered s m l r p v h (m.cached Head) r.to_head)) announced

  tail_records : (from to : ℕ) → Records s (with_access m (Cas Tail from to)) l
  tail_records from to = go (m.cached Tail == from)
    where
      go : (t : Bool) → Records s (if t then with_store m Tail to else m) l
      go true =
          stored_records s m l r Tail to (harmless_shared s m Tail to (λ q. q)) (λ k x. inl refl) (λ k x. inl refl)
          (stored_answered s m l r Tail to (harmless_shared s m Tail to (λ q. q)) (m.cached Head) r.to_head)
          (λ t e. absurd (cc))
      go false = r

  head_records : (first next : ℕ) (v : Value) (t : Token) → Claimed m first next v t.0 → IsWritten m.cached (result_of s.kind t (node_of next)) → IsWritten m.kept (result_of s.kind t (node_of next))
      → Records s (with_access m (Cas Head first next)) l
  head_records first next v t c cached kept = go (m.cached Head == first) refl
    where
      answered : IsAnswered s m next
      answered =
          subst (λ x. Both m (result_of s.kind (token_of x) (node_of next)).place (result_of s.kind (token_of x) (node_of next)).value) (sym c.marked) (cached, kept)

      go : (x : Bool) → (m.cached Head == first) ≡ x → Records s (if x then with_store m Head next else m) l
      go true e =
          let to_next : AnsweredTo s m next =
          answered_next s m first next (subst (AnsweredTo s m) (eqb-true (m.cached Head) first e) r.to_head) c.claims.link c.claims.some (λ z. c.some (sym c.marked ∙ z)) answered in
          stored_records s m l r Head next (harmless_shared s m Head next (λ q. q)) (λ k x. inl refl) (λ k x. inl refl)
          (stored_answered s m l r Head next (harmless_shared s m Head next (λ q. q)) next to_next)
          (λ t e. absurd (cc))
      go false e = r

  link_records : (node last : NodeId) → Enqueuing s m l i node.0 → Records s (with_access m (Cas (Next last) 0 node.0)) l
  link_records node last h = go (m.cached (Next last) == 0)
    where
      now : s.kind ≡ Log → IsEnqueued (with_store m (Next last) node.0) node.0
      now k =
          let q : IsEnqueued m node.0 = subst (IsEnqueued m) h.acting.mine.holds (enqueue_entry s m (l.begun i) (values m.cached node.0) h.acting.prepared h.asks k) in
          record { insert = q.insert; kind = q.kind }

      go : (t : Bool) → Records s (if t then with_store m (Next last) node.0 else m) l
      go true =
          stored_records s m l r (Next last) node.0 (harmless_shared s m (Next last) node.0 (λ q. q))
          (λ k x. elim (upd_cases (links m.cached) last.0 node.0 x) [ inl q ↦ inr (subst (IsEnqueued (with_store m (Next last) node.0)) (sym q.1) (now k)) | inr q ↦ inl q.1 ])
          (λ k x. inl refl)
          (stored_answered s m l r (Next last) node.0 (harmless_shared s m (Next last) node.0 (λ q. q)) (m.cached Head) r.to_head)
          (λ t e. absurd (cc))
      go false = r

  claim_records : (token : Token) (next : NodeId) → Dequeuing s m l i token.0 → Records s (with_access m (Cas (Mark next) 0 token.0)) l
  claim_records token next h = go (m.cached (Mark next) == 0)
    where
      now : s.kind ≡ Log → Both (with_store m (Mark next) token.0) (EntryKind token) 2
      now k = subst (λ x. Both m (EntryKind (token_of x)) 2) h.acting.mine.holds (dequeue_kind s m (l.begun i) h.acting.prepared h.asks k)

      go : (t : Bool) → Records s (if t then with_store m (Mark next) token.0 else m) l
      go true =
          stored_records s m l r (Mark next) token.0 (harmless_shared s m (Mark next) token.0 (λ q. q)) (λ k x. inl refl)
          (λ k x. elim (upd_cases (marks m.cached) next.0 token.0 x) [ inl q ↦ inr (subst (λ c. Both (with_store m (Mark next) token.0) (EntryKind (token_of c)) 2) (sym q.1) (now k)) | inr q ↦ inl q.1 ])
          (stored_answered s m l r (Mark next) token.0 (harmless_shared s m (Mark next) token.0 (λ q. q)) (m.cached Head) r.to_head)
          (λ t e. absurd (cc))
      go false = r

  looked_records : (found : ℕ) → Records s m (restaged l i (looked_stage found) l.queue)
  looked_records found =
      let took : (j : ℕ) (reply : Reply) → upd l.stage i (looked_stage found) j ≡ Took reply → TookBy s m.kept (l.begun j) reply = λ j reply e.
      elim (upd_cases l.stage i (looked_stage found) j) [
        | inl q ↦ absurd (go (found == 0) reply (sym q.1 ∙ e))
        | inr q ↦ r.took j reply (sym q.1 ∙ e)
      ] in
      let announcing : (j : ℕ) → announcements m.cached j ≢ announcements m.kept j → IsAnnouncing s m (restaged l i (looked_stage found) l.queue) j = λ j h.
      let old : IsAnnouncing s m l j = r.announcing j h in
      record { holds = old.holds; some = old.some; told_of = old.told_of } in
      assumption (r, took, announcing)
    where
      go : (t : Bool) (reply : Reply) → (if t then Seen else Unmoved) ≡ Took reply → ⊥
      go true reply e = cc
      go false reply e = cc

  -- each step keeps them
  pub row_records : (op : Op) → Knows s m l i op → Records s (with_access m (access_of s.kind op)) (ledger_after s m l i op)
  row_records (PrepareStore p) h = own_records p.write.place p.write.value (own_write s p.begun p.index p.write (h.0.before.mine.own ∙ sym h.0.own) h.0.in_hand).own
      (harmless_preparation s m l claimed waiting b i p.begun p.index p.write h.0)
      (λ t e.
      let last : IsLastWrite s.kind p.begun.call p.begun p.index p.write t = (planned_write s p.begun p.index p.write h.0.so_far.begun h.0.in_hand).announces t (sym e) in
      let who : t ≡ i = last.who ∙ h.0.own in (
        last.token ∙ sym (ap (λ x. (l.begun x).token.0) who ∙ ap (λ x. x.token.0) h.0.begun),
        subst (λ x. IsToldOf s.kind x.call) (sym (ap l.begun who ∙ h.0.begun)) (announces_told s.kind p.begun.call p.begun p.index p.write t h.0.in_hand (sym e)),
        λ z. h.0.before.mine.some (sym last.token ∙ z),
      ))
  row_records (PrepareFlush p) h = r
  row_records (PrepareFence p) h = keep_records s m l claimed waiting b r p.write.place
  row_records (EnqueueLoadTail p) h = r
  row_records (EnqueueLoadNext p) h = r
  row_records (EnqueueCheckTail p) h = r
  row_records (EnqueueLink p) h = link_records p.node p.last h.0
  row_records (FlushPoint k) h = r
  row_records (FencePoint k) h = keep_records s m l claimed waiting b r (kept_place s.kind k)
  row_records (EnqueueMoveTail p) h = tail_records p.last.0 p.node.0
  row_records (EnqueueHelpTail p) h = tail_records p.last.0 p.next.0
  row_records (DequeueLoadHead p) h = r
  row_records (DequeueLoadTail p) h = r
  row_records (DequeueLoadNext p) h = looked_records (links m.cached p.first.0)
  row_records (DequeueCheckHead p) h = r
  row_records (DequeueStoreEmpty p) h = own_records (empty_answer_of s.kind p.token).place (empty_answer_of s.kind p.token).value (empty_own s.kind p.token) (harmless_empty p.token h.0)
      (λ t e. absurd (subst IsEmptyWord (sym e) (empty_word s.kind p.token)))
  row_records (DequeueHelpTail p) h = tail_records p.last.0 p.next.0
  row_records (DequeueLoadItem p) h = r
  row_records (DequeueClaim p) h = claim_records p.token p.next h.0
  row_records (DequeueStoreResult p) h =
      own_records (result_of s.kind (winner p.claimed.claim p.claimed.token) p.claimed.next).place (result_of s.kind (winner p.claimed.claim p.claimed.token) p.claimed.next).value (result_own s.kind (winner p.claimed.claim p.claimed.token) p.claimed.next)
      (harmless_result (winner p.claimed.claim p.claimed.token) p.claimed.next h.1.marked h.1.some)
      (λ t e. absurd (subst IsAnswer (sym e) (result_answer s.kind (winner p.claimed.claim p.claimed.token) p.claimed.next)))
  row_records (DequeueMoveHead p) h = head_records p.claimed.first.0 p.claimed.next.0 p.claimed.value (winner p.claimed.claim p.claimed.token) h.1 h.2 h.3

-- a client's call begins or ends
pub rebegun_records : (s : Shape) (m : Memory) (l : Ledger) (i : ℕ) (bg : Begun) → Records s m l → announcements m.cached i ≡ announcements m.kept i → Records s m (rebegun l i bg)
rebegun_records s m l i bg r same =
    let took : (j : ℕ) (reply : Reply) → upd l.stage i Unmoved j ≡ Took reply → TookBy s m.kept (upd l.begun i bg j) reply = λ j reply e.
    elim (upd_cases l.stage i Unmoved j) [
      | inl q ↦ absurd (unmoved_took reply (sym q.1 ∙ e))
      | inr q ↦ subst (λ x. TookBy s m.kept x reply) (sym (upd_other l.begun i bg j q.0)) (r.took j reply (sym q.1 ∙ e))
    ] in
    let announcing : (j : ℕ) → announcements m.cached j ≢ announcements m.kept j → IsAnnouncing s m (rebegun l i bg) j = λ j h.
    let other : j ≢ i = λ e. h (subst (λ x. announcements m.cached x ≡ announcements m.kept x) (sym e) same) in
    let old : IsAnnouncing s m l j = r.announcing j h in
    let begun : upd l.begun i bg j ≡ l.begun j = upd_other l.begun i bg j other in
    record { holds = old.holds ∙ ap (λ x. x.token.0) (sym begun); some = old.some; told_of = subst (λ x. IsToldOf s.kind x.call) (sym begun) old.told_of } in
    assumption (r, took, announcing)
  where
    unmoved_took : (reply : Reply) → Unmoved ≡ Took reply → ⊥
    unmoved_took reply e = cc

pub none_records : (s : Shape) (l : Ledger) → ((i : ℕ) → l.stage i ≡ Unmoved) → Records s (record { cached = λ p. 0; kept = λ p. 0 }) l
none_records s l none =
    let start : AnsweredTo s (record { cached = λ p. 0; kept = λ p. 0 }) 0 = record { passed = []; path = tt; at = refl; claimed = λ n h. absurd h; answered = λ n h. absurd h } in
    record {
      to_head = start;
      to_kept_head = start;
      cell = λ c some other. absurd (some refl);
      cell_kept = λ c some other. absurd (some refl);
      node = λ c kind some. absurd (some refl);
      node_kept = λ c kind some. absurd (some refl);
      enqueued = λ k n some. absurd (some refl);
      dequeued = λ k n some. absurd (some refl);
      status = λ c. record { taken = λ e. absurd (cc); empty = λ e. absurd (cc) };
      status_kept = λ c. record { taken = λ e. absurd (cc); empty = λ e. absurd (cc) };
      entry = λ k t some. absurd (some refl);
      entry_kept = λ k t some. absurd (some refl);
      took = λ i reply e. let wrong : Unmoved ≡ Took reply = sym (none i) ∙ e in absurd (cc);
      announcing = λ i h. absurd (h refl);
    }

-- a call prepares its record, or acts with it
pub acting_or : (s : Shape) (m : Memory) (l : Ledger) (i : ℕ) (op : Op) → Knows s m l i op → Acting s m l i (held_token l i) ⊎ record { b : Begun; index : ℕ; w : Write; preparing : Preparing s m l i b index w }
acting_or s m l i op h = go op h
  where
    hold : (c : ℕ) → Acting s m l i c → Acting s m l i (held_token l i)
    hold c a = subst (Acting s m l i) (sym a.mine.holds) a

    claimer : (t : Token) (c : Claim) → Claimer s m l i t c → Acting s m l i (held_token l i)
    claimer t Won a = hold t.0 a.0
    claimer t (LostTo other) a = hold t.0 a.0.acting

    keeper : (k : Keeping) → KnowsKeeping s m l i k → Acting s m l i (held_token l i)
    keeper (KeepLink p) k = hold p.node.0 k.0.acting
    keeper (KeepPassedLink p) k = hold p.node.0 k.0.acting
    keeper (KeepEmpty p) k = hold p.token.0 k.0
    keeper (KeepDequeuePassedLink p) k = hold p.token.0 k.0.acting
    keeper (KeepClaim p) k = claimer p.claimed.token p.claimed.claim k.0
    keeper (KeepResult p) k = claimer p.claimed.token p.claimed.claim k.0

    go : (op : Op) → Knows s m l i op → Acting s m l i (held_token l i) ⊎ record { b : Begun; index : ℕ; w : Write; preparing : Preparing s m l i b index w }
    go (PrepareStore p) k = inr (record { b = p.begun; index = p.index; w = p.write; preparing = k.0 })
    go (PrepareFence p) k = inr (record { b = p.begun; index = p.index; w = p.write; preparing = k.0 })
    go (PrepareFlush p) k = inr (record { b = p.begun; index = p.index; w = p.write; preparing = k.0 })
    go (EnqueueLoadTail p) k = inl (hold p.node.0 k.acting)
    go (EnqueueLoadNext p) k = inl (hold p.node.0 k.0.acting)
    go (EnqueueCheckTail p) k = inl (hold p.node.0 k.0.acting)
    go (EnqueueLink p) k = inl (hold p.node.0 k.0.acting)
    go (EnqueueMoveTail p) k = inl (hold p.node.0 k.0.acting)
    go (EnqueueHelpTail p) k = inl (hold p.node.0 k.0.acting)
    go (DequeueLoadHead p) k = inl (hold p.token.0 k.acting)
    go (DequeueLoadTail p) k = inl (hold p.token.0 k.0.acting)
    go (DequeueLoadNext p) k = inl (hold p.token.0 k.0.acting)
    go (DequeueCheckHead p) k = inl (hold p.token.0 k.0.acting)
    go (DequeueStoreEmpty p) k = inl (hold p.token.0 k.0.acting)
    go (DequeueHelpTail p) k = inl (hold p.token.0 k.0.acting)
    go (DequeueLoadItem p) k = inl (hold p.token.0 k.0.acting)
    go (DequeueClaim p) k = inl (hold p.token.0 k.0.acting)
    go (DequeueStoreResult p) k = inl (claimer p.claimed.token p.claimed.claim k.0)
    go (DequeueMoveHead p) k = inl (claimer p.claimed.token p.claimed.claim k.0)
    go (FlushPoint q) k = inl (keeper q k)
    go (FencePoint q) k = inl (keeper q k)

-- a call whose link, claim or empty answer stands has prepared its record
pub acting_of : (s : Shape) (m : Memory) (l : Ledger) (i : ℕ) (op : Op) → Knows s m l i op → (Loose m (held_token l i) → (SaysEmpty s m.cached (held_token l i) → ⊥) → ⊥) → Acting s m l i (held_token l i)
acting_of s m l i op h moved = elim (acting_or s m l i op h) [
  | inl a ↦ a
  | inr p ↦
      let holds : held_token l i ≡ p.b.token.0 = p.preparing.before.mine.holds in
      absurd (moved (subst (Loose m) (sym holds) p.preparing.before.loose) (λ e. p.preparing.before.silent (subst (SaysEmpty s m.cached) holds e)))
]

-- the second word of a log record is its number
number_written : (s : Shape) (b : Begun) → s.kind ≡ Log → slice_get (preparation_of s.kind b) 1 ≡ Some (write (Number b.token) b.number)
number_written s b k = ap (λ x. slice_get (preparation_from x b.call b) 1) k ∙ go b.call
  where
    go : (call : Call) → slice_get (preparation_from Log call b) 1 ≡ Some (write (Number b.token) b.number)
    go (Enq v) = refl
    go Deq = refl

-- where a client's announcement names the record of its call, the record has the call's number
pub announced_number : (s : Shape) (m : Memory) (l : Ledger) (i : ℕ) (op : Op) → Knows s m l i op → (announcements m.cached i ≡ held_token l i) ⊎ (announcements m.kept i ≡ held_token l i) → s.kind ≡ Log
    → Both m (Number (token_of (held_token l i))) (l.begun i).number
announced_number s m l i op h ann k = elim (acting_or s m l i op h) [
  | inl a ↦ a.prepared.written 1 (write (Number (l.begun i).token) (l.begun i).number) (number_written s (l.begun i) k)
  | inr p ↦
      let x : Preparing s m l i p.b p.index p.w = p.preparing in
      elim (put_cases m.cached p.w.place 0 (Announcement (record { 0 = i }))) [
        | inl t ↦
            let last : IsLastWrite s.kind p.b.call p.b p.index p.w i = (planned_write s p.b p.index p.w x.so_far.begun x.in_hand).announces i (sym t.0) in
            let second : 1 < p.index = after_number p.b p.index (number_written s p.b k) p.w x.in_hand last.last (sym t.0) in
            subst (λ y. Both m (Number y.token) y.number) (sym x.begun) (x.so_far.written 1 (write (Number p.b.token) p.b.number) second (number_written s p.b k))
        | inr t ↦ let u : (announcements m.cached i ≢ p.b.token.0) × (announcements m.kept i ≢ p.b.token.0) = x.unannounced (λ j y le e at.
            let last : IsLastWrite s.kind p.b.call p.b j y i = (planned_write s p.b j y x.so_far.begun e).announces i at in
            let same_index : j ≡ p.index = omega (arith, le, last.last p.index p.w x.in_hand) in
            let same : Some y ≡ Some p.w = sym e ∙ ap (slice_get (preparation_of s.kind p.b)) same_index ∙ x.in_hand in
            let is : y ≡ p.w = cc in
            t.0 (sym at ∙ ap (λ z. z.place) is)) in
            absurd (elim ann [ inl q ↦ u.0 (q ∙ x.before.mine.holds) | inr q ↦ u.1 (q ∙ x.before.mine.holds) ])
      ]
]
  where
    after_number : (b : Begun) (index : ℕ) → slice_get (preparation_of s.kind b) 1 ≡ Some (write (Number b.token) b.number) → (w : Write) → slice_get (preparation_of s.kind b) index ≡ Some w
        → ((j : ℕ) (y : Write) → slice_get (preparation_of s.kind b) j ≡ Some y → j ≤ index) → w.place ≡ Announcement (record { 0 = i }) → 1 < index
    after_number b index second w e last at = elim (cases_eq index 1) [
      | inl one ↦
          let same : Some w ≡ Some (write (Number b.token) b.number) = sym e ∙ ap (slice_get (preparation_of s.kind b)) one ∙ second in
          let is : w ≡ write (Number b.token) b.number = cc in
          let wrong : Number b.token ≡ Announcement (record { 0 = i }) = ap (λ z. z.place) (sym is) ∙ at in
          absurd (cc)
      | inr ne ↦ omega (arith, ne, last 1 (write (Number b.token) b.number) second)
    ]
