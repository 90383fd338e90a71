-- The words of records, when a word becomes kept.
use Rattle.std.proofs.Common.{◌≡◌, ◌≢◌, ℕ, suc, ◌+◌, ◌⊎◌, inl, inr, List, [], ◌∷◌, ◌++◌, drop, Bool, true, false, if◌then◌else◌, ◌==◌, refl, sym, ◌∙◌, ap, subst, arith}
use Rattle.std.proofs.lemmas.Bool.{eqb-true, eqb-false}
use Rattle.words.specs.PlainQueue.{Value}
use Rattle.words.specs.declared.call.Call.TheVariants.{Enq, Deq}
use Rattle.words.specs.declared.call.Kind.{Kind}
use Rattle.words.specs.declared.call.Kind.TheVariants.{Durable, Log}
use Rattle.words.specs.declared.call.Reply.{Reply}
use Rattle.words.specs.declared.call.Reply.TheVariants.{Done, Got, Empty}
use Rattle.arena.specs.Answers.{empty_answer_of, result_of}
use Rattle.arena.specs.Chain.{IsAmong}
use Rattle.arena.specs.Shape.{Shape, owner}
use Rattle.arena.specs.Words.{links, marks, part_at, values, cells, entry_kinds, entry_nodes, statuses, announcements}
use Rattle.arena.specs.declared.place.Place.{Place}
use Rattle.arena.specs.declared.place.Place.TheVariants.{Head, Tail, Announcement, Bump, Item, Next, Mark, Cell, Insert}
use Rattle.arena.specs.declared.place.Place.TheVariants.{Number, EntryKind, Status, EntryNode}
use Rattle.stepper.specs.declared.prepare.Begun.{Begun}
use Rattle.helping.specs.Table.{token_of, node_of}
use Rattle.events.specs.Telling.{IsToldOf}
use Rattle.protocol.specs.Machine.{Memory, put, with_store, with_fence}
use Rattle.protocol.specs.Recovered.{end_of}
use Rattle.arena.proofs.Facts.{in_end_cases, in_left}
use Rattle.protocol.proofs.chain.Chains.{upd_same, upd_cases, linked_by}
use Rattle.protocol.proofs.chain.Links.{kept_apart}
use Rattle.protocol.specs.invariants.Ledger.{Stage, Ledger, held_token}
use Rattle.protocol.specs.invariants.Places.{SaysEmpty}
use Rattle.protocol.specs.invariants.Base.{IsLinking, IsClaiming, IsAnswering, Base}
use Rattle.protocol.specs.invariants.Grows.{Grows}
use Rattle.protocol.specs.invariants.Ledger.Stage.{Unmoved, Seen, Took}
use Rattle.protocol.proofs.changes.Puts.{put_cases, put_same, values_same}
use Rattle.protocol.proofs.changes.Keeps.{restaged, counted, noticed_ledger, kept_ledger}
use Rattle.protocol.proofs.changes.Fences.{cell_says, status_says, keep_any}
use Rattle.protocol.specs.invariants.Records.{Both, IsPath, answer, IsAnswered, AnsweredTo, IsEnqueued, CellRight}
use Rattle.protocol.specs.invariants.Records.{NodeRight, StatusRight, IsEntry, TookBy, IsAnnouncing, Records}

pub path_longer : (k : ℕ → ℕ) (from : ℕ) (ns : List ℕ) (x : ℕ) → IsPath k from ns → k (end_of from ns) ≡ x → x ≢ 0 → IsPath k from (ns ++ x ∷ [])
path_longer k from [] x p e some = (e, some, tt)
path_longer k from (n ∷ ns) x p e some = (p.0, p.1, path_longer k n ns x p.2 e some)

pub end_longer : (from : ℕ) (ns : List ℕ) (x : ℕ) → end_of from (ns ++ x ∷ []) ≡ x
end_longer from [] x = refl
end_longer from (n ∷ ns) x = end_longer n ns x

pub path_grows : (k l : ℕ → ℕ) (from : ℕ) (ns : List ℕ) → ((n : ℕ) → k n ≢ 0 → l n ≡ k n) → IsPath k from ns → IsPath l from ns
path_grows k l from [] g p = tt
path_grows k l from (n ∷ ns) g p = (g from (λ z. p.1 (sym p.0 ∙ z)) ∙ p.0, p.1, path_grows k l n ns g p.2)

-- each node of a path follows one
pub path_linked : (k : ℕ → ℕ) (from : ℕ) (ns : List ℕ) → IsPath k from ns → (n : ℕ) → IsAmong n ns → (p : ℕ) × (k p ≡ n) × (n ≢ 0)
path_linked k from [] p n h = absurd h
path_linked k from (x ∷ xs) p n (inl e) = (from, p.0 ∙ sym e, λ z. p.1 (sym e ∙ z))
path_linked k from (x ∷ xs) p n (inr h) = path_linked k x xs p.2 n h

-- what is kept as it is cached
pub both_fenced : (m : Memory) (p q : Place) (v : ℕ) → Both m q v → Both (with_fence m p) q v
both_fenced m p q v h = (h.0, elim (put_cases m.kept p (m.cached p) q) [ inl t ↦ t.1 ∙ ap m.cached (sym t.0) ∙ h.0 | inr t ↦ t.1 ∙ h.1 ])

pub both_stored : (m : Memory) (p : Place) (x : ℕ) (q : Place) (v : ℕ) → (q ≡ p → v ≡ x) → Both m q v → Both (with_store m p x) q v
both_stored m p x q v same h = (elim (put_cases m.cached p x q) [ inl t ↦ t.1 ∙ sym (same t.0) | inr t ↦ t.1 ∙ h.0 ], h.1)

-- what is claimed and answered stays so
pub answered_grows : (a : ℕ) (s : Shape) (m : Memory) (l : Ledger) (n : Memory) (k : Ledger) (h : ℕ) → Grows a s m l n k → ((x : ℕ) → marks m.kept x ≢ 0 → IsAnswered s m x → Both n (answer s m x).place (answer s m x).value) → AnsweredTo s m h → AnsweredTo s n h
answered_grows a s m l n k h g stays r = record {
  passed = r.passed;
  path = path_grows (links m.kept) (links n.kept) 0 r.passed g.at_kept_link r.path;
  at = r.at;
  claimed = λ x i z. r.claimed x i (sym (g.at_kept_mark x (r.claimed x i)) ∙ z);
  answered = λ x i.
      let mark : marks n.kept x ≡ marks m.kept x = g.at_kept_mark x (r.claimed x i) in
      subst (λ t. Both n (result_of s.kind (token_of t) (node_of x)).place (result_of s.kind (token_of t) (node_of x)).value) (sym mark)
      (stays x (r.claimed x i) (r.answered x i));
}

-- the head goes one node on
pub answered_next : (s : Shape) (m : Memory) (first next : ℕ) → AnsweredTo s m first → links m.kept first ≡ next → next ≢ 0 → marks m.kept next ≢ 0 → IsAnswered s m next → AnsweredTo s m next
answered_next s m first next r link some marked answered = record {
  passed = r.passed ++ next ∷ [];
  path = path_longer (links m.kept) 0 r.passed next r.path (ap (links m.kept) (sym r.at) ∙ link) some;
  at = sym (end_longer 0 r.passed next);
  claimed = λ n h. elim (in_end_cases n next r.passed h) [ inl i ↦ r.claimed n i | inr e ↦ λ z. marked (ap (marks m.kept) (sym e) ∙ z) ];
  answered = λ n h. elim (in_end_cases n next r.passed h) [ inl i ↦ r.answered n i | inr e ↦ subst (IsAnswered s m) (sym e) answered ];
}

pub entry_fenced : (m : Memory) (p : Place) (e : ℕ) → IsEntry m e → IsEntry (with_fence m p) e
entry_fenced m p e h = record {
  number = h.number;
  some = h.some;
  in_range = h.in_range;
  numbered = both_fenced m p (Number (token_of e)) h.number h.numbered;
  kind = elim h.kind [
    | inl q ↦ inl (both_fenced m p (EntryKind (token_of e)) 1 q.0, both_fenced m p (EntryNode (token_of e)) e q.1)
    | inr q ↦ inr (both_fenced m p (EntryKind (token_of e)) 2 q)
  ];
}

-- a fence makes no announcement differ
pub announced_apart : (m : Memory) (p : Place) (i : ℕ) → announcements m.cached i ≢ announcements (with_fence m p).kept i → announcements m.cached i ≢ announcements m.kept i
announced_apart m p i h e = h (elim (put_cases m.kept p (m.cached p) (Announcement (record { 0 = i }))) [ inl t ↦ ap m.cached t.0 ∙ sym t.1 | inr t ↦ e ∙ sym t.1 ])

module _ (s : Shape) (m : Memory) (l : Ledger) (claimed waiting : List ℕ) (b : Base s m l claimed waiting) (r : Records s m l) (p : Place) where
  g : Grows 0 s m l (with_fence m p) (kept_ledger s m l p)
  g = (keep_any s m l claimed waiting b p).grows 0

  -- the message of a claimed node stays
  pub claimed_value : (x : ℕ) → marks m.kept x ≢ 0 → values (with_fence m p).kept x ≡ values m.kept x
  claimed_value x h =
      let q : (q : ℕ) × (links m.kept q ≡ x) × (x ≢ 0) = linked_by (links m.kept) 0 (claimed ++ waiting) b.chained.chain x (in_left x claimed waiting (b.marked.back x h)) in
      values_same (with_fence m p).kept m.kept x (λ part. subst (λ y. part_at (with_fence m p).kept y part ≡ part_at m.kept y part) q.1 (g.at_linked q.0 part (λ z. q.2 (sym q.1 ∙ z))))

  fenced_cell : (c v : ℕ) → CellRight m c v → CellRight (with_fence m p) c v
  fenced_cell c v h some other =
      let q : record { at : ℕ; named : marks m.kept at ≡ c; some : c ≢ 0; value : v ≡ at + 2 } = h some other in
      let marked : marks m.kept q.at ≢ 0 = λ z. q.some (sym q.named ∙ z) in
      record { at = q.at; named = g.at_kept_mark q.at marked ∙ q.named; some = q.some; value = q.value }

  fenced_node : (c v : ℕ) → NodeRight m c v → NodeRight (with_fence m p) c v
  fenced_node c v h kind some =
      let before : (entry_kinds m.cached c ≡ 2) ⊎ (entry_kinds m.kept c ≡ 2) = elim kind [
        | inl e ↦ inl e
        | inr e ↦ elim (put_cases m.kept p (m.cached p) (EntryKind (token_of c))) [ inl t ↦ inl (ap m.cached t.0 ∙ sym t.1 ∙ e) | inr t ↦ inr (sym t.1 ∙ e) ]
      ] in
      let q : (marks m.kept v ≡ c) × (c ≢ 0) = h before some in
      (g.at_kept_mark v (λ z. q.1 (sym q.0 ∙ z)) ∙ q.0, q.1)

  fenced_status : (c v : ℕ) → StatusRight m c v → StatusRight (with_fence m p) c v
  fenced_status c v h = record {
    taken = λ e.
        let q : record { at : ℕ; linked : links m.kept at ≡ c; some : c ≢ 0 } = h.taken e in
        record { at = q.at; linked = g.at_kept_link q.at (λ z. q.some (sym q.linked ∙ z)) ∙ q.linked; some = q.some };
    empty = λ e. both_fenced m p (EntryKind (token_of c)) 2 (h.empty e);
  }

  took_old : (c : Begun) (reply : Reply) → TookBy s m.kept c reply → TookBy s (with_fence m p).kept c reply
  took_old c Done h = record { at = h.at; linked = g.at_kept_link h.at (λ z. h.some (sym h.linked ∙ z)) ∙ h.linked; some = h.some; asks = h.asks }
  took_old c (Got v) h =
      let marked : marks m.kept h.at ≢ 0 = λ z. h.some (sym h.marked ∙ z) in
      record { at = h.at; marked = g.at_kept_mark h.at marked ∙ h.marked; some = h.some; value = claimed_value h.at marked ∙ h.value }
  took_old c Empty h = elim (put_cases m.kept p (m.cached p) (empty_answer_of s.kind (token_of c.token.0)).place) [
    | inl t ↦ t.1 ∙ ap m.cached (sym t.0) ∙ b.empty.said c.token.0 h
    | inr t ↦ t.1 ∙ h
  ]

  -- a call that takes effect does so by the word that is kept
  took_new : (o c : ℕ) (st : Stage) (queue : List Value) → o ≡ owner s c → held_token l o ≡ c → ((reply : Reply) → st ≡ Took reply → TookBy s (with_fence m p).kept (l.begun o) reply)
      → (i : ℕ) (reply : Reply) → (restaged l o st queue).stage i ≡ Took reply → TookBy s (with_fence m p).kept (l.begun i) reply
  took_new o c st queue own holds now i reply h = elim (upd_cases l.stage o st i) [
    | inl t ↦ subst (λ x. TookBy s (with_fence m p).kept x reply) (sym (ap l.begun t.0)) (now reply (sym t.1 ∙ h))
    | inr t ↦ took_old (l.begun i) reply (r.took i reply (sym t.1 ∙ h))
  ]

  took_same : (i : ℕ) (reply : Reply) → l.stage i ≡ Took reply → TookBy s (with_fence m p).kept (l.begun i) reply
  took_same i reply h = took_old (l.begun i) reply (r.took i reply h)

enq_deq : {v : Value} → Deq ≡ Enq v → ⊥
enq_deq e = cc

seen_empty : (st : Stage) (reply : Reply) → st ≡ Seen → counted st ≡ Took reply → reply ≡ Empty
seen_empty Unmoved reply e h = absurd (cc)
seen_empty Seen reply e h = cc
seen_empty (Took x) reply e h = absurd (cc)

module _ (s : Shape) (m : Memory) (l : Ledger) (claimed waiting : List ℕ) (b : Base s m l claimed waiting) (r : Records s m l) where
  took_says : (c : ℕ) (p : Place) → p ≡ (empty_answer_of s.kind (token_of c)).place → SaysEmpty s m.cached c → (SaysEmpty s m.kept c → ⊥)
      → (i : ℕ) (reply : Reply) → (restaged l (owner s c) (counted (l.stage (owner s c))) l.queue).stage i ≡ Took reply → TookBy s (with_fence m p).kept (l.begun i) reply
  took_says c p at says fresh =
      let f : IsAnswering s l (marks m.cached) c = b.empty.flying c says fresh in
      took_new s m l claimed waiting b r p (owner s c) c (counted (l.stage (owner s c))) l.queue refl f.holds
      (λ reply e. subst (λ x. TookBy s (with_fence m p).kept (l.begun (owner s c)) x) (sym (seen_empty (l.stage (owner s c)) reply f.seen e))
      (subst (SaysEmpty s (with_fence m p).kept) (sym f.holds) (ap (put m.kept p (m.cached p)) (sym at) ∙ put_same m.kept p (m.cached p) ∙ ap m.cached at ∙ says)))

  took_noticed : (p : Place) → m.kept p ≢ m.cached p → (i : ℕ) (reply : Reply) → (noticed_ledger s m l p (m.cached p)).stage i ≡ Took reply → TookBy s (with_fence m p).kept ((noticed_ledger s m l p (m.cached p)).begun i) reply
  took_noticed Head apart = took_same s m l claimed waiting b r Head
  took_noticed Tail apart = took_same s m l claimed waiting b r Tail
  took_noticed (Announcement t) apart = took_same s m l claimed waiting b r (Announcement t)
  took_noticed (Bump t) apart = took_same s m l claimed waiting b r (Bump t)
  took_noticed (Item n part) apart = took_same s m l claimed waiting b r (Item n part)
  took_noticed (Next n) apart =
      let none : links m.kept n.0 ≡ 0 = kept_apart (links m.cached) (links m.kept) n.0 (b.chained.kept n.0) apart in
      let some : links m.cached n.0 ≢ 0 = λ z. apart (none ∙ sym z) in
      let f : IsLinking s l (values m.cached) (links m.cached n.0) = b.flying_link n.0 some none in
      took_new s m l claimed waiting b r (Next n) (owner s (links m.cached n.0)) (links m.cached n.0) (Took Done) (l.queue ++ values m.kept (links m.cached n.0) ∷ []) refl f.holds
      (λ reply e. let same : reply ≡ Done = cc in
      subst (λ x. TookBy s (with_fence m (Next n)).kept (l.begun (owner s (links m.cached n.0))) x) (sym same)
      (record { at = n.0; linked = upd_same (links m.kept) n.0 (links m.cached n.0) ∙ sym f.holds; some = λ z. some (sym f.holds ∙ z); asks = λ q. enq_deq (sym q ∙ f.asks) }))
  took_noticed (Mark n) apart =
      let none : marks m.kept n.0 ≡ 0 = kept_apart (marks m.cached) (marks m.kept) n.0 (b.marked.kept n.0) apart in
      let some : marks m.cached n.0 ≢ 0 = λ z. apart (none ∙ sym z) in
      let f : IsClaiming s l (marks m.cached n.0) = b.flying_mark n.0 some none in
      took_new s m l claimed waiting b r (Mark n) (owner s (marks m.cached n.0)) (marks m.cached n.0) (Took (Got (values m.kept n.0))) (drop 1 l.queue) refl f.holds
      (λ reply e. let same : reply ≡ Got (values m.kept n.0) = cc in
      subst (λ x. TookBy s (with_fence m (Mark n)).kept (l.begun (owner s (marks m.cached n.0))) x) (sym same)
      (record { at = n.0; marked = upd_same (marks m.kept) n.0 (marks m.cached n.0) ∙ sym f.holds; some = λ z. some (sym f.holds ∙ z); value = refl }))
  took_noticed (Insert n) apart = took_same s m l claimed waiting b r (Insert n)
  took_noticed (Number e) apart = took_same s m l claimed waiting b r (Number e)
  took_noticed (EntryKind e) apart = took_same s m l claimed waiting b r (EntryKind e)
  took_noticed (EntryNode e) apart = took_same s m l claimed waiting b r (EntryNode e)
  took_noticed (Cell c) apart = go s.kind refl (m.cached (Cell c) == 1) refl
    where
      go : (kind : Kind) → s.kind ≡ kind → (t : Bool) → (m.cached (Cell c) == 1) ≡ t → (i : ℕ) (reply : Reply) → (if t then restaged l (owner s c.0) (counted (l.stage (owner s c.0))) l.queue else l).stage i ≡ Took reply
          → TookBy s (with_fence m (Cell c)).kept ((if t then restaged l (owner s c.0) (counted (l.stage (owner s c.0))) l.queue else l).begun i) reply
      go Durable e true t =
          let says : m.cached (Cell c) ≡ 1 = eqb-true (m.cached (Cell c)) 1 t in
          took_says c.0 (Cell c) (ap (λ k. (empty_answer_of k (token_of c.0)).place) (sym e)) ((cell_says s m.cached c e).1 says) (λ h. apart ((cell_says s m.kept c e).0 h ∙ sym says))
      go Durable e false t = took_same s m l claimed waiting b r (Cell c)
      go Log e t q =
          let wrong : s.kind ≡ Durable → ⊥ = λ x. cc in
          absurd (apart (b.absent_kept (Cell c) (λ h. wrong h.0) ∙ sym (b.absent (Cell c) (λ h. wrong h.0))))
  took_noticed (Status c) apart = go s.kind refl (m.cached (Status c) == 2) refl
    where
      go : (kind : Kind) → s.kind ≡ kind → (t : Bool) → (m.cached (Status c) == 2) ≡ t → (i : ℕ) (reply : Reply) → (if t then restaged l (owner s c.0) (counted (l.stage (owner s c.0))) l.queue else l).stage i ≡ Took reply
          → TookBy s (with_fence m (Status c)).kept ((if t then restaged l (owner s c.0) (counted (l.stage (owner s c.0))) l.queue else l).begun i) reply
      go Log e true t =
          let says : m.cached (Status c) ≡ 2 = eqb-true (m.cached (Status c)) 2 t in
          took_says c.0 (Status c) (ap (λ k. (empty_answer_of k (token_of c.0)).place) (sym e)) ((status_says s m.cached c e).1 says) (λ h. apart ((status_says s m.kept c e).0 h ∙ sym says))
      go Log e false t = took_same s m l claimed waiting b r (Status c)
      go Durable e t q =
          let wrong : s.kind ≡ Log → ⊥ = λ x. cc in
          absurd (apart (b.absent_kept (Status c) (λ h. wrong h.0) ∙ sym (b.absent (Status c) (λ h. wrong h.0))))

  took_kept : (p : Place) → (i : ℕ) (reply : Reply) → (kept_ledger s m l p).stage i ≡ Took reply → TookBy s (with_fence m p).kept ((kept_ledger s m l p).begun i) reply
  took_kept p = go (m.kept p == m.cached p) refl
    where
      go : (t : Bool) → (m.kept p == m.cached p) ≡ t → (i : ℕ) (reply : Reply) → (if t then l else noticed_ledger s m l p (m.cached p)).stage i ≡ Took reply
          → TookBy s (with_fence m p).kept ((if t then l else noticed_ledger s m l p (m.cached p)).begun i) reply
      go true e = took_same s m l claimed waiting b r p
      go false e = took_noticed p (eqb-false (m.kept p) (m.cached p) e)

  announcing_kept : (p : Place) (i : ℕ) → IsAnnouncing s m l i → IsAnnouncing s (with_fence m p) (kept_ledger s m l p) i
  announcing_kept p i q =
      let same : (kept_ledger s m l p).begun i ≡ l.begun i = let g : Grows (suc i) s m l (with_fence m p) (kept_ledger s m l p) = (keep_any s m l claimed waiting b p).grows (suc i) in g.begun i (λ e. absurd (omega (arith, e))) in
      record { holds = q.holds ∙ ap (λ x. x.token.0) (sym same); some = q.some; told_of = subst (λ x. IsToldOf s.kind x.call) (sym same) q.told_of }

  -- a word is kept
  pub keep_records : (p : Place) → Records s (with_fence m p) (kept_ledger s m l p)
  keep_records p =
      let g : Grows 0 s m l (with_fence m p) (kept_ledger s m l p) = (keep_any s m l claimed waiting b p).grows 0 in
      let head : AnsweredTo s (with_fence m p) (m.cached Head) =
      answered_grows 0 s m l (with_fence m p) (kept_ledger s m l p) (m.cached Head) g (λ x h q. both_fenced m p (answer s m x).place (answer s m x).value q) r.to_head in
      let kept_head : AnsweredTo s (with_fence m p) (m.kept Head) =
      answered_grows 0 s m l (with_fence m p) (kept_ledger s m l p) (m.kept Head) g (λ x h q. both_fenced m p (answer s m x).place (answer s m x).value q) r.to_kept_head in
      record {
        to_head = head;
        to_kept_head = elim (put_cases m.kept p (m.cached p) Head) [
          | inl t ↦ subst (AnsweredTo s (with_fence m p)) (sym (t.1 ∙ ap m.cached (sym t.0))) head
          | inr t ↦ subst (AnsweredTo s (with_fence m p)) (sym t.1) kept_head
        ];
        cell = λ c. fenced_cell s m l claimed waiting b r p c (cells m.cached c) (r.cell c);
        cell_kept = λ c. elim (put_cases m.kept p (m.cached p) (Cell (token_of c))) [
          | inl t ↦ subst (CellRight (with_fence m p) c) (sym (t.1 ∙ ap m.cached (sym t.0))) (fenced_cell s m l claimed waiting b r p c (cells m.cached c) (r.cell c))
          | inr t ↦ subst (CellRight (with_fence m p) c) (sym t.1) (fenced_cell s m l claimed waiting b r p c (cells m.kept c) (r.cell_kept c))
        ];
        node = λ c. fenced_node s m l claimed waiting b r p c (entry_nodes m.cached c) (r.node c);
        node_kept = λ c. elim (put_cases m.kept p (m.cached p) (EntryNode (token_of c))) [
          | inl t ↦ subst (NodeRight (with_fence m p) c) (sym (t.1 ∙ ap m.cached (sym t.0))) (fenced_node s m l claimed waiting b r p c (entry_nodes m.cached c) (r.node c))
          | inr t ↦ subst (NodeRight (with_fence m p) c) (sym t.1) (fenced_node s m l claimed waiting b r p c (entry_nodes m.kept c) (r.node_kept c))
        ];
        enqueued = λ k x h.
            let q : IsEnqueued m (links m.cached x) = r.enqueued k x h in
            record {
              insert = both_fenced m p (Insert (node_of (links m.cached x))) (links m.cached x) q.insert;
              kind = both_fenced m p (EntryKind (token_of (links m.cached x))) 1 q.kind;
            };
        dequeued = λ k x h. both_fenced m p (EntryKind (token_of (marks m.cached x))) 2 (r.dequeued k x h);
        status = λ c. fenced_status s m l claimed waiting b r p c (statuses m.cached c) (r.status c);
        status_kept = λ c. elim (put_cases m.kept p (m.cached p) (Status (token_of c))) [
          | inl t ↦ subst (StatusRight (with_fence m p) c) (sym (t.1 ∙ ap m.cached (sym t.0))) (fenced_status s m l claimed waiting b r p c (statuses m.cached c) (r.status c))
          | inr t ↦ subst (StatusRight (with_fence m p) c) (sym t.1) (fenced_status s m l claimed waiting b r p c (statuses m.kept c) (r.status_kept c))
        ];
        entry = λ k t some. entry_fenced m p (announcements m.cached t) (r.entry k t some);
        entry_kept = λ k t. elim (put_cases m.kept p (m.cached p) (Announcement (record { 0 = t }))) [
          | inl q ↦ subst (λ e. e ≢ 0 → IsEntry (with_fence m p) e) (sym (q.1 ∙ ap m.cached (sym q.0))) (λ some. entry_fenced m p (announcements m.cached t) (r.entry k t some))
          | inr q ↦ subst (λ e. e ≢ 0 → IsEntry (with_fence m p) e) (sym q.1) (λ some. entry_fenced m p (announcements m.kept t) (r.entry_kept k t some))
        ];
        took = took_kept p;
        announcing = λ i h.
            let q : IsAnnouncing s m l i = r.announcing i (announced_apart m p i h) in
            announcing_kept p i q;
      }
