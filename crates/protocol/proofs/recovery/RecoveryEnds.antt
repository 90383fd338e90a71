-- The steps of recovery that put the head, the tail, the answers and the statuses right.
use Rattle.std.proofs.Common.{◌≡◌, ◌≢◌, ℕ, zero, suc, ◌+◌, ◌≤◌, ◌<◌, ◌⊎◌, inl, inr, List, [], ◌∷◌, ◌++◌, length, Bool, true, false, if◌then◌else◌, ◌==◌, Option, Some, None, refl, sym, ◌∙◌, ap, subst, arith}
use Rattle.std.specs.Prelude.{slice_get, replicate}
use Rattle.std.proofs.lemmas.Bool.{cases_eq, eqb-true, eqb-false}
use Rattle.words.specs.PlainQueue.{Value}
use Rattle.words.specs.declared.call.Kind.{Kind}
use Rattle.words.specs.declared.call.Kind.TheVariants.{Durable, Log}
use Rattle.words.specs.declared.call.NodeId.{NodeId}
use Rattle.words.specs.declared.call.Token.{Token}
use Rattle.words.specs.declared.limits.TheConstants.{MAX_CLIENTS}
use Rattle.words.specs.declared.told.Told.{Told}
use Rattle.words.specs.declared.told.Told.TheVariants.{None as told_none}
use Rattle.arena.specs.Answers.{empty_answer_of, result_of}
use Rattle.arena.specs.Chain.{IsChain, IsAmong, LeadsTo}
use Rattle.arena.specs.Place.{number_of}
use Rattle.arena.specs.Ranges.{Fits}
use Rattle.arena.specs.Shape.{Shape, greatest}
use Rattle.arena.specs.Words.{links, marks, cells, statuses}
use Rattle.arena.specs.declared.place.Place.{Place}
use Rattle.arena.specs.declared.place.Place.TheVariants.{Head, Tail, Announcement, Bump, Item, Next, Mark, Cell, Number}
use Rattle.arena.specs.declared.place.Place.TheVariants.{EntryKind, Status}
use Rattle.helping.specs.Table.{token_of, node_of}
use Rattle.recover.specs.Table.{after_report, successor, node_at, token_at, point_at_the_end, point_past_status}
use Rattle.recover.specs.Table.{to_node, past_head}
use Rattle.stepper.specs.declared.resume.After.TheVariants.{More, Done as Ready}
use Rattle.recover.specs.declared.recovery.Recovery.{Recovery}
use Rattle.recover.specs.declared.point.RecoveryPoint.{RecoveryPoint}
use Rattle.recover.specs.declared.point.Report.{Report}
use Rattle.recover.specs.declared.point.RecoveryPoint.TheVariants.{RecoveryLoadHead, RecoveryLoadNext}
use Rattle.recover.specs.declared.point.RecoveryPoint.TheVariants.{RecoveryLoadInsert, RecoveryStoreStatus}
use Rattle.recover.specs.declared.point.RecoveryPoint.TheVariants.{RecoveryLoadMark, RecoveryStoreResult}
use Rattle.recover.specs.declared.point.RecoveryPoint.TheVariants.{RecoveryStoreHead, RecoveryStoreTail}
use Rattle.recover.specs.declared.point.RecoveryPoint.TheVariants.{RecoveryLoadAnnouncement, RecoveryLoadCell}
use Rattle.recover.specs.declared.point.RecoveryPoint.TheVariants.{RecoveryLoadGot, RecoveryLoadNumber}
use Rattle.recover.specs.declared.point.RecoveryPoint.TheVariants.{RecoveryLoadKind, RecoveryLoadStatus}
use Rattle.recover.specs.declared.point.RecoveryPoint.TheVariants.{RecoveryLoadRemove, RecoveryLoadEntryNode}
use Rattle.recover.specs.declared.point.RecoveryPoint.TheVariants.{RecoveryLoadRemovedItem, Flush as FlushPoint}
use Rattle.recover.specs.declared.point.RecoveryPoint.TheVariants.{Fence as FencePoint}
use Rattle.recover.specs.declared.keeping.RecoveryKeeping.{RecoveryKeeping}
use Rattle.recover.specs.declared.keeping.RecoveryKeeping.TheVariants.{Status as KeepStatus, Result as KeepResult}
use Rattle.recover.specs.declared.keeping.RecoveryKeeping.TheVariants.{Head as KeepHead, Tail as KeepTail}
use Rattle.stepper.specs.declared.resume.After.{After}
use Rattle.protocol.specs.Machine.{Memory, put, with_store, with_fence}
use Rattle.sound_words.specs.Sound.{IsIssued}
use Rattle.protocol.specs.Kept.{TellsOf}
use Rattle.protocol.specs.Recovered.{end_of}
use Rattle.arena.proofs.Facts.{in_end_cases, in_left, same_chain}
use Rattle.protocol.proofs.chain.Chains.{in_end_of, linked_by, leads_from}
use Rattle.protocol.specs.invariants.Places.{IsOwnWord, IsAnswer, IsOfKind, SaysEmpty}
use Rattle.protocol.proofs.changes.Puts.{put_cases, put_same, put_other, put_id}
use Rattle.protocol.proofs.changes.Fences.{cell_says, status_says}
use Rattle.protocol.proofs.calls.Stable.{result_own, empty_number}
use Rattle.protocol.proofs.changes.Stores.{result_answer, result_number}
use Rattle.protocol.specs.invariants.Records.{Both, IsPath, IsAnswered, AnsweredTo, CellRight}
use Rattle.protocol.proofs.records.Records.{path_longer, end_longer, answered_next}
use Rattle.protocol.proofs.records.RecordStores.{entry_stored, one_two, result_node}
use Rattle.protocol.specs.invariants.Sound.{memory_at_rest, Sound}
use Rattle.protocol.proofs.recovery.Recovering.{put_tells, MayKeep, put_sound, put_ahead, put_claim, put_last}
use Rattle.protocol.proofs.recovery.Recovering.{put_last_node, status_may, head_may, tail_may, node_fits}
use Rattle.protocol.specs.invariants.Recovery.{Same, SameBut, TakenTo, Position, Ahead, Claim, LastClaimed, LastNode}
use Rattle.protocol.specs.invariants.Recovery.{At, AtKeeping, AtPoint, nothing_told}

result_kind : (kind : Kind) (t : Token) (n : NodeId) → t.0 ≢ 0 → IsOfKind kind (result_of kind t n).place
result_kind Durable t n some = (refl, some)
result_kind Log t n some = (refl, some)

pub result_fits : (s : Shape) (kind : Kind) (t : Token) (n : NodeId) → n.0 ≤ greatest s → Fits s (result_of kind t n).place (result_of kind t n).value
result_fits s Durable t n node = omega (arith, node)
result_fits s Log t n node = node

result_cell_right : (m : Memory) (kind : Kind) (t : Token) (n : NodeId) (c : ℕ) → marks m.kept n.0 ≡ t.0 → t.0 ≢ 0 → Cell (token_of c) ≡ (result_of kind t n).place → CellRight m c (result_of kind t n).value
result_cell_right m Durable t n c named some e =
    let is : t ≡ token_of c = cc in
    λ x y. record { at = n.0; named = named ∙ ap (λ z. z.0) is; some = λ z. some (ap (λ q. q.0) is ∙ z); value = refl }
result_cell_right m Log t n c named some e = absurd (cc)

-- the last of a chain's first part
last_of_part : (k : ℕ → ℕ) (from : ℕ) (xs ys : List ℕ) (m : ℕ) → IsChain k from (xs ++ ys) → IsAmong m (from ∷ xs) → (IsAmong (k m) xs → ⊥) → m ≡ end_of from xs
last_of_part k from [] ys m c (inl e) none = e
last_of_part k from [] ys m c (inr h) none = absurd h
last_of_part k from (x ∷ xs) ys m c (inl e) none = absurd (none (inl (ap k e ∙ c.0)))
last_of_part k from (x ∷ xs) ys m c (inr h) none = last_of_part k x xs ys m c.2 h (λ i. none (inr i))

-- the second part of a chain follows the last of the first
pub part_chain : (k : ℕ → ℕ) (from : ℕ) (xs ys : List ℕ) → IsChain k from (xs ++ ys) → IsChain k (end_of from xs) ys
part_chain k from [] ys c = c
part_chain k from (x ∷ xs) ys c = part_chain k x xs ys c.2

end_of_parts : (from : ℕ) (xs ys : List ℕ) → end_of from (xs ++ ys) ≡ end_of (end_of from xs) ys
end_of_parts from [] ys = refl
end_of_parts from (x ∷ xs) ys = end_of_parts x xs ys

-- a path whose end has no next is a chain
path_chain : (k : ℕ → ℕ) (from : ℕ) (ns : List ℕ) → IsPath k from ns → k (end_of from ns) ≡ 0 → IsChain k from ns
path_chain k from [] p z = z
path_chain k from (n ∷ ns) p z = (p.0, p.1, path_chain k n ns p.2 z)

module _ (s : Shape) (k : Place → ℕ) (claimed waiting : List ℕ) (queue : List Value) (b : Sound s k claimed waiting queue) where
  -- a result of a claimed node
  result_may : (node : NodeId) (mark : Token) → Claim s k claimed node.0 mark.0 → MayKeep s k (result_of s.kind mark node).place (result_of s.kind mark node).value
  result_may node mark c =
      let p : Place = (result_of s.kind mark node).place in
      let word : IsAnswer (result_of s.kind mark node).place = result_answer s.kind mark node in
      let own : IsOwnWord (result_of s.kind mark node).place = result_own s.kind mark node in
      let other : (q : Place) → (IsAnswer q → ⊥) → put k (result_of s.kind mark node).place (result_of s.kind mark node).value q ≡ k q = λ q none.
      put_other k (result_of s.kind mark node).place (result_of s.kind mark node).value q (λ e. none (subst IsAnswer (sym e) word)) in
      let linked : links k c.cur ≢ 0 = λ z. c.ahead.some (sym c.ahead.link ∙ z) in
      let fit : node.0 ≤ greatest s = subst (λ x. x ≤ greatest s) c.ahead.link (b.fits (Next (node_of c.cur)) tt) in
      let claimed_mark : marks k node.0 ≢ 0 = λ z. c.some (sym c.marked ∙ z) in
      record {
        link = λ x. other (Next (node_of x)) (λ q. q);
        mark = λ x. other (Mark (node_of x)) (λ q. q);
        part = λ x part. other (Item (node_of x) part) (λ q. q);
        bump = λ t. other (Bump (record { 0 = t })) (λ q. q);
        announcement = λ t. other (Announcement (record { 0 = t })) (λ q. q);
        head = subst (AnsweredTo s (memory_at_rest k)) (sym (other Head (λ q. q))) (b.records queue).to_head;
        tail = subst (λ x. LeadsTo (links k) x 0) (sym (other Tail (λ q. q))) b.tail;
        silent = λ x says. silent x s.kind refl says;
        says = λ x says. elim (put_cases k (result_of s.kind mark node).place (result_of s.kind mark node).value (empty_answer_of s.kind (token_of x)).place) [
          | inl t ↦
              let is : x ≡ mark.0 = sym (empty_number s.kind (token_of x)) ∙ ap number_of t.0 ∙ result_number s.kind mark node in
              absurd (b.silent node.0 claimed_mark (subst (SaysEmpty s k) (is ∙ sym c.marked) says))
          | inr t ↦ t.1 ∙ says
        ];
        kind = λ x. other (EntryKind (token_of x)) (λ q. q);
        number = λ x. other (Number (token_of x)) (λ q. q);
        issued = λ of ne. subst (IsIssued s k) (c.marked ∙ sym (result_number s.kind mark node)) (b.issued_mark node.0 claimed_mark);
        of_kind = result_kind s.kind mark node c.some;
        fits = result_fits s s.kind mark node fit;
        harmless = record {
          answers = λ x h at.
              let same : marks k x ≡ mark.0 = sym (result_number s.kind (token_of (marks k x)) (node_of x)) ∙ ap number_of at ∙ result_number s.kind mark node in
              let is : x ≡ node.0 = b.one_mark x node.0 h (same ∙ sym c.marked) in
              ap (λ q. (result_of s.kind (token_of q) (node_of x)).value) same
              ∙ ap (λ q. (result_of s.kind mark (node_of q)).value) is;
          inserts = λ l x n e. absurd (subst IsAnswer (sym e) word);
          enqueues = λ l x n e. absurd (subst IsAnswer (sym e) word);
          dequeues = λ l x n e. absurd (subst IsAnswer (sym e) word);
          empties = λ x t e. absurd (subst IsAnswer (sym e) word);
          entries = λ l t e n at entry.
              entry_stored (memory_at_rest k) (result_of s.kind mark node).place (result_of s.kind mark node).value e (λ q. subst IsAnswer (sym q) word) (λ q. subst IsAnswer (sym q) word)
              (λ q one.
              let is : e ≡ mark.0 = ap number_of q ∙ result_number s.kind mark node in
              let two : Both (memory_at_rest k) (EntryKind (token_of (marks k node.0))) 2 = (b.records queue).dequeued l node.0 claimed_mark in
              absurd (one_two (k (EntryKind (token_of e))) one.0 (ap (λ x. k (EntryKind (token_of x))) (is ∙ sym c.marked) ∙ two.0))) entry;
          cell = λ x e. result_cell_right (memory_at_rest k) s.kind mark node x c.marked c.some e;
          node = λ x e. result_node (memory_at_rest k) s.kind mark node x c.marked c.some e;
          kind = λ x e t. absurd (subst IsAnswer (sym e) word);
          status = λ x e. absurd (subst IsAnswer (sym e) word);
          announces = λ l t e n. absurd (subst IsAnswer (sym e) word);
        };
        status = λ l x one. other (Status (token_of x)) (λ q. q) ∙ one;
      }
    where
      silent : (x : ℕ) (kind : Kind) → s.kind ≡ kind → SaysEmpty s (put k (result_of s.kind mark node).place (result_of s.kind mark node).value) x → SaysEmpty s k x
      silent x Durable e says =
          let one : cells (put k (result_of s.kind mark node).place (result_of s.kind mark node).value) x ≡ 1 = (cell_says s (put k (result_of s.kind mark node).place (result_of s.kind mark node).value) (token_of x) e).0 says in
          elim (put_cases k (result_of s.kind mark node).place (result_of s.kind mark node).value (Cell (token_of x))) [
            | inl t ↦
                let two : (result_of s.kind mark node).value ≡ node.0 + 2 = ap (λ q. (result_of q mark node).value) e in
                absurd (omega (arith, sym one ∙ t.1, two))
            | inr t ↦ (cell_says s k (token_of x) e).1 (sym t.1 ∙ one)
          ]
      silent x Log e says =
          let two : statuses (put k (result_of s.kind mark node).place (result_of s.kind mark node).value) x ≡ 2 = (status_says s (put k (result_of s.kind mark node).place (result_of s.kind mark node).value) (token_of x) e).0 says in
          let other : statuses (put k (result_of s.kind mark node).place (result_of s.kind mark node).value) x ≡ statuses k x =
          put_other k (result_of s.kind mark node).place (result_of s.kind mark node).value (Status (token_of x)) (λ q. subst IsAnswer (sym q) (result_answer s.kind mark node)) in
          (status_says s k (token_of x) e).1 (sym other ∙ two)

  -- an answered node is 0 or claimed
  pub answered_among : (cur : ℕ) → AnsweredTo s (memory_at_rest k) cur → IsAmong cur (0 ∷ claimed)
  answered_among cur a = elim (in_end_of 0 a.passed) [
    | inl e ↦ inl (a.at ∙ e)
    | inr i ↦ inr (subst (λ x. IsAmong x claimed) (sym a.at) (b.back (end_of 0 a.passed) (a.claimed (end_of 0 a.passed) i)))
  ]

  -- it is the last claimed one, if what follows is not claimed
  answered_last : (cur : ℕ) → AnsweredTo s (memory_at_rest k) cur → marks k (links k cur) ≡ 0 ⊎ (links k cur ≡ 0) → cur ≡ end_of 0 claimed
  answered_last cur a none = last_of_part (links k) 0 claimed waiting cur b.chain (answered_among cur a) (λ i. elim none [
    | inl z ↦ b.on (links k cur) i z
    | inr z ↦ (linked_by (links k) 0 (claimed ++ waiting) b.chain (links k cur) (in_left (links k cur) claimed waiting i)).2 z
  ])

  -- the node behind one that is taken is taken
  taken_next : (cur node : ℕ) → TakenTo s k claimed cur → links k cur ≡ node → node ≢ 0 → (s.kind ≡ Log → statuses k node ≡ 1) → TakenTo s k claimed node
  taken_next cur node t link some one = record {
    head = t.head;
    all = t.all;
    passed = t.passed ++ node ∷ [];
    path = path_longer (links k) (end_of 0 claimed) t.passed node t.path (ap (links k) (sym t.at) ∙ link) some;
    at = sym (end_longer (end_of 0 claimed) t.passed node);
    taken = λ log n i. elim (in_end_cases n node t.passed i) [ inl q ↦ t.taken log n q | inr e ↦ ap (statuses k) e ∙ one log ];
  }

  -- the last node
  last_all : (cur : ℕ) → LastNode s k claimed cur → record { passed : (s.kind ≡ Log → (n : ℕ) → IsAmong n waiting → statuses k n ≡ 1); at : cur ≡ end_of 0 (claimed ++ waiting) }
  last_all cur l =
      let t : TakenTo s k claimed cur = l.taken in
      let ended : IsChain (links k) (end_of 0 claimed) t.passed = path_chain (links k) (end_of 0 claimed) t.passed t.path (ap (links k) (sym t.at) ∙ l.none) in
      let same : t.passed ≡ waiting = same_chain (links k) (end_of 0 claimed) t.passed waiting ended (part_chain (links k) 0 claimed waiting b.chain) in
      record {
        passed = λ log n i. t.taken log n (subst (IsAmong n) (sym same) i);
        at = t.at ∙ ap (end_of (end_of 0 claimed)) same ∙ sym (end_of_parts 0 claimed waiting);
      }

-- the words are sound, and recovery knows what it knows where it waits
pub record Recovers (s : Shape) (m : Memory) (claimed waiting : List ℕ) (queue : List Value) (r : Recovery) : Type 0 where
  pub sound : Sound s m.kept claimed waiting queue
  pub at : At s m claimed waiting r

-- the same of a point, where this was told
pub record RecoversAt (s : Shape) (m : Memory) (claimed waiting : List ℕ) (queue : List Value) (told : List Told) (point : RecoveryPoint) : Type 0 where
  pub sound : Sound s m.kept claimed waiting queue
  pub at : AtPoint s m claimed waiting told point

-- every client is told what the kept words tell
pub record Woken (s : Shape) (m : Memory) (claimed waiting : List ℕ) (queue : List Value) (told : List Told) : Type 0 where
  pub sound : Sound s m.kept claimed waiting queue
  pub same : Same m
  pub head : m.kept Head ≡ end_of 0 claimed
  pub tail : m.kept Tail ≡ end_of 0 (claimed ++ waiting)
  pub all : AnsweredTo s (memory_at_rest m.kept) (end_of 0 claimed)
  pub taken : s.kind ≡ Log → (n : ℕ) → IsAmong n waiting → statuses m.kept n ≡ 1
  pub sixteen : length told ≡ 16
  pub tells : (t : ℕ) (x : Told) → slice_get told t ≡ Some x → TellsOf s m.kept t x

abbrev pub RecoversNext : Shape → Memory → List ℕ → List ℕ → List Value → After Recovery (List Told) → Type 0
RecoversNext s m claimed waiting queue (More r) = Recovers s m claimed waiting queue r
RecoversNext s m claimed waiting queue (Ready told) = Woken s m claimed waiting queue told

-- the same of what comes after a point's step
abbrev pub RecoversOn : Shape → Memory → List ℕ → List ℕ → List Value → List Told → After RecoveryPoint Report → Type 0
RecoversOn s m claimed waiting queue told (More at) = RecoversAt s m claimed waiting queue told at
RecoversOn s m claimed waiting queue told (Ready report) = RecoversNext s m claimed waiting queue (after_report s told report)

-- the word in hand is kept
same_after : (m : Memory) (p : Place) → SameBut m p → Same (with_fence m p)
same_after m p h q = elim (put_cases m.kept p (m.cached p) q) [ inl t ↦ ap m.cached t.0 ∙ sym t.1 | inr t ↦ h q t.0 ∙ sym t.1 ]

-- a word is stored where every word is kept
pub but_stored : (m : Memory) (p : Place) (v : ℕ) → Same m → SameBut (with_store m p v) p
but_stored m p v h q ne = put_other m.cached p v q ne ∙ h q

module _ (s : Shape) (m : Memory) (claimed waiting : List ℕ) (queue : List Value) (b : Sound s m.kept claimed waiting queue) where
  -- what one kept word in hand leaves
  module _ (p : Place) (v : ℕ) (now : m.cached p ≡ v) (may : MayKeep s m.kept p v) where
    is_put : put m.kept p v ≡ (with_fence m p).kept
    is_put = ap (put m.kept p) (sym now)

    hand_sound : Sound s (with_fence m p).kept claimed waiting queue
    hand_sound = subst (λ k. Sound s k claimed waiting queue) is_put (put_sound s m.kept p v may claimed waiting queue b)

  kept_status : (cur node entry : ℕ) (moved : Bool) → SameBut m (Status (token_of entry)) → m.cached (Status (token_of entry)) ≡ 1 → Ahead s m.kept claimed moved cur node → s.kind ≡ Log → entry ≡ node
      → Sound s (with_fence m (Status (token_of entry))).kept claimed waiting queue × Ahead s (with_fence m (Status (token_of entry))).kept claimed moved cur node × (statuses (with_fence m (Status (token_of entry))).kept node ≡ 1)
  kept_status cur node entry moved but now a log same =
      let may : MayKeep s m.kept (Status (token_of entry)) 1 = subst (λ x. MayKeep s m.kept (Status (token_of x)) 1) (sym same) (status_may s m.kept claimed waiting queue b cur node a.link a.some log) in (
        hand_sound (Status (token_of entry)) 1 now may,
        subst (λ k. Ahead s k claimed moved cur node) (is_put (Status (token_of entry)) 1 now may) (put_ahead s m.kept (Status (token_of entry)) 1 may claimed moved cur node refl a),
        ap (statuses (with_fence m (Status (token_of entry))).kept) (sym same) ∙ put_same m.kept (Status (token_of entry)) (m.cached (Status (token_of entry))) ∙ now,
      )

  kept_result : (node : NodeId) (mark : Token) → m.cached (result_of s.kind mark node).place ≡ (result_of s.kind mark node).value → Claim s m.kept claimed node.0 mark.0
      → Sound s (with_fence m (result_of s.kind mark node).place).kept claimed waiting queue × Claim s (with_fence m (result_of s.kind mark node).place).kept claimed node.0 mark.0
  kept_result node mark now c =
      let may : MayKeep s m.kept (result_of s.kind mark node).place (result_of s.kind mark node).value = result_may s m.kept claimed waiting queue b node mark c in
      let head : put m.kept (result_of s.kind mark node).place (result_of s.kind mark node).value Head ≡ m.kept Head =
      put_other m.kept (result_of s.kind mark node).place (result_of s.kind mark node).value Head (λ e. subst IsAnswer (sym e) (result_answer s.kind mark node)) in (
        hand_sound (result_of s.kind mark node).place (result_of s.kind mark node).value now may,
        subst (λ k. Claim s k claimed node.0 mark.0) (is_put (result_of s.kind mark node).place (result_of s.kind mark node).value now may)
            (put_claim s m.kept (result_of s.kind mark node).place (result_of s.kind mark node).value may claimed node.0 mark.0 head c),
      )

  kept_head : (cur : ℕ) (n : Option NodeId) → m.cached Head ≡ cur → LastClaimed s m.kept claimed cur n → Sound s (with_fence m Head).kept claimed waiting queue × LastClaimed s (with_fence m Head).kept claimed cur n
  kept_head cur n now l =
      let fit : cur ≤ greatest s = node_fits s m.kept claimed waiting queue b cur (in_left cur (0 ∷ claimed) waiting (answered_among s m.kept claimed waiting queue b cur l.answered)) in
      let may : MayKeep s m.kept Head cur = head_may s m.kept claimed waiting queue b cur l.answered fit in
      (hand_sound Head cur now may, subst (λ k. LastClaimed s k claimed cur n) (is_put Head cur now may) (put_last s m.kept Head cur may claimed cur n l))

  kept_tail : (cur : ℕ) → m.cached Tail ≡ cur → LastNode s m.kept claimed cur → Sound s (with_fence m Tail).kept claimed waiting queue × LastNode s (with_fence m Tail).kept claimed cur
  kept_tail cur now l =
      let last : record { passed : (s.kind ≡ Log → (n : ℕ) → IsAmong n waiting → statuses m.kept n ≡ 1); at : cur ≡ end_of 0 (claimed ++ waiting) } = last_all s m.kept claimed waiting queue b cur l in
      let among : IsAmong cur (0 ∷ claimed ++ waiting) = subst (λ x. IsAmong x (0 ∷ claimed ++ waiting)) (sym last.at) (in_end_of 0 (claimed ++ waiting)) in
      let fit : cur ≤ greatest s = node_fits s m.kept claimed waiting queue b cur among in
      let may : MayKeep s m.kept Tail cur = tail_may s m.kept claimed waiting queue b cur (leads_from (links m.kept) 0 (claimed ++ waiting) cur b.chain among) fit in
      (hand_sound Tail cur now may, subst (λ k. LastNode s k claimed cur) (is_put Tail cur now may) (put_last_node s m.kept Tail cur may claimed cur refl l))

  but_fenced : (p : Place) → SameBut m p → SameBut (with_fence m p) p
  but_fenced p h q ne = same_after m p h q

  module _ (told : List Told) where
    -- what holds where it is about to keep a word
    record KeptInHand (n : Memory) (k : RecoveryKeeping) : Type 0 where
      sound : Sound s n.kept claimed waiting queue
      at : AtKeeping s n claimed k

    -- the word in hand is kept by the environment
    keep_in_hand : (p : Place) → m.kept p ≢ m.cached p → (k : RecoveryKeeping) → AtKeeping s m claimed k → KeptInHand (with_fence m p) k
    keep_in_hand p ne (KeepStatus q) a = elim (put_cases m.kept (Status q.entry) 0 p) [
      | inl t ↦
          let r : Sound s (with_fence m (Status q.entry)).kept claimed waiting queue × Ahead s (with_fence m (Status q.entry)).kept claimed q.moved q.cur.0 q.node.0 × (statuses (with_fence m (Status q.entry)).kept q.node.0 ≡ 1) =
          kept_status q.cur.0 q.node.0 q.entry.0 q.moved a.0 a.1 a.2 a.3 a.4 in
          let now : KeptInHand (with_fence m (Status q.entry)) (KeepStatus q) = record { sound = r.0; at = (but_fenced (Status q.entry) a.0, a.1, r.1, a.3, a.4) } in
          subst (λ x. KeptInHand (with_fence m x) (KeepStatus q)) (sym t.0) now
      | inr t ↦ absurd (ne (sym (a.0 p t.0)))
    ]
    keep_in_hand p ne (KeepResult q) a = elim (put_cases m.kept (result_of s.kind q.mark q.node).place 0 p) [
      | inl t ↦
          let r : Sound s (with_fence m (result_of s.kind q.mark q.node).place).kept claimed waiting queue × Claim s (with_fence m (result_of s.kind q.mark q.node).place).kept claimed q.node.0 q.mark.0 = kept_result q.node q.mark a.1 a.2 in
          let now : KeptInHand (with_fence m (result_of s.kind q.mark q.node).place) (KeepResult q) =
          record { sound = r.0; at = (but_fenced (result_of s.kind q.mark q.node).place a.0, a.1, r.1) } in
          subst (λ x. KeptInHand (with_fence m x) (KeepResult q)) (sym t.0) now
      | inr t ↦ absurd (ne (sym (a.0 p t.0)))
    ]
    keep_in_hand p ne (KeepHead q) a = elim (put_cases m.kept Head 0 p) [
      | inl t ↦
          let r : Sound s (with_fence m Head).kept claimed waiting queue × LastClaimed s (with_fence m Head).kept claimed q.cur.0 q.unclaimed = kept_head q.cur.0 q.unclaimed a.1 a.2 in
          let now : KeptInHand (with_fence m Head) (KeepHead q) = record { sound = r.0; at = (but_fenced Head a.0, a.1, r.1) } in
          subst (λ x. KeptInHand (with_fence m x) (KeepHead q)) (sym t.0) now
      | inr t ↦ absurd (ne (sym (a.0 p t.0)))
    ]
    keep_in_hand p ne (KeepTail q) a = elim (put_cases m.kept Tail 0 p) [
      | inl t ↦
          let r : Sound s (with_fence m Tail).kept claimed waiting queue × LastNode s (with_fence m Tail).kept claimed a.1.cur = kept_tail a.1.cur a.1.cached a.1.last in
          let now : KeptInHand (with_fence m Tail) (KeepTail q) = record { sound = r.0; at = (but_fenced Tail a.0, record { cur = a.1.cur; last = r.1; cached = a.1.cached }) } in
          subst (λ x. KeptInHand (with_fence m x) (KeepTail q)) (sym t.0) now
      | inr t ↦ absurd (ne (sym (a.0 p t.0)))
    ]

    keep_new : (p : Place) → m.kept p ≢ m.cached p → (at : RecoveryPoint) → AtPoint s m claimed waiting told at → RecoversAt s (with_fence m p) claimed waiting queue told at
    keep_new p ne (RecoveryLoadHead q) a = absurd (ne (sym (a p)))
    keep_new p ne (RecoveryLoadNext q) a = absurd (ne (sym (a.0 p)))
    keep_new p ne (RecoveryLoadInsert q) a = absurd (ne (sym (a.0 p)))
    keep_new p ne (RecoveryStoreStatus q) a = absurd (ne (sym (a.0 p)))
    keep_new p ne (RecoveryLoadMark q) a = absurd (ne (sym (a.0 p)))
    keep_new p ne (RecoveryStoreResult q) a = absurd (ne (sym (a.0 p)))
    keep_new p ne (RecoveryStoreHead q) a = absurd (ne (sym (a.0 p)))
    keep_new p ne (RecoveryStoreTail q) a = absurd (ne (sym (a.0 p)))
    keep_new p ne (FlushPoint k) a = let r = keep_in_hand p ne k a in record { sound = r.sound; at = r.at }
    keep_new p ne (FencePoint k) a = let r = keep_in_hand p ne k a in record { sound = r.sound; at = r.at }
    keep_new p ne (RecoveryLoadAnnouncement q) a = absurd (ne (sym (a.0 p)))
    keep_new p ne (RecoveryLoadGot q) a = absurd (ne (sym (a.0 p)))
    keep_new p ne (RecoveryLoadCell q) a = absurd (ne (sym (a.0 p)))
    keep_new p ne (RecoveryLoadNumber q) a = absurd (ne (sym (a.0 p)))
    keep_new p ne (RecoveryLoadKind q) a = absurd (ne (sym (a.0 p)))
    keep_new p ne (RecoveryLoadStatus q) a = absurd (ne (sym (a.0 p)))
    keep_new p ne (RecoveryLoadRemove q) a = absurd (ne (sym (a.0 p)))
    keep_new p ne (RecoveryLoadEntryNode q) a = absurd (ne (sym (a.0 p)))
    keep_new p ne (RecoveryLoadRemovedItem q) a = absurd (ne (sym (a.0 p)))

    -- the word in hand may be kept
    hand_may_in : (p : Place) → m.kept p ≢ m.cached p → (k : RecoveryKeeping) → AtKeeping s m claimed k → MayKeep s m.kept p (m.cached p)
    hand_may_in p ne (KeepStatus q) a = elim (put_cases m.kept (Status q.entry) 0 p) [
      | inl t ↦
          let may : MayKeep s m.kept (Status (token_of q.entry.0)) 1 = subst (λ x. MayKeep s m.kept (Status (token_of x)) 1) (sym a.4) (status_may s m.kept claimed waiting queue b q.cur.0 q.node.0 a.2.link a.2.some a.3) in
          subst (λ x. MayKeep s m.kept x (m.cached x)) (sym t.0) (subst (MayKeep s m.kept (Status q.entry)) (sym a.1) may)
      | inr t ↦ absurd (ne (sym (a.0 p t.0)))
    ]
    hand_may_in p ne (KeepResult q) a = elim (put_cases m.kept (result_of s.kind q.mark q.node).place 0 p) [
      | inl t ↦ subst (λ x. MayKeep s m.kept x (m.cached x)) (sym t.0)
          (subst (MayKeep s m.kept (result_of s.kind q.mark q.node).place) (sym a.1) (result_may s m.kept claimed waiting queue b q.node q.mark a.2))
      | inr t ↦ absurd (ne (sym (a.0 p t.0)))
    ]
    hand_may_in p ne (KeepHead q) a = elim (put_cases m.kept Head 0 p) [
      | inl t ↦
          let fit : q.cur.0 ≤ greatest s = node_fits s m.kept claimed waiting queue b q.cur.0 (in_left q.cur.0 (0 ∷ claimed) waiting (answered_among s m.kept claimed waiting queue b q.cur.0 a.2.answered)) in
          subst (λ x. MayKeep s m.kept x (m.cached x)) (sym t.0) (subst (MayKeep s m.kept Head) (sym a.1) (head_may s m.kept claimed waiting queue b q.cur.0 a.2.answered fit))
      | inr t ↦ absurd (ne (sym (a.0 p t.0)))
    ]
    hand_may_in p ne (KeepTail q) a = elim (put_cases m.kept Tail 0 p) [
      | inl t ↦
          let last : record { passed : (s.kind ≡ Log → (n : ℕ) → IsAmong n waiting → statuses m.kept n ≡ 1); at : a.1.cur ≡ end_of 0 (claimed ++ waiting) } = last_all s m.kept claimed waiting queue b a.1.cur a.1.last in
          let among : IsAmong a.1.cur (0 ∷ claimed ++ waiting) = subst (λ x. IsAmong x (0 ∷ claimed ++ waiting)) (sym last.at) (in_end_of 0 (claimed ++ waiting)) in
          let fit : a.1.cur ≤ greatest s = node_fits s m.kept claimed waiting queue b a.1.cur among in
          subst (λ x. MayKeep s m.kept x (m.cached x)) (sym t.0)
          (subst (MayKeep s m.kept Tail) (sym a.1.cached) (tail_may s m.kept claimed waiting queue b a.1.cur (leads_from (links m.kept) 0 (claimed ++ waiting) a.1.cur b.chain among) fit))
      | inr t ↦ absurd (ne (sym (a.0 p t.0)))
    ]

    hand_may_at : (p : Place) → m.kept p ≢ m.cached p → (at : RecoveryPoint) → AtPoint s m claimed waiting told at → MayKeep s m.kept p (m.cached p)
    hand_may_at p ne (RecoveryLoadHead q) a = absurd (ne (sym (a p)))
    hand_may_at p ne (RecoveryLoadNext q) a = absurd (ne (sym (a.0 p)))
    hand_may_at p ne (RecoveryLoadInsert q) a = absurd (ne (sym (a.0 p)))
    hand_may_at p ne (RecoveryStoreStatus q) a = absurd (ne (sym (a.0 p)))
    hand_may_at p ne (RecoveryLoadMark q) a = absurd (ne (sym (a.0 p)))
    hand_may_at p ne (RecoveryStoreResult q) a = absurd (ne (sym (a.0 p)))
    hand_may_at p ne (RecoveryStoreHead q) a = absurd (ne (sym (a.0 p)))
    hand_may_at p ne (RecoveryStoreTail q) a = absurd (ne (sym (a.0 p)))
    hand_may_at p ne (FlushPoint k) a = hand_may_in p ne k a
    hand_may_at p ne (FencePoint k) a = hand_may_in p ne k a
    hand_may_at p ne (RecoveryLoadAnnouncement q) a = absurd (ne (sym (a.0 p)))
    hand_may_at p ne (RecoveryLoadGot q) a = absurd (ne (sym (a.0 p)))
    hand_may_at p ne (RecoveryLoadCell q) a = absurd (ne (sym (a.0 p)))
    hand_may_at p ne (RecoveryLoadNumber q) a = absurd (ne (sym (a.0 p)))
    hand_may_at p ne (RecoveryLoadKind q) a = absurd (ne (sym (a.0 p)))
    hand_may_at p ne (RecoveryLoadStatus q) a = absurd (ne (sym (a.0 p)))
    hand_may_at p ne (RecoveryLoadRemove q) a = absurd (ne (sym (a.0 p)))
    hand_may_at p ne (RecoveryLoadEntryNode q) a = absurd (ne (sym (a.0 p)))
    hand_may_at p ne (RecoveryLoadRemovedItem q) a = absurd (ne (sym (a.0 p)))

  -- the word in hand may be kept
  pub hand_may : (p : Place) → m.kept p ≢ m.cached p → (r : Recovery) → At s m claimed waiting r → MayKeep s m.kept p (m.cached p)
  hand_may p ne r a = hand_may_at r.told p ne r.at a.point

  -- what is told once a word is kept was told before
  pub tells_kept : (p : Place) (r : Recovery) → At s m claimed waiting r → (t : ℕ) (x : Told) → TellsOf s (put m.kept p (m.cached p)) t x → TellsOf s m.kept t x
  tells_kept p r a t x h = elim (cases_eq (m.kept p) (m.cached p)) [
    | inl e ↦ subst (λ (f : Place → ℕ). TellsOf s f t x) (put_id m.kept p (m.cached p) (sym e)) h
    | inr ne ↦ put_tells s m.kept p (m.cached p) (hand_may p ne r a) t x h
  ]

  -- any word is kept by the environment
  pub keep_at : (p : Place) (r : Recovery) → At s m claimed waiting r → Recovers s (with_fence m p) claimed waiting queue r
  keep_at p r a = elim (cases_eq (m.kept p) (m.cached p)) [
    | inl e ↦
        let same : m ≡ with_fence m p = ap (λ (f : Place → ℕ). let n : Memory = record { cached = m.cached; kept = f } in n) (sym (put_id m.kept p (m.cached p) (sym e))) in
        subst (λ n. Recovers s n claimed waiting queue r) same (record { sound = b; at = a })
    | inr ne ↦ let new = keep_new r.told p ne r.at a.point in record { sound = new.sound; at = record { untold = a.untold; point = new.at } }
  ]

  module _ (told : List Told) where
    more : (at : RecoveryPoint) → AtPoint s m claimed waiting told at → RecoversAt s m claimed waiting queue told at
    more at a = record { sound = b; at = a }

    pub row_LoadNext : (cur : NodeId) (moved : Bool) → Same m → Position s m.kept claimed moved cur.0 → RecoversOn s m claimed waiting queue told (successor s (RecoveryLoadNext (record { cur = cur; moved = moved })) (m.cached (Next cur)))
    row_LoadNext cur moved same pos = go (m.cached (Next cur) == 0) refl
      where
        link : links m.kept cur.0 ≡ links m.cached cur.0
        link = sym (same (Next cur))

        ended : links m.kept cur.0 ≡ 0 → (moved : Bool) → Position s m.kept claimed moved cur.0 → RecoversAt s m claimed waiting queue told (point_at_the_end cur moved)
        ended z true pos = more (point_at_the_end cur true) (same, record { taken = pos; none = z })
        ended z false pos = more (point_at_the_end cur false) (same, record { answered = pos; at = answered_last s m.kept claimed waiting queue b cur.0 pos (inr z); next = z })

        onward : (n : NodeId) → links m.kept cur.0 ≡ n.0 → n.0 ≢ 0 → (kind : Kind) → s.kind ≡ kind → (moved : Bool) → Position s m.kept claimed moved cur.0 → RecoversAt s m claimed waiting queue told (to_node kind cur n moved)
        onward n at some Log e moved pos = more (to_node Log cur n moved) (same, record { position = pos; link = at; some = some }, e)
        onward n at some Durable e true pos =
            more (to_node Durable cur n true) (same, taken_next s m.kept claimed waiting queue b cur.0 n.0 pos at some (λ l. let wrong : Durable ≡ Log = sym e ∙ l in absurd (cc)))
        onward n at some Durable e false pos =
            more (to_node Durable cur n false) (same, record { position = pos; link = at; some = some }, λ l. let wrong : Durable ≡ Log = sym e ∙ l in absurd (cc))

        go : (t : Bool) → (m.cached (Next cur) == 0) ≡ t → RecoversAt s m claimed waiting queue told (if t then point_at_the_end cur moved else to_node s.kind cur (node_at (m.cached (Next cur))) moved)
        go true e = ended (link ∙ eqb-true (m.cached (Next cur)) 0 e) moved pos
        go false e = onward (node_at (m.cached (Next cur))) link (eqb-false (m.cached (Next cur)) 0 e) s.kind refl moved pos

    pub row_LoadMark : (cur node : NodeId) → Same m → Ahead s m.kept claimed false cur.0 node.0 → (s.kind ≡ Log → statuses m.kept node.0 ≡ 1)
        → RecoversOn s m claimed waiting queue told (successor s (RecoveryLoadMark (record { cur = cur; node = node })) (m.cached (Mark node)))
    row_LoadMark cur node same a one = go (m.cached (Mark node) == 0) refl
      where
        mark : marks m.kept node.0 ≡ marks m.cached node.0
        mark = sym (same (Mark node))

        onward : (t : Token) → marks m.kept node.0 ≡ t.0 → t.0 ≢ 0 → RecoversAt s m claimed waiting queue told (RecoveryStoreResult (record { node = node; mark = t }))
        onward t at some = more (RecoveryStoreResult (record { node = node; mark = t })) (same, record { cur = cur.0; ahead = a; marked = at; some = some })

        go : (t : Bool) → (m.cached (Mark node) == 0) ≡ t → RecoversAt s m claimed waiting queue told (if t then RecoveryStoreHead (record { cur = cur; unclaimed = Some node }) else RecoveryStoreResult (record { node = node; mark = token_at (m.cached (Mark node)) }))
        go true e = more (RecoveryStoreHead (record { cur = cur; unclaimed = Some node })) (
          same,
          record {
            answered = a.position;
            at = answered_last s m.kept claimed waiting queue b cur.0 a.position (inl (ap (marks m.kept) a.link ∙ mark ∙ eqb-true (m.cached (Mark node)) 0 e));
            next = (a.link, a.some, one);
          },
        )
        go false e = onward (token_at (m.cached (Mark node))) mark (eqb-false (m.cached (Mark node)) 0 e)

    pub row_KeepStatus : (cur node : NodeId) (entry : Token) (moved : Bool) → AtPoint s m claimed waiting told (FencePoint (KeepStatus (record { cur = cur; node = node; entry = entry; moved = moved })))
        → RecoversAt s (with_fence m (Status entry)) claimed waiting queue told (point_past_status cur node moved)
    row_KeepStatus cur node entry moved a =
        let r : Sound s (with_fence m (Status entry)).kept claimed waiting queue × Ahead s (with_fence m (Status entry)).kept claimed moved cur.0 node.0 × (statuses (with_fence m (Status entry)).kept node.0 ≡ 1) =
        kept_status cur.0 node.0 entry.0 moved a.0 a.1 a.2 a.3 a.4 in
        go moved r.1
      where
        now : Sound s (with_fence m (Status entry)).kept claimed waiting queue × (statuses (with_fence m (Status entry)).kept node.0 ≡ 1)
        now = let r : Sound s (with_fence m (Status entry)).kept claimed waiting queue × Ahead s (with_fence m (Status entry)).kept claimed moved cur.0 node.0 × (statuses (with_fence m (Status entry)).kept node.0 ≡ 1) =
            kept_status cur.0 node.0 entry.0 moved a.0 a.1 a.2 a.3 a.4 in (r.0, r.2)

        go : (moved : Bool) → Ahead s (with_fence m (Status entry)).kept claimed moved cur.0 node.0 → RecoversAt s (with_fence m (Status entry)) claimed waiting queue told (point_past_status cur node moved)
        go true h = record { sound = now.0; at = (same_after m (Status entry) a.0, taken_next s (with_fence m (Status entry)).kept claimed waiting queue now.0 cur.0 node.0 h.position h.link h.some (λ l. now.1)) }
        go false h = record { sound = now.0; at = (same_after m (Status entry) a.0, h, λ l. now.1) }

    pub row_KeepResult : (node : NodeId) (mark : Token) → AtPoint s m claimed waiting told (FencePoint (KeepResult (record { node = node; mark = mark })))
        → RecoversAt s (with_fence m (result_of s.kind mark node).place) claimed waiting queue told (RecoveryLoadNext (record { cur = node; moved = false }))
    row_KeepResult node mark a =
        let p : Place = (result_of s.kind mark node).place in
        let r : Sound s (with_fence m (result_of s.kind mark node).place).kept claimed waiting queue × Claim s (with_fence m (result_of s.kind mark node).place).kept claimed node.0 mark.0 = kept_result node mark a.1 a.2 in
        let at : (with_fence m (result_of s.kind mark node).place).kept (result_of s.kind mark node).place ≡ (result_of s.kind mark node).value =
        put_same m.kept (result_of s.kind mark node).place (m.cached (result_of s.kind mark node).place) ∙ a.1 in
        let answered : IsAnswered s (memory_at_rest (with_fence m (result_of s.kind mark node).place).kept) node.0 =
        subst (λ t. Both (memory_at_rest (with_fence m (result_of s.kind mark node).place).kept) (result_of s.kind (token_of t) node).place
        (result_of s.kind (token_of t) node).value) (sym r.1.marked) (at, at) in
        record {
          sound = r.0;
          at = (
            same_after m (result_of s.kind mark node).place a.0,
            answered_next s (memory_at_rest (with_fence m (result_of s.kind mark node).place).kept) r.1.cur node.0 r.1.ahead.position r.1.ahead.link r.1.ahead.some (λ z. r.1.some (sym r.1.marked ∙ z)) answered,
          );
        }

    pub row_KeepHead : (cur : NodeId) (n : Option NodeId) → AtPoint s m claimed waiting told (FencePoint (KeepHead (record { cur = cur; unclaimed = n }))) → RecoversAt s (with_fence m Head) claimed waiting queue told (past_head cur n)
    row_KeepHead cur n a = go n (kept_head cur.0 n a.1 a.2)
      where
        same : Same (with_fence m Head)
        same = same_after m Head a.0

        head : (with_fence m Head).kept Head ≡ cur.0
        head = a.1

        taken : (n : Option NodeId) → LastClaimed s (with_fence m Head).kept claimed cur.0 n → TakenTo s (with_fence m Head).kept claimed cur.0
        taken n l = record {
          head = head ∙ l.at;
          all = subst (AnsweredTo s (memory_at_rest (with_fence m Head).kept)) l.at l.answered;
          passed = [];
          path = tt;
          at = l.at;
          taken = λ log n i. absurd i;
        }

        go : (n : Option NodeId) → Sound s (with_fence m Head).kept claimed waiting queue × LastClaimed s (with_fence m Head).kept claimed cur.0 n → RecoversAt s (with_fence m Head) claimed waiting queue told (past_head cur n)
        go None r = record { sound = r.0; at = (same, record { taken = taken None r.1; none = r.1.next }) }
        go (Some x) r = record { sound = r.0; at = (same, taken_next s (with_fence m Head).kept claimed waiting queue r.0 cur.0 x.0 (taken (Some x) r.1) r.1.next.0 r.1.next.1 r.1.next.2) }

    pub row_KeepTail : 0 < s.clients → told ≡ nothing_told → AtPoint s m claimed waiting told (FencePoint (KeepTail (record {})))
        → RecoversAt s (with_fence m Tail) claimed waiting queue told (RecoveryLoadAnnouncement (record { client = record { 0 = 0 } }))
    row_KeepTail some untold a =
        let r : Sound s (with_fence m Tail).kept claimed waiting queue × LastNode s (with_fence m Tail).kept claimed a.1.cur = kept_tail a.1.cur a.1.cached a.1.last in
        let last : record { passed : (s.kind ≡ Log → (n : ℕ) → IsAmong n waiting → statuses (with_fence m Tail).kept n ≡ 1); at : a.1.cur ≡ end_of 0 (claimed ++ waiting) } =
        last_all s (with_fence m Tail).kept claimed waiting queue r.0 a.1.cur r.1 in
        record {
          sound = r.0;
          at = (
            same_after m Tail a.0,
            record {
              head = r.1.taken.head;
              tail = a.1.cached ∙ last.at;
              all = r.1.taken.all;
              taken = last.passed;
              below = some;
              sixteen = ap length untold;
              so_far = λ t x lt e. absurd (omega (arith, lt));
              rest = λ t x le e. none_in MAX_CLIENTS t x (sym (ap (λ (xs : List Told). slice_get xs t) untold) ∙ e);
            },
          );
        }
      where
        none_in : (n t : ℕ) (x : Told) → slice_get (replicate n told_none) t ≡ Some x → x ≡ told_none
        none_in zero t x e = absurd (cc)
        none_in (suc n) zero x e = cc
        none_in (suc n) (suc t) x e = none_in n t x e
