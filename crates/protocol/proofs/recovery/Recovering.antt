-- What one kept word leaves of sound words, and of what they tell.
use Rattle.std.proofs.Common.{◌≡◌, ◌≢◌, ℕ, ◌+◌, ◌≤◌, inl, inr, List, [], ◌∷◌, ◌++◌, Bool, true, false, Option, Some, None, refl, sym, ◌∙◌, ap, subst, arith}
use Rattle.words.specs.PlainQueue.{Value}
use Rattle.words.specs.declared.call.Kind.{Kind}
use Rattle.words.specs.declared.call.Kind.TheVariants.{Durable, Log}
use Rattle.words.specs.declared.call.NodeId.{NodeId}
use Rattle.words.specs.declared.told.Told.{Told}
use Rattle.words.specs.declared.call.Reply.TheVariants.{Done, Got, Empty}
use Rattle.words.specs.declared.told.Outcome.{Outcome}
use Rattle.words.specs.declared.told.Outcome.TheVariants.{NotTaken, Taken}
use Rattle.words.specs.declared.told.Row.{Row}
use Rattle.words.specs.declared.told.Row.TheVariants.{NoCall, Open, Empty as row_empty, Got as row_got}
use Rattle.words.specs.declared.told.Told.TheVariants.{None as told_none, Verdict as told_verdict, Row as told_row}
use Rattle.arena.specs.Answers.{empty_answer_of, result_of}
use Rattle.arena.specs.Chain.{IsAmong, LeadsTo}
use Rattle.arena.specs.Place.{number_of}
use Rattle.arena.specs.Ranges.{Fits}
use Rattle.arena.specs.Shape.{Shape, greatest}
use Rattle.arena.specs.Words.{links, marks, part_at, values, bumps, announcements, cells, statuses, entry_kinds, entry_nodes, numbers}
use Rattle.arena.specs.declared.place.Part.{Part}
use Rattle.arena.specs.declared.place.Part.TheVariants.{Length, First, Second, Third}
use Rattle.arena.specs.declared.place.Place.{Place}
use Rattle.arena.specs.declared.place.Place.TheVariants.{Head, Tail, Next, Cell, Insert, EntryKind, Status, EntryNode}
use Rattle.helping.specs.Table.{token_of, node_of}
use Rattle.protocol.specs.Machine.{put, with_store}
use Rattle.sound_words.specs.Sound.{IsIssued, IsOwn}
use Rattle.protocol.specs.Kept.{OutcomeBy, RowBy, TellsBy, TellsOf}
use Rattle.protocol.specs.Recovered.{end_of}
use Rattle.protocol.proofs.chain.Chains.{chain_like, leads_grows, map_agree, linked_by}
use Rattle.protocol.specs.invariants.Places.{IsAnswer, IsOfRecord, IsOfKind, SaysEmpty}
use Rattle.protocol.specs.invariants.Ledger.Stage.{Unmoved, Took}
use Rattle.protocol.proofs.changes.Fences.{cell_says, status_says}
use Rattle.protocol.proofs.changes.Stores.{result_answer}
use Rattle.protocol.proofs.changes.Puts.{IsEmptyWord, empty_word, values_same, put_cases, put_other, put_blank, put_absent, put_fits, issued_more}
use Rattle.protocol.specs.invariants.Records.{Both, IsPath, answer, AnsweredTo, IsEnqueued, CellRight, NodeRight, StatusRight, IsEntry, Records}
use Rattle.protocol.proofs.records.RecordStores.{Harmless, harmless_shared, entry_stored, one_two}
use Rattle.protocol.specs.invariants.Sound.{memory_at_rest, idle_ledger, Sound}
use Rattle.protocol.specs.invariants.Recovery.{TakenTo, Position, Ahead, Claim, Unclaimed, LastClaimed, LastNode}

-- which word may be another one when kept
pub record MayKeep (s : Shape) (k : Place → ℕ) (p : Place) (v : ℕ) : Type 0 where
  pub link : (x : ℕ) → links (put k p v) x ≡ links k x
  pub mark : (x : ℕ) → marks (put k p v) x ≡ marks k x
  pub part : (x : ℕ) (part : Part) → part_at (put k p v) x part ≡ part_at k x part
  pub bump : (t : ℕ) → bumps (put k p v) t ≡ bumps k t
  pub announcement : (t : ℕ) → announcements (put k p v) t ≡ announcements k t
  pub head : AnsweredTo s (memory_at_rest k) (put k p v Head)
  pub tail : LeadsTo (links k) (put k p v Tail) 0
  pub silent : (c : ℕ) → SaysEmpty s (put k p v) c → SaysEmpty s k c
  pub says : (c : ℕ) → SaysEmpty s k c → SaysEmpty s (put k p v) c
  pub kind : (x : ℕ) → entry_kinds (put k p v) x ≡ entry_kinds k x
  pub number : (x : ℕ) → numbers (put k p v) x ≡ numbers k x
  pub issued : IsOfRecord p → number_of p ≢ 0 → IsIssued s k (number_of p)
  pub of_kind : IsOfKind s.kind p
  pub fits : Fits s p v
  pub harmless : Harmless s (memory_at_rest k) p v
  pub status : s.kind ≡ Log → (x : ℕ) → statuses k x ≡ 1 → statuses (put k p v) x ≡ 1

pub may_value : (s : Shape) (k : Place → ℕ) (p : Place) (v : ℕ) → MayKeep s k p v → (x : ℕ) → values (put k p v) x ≡ values k x
may_value s k p v h x = values_same (put k p v) k x (h.part x)

path_like : (k l : ℕ → ℕ) (from : ℕ) (ns : List ℕ) → ((x : ℕ) → l x ≡ k x) → IsPath k from ns → IsPath l from ns
path_like k l from [] same p = tt
path_like k l from (n ∷ ns) same p = (same from ∙ p.0, p.1, path_like k l n ns same p.2)

module _ (s : Shape) (k : Place → ℕ) (p : Place) (v : ℕ) (h : MayKeep s k p v) where
  both_put : (q : Place) (x : ℕ) → (q ≡ p → x ≡ v) → Both (memory_at_rest k) q x → Both (memory_at_rest (put k p v)) q x
  both_put q x same b = let now : put k p v q ≡ x = elim (put_cases k p v q) [ inl t ↦ t.1 ∙ sym (same t.0) | inr t ↦ t.1 ∙ b.0 ] in (now, now)

  pub put_answered : (x : ℕ) → AnsweredTo s (memory_at_rest k) x → AnsweredTo s (memory_at_rest (put k p v)) x
  put_answered x a = record {
    passed = a.passed;
    path = path_like (links k) (links (put k p v)) 0 a.passed h.link a.path;
    at = a.at;
    claimed = λ n i z. a.claimed n i (sym (h.mark n) ∙ z);
    answered = λ n i.
        let old : Both (memory_at_rest (put k p v)) (answer s (memory_at_rest k) n).place (answer s (memory_at_rest k) n).value =
        both_put (answer s (memory_at_rest k) n).place (answer s (memory_at_rest k) n).value (λ e. h.harmless.answers n (a.claimed n i) e) (a.answered n i) in
        subst (λ t. Both (memory_at_rest (put k p v)) (result_of s.kind (token_of t) (node_of n)).place (result_of s.kind (token_of t) (node_of n)).value) (sym (h.mark n)) old;
  }

  put_entry : (e : ℕ) → IsEntry (with_store (memory_at_rest k) p v) e → IsEntry (memory_at_rest k) e → IsEntry (memory_at_rest (put k p v)) e
  put_entry e n o = record {
    number = n.number;
    some = n.some;
    in_range = n.in_range;
    numbered = (n.numbered.0, n.numbered.0);
    kind = elim n.kind [ inl q ↦ inl ((q.0.0, q.0.0), (q.1.0, q.1.0)) | inr q ↦ inr (q.0, q.0) ];
  }

  put_records : (queue : List Value) → Records s (memory_at_rest k) (idle_ledger queue) → Records s (memory_at_rest (put k p v)) (idle_ledger queue)
  put_records queue r =
      let head : AnsweredTo s (memory_at_rest (put k p v)) (put k p v Head) = put_answered (put k p v Head) h.head in
      let cell_like : (c x : ℕ) → CellRight (memory_at_rest k) c x → CellRight (memory_at_rest (put k p v)) c x = λ c x right a b.
      let q : record { at : ℕ; named : marks k at ≡ c; some : c ≢ 0; value : x ≡ at + 2 } = right a b in
      record { at = q.at; named = h.mark q.at ∙ q.named; some = q.some; value = q.value } in
      let cell : (c : ℕ) → CellRight (memory_at_rest (put k p v)) c (cells (put k p v) c) = λ c. elim (put_cases k p v (Cell (token_of c))) [
        | inl t ↦ subst (CellRight (memory_at_rest (put k p v)) c) (sym t.1) (cell_like c v (h.harmless.cell c t.0))
        | inr t ↦ subst (CellRight (memory_at_rest (put k p v)) c) (sym t.1) (cell_like c (cells k c) (r.cell c))
      ] in
      let node : (c : ℕ) → NodeRight (memory_at_rest (put k p v)) c (entry_nodes (put k p v) c) = λ c kind some.
      let two : entry_kinds (put k p v) c ≡ 2 = elim kind [ inl e ↦ e | inr e ↦ e ] in
      elim (put_cases k p v (EntryNode (token_of c))) [
        | inl t ↦ elim (put_cases k p v (EntryKind (token_of c))) [
          | inl q ↦ let wrong : EntryKind (token_of c) ≡ EntryNode (token_of c) = q.0 ∙ sym t.0 in absurd (cc)
          | inr q ↦
              let n : (marks k v ≡ c) × (c ≢ 0) = h.harmless.node c t.0 (inl (sym q.1 ∙ two)) (λ z. some (t.1 ∙ z)) in
              (ap (marks (put k p v)) t.1 ∙ h.mark v ∙ n.0, n.1)
        ]
        | inr t ↦ elim (put_cases k p v (EntryKind (token_of c))) [
          | inl q ↦ absurd (some (t.1 ∙ (h.harmless.kind c q.0 (sym q.1 ∙ two)).0))
          | inr q ↦
              let n : (marks k (entry_nodes k c) ≡ c) × (c ≢ 0) = r.node c (inl (sym q.1 ∙ two)) (λ z. some (t.1 ∙ z)) in
              (ap (marks (put k p v)) t.1 ∙ h.mark (entry_nodes k c) ∙ n.0, n.1)
        ]
      ] in
      let status_like : (c x : ℕ) → (x ≡ 2 → EntryKind (token_of c) ≡ p → 2 ≡ v) → StatusRight (memory_at_rest k) c x → StatusRight (memory_at_rest (put k p v)) c x = λ c x same right. record {
        taken = λ e. let q : record { at : ℕ; linked : links k at ≡ c; some : c ≢ 0 } = right.taken e in record { at = q.at; linked = h.link q.at ∙ q.linked; some = q.some };
        empty = λ e. both_put (EntryKind (token_of c)) 2 (same e) (right.empty e);
      } in
      let status : (c : ℕ) → StatusRight (memory_at_rest (put k p v)) c (statuses (put k p v) c) = λ c. elim (put_cases k p v (Status (token_of c))) [
        | inl t ↦ subst (StatusRight (memory_at_rest (put k p v)) c) (sym t.1) (status_like c v (λ e q. let wrong : Status (token_of c) ≡ EntryKind (token_of c) = t.0 ∙ sym q in absurd (cc)) (h.harmless.status c t.0))
        | inr t ↦ subst (StatusRight (memory_at_rest (put k p v)) c) (sym t.1) (status_like c (statuses k c) (λ e q. h.harmless.empties c (inl e) q) (r.status c))
      ] in
      let entry : s.kind ≡ Log → (t : ℕ) → announcements (put k p v) t ≢ 0 → IsEntry (memory_at_rest (put k p v)) (announcements (put k p v) t) = λ log t some.
      let was : announcements k t ≢ 0 = λ z. some (h.announcement t ∙ z) in
      let old : IsEntry (memory_at_rest k) (announcements k t) = r.entry log t was in
      subst (IsEntry (memory_at_rest (put k p v))) (sym (h.announcement t)) (put_entry (announcements k t) (h.harmless.entries log t (announcements k t) was (inl refl) old) old) in
      record {
        to_head = head;
        to_kept_head = head;
        cell = cell;
        cell_kept = cell;
        node = node;
        node_kept = node;
        enqueued = λ log n some.
            let was : links k n ≢ 0 = λ z. some (h.link n ∙ z) in
            let q : IsEnqueued (memory_at_rest k) (links k n) = r.enqueued log n was in
            subst (IsEnqueued (memory_at_rest (put k p v))) (sym (h.link n)) (record {
              insert = both_put (Insert (node_of (links k n))) (links k n) (h.harmless.inserts log n was) q.insert;
              kind = both_put (EntryKind (token_of (links k n))) 1 (h.harmless.enqueues log n was) q.kind;
            });
        dequeued = λ log n some.
            let was : marks k n ≢ 0 = λ z. some (h.mark n ∙ z) in
            subst (λ c. Both (memory_at_rest (put k p v)) (EntryKind (token_of c)) 2) (sym (h.mark n)) (both_put (EntryKind (token_of (marks k n))) 2 (h.harmless.dequeues log n was) (r.dequeued log n was));
        status = status;
        status_kept = status;
        entry = entry;
        entry_kept = entry;
        took = λ i reply e. let wrong : Unmoved ≡ Took reply = e in absurd (cc);
        announcing = λ i n. absurd (n refl);
      }

  -- the words are sound still
  pub put_sound : (claimed waiting : List ℕ) (queue : List Value) → Sound s k claimed waiting queue → Sound s (put k p v) claimed waiting queue
  put_sound claimed waiting queue b =
      let more : (c : ℕ) → IsIssued s k c → IsIssued s (put k p v) c =
      issued_more s k (put k p v) (λ t. subst (λ x. bumps k t ≤ x) (sym (h.bump t)) (omega arith)) in
      record {
        chain = chain_like (links k) (links (put k p v)) 0 (claimed ++ waiting) h.link b.chain;
        on_chain = λ n some. b.on_chain n (λ z. some (h.link n ∙ z));
        back = λ n some. b.back n (λ z. some (h.mark n ∙ z));
        on = λ n i z. b.on n i (sym (h.mark n) ∙ z);
        content = map_agree (values (put k p v)) (values k) waiting (λ x i. values_same (put k p v) k x (h.part x)) ∙ b.content;
        item = λ n. rw (h.part n Length, h.part n First, h.part n Second, h.part n Third) (b.item n);
        tail = leads_grows (links k) (links (put k p v)) (put k p v Tail) 0 (λ n some. h.link n) h.tail;
        issued_link = λ n some. subst (IsIssued s (put k p v)) (sym (h.link n)) (more (links k n) (b.issued_link n (λ z. some (h.link n ∙ z))));
        issued_mark = λ n some. subst (IsIssued s (put k p v)) (sym (h.mark n)) (more (marks k n) (b.issued_mark n (λ z. some (h.mark n ∙ z))));
        one_mark = λ n j some e. b.one_mark n j (λ z. some (h.mark n ∙ z)) (sym (h.mark n) ∙ e ∙ h.mark j);
        silent = λ n some says. b.silent n (λ z. some (h.mark n ∙ z)) (subst (SaysEmpty s k) (h.mark n) (h.silent (marks (put k p v) n) says));
        no_bump = λ t q. h.bump t ∙ b.no_bump t q;
        announced = λ t some.
            let q : IsOwn s k t (announcements k t) = b.announced t (λ z. some (h.announcement t ∙ z)) in
            subst (IsOwn s (put k p v) t) (sym (h.announcement t)) (record { issued = more (announcements k t) q.issued; owned = q.owned });
        blank = put_blank s (put k p v) k p v (λ of some none. absurd (none (more (number_of p) (h.issued of some)))) (λ q of some none. b.blank q of some (λ i. none (more (number_of q) i)));
        absent = put_absent s k p v (λ none. absurd (none h.of_kind)) b.absent;
        fits = put_fits s k p v (λ read. h.fits) b.fits;
        records = λ q. put_records q (b.records q);
      }

-- what the words tell they told before
module _ (s : Shape) (k : Place → ℕ) (p : Place) (v : ℕ) (h : MayKeep s k p v) where
  outcome_before : s.kind ≡ Log → (e : ℕ) (o : Outcome) → OutcomeBy (put k p v) e o → OutcomeBy k e o
  outcome_before l e (Taken Done) q = (sym (h.kind e) ∙ q.0, record { at = q.1.at; linked = sym (h.link q.1.at) ∙ q.1.linked })
  outcome_before l e (Taken Empty) q =
      (λ z. q.0 (h.kind e ∙ z), (status_says s k (token_of e) l).0 (h.silent e ((status_says s (put k p v) (token_of e) l).1 q.1)))
  outcome_before l e (Taken (Got x)) q = (λ z. q.0 (h.kind e ∙ z), record { at = q.1.at; marked = sym (h.mark q.1.at) ∙ q.1.marked; value = sym (may_value s k p v h q.1.at) ∙ q.1.value })
  outcome_before l e NotTaken q = (
    λ one at z. q.0 (h.kind e ∙ one) at (h.link at ∙ z),
    λ ne.
        let r : (statuses (put k p v) e ≢ 2) × ((at : ℕ) → marks (put k p v) at ≢ e) = q.1 (λ z. ne (sym (h.kind e) ∙ z)) in
        (λ two. r.0 ((status_says s (put k p v) (token_of e) l).0 (h.says e ((status_says s k (token_of e) l).1 two))), λ at z. r.1 at (h.mark at ∙ z)),
  )

  row_before : s.kind ≡ Durable → (e : ℕ) (o : Row) → RowBy (put k p v) e o → RowBy k e o
  row_before d e (row_got x) q = record { at = q.at; marked = sym (h.mark q.at) ∙ q.marked; value = sym (may_value s k p v h q.at) ∙ q.value }
  row_before d e row_empty q = (cell_says s k (token_of e) d).0 (h.silent e ((cell_says s (put k p v) (token_of e) d).1 q))
  row_before d e Open q = (λ one. q.0 ((cell_says s (put k p v) (token_of e) d).0 (h.says e ((cell_says s k (token_of e) d).1 one))), λ at z. q.1 at (h.mark at ∙ z))
  row_before d e NoCall q = q

  told_row_before : s.kind ≡ Durable → (t : ℕ) (o : Row) → TellsBy Durable (put k p v) t (told_row o) → TellsBy Durable k t (told_row o)
  told_row_before d t NoCall q = sym (h.announcement t) ∙ q
  told_row_before d t Open q = (λ z. q.0 (h.announcement t ∙ z), row_before d (announcements k t) Open (subst (λ e. RowBy (put k p v) e Open) (h.announcement t) q.1))
  told_row_before d t row_empty q = (λ z. q.0 (h.announcement t ∙ z), row_before d (announcements k t) row_empty (subst (λ e. RowBy (put k p v) e row_empty) (h.announcement t) q.1))
  told_row_before d t (row_got x) q = (λ z. q.0 (h.announcement t ∙ z), row_before d (announcements k t) (row_got x) (subst (λ e. RowBy (put k p v) e (row_got x)) (h.announcement t) q.1))

  told_before : (kind : Kind) → s.kind ≡ kind → (t : ℕ) (x : Told) → TellsBy kind (put k p v) t x → TellsBy kind k t x
  told_before Log l t told_none q = sym (h.announcement t) ∙ q
  told_before Log l t (told_verdict o) q = (
    λ z. q.0 (h.announcement t ∙ z),
    q.1 ∙ ap (numbers (put k p v)) (h.announcement t) ∙ h.number (announcements k t),
    outcome_before l (announcements k t) o.outcome (subst (λ e. OutcomeBy (put k p v) e o.outcome) (h.announcement t) q.2),
  )
  told_before Log l t (told_row o) q = q
  told_before Durable d t (told_row o) q = told_row_before d t o q
  told_before Durable d t told_none q = q
  told_before Durable d t (told_verdict o) q = q

  pub put_tells : (t : ℕ) (x : Told) → TellsOf s (put k p v) t x → TellsOf s k t x
  put_tells t x q = (λ lt. told_before s.kind refl t x (q.0 lt), q.1)

-- a record's words are answered, unclaimed and inserted as before, where another word is kept
module _ (s : Shape) (k : Place → ℕ) (p : Place) (v : ℕ) (h : MayKeep s k p v) (claimed : List ℕ) where
  pub put_taken : (cur : ℕ) → (put k p v Head ≡ k Head) → TakenTo s k claimed cur → TakenTo s (put k p v) claimed cur
  put_taken cur same t = record {
    head = same ∙ t.head;
    all = put_answered s k p v h (end_of 0 claimed) t.all;
    passed = t.passed;
    path = path_like (links k) (links (put k p v)) (end_of 0 claimed) t.passed h.link t.path;
    at = t.at;
    taken = λ log n i. h.status log n (t.taken log n i);
  }

  pub put_position : (moved : Bool) (cur : ℕ) → (put k p v Head ≡ k Head) → Position s k claimed moved cur → Position s (put k p v) claimed moved cur
  put_position false cur same q = put_answered s k p v h cur q
  put_position true cur same q = put_taken cur same q

  pub put_ahead : (moved : Bool) (cur node : ℕ) → (put k p v Head ≡ k Head) → Ahead s k claimed moved cur node → Ahead s (put k p v) claimed moved cur node
  put_ahead moved cur node same a = record { position = put_position moved cur same a.position; link = h.link cur ∙ a.link; some = a.some }

  pub put_claim : (node mark : ℕ) → (put k p v Head ≡ k Head) → Claim s k claimed node mark → Claim s (put k p v) claimed node mark
  put_claim node mark same c = record { cur = c.cur; ahead = put_ahead false c.cur node same c.ahead; marked = h.mark node ∙ c.marked; some = c.some }

  pub put_unclaimed : (cur : ℕ) (n : Option NodeId) → Unclaimed s k cur n → Unclaimed s (put k p v) cur n
  put_unclaimed cur None u = h.link cur ∙ u
  put_unclaimed cur (Some n) u = (h.link cur ∙ u.0, u.1, λ log. h.status log n.0 (u.2 log))

  pub put_last : (cur : ℕ) (n : Option NodeId) → LastClaimed s k claimed cur n → LastClaimed s (put k p v) claimed cur n
  put_last cur n l = record { answered = put_answered s k p v h cur l.answered; at = l.at; next = put_unclaimed cur n l.next }

  pub put_last_node : (cur : ℕ) → (put k p v Head ≡ k Head) → LastNode s k claimed cur → LastNode s (put k p v) claimed cur
  put_last_node cur same l = record { taken = put_taken cur same l.taken; none = h.link cur ∙ l.none }

module _ (s : Shape) (k : Place → ℕ) (claimed waiting : List ℕ) (queue : List Value) (b : Sound s k claimed waiting queue) where
  here : AnsweredTo s (memory_at_rest k) (k Head)
  here = (b.records queue).to_head

  -- the status of an inserted node
  pub status_may : (cur node : ℕ) → links k cur ≡ node → node ≢ 0 → s.kind ≡ Log → MayKeep s k (Status (token_of node)) 1
  status_may cur node link some log = record {
    link = λ x. refl;
    mark = λ x. refl;
    part = λ x part. refl;
    bump = λ t. refl;
    announcement = λ t. refl;
    head = here;
    tail = b.tail;
    silent = λ c says.
        let two : statuses (put k (Status (token_of node)) 1) c ≡ 2 = (status_says s (put k (Status (token_of node)) 1) (token_of c) log).0 says in
        elim (put_cases k (Status (token_of node)) 1 (Status (token_of c))) [
          | inl t ↦ absurd (one_two (statuses (put k (Status (token_of node)) 1) c) t.1 two)
          | inr t ↦ (status_says s k (token_of c) log).1 (sym t.1 ∙ two)
        ];
    says = λ c says. elim (put_cases k (Status (token_of node)) 1 (empty_answer_of s.kind (token_of c)).place) [
      | inl t ↦
          let at : Status (token_of node) ≡ Status (token_of c) = sym t.0 ∙ ap (λ q. (empty_answer_of q (token_of c)).place) log in
          let same : c ≡ node = sym (ap number_of at) in
          let two : statuses k node ≡ 2 = subst (λ x. statuses k x ≡ 2) same ((status_says s k (token_of c) log).0 says) in
          let linked : links k cur ≢ 0 = λ z. some (sym link ∙ z) in
          let one : entry_kinds k node ≡ 1 = subst (λ x. entry_kinds k x ≡ 1) link ((b.records queue).enqueued log cur linked).kind.0 in
          absurd (one_two (entry_kinds k node) one (((b.records queue).status node).empty two).0)
      | inr t ↦ t.1 ∙ says
    ];
    kind = λ x. refl;
    number = λ x. refl;
    issued = λ of ne. subst (IsIssued s k) link (b.issued_link cur (λ z. some (sym link ∙ z)));
    of_kind = (log, some);
    fits = omega arith;
    harmless = record {
      answers = λ x m e. absurd (subst IsAnswer e (result_answer s.kind (token_of (marks k x)) (node_of x)));
      inserts = λ l x n e. absurd (cc);
      enqueues = λ l x n e. absurd (cc);
      dequeues = λ l x n e. absurd (cc);
      empties = λ c t e. absurd (cc);
      entries = λ l t e n at entry. entry_stored (memory_at_rest k) (Status (token_of node)) 1 e (λ q. cc) (λ q. cc) (λ q o. absurd (cc)) entry;
      cell = λ c e. absurd (cc);
      node = λ c e. absurd (cc);
      kind = λ c e t. absurd (cc);
      status = λ c e.
          let is : token_of c ≡ token_of node = cc in
          let same : c ≡ node = ap (λ x. x.0) is in
          record { taken = λ q. record { at = cur; linked = link ∙ sym same; some = λ z. some (sym same ∙ z) }; empty = λ q. absurd (one_two 1 refl q) };
      announces = λ l t e n. absurd (cc);
    };
    status = λ l x one. elim (put_cases k (Status (token_of node)) 1 (Status (token_of x))) [ inl t ↦ t.1 | inr t ↦ t.1 ∙ one ];
  }

  -- the head
  pub head_may : (cur : ℕ) → AnsweredTo s (memory_at_rest k) cur → cur ≤ greatest s → MayKeep s k Head cur
  head_may cur a fit = record {
    link = λ x. refl;
    mark = λ x. refl;
    part = λ x part. refl;
    bump = λ t. refl;
    announcement = λ t. refl;
    head = a;
    tail = b.tail;
    silent = λ c says. sym (put_other k Head cur (empty_answer_of s.kind (token_of c)).place (λ e. subst IsEmptyWord e (empty_word s.kind (token_of c)))) ∙ says;
    says = λ c says. put_other k Head cur (empty_answer_of s.kind (token_of c)).place (λ e. subst IsEmptyWord e (empty_word s.kind (token_of c))) ∙ says;
    kind = λ x. refl;
    number = λ x. refl;
    issued = λ of ne. absurd of;
    of_kind = tt;
    fits = fit;
    harmless = harmless_shared s (memory_at_rest k) Head cur (λ q. q);
    status = λ l x one. one;
  }

  -- the tail
  pub tail_may : (cur : ℕ) → LeadsTo (links k) cur 0 → cur ≤ greatest s → MayKeep s k Tail cur
  tail_may cur a fit = record {
    link = λ x. refl;
    mark = λ x. refl;
    part = λ x part. refl;
    bump = λ t. refl;
    announcement = λ t. refl;
    head = here;
    tail = a;
    silent = λ c says. sym (put_other k Tail cur (empty_answer_of s.kind (token_of c)).place (λ e. subst IsEmptyWord e (empty_word s.kind (token_of c)))) ∙ says;
    says = λ c says. put_other k Tail cur (empty_answer_of s.kind (token_of c)).place (λ e. subst IsEmptyWord e (empty_word s.kind (token_of c))) ∙ says;
    kind = λ x. refl;
    number = λ x. refl;
    issued = λ of ne. absurd of;
    of_kind = tt;
    fits = fit;
    harmless = harmless_shared s (memory_at_rest k) Tail cur (λ q. q);
    status = λ l x one. one;
  }

  -- a node of the chain has a number that fits
  pub node_fits : (x : ℕ) → IsAmong x (0 ∷ claimed ++ waiting) → x ≤ greatest s
  node_fits x (inl z) = omega (arith, z)
  node_fits x (inr i) =
      let q : (q : ℕ) × (links k q ≡ x) × (x ≢ 0) = linked_by (links k) 0 (claimed ++ waiting) b.chain x i in
      subst (λ y. y ≤ greatest s) q.1 (b.fits (Next (node_of q.0)) tt)
