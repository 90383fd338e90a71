-- A word that a call stores.
use Rattle.std.proofs.Common.{drop, ◌≡◌, ◌≢◌, ℕ, ◌+◌, ◌≤◌, ◌<◌, ◌⊎◌, inl, inr, List, ◌∷◌, ◌++◌, refl, sym, ◌∙◌, ap, subst, arith}
use Rattle.arena.specs.declared.place.Part.{Part}
use Rattle.words.specs.declared.call.Call.TheVariants.{Enq}
use Rattle.words.specs.declared.call.Client.{Client}
use Rattle.words.specs.declared.call.Kind.{Kind}
use Rattle.words.specs.declared.call.Kind.TheVariants.{Durable, Log}
use Rattle.words.specs.declared.call.NodeId.{NodeId}
use Rattle.words.specs.declared.call.Token.{Token}
use Rattle.arena.specs.Answers.{empty_answer_of, result_of}
use Rattle.arena.specs.Chain.{IsChain, IsAmong, IsFirst, LeadsTo}
use Rattle.arena.specs.Chain.LeadsTo.{there}
use Rattle.arena.specs.Place.{number_of}
use Rattle.arena.specs.Ranges.{Fits}
use Rattle.arena.specs.Shape.{Shape, owner, greatest}
use Rattle.arena.specs.Words.{links, marks, part_at, values, bumps, announcements}
use Rattle.arena.specs.declared.place.Place.{Place}
use Rattle.arena.specs.declared.place.Place.TheVariants.{Head, Tail, Announcement, Bump, Item, Next, Mark, Cell, Insert}
use Rattle.arena.specs.declared.place.Place.TheVariants.{Number, EntryKind, Status, EntryNode}
use Rattle.helping.specs.Table.{token_of, node_of}
use Rattle.protocol.specs.Machine.{Memory, put, with_store}
use Rattle.sound_words.specs.Sound.{IsIssued, IsOwn}
use Rattle.arena.proofs.Facts.{Distinct, distinct, in_left, in_right, leads_at, leads_trans, not_again, parts_apart}
use Rattle.protocol.proofs.chain.Chains.{upd, upd_same, upd_other, upd_cases, leads_in, leads_next, leads_last}
use Rattle.protocol.proofs.chain.Chains.{rest_chain, first_among, in_chain, linked_by}
use Rattle.protocol.proofs.chain.Links.{kept_none, off_chain, no_link_of, new_link, new_mark, first_waiting}
use Rattle.protocol.proofs.chain.Links.{first_split, first_one}
use Rattle.protocol.specs.invariants.Links.{Links, Marks}
use Rattle.std.proofs.lemmas.Bool.{cases_eq}
use Rattle.words.specs.declared.call.Reply.TheVariants.{Done}
use Rattle.protocol.specs.invariants.Knows.{WasTail, Enqueuing, Dequeuing, Claims}
use Rattle.protocol.specs.invariants.Ledger.{Ledger, held_token, asked_call}
use Rattle.protocol.specs.invariants.Places.{IsOfRecord, IsOwnWord, IsAnswer, IsOfKind, home, Says, empties}
use Rattle.protocol.specs.invariants.Base.{Blank, Absent, AllFit, IsMessage, IsLinking, IsClaiming, IsAnswering}
use Rattle.protocol.specs.invariants.Base.{Empties, Base}
use Rattle.protocol.specs.invariants.Grows.{Grows}
use Rattle.protocol.specs.invariants.Ledger.Stage.{Unmoved, Seen, Took}
use Rattle.protocol.proofs.changes.Puts.{IsEmptyWord, put_cases, put_other, put_blank, put_absent, put_fits}
use Rattle.protocol.proofs.changes.Puts.{put_empties, parts_elsewhere, values_elsewhere, messages_put}
use Rattle.protocol.proofs.calls.Stable.{empty_own, empty_home, empty_number, result_own}
use Rattle.protocol.proofs.changes.Fences.{cell_empties, status_empties}

-- nothing changes
pub none_grows : (a : ℕ) (s : Shape) (m : Memory) (l : Ledger) → Grows a s m l m l
none_grows a s m l = record {
  at_link = λ x h. refl;
  at_kept_link = λ x h. refl;
  at_mark = λ x h. refl;
  at_kept_mark = λ x h. refl;
  new_link = λ x. inl refl;
  new_mark = λ x. inl refl;
  at_own = λ p own ne free. refl;
  at_kept_own = λ p own. inl refl;
  at_linked = λ x part h. refl;
  at_result = λ x h t. t;
  tail = there;
  head = there;
  begun = λ i ne. refl;
  stage = λ i ne loose silent. refl;
}

pub result_answer : (kind : Kind) (t : Token) (n : NodeId) → IsAnswer (result_of kind t n).place
result_answer Durable t n = tt
result_answer Log t n = tt

pub result_number : (kind : Kind) (t : Token) (n : NodeId) → number_of (result_of kind t n).place ≡ t.0
result_number Durable t n = refl
result_number Log t n = refl

-- a store to a word of a client's own, or to an answer of a claimed node's
module _ (s : Shape) (m : Memory) (l : Ledger) (p : Place) (v : ℕ) (own : IsOwnWord p) where
  pub same_links : (x : ℕ) → links (put m.cached p v) x ≡ links m.cached x
  same_links x = put_other m.cached p v (Next (record { 0 = x })) (λ e. subst IsOwnWord (sym e) own)

  pub same_marks : (x : ℕ) → marks (put m.cached p v) x ≡ marks m.cached x
  same_marks x = put_other m.cached p v (Mark (record { 0 = x })) (λ e. subst IsOwnWord (sym e) own)

  pub own_store_grows : (a : ℕ) → (home s p ≡ a) ⊎ (IsAnswer p × record { at : ℕ; named : marks m.cached at ≡ number_of p })
      → ((x : ℕ) → marks m.kept x ≢ 0 → (result_of s.kind (token_of (marks m.kept x)) (node_of x)).place ≡ p → (result_of s.kind (token_of (marks m.kept x)) (node_of x)).value ≡ v)
      → Grows a s m l (with_store m p v) l
  own_store_grows a whose result = record {
    at_link = λ x h. same_links x;
    at_kept_link = λ x h. refl;
    at_mark = λ x h. same_marks x;
    at_kept_mark = λ x h. refl;
    new_link = λ x. inl (same_links x);
    new_mark = λ x. inl (same_marks x);
    at_own = λ q o ne free. elim (put_cases m.cached p v q) [
      | inl t ↦ elim whose [
        | inl h ↦ absurd (ne (ap (home s) t.0 ∙ h))
        | inr h ↦ absurd (free (subst IsAnswer (sym t.0) h.0) h.1.at (h.1.named ∙ ap number_of (sym t.0)))
      ]
      | inr t ↦ t.1
    ];
    at_kept_own = λ q o. inl refl;
    at_linked = λ x part h. refl;
    at_result = λ x h t. elim (put_cases m.cached p v (result_of s.kind (token_of (marks m.kept x)) (node_of x)).place) [
      | inl q ↦ q.1 ∙ sym (result x h q.0)
      | inr q ↦ q.1 ∙ t
    ];
    tail = leads_at (links m.kept) (m.cached Tail) (put m.cached p v Tail) (sym (put_other m.cached p v Tail (λ e. subst IsOwnWord (sym e) own)));
    head = leads_at (links m.kept) (m.cached Head) (put m.cached p v Head) (sym (put_other m.cached p v Head (λ e. subst IsOwnWord (sym e) own)));
    begun = λ i ne. refl;
    stage = λ i ne loose silent. refl;
  }

-- the word is no answer that anybody has been given
pub no_result : (s : Shape) (m : Memory) (l : Ledger) (claimed waiting : List ℕ) (p : Place) (v : ℕ) → Base s m l claimed waiting → (IsAnswer p → (x : ℕ) → marks m.cached x ≢ number_of p)
    → (x : ℕ) → marks m.kept x ≢ 0 → (result_of s.kind (token_of (marks m.kept x)) (node_of x)).place ≡ p → (result_of s.kind (token_of (marks m.kept x)) (node_of x)).value ≡ v
no_result s m l claimed waiting p v b free x h at =
    absurd (free (subst IsAnswer at (result_answer s.kind (token_of (marks m.kept x)) (node_of x))) x
    (b.marked.kept x h ∙ sym (result_number s.kind (token_of (marks m.kept x)) (node_of x)) ∙ ap number_of at))

-- what a store has to obey
pub record MayStore (s : Shape) (m : Memory) (p : Place) (v : ℕ) : Type 0 where
  pub issued : IsOfRecord p → number_of p ≢ 0 → IsIssued s m.kept (number_of p)
  pub of_kind : IsOfKind s.kind p
  pub fits : Fits s p v

module _ (s : Shape) (m : Memory) (l : Ledger) (claimed waiting : List ℕ) (b : Base s m l claimed waiting) (p : Place) (v : ℕ) (may : MayStore s m p v) where
  store_blank : Blank s m.kept (put m.cached p v)
  store_blank = put_blank s m.kept m.cached p v (λ r some none. absurd (none (may.issued r some))) b.blank

  store_absent : Absent s (put m.cached p v)
  store_absent = put_absent s m.cached p v (λ none. absurd (none may.of_kind)) b.absent

  store_fits : AllFit s (put m.cached p v)
  store_fits = put_fits s m.cached p v (λ read. may.fits) b.fits

  store_empty : (IsEmptyWord p → ⊥) → Empties s l (marks m.cached) (empties s (put m.cached p v)) (empties s m.kept)
  store_empty none = subst (λ e. Empties s l (marks m.cached) e (empties s m.kept)) (sym (put_empties s m.cached p v none)) b.empty

module _ (s : Shape) (m : Memory) (l : Ledger) (claimed waiting : List ℕ) (b : Base s m l claimed waiting) where
  -- a word of a client's own that says nothing of an empty queue
  pub own_base : (p : Place) (v : ℕ) → MayStore s m p v → IsOwnWord p → (IsEmptyWord p → ⊥)
      → ((n : NodeId) (part : Part) → p ≡ Item n part → ((j : ℕ) → links m.cached j ≢ n.0) × IsMessage (with_store m p v) n.0)
      → ((t : Client) → p ≡ Bump t → (bumps m.kept t.0 ≤ v) × (t.0 < s.clients)) → ((t : Client) → p ≡ Announcement t → v ≢ 0 → IsOwn s m.kept t.0 v) → Base s (with_store m p v) l claimed waiting
  own_base Head v may own quiet loose bump announces = absurd own
  own_base Tail v may own quiet loose bump announces = absurd own
  own_base (Next n) v may own quiet loose bump announces = absurd own
  own_base (Mark n) v may own quiet loose bump announces = absurd own
  own_base (Cell c) v may own quiet loose bump announces = absurd (quiet tt)
  own_base (Status c) v may own quiet loose bump announces = absurd (quiet tt)
  own_base (Announcement t) v may own quiet loose bump announces =
      let e : Empties s l (marks m.cached) (empties s (put m.cached (Announcement t) v)) (empties s m.kept) = store_empty s m l claimed waiting b (Announcement t) v may quiet in
      let bl : Blank s m.kept (put m.cached (Announcement t) v) = store_blank s m l claimed waiting b (Announcement t) v may in
      let ab : Absent s (put m.cached (Announcement t) v) = store_absent s m l claimed waiting b (Announcement t) v may in
      let fi : AllFit s (put m.cached (Announcement t) v) = store_fits s m l claimed waiting b (Announcement t) v may in
      let an : (x : ℕ) → upd (announcements m.cached) t.0 v x ≢ 0 → IsOwn s m.kept x (upd (announcements m.cached) t.0 v x) = λ x. elim (upd_cases (announcements m.cached) t.0 v x) [
        | inl q ↦ subst (λ e. e ≢ 0 → IsOwn s m.kept x e) (sym q.1) (subst (λ y. v ≢ 0 → IsOwn s m.kept y v) (sym q.0) (announces t refl))
        | inr q ↦ subst (λ e. e ≢ 0 → IsOwn s m.kept x e) (sym q.1) (b.announced x)
      ] in
      assumption (b, e, bl, ab, fi, an)
  own_base (Bump t) v may own quiet loose bump announces =
      let e : Empties s l (marks m.cached) (empties s (put m.cached (Bump t) v)) (empties s m.kept) = store_empty s m l claimed waiting b (Bump t) v may quiet in
      let bl : Blank s m.kept (put m.cached (Bump t) v) = store_blank s m l claimed waiting b (Bump t) v may in
      let ab : Absent s (put m.cached (Bump t) v) = store_absent s m l claimed waiting b (Bump t) v may in
      let fi : AllFit s (put m.cached (Bump t) v) = store_fits s m l claimed waiting b (Bump t) v may in
      let kb : (x : ℕ) → bumps m.kept x ≤ upd (bumps m.cached) t.0 v x = λ x. elim (upd_cases (bumps m.cached) t.0 v x) [
        | inl q ↦ subst (λ y. bumps m.kept x ≤ y) (sym q.1) (subst (λ y. bumps m.kept y ≤ v) (sym q.0) (bump t refl).0)
        | inr q ↦ subst (λ y. bumps m.kept x ≤ y) (sym q.1) (b.kept_bump x)
      ] in
      let nb : (x : ℕ) → s.clients ≤ x → upd (bumps m.cached) t.0 v x ≡ 0 = λ x h. elim (upd_cases (bumps m.cached) t.0 v x) [
        | inl q ↦ absurd (omega (arith, (bump t refl).1, q.0, h))
        | inr q ↦ q.1 ∙ b.no_bump x h
      ] in
      assumption (b, e, bl, ab, fi, kb, nb)
  own_base (Item n part) v may own quiet loose bump announces =
      let e : Empties s l (marks m.cached) (empties s (put m.cached (Item n part) v)) (empties s m.kept) = store_empty s m l claimed waiting b (Item n part) v may quiet in
      let bl : Blank s m.kept (put m.cached (Item n part) v) = store_blank s m l claimed waiting b (Item n part) v may in
      let ab : Absent s (put m.cached (Item n part) v) = store_absent s m l claimed waiting b (Item n part) v may in
      let fi : AllFit s (put m.cached (Item n part) v) = store_fits s m l claimed waiting b (Item n part) v may in
      let lv : (j : ℕ) (other : Part) → links m.cached j ≢ 0 → part_at (put m.cached (Item n part) v) (links m.cached j) other ≡ part_at m.kept (links m.cached j) other = λ j other h.
      parts_elsewhere m.cached n part v (links m.cached j) ((loose n part refl).0 j) other ∙ b.linked_part j other h in
      let me : (x : ℕ) → IsMessage (with_store m (Item n part) v) x = messages_put m n part v (loose n part refl).1 b.message in
      let fl : (j : ℕ) → links m.cached j ≢ 0 → links m.kept j ≡ 0 → IsLinking s l (values (put m.cached (Item n part) v)) (links m.cached j) = λ j h z.
      let g : IsLinking s l (values m.cached) (links m.cached j) = b.flying_link j h z in
      record { holds = g.holds; asks = g.asks ∙ ap Enq (sym (values_elsewhere m.cached n part v (links m.cached j) ((loose n part refl).0 j))); unmoved = g.unmoved } in
      assumption (b, e, bl, ab, fi, lv, me, fl)
  own_base (Insert t) v may own quiet loose bump announces =
      let e : Empties s l (marks m.cached) (empties s (put m.cached (Insert t) v)) (empties s m.kept) = store_empty s m l claimed waiting b (Insert t) v may quiet in
      let bl : Blank s m.kept (put m.cached (Insert t) v) = store_blank s m l claimed waiting b (Insert t) v may in
      let ab : Absent s (put m.cached (Insert t) v) = store_absent s m l claimed waiting b (Insert t) v may in
      let fi : AllFit s (put m.cached (Insert t) v) = store_fits s m l claimed waiting b (Insert t) v may in
      assumption (b, e, bl, ab, fi)
  own_base (Number t) v may own quiet loose bump announces =
      let e : Empties s l (marks m.cached) (empties s (put m.cached (Number t) v)) (empties s m.kept) = store_empty s m l claimed waiting b (Number t) v may quiet in
      let bl : Blank s m.kept (put m.cached (Number t) v) = store_blank s m l claimed waiting b (Number t) v may in
      let ab : Absent s (put m.cached (Number t) v) = store_absent s m l claimed waiting b (Number t) v may in
      let fi : AllFit s (put m.cached (Number t) v) = store_fits s m l claimed waiting b (Number t) v may in
      assumption (b, e, bl, ab, fi)
  own_base (EntryKind t) v may own quiet loose bump announces =
      let e : Empties s l (marks m.cached) (empties s (put m.cached (EntryKind t) v)) (empties s m.kept) = store_empty s m l claimed waiting b (EntryKind t) v may quiet in
      let bl : Blank s m.kept (put m.cached (EntryKind t) v) = store_blank s m l claimed waiting b (EntryKind t) v may in
      let ab : Absent s (put m.cached (EntryKind t) v) = store_absent s m l claimed waiting b (EntryKind t) v may in
      let fi : AllFit s (put m.cached (EntryKind t) v) = store_fits s m l claimed waiting b (EntryKind t) v may in
      assumption (b, e, bl, ab, fi)
  own_base (EntryNode t) v may own quiet loose bump announces =
      let e : Empties s l (marks m.cached) (empties s (put m.cached (EntryNode t) v)) (empties s m.kept) = store_empty s m l claimed waiting b (EntryNode t) v may quiet in
      let bl : Blank s m.kept (put m.cached (EntryNode t) v) = store_blank s m l claimed waiting b (EntryNode t) v may in
      let ab : Absent s (put m.cached (EntryNode t) v) = store_absent s m l claimed waiting b (EntryNode t) v may in
      let fi : AllFit s (put m.cached (EntryNode t) v) = store_fits s m l claimed waiting b (EntryNode t) v may in
      assumption (b, e, bl, ab, fi)

  -- the head goes on
  pub head_base : (v : ℕ) → Fits s Head v → IsAmong v (0 ∷ claimed) → LeadsTo (links m.kept) (m.cached Tail) v → LeadsTo (links m.kept) v (m.cached Head)
      → (links m.cached v ≢ 0 → marks m.cached (links m.cached v) ≢ 0 → links m.cached (links m.cached v) ≢ 0 → marks m.cached (links m.cached (links m.cached v)) ≡ 0) → Base s (with_store m Head v) l claimed waiting
  head_base v fit there_in to_tail from_head one =
      let may : MayStore s m Head v = record { issued = λ r some. absurd r; of_kind = tt; fits = fit } in
      let e : Empties s l (marks m.cached) (empties s (put m.cached Head v)) (empties s m.kept) = store_empty s m l claimed waiting b Head v may (λ r. r) in
      let bl : Blank s m.kept (put m.cached Head v) = store_blank s m l claimed waiting b Head v may in
      let ab : Absent s (put m.cached Head v) = store_absent s m l claimed waiting b Head v may in
      let fi : AllFit s (put m.cached Head v) = store_fits s m l claimed waiting b Head v may in
      let kh : LeadsTo (links m.kept) v (m.kept Head) = leads_trans (links m.kept) (m.cached Head) v (m.kept Head) b.kept_head_to_head from_head in
      assumption (b, e, bl, ab, fi, there_in, to_tail, kh, one)

  -- the tail goes on
  pub tail_base : (v : ℕ) → Fits s Tail v → LeadsTo (links m.kept) v (m.cached Tail) → (links m.cached v ≢ 0 → links m.cached (links m.cached v) ≡ 0) → Base s (with_store m Tail v) l claimed waiting
  tail_base v fit on_from lag =
      let may : MayStore s m Tail v = record { issued = λ r some. absurd r; of_kind = tt; fits = fit } in
      let e : Empties s l (marks m.cached) (empties s (put m.cached Tail v)) (empties s m.kept) = store_empty s m l claimed waiting b Tail v may (λ r. r) in
      let bl : Blank s m.kept (put m.cached Tail v) = store_blank s m l claimed waiting b Tail v may in
      let ab : Absent s (put m.cached Tail v) = store_absent s m l claimed waiting b Tail v may in
      let fi : AllFit s (put m.cached Tail v) = store_fits s m l claimed waiting b Tail v may in
      let ht : LeadsTo (links m.kept) v (m.cached Head) = leads_trans (links m.kept) (m.cached Tail) v (m.cached Head) b.head_to_tail on_from in
      assumption (b, e, bl, ab, fi, ht, lag)

  -- a node of the chain is issued
  pub chain_issued : (x : ℕ) → IsAmong x (0 ∷ claimed ++ waiting) → x ≢ 0 → IsIssued s m.kept x
  chain_issued x (inl z) some = absurd (some z)
  chain_issued x (inr h) some =
      let p : (p : ℕ) × (links m.kept p ≡ x) × (x ≢ 0) = linked_by (links m.kept) 0 (claimed ++ waiting) b.chained.chain x h in
      let same : links m.cached p.0 ≡ x = b.chained.kept p.0 (λ z. p.2 (sym p.1 ∙ z)) ∙ p.1 in
      subst (IsIssued s m.kept) same (b.issued_link p.0 (λ z. p.2 (sym same ∙ z)))

  -- a node that is not on the chain has no mark
  off_chain_unmarked : (x : ℕ) → (IsAmong x (claimed ++ waiting) → ⊥) → marks m.cached x ≡ 0
  off_chain_unmarked x off = elim (cases_eq (marks m.cached x) 0) [
    | inl z ↦ z
    | inr some ↦ elim (cases_eq (marks m.kept x) 0) [
      | inl none ↦ absurd (off (in_right x claimed waiting (first_among x waiting (b.marked.ahead x some none))))
      | inr kept ↦ absurd (off (in_left x claimed waiting (b.marked.back x kept)))
    ]
  ]

  -- a node is linked behind the last
  pub link_base : (i node last : ℕ) → Enqueuing s m l i node → IsIssued s m.kept node → Fits s (Next (node_of last)) node → WasTail m last → links m.cached last ≡ 0
      → Base s (with_store m (Next (node_of last)) node) l claimed waiting
  link_base i node last r issued fit was empty =
      let p : Place = Next (node_of last) in
      let here : IsAmong last (0 ∷ claimed ++ waiting) = leads_in (links m.kept) 0 (claimed ++ waiting) last 0 b.chained.chain was.chain (inl refl) in
      let may : MayStore s m (Next (node_of last)) node = record { issued = λ t some. chain_issued last here some; of_kind = tt; fits = fit } in
      let c : Links (upd (links m.cached) last node) (links m.kept) (claimed ++ waiting) =
      new_link (links m.cached) (links m.kept) (claimed ++ waiting) last node b.chained here empty r.before.mine.some r.before.loose.link in
      let lv : (j : ℕ) (part : Part) → upd (links m.cached) last node j ≢ 0 → part_at m.cached (upd (links m.cached) last node j) part ≡ part_at m.kept (upd (links m.cached) last node j) part = λ j part h.
      elim (upd_cases (links m.cached) last node j) [
        | inl t ↦ subst (λ y. part_at m.cached y part ≡ part_at m.kept y part) (sym t.1) (sym (r.kept part))
        | inr t ↦ subst (λ y. part_at m.cached y part ≡ part_at m.kept y part) (sym t.1) (b.linked_part j part (λ z. h (t.1 ∙ z)))
      ] in
      let il : (j : ℕ) → upd (links m.cached) last node j ≢ 0 → IsIssued s m.kept (upd (links m.cached) last node j) = λ j h.
      elim (upd_cases (links m.cached) last node j) [
        | inl t ↦ subst (IsIssued s m.kept) (sym t.1) issued
        | inr t ↦ subst (IsIssued s m.kept) (sym t.1) (b.issued_link j (λ z. h (t.1 ∙ z)))
      ] in
      let own : owner s node ≡ i = r.before.mine.own in
      let linking : IsLinking s l (values m.cached) node = record {
        holds = ap (held_token l) own ∙ r.before.mine.holds;
        asks = ap (asked_call l) own ∙ r.asks;
        unmoved = ap l.stage own ∙ r.unmoved;
      } in
      let fl : (j : ℕ) → upd (links m.cached) last node j ≢ 0 → links m.kept j ≡ 0 → IsLinking s l (values m.cached) (upd (links m.cached) last node j) = λ j h z.
      elim (upd_cases (links m.cached) last node j) [
        | inl t ↦ subst (IsLinking s l (values m.cached)) (sym t.1) linking
        | inr t ↦ subst (IsLinking s l (values m.cached)) (sym t.1) (b.flying_link j (λ q. h (t.1 ∙ q)) z)
      ] in
      let e : Empties s l (marks m.cached) (empties s (put m.cached (Next (node_of last)) node)) (empties s m.kept) = store_empty s m l claimed waiting b (Next (node_of last)) node may (λ q. q) in
      let bl : Blank s m.kept (put m.cached (Next (node_of last)) node) = store_blank s m l claimed waiting b (Next (node_of last)) node may in
      let ab : Absent s (put m.cached (Next (node_of last)) node) = store_absent s m l claimed waiting b (Next (node_of last)) node may in
      let fi : AllFit s (put m.cached (Next (node_of last)) node) = store_fits s m l claimed waiting b (Next (node_of last)) node may in
      let none : links m.kept last ≡ 0 = kept_none (links m.cached) (links m.kept) last (b.chained.kept last) empty in
      let tail_is : m.cached Tail ≡ last = leads_last (links m.kept) last (m.cached Tail) was.tail none in
      let apart : node ≢ last = λ q. off_chain (links m.cached) (links m.kept) (claimed ++ waiting) node b.chained r.before.mine.some r.before.loose.link (subst (λ x. IsAmong x (0 ∷ claimed ++ waiting)) (sym q) here) in
      let bare : links m.cached node ≡ 0 = no_link_of (links m.cached) (links m.kept) (claimed ++ waiting) node b.chained r.before.mine.some r.before.loose.link in
      let unmarked : marks m.cached node ≡ 0 = off_chain_unmarked node (λ q. off_chain (links m.cached) (links m.kept) (claimed ++ waiting) node b.chained r.before.mine.some r.before.loose.link (inr q)) in
      let lag : upd (links m.cached) last node (m.cached Tail) ≢ 0 → upd (links m.cached) last node (upd (links m.cached) last node (m.cached Tail)) ≡ 0 = λ h.
      ap (λ q. upd (links m.cached) last node (upd (links m.cached) last node q)) tail_is ∙ ap (upd (links m.cached) last node) (upd_same (links m.cached) last node)
      ∙ upd_other (links m.cached) last node node apart ∙ bare in
      let one : upd (links m.cached) last node (m.cached Head) ≢ 0 → marks m.cached (upd (links m.cached) last node (m.cached Head)) ≢ 0
      → upd (links m.cached) last node (upd (links m.cached) last node (m.cached Head)) ≢ 0
      → marks m.cached (upd (links m.cached) last node (upd (links m.cached) last node (m.cached Head))) ≡ 0 =
      λ h g f. elim (upd_cases (links m.cached) last node (upd (links m.cached) last node (m.cached Head))) [
        | inl q ↦ ap (marks m.cached) q.1 ∙ unmarked
        | inr q ↦ elim (upd_cases (links m.cached) last node (m.cached Head)) [
          | inl p ↦ absurd (g (ap (marks m.cached) p.1 ∙ unmarked))
          | inr p ↦ ap (marks m.cached) (q.1 ∙ ap (links m.cached) p.1)
              ∙ b.one_claim (λ z. h (p.1 ∙ z)) (λ z. g (ap (marks m.cached) p.1 ∙ z)) (λ z. f (q.1 ∙ ap (links m.cached) p.1 ∙ z))
        ]
      ] in
      assumption (b, e, bl, ab, fi, c, lv, il, fl, lag, one)

  -- the node that a dequeue may claim is the first waiting one, if it has no mark
  pub claims_first : (first next : ℕ) → Claims m first next → marks m.cached next ≡ 0 → IsFirst next waiting
  claims_first first next c empty =
      let none : marks m.kept next ≡ 0 = kept_none (marks m.cached) (marks m.kept) next (b.marked.kept next) empty in
      let among : IsAmong first (0 ∷ claimed) = elim c.passed [ inl z ↦ inl z | inr h ↦ inr (b.marked.back first h) ] in
      subst (λ x. IsFirst x waiting) c.link
      (first_waiting (links m.kept) (marks m.cached) (marks m.kept) claimed waiting first b.chained.chain b.marked among (λ z. c.some (sym c.link ∙ z)) (ap (marks m.kept) c.link ∙ none))

  -- where the node behind it is the first waiting one, a node that was the head is the head
  head_first : (first next : ℕ) → Claims m first next → IsFirst next waiting → m.cached Head ≡ first
  head_first first next c h = elim (cases_eq (m.cached Head) first) [
    | inl e ↦ e
    | inr ne ↦
        let past : LeadsTo (links m.kept) (m.cached Head) next = subst (λ x. LeadsTo (links m.kept) (m.cached Head) x) c.link (leads_next (links m.kept) first (m.cached Head) c.head (λ e. ne (sym e))).1 in
        let rest : IsChain (links m.kept) next (drop 1 waiting) = rest_chain (links m.kept) 0 claimed waiting next b.chained.chain h in
        let waits : IsAmong (m.cached Head) waiting =
        subst (IsAmong (m.cached Head)) (sym (first_split next waiting h)) (leads_in (links m.kept) next (drop 1 waiting) (m.cached Head) next rest past (inl refl)) in
        absurd (elim b.head [
          | inl z ↦ (linked_by (links m.kept) 0 (claimed ++ waiting) b.chained.chain (m.cached Head) (in_right (m.cached Head) claimed waiting waits)).2 z
          | inr q ↦ parts_apart claimed waiting (m.cached Head) (distinct (links m.kept) 0 (claimed ++ waiting) b.chained.chain) q waits
        ])
  ]

  -- a node that a link which is not kept names is not on the chain
  ahead_off : (n : ℕ) → links m.cached n ≢ 0 → links m.kept n ≡ 0 → IsAmong (links m.cached n) (claimed ++ waiting) → ⊥
  ahead_off n some none on =
      let p : (p : ℕ) × (links m.kept p ≡ links m.cached n) × (links m.cached n ≢ 0) = linked_by (links m.kept) 0 (claimed ++ waiting) b.chained.chain (links m.cached n) on in
      let f : IsLinking s l (values m.cached) (links m.cached n) = b.flying_link n some none in
      let took : l.stage (owner s (links m.cached n)) ≡ Took Done =
      subst (λ x. held_token l (owner s x) ≡ x → l.stage (owner s x) ≡ Took Done) p.1 (b.took_link p.0 (λ z. some (sym p.1 ∙ z))) f.holds in
      let wrong : Unmoved ≡ Took Done = sym f.unmoved ∙ took in
      cc

  -- the node behind the first waiting one has no mark
  behind_free : (next : ℕ) → IsFirst next waiting → links m.cached next ≢ 0 → (links m.cached next ≢ next) × (marks m.cached (links m.cached next) ≡ 0)
  behind_free next h some =
      let on : IsAmong next waiting = first_among next waiting h in
      let d : Distinct (claimed ++ waiting) = distinct (links m.kept) 0 (claimed ++ waiting) b.chained.chain in
      let rest : IsChain (links m.kept) next (drop 1 waiting) = rest_chain (links m.kept) 0 claimed waiting next b.chained.chain h in
      elim (cases_eq (links m.kept next) 0) [
        | inl none ↦ (
          λ e. ahead_off next some none (subst (λ x. IsAmong x (claimed ++ waiting)) (sym e) (in_right next claimed waiting on)),
          off_chain_unmarked (links m.cached next) (ahead_off next some none),
        )
        | inr kept ↦
            let same : links m.cached next ≡ links m.kept next = b.chained.kept next kept in
            let later : IsAmong (links m.kept next) (drop 1 waiting) = in_chain (links m.kept) next (drop 1 waiting) next rest (inl refl) kept in
            let apart : links m.kept next ≢ next = λ e. not_again (links m.kept) next (drop 1 waiting) rest (subst (λ x. IsAmong x (drop 1 waiting)) e later) in
            let waits : IsAmong (links m.kept next) waiting = subst (IsAmong (links m.kept next)) (sym (first_split next waiting h)) (inr later) in (
              λ e. apart (sym same ∙ e),
              elim (cases_eq (marks m.cached (links m.cached next)) 0) [
                | inl z ↦ z
                | inr marked ↦ absurd (elim (cases_eq (marks m.kept (links m.cached next)) 0) [
                  | inl none ↦ apart (sym same ∙ first_one (links m.cached next) next waiting (b.marked.ahead (links m.cached next) marked none) h)
                  | inr claimed_now ↦ parts_apart claimed waiting (links m.kept next) d (subst (λ x. IsAmong x claimed) same (b.marked.back (links m.cached next) claimed_now)) waits
                ])
              ],
            )
      ]

  -- a node is claimed
  pub claim_base : (i token first next : ℕ) → Dequeuing s m l i token → l.stage i ≡ Unmoved → IsIssued s m.kept token → Fits s (Mark (node_of next)) token → Claims m first next → marks m.cached next ≡ 0
      → Base s (with_store m (Mark (node_of next)) token) l claimed waiting
  claim_base i token first next h unmoved issued fit c empty =
      let p : Place = Mark (node_of next) in
      let own : owner s token ≡ i = h.before.mine.own in
      let among : IsAmong first (0 ∷ claimed ++ waiting) = in_left first (0 ∷ claimed) waiting (elim c.passed [ inl z ↦ inl z | inr q ↦ inr (b.marked.back first q) ]) in
      let linked : IsAmong next (0 ∷ claimed ++ waiting) =
      inr (subst (λ x. IsAmong x (claimed ++ waiting)) c.link (in_chain (links m.kept) 0 (claimed ++ waiting) first b.chained.chain among (λ z. c.some (sym c.link ∙ z)))) in
      let may : MayStore s m (Mark (node_of next)) token = record { issued = λ t some. chain_issued next linked some; of_kind = tt; fits = fit } in
      let k : Marks (upd (marks m.cached) next token) (marks m.kept) claimed waiting = new_mark (marks m.cached) (marks m.kept) claimed waiting next token b.marked (claims_first first next c empty) empty in
      let im : (j : ℕ) → upd (marks m.cached) next token j ≢ 0 → IsIssued s m.kept (upd (marks m.cached) next token j) = λ j q.
      elim (upd_cases (marks m.cached) next token j) [
        | inl t ↦ subst (IsIssued s m.kept) (sym t.1) issued
        | inr t ↦ subst (IsIssued s m.kept) (sym t.1) (b.issued_mark j (λ z. q (t.1 ∙ z)))
      ] in
      let claiming : IsClaiming s l token = record { holds = ap (held_token l) own ∙ h.before.mine.holds; asks = ap (asked_call l) own ∙ h.asks; unmoved = ap l.stage own ∙ unmoved } in
      let fm : (j : ℕ) → upd (marks m.cached) next token j ≢ 0 → marks m.kept j ≡ 0 → IsClaiming s l (upd (marks m.cached) next token j) = λ j q z.
      elim (upd_cases (marks m.cached) next token j) [
        | inl t ↦ subst (IsClaiming s l) (sym t.1) claiming
        | inr t ↦ subst (IsClaiming s l) (sym t.1) (b.flying_mark j (λ r. q (t.1 ∙ r)) z)
      ] in
      let om : (n j : ℕ) → upd (marks m.cached) next token n ≢ 0 → upd (marks m.cached) next token n ≡ upd (marks m.cached) next token j → n ≡ j = λ n j q r.
      elim (upd_cases (marks m.cached) next token n) [
        | inl t ↦ elim (upd_cases (marks m.cached) next token j) [
          | inl u ↦ t.0 ∙ sym u.0
          | inr u ↦ absurd (h.before.loose.mark j (sym u.1 ∙ sym r ∙ t.1))
        ]
        | inr t ↦ elim (upd_cases (marks m.cached) next token j) [
          | inl u ↦ absurd (h.before.loose.mark n (sym t.1 ∙ r ∙ u.1))
          | inr u ↦ b.one_mark n j (λ z. q (t.1 ∙ z)) (sym t.1 ∙ r ∙ u.1)
        ]
      ] in
      let e0 : Empties s l (upd (marks m.cached) next token) (empties s m.cached) (empties s m.kept) = record {
        flying = λ d q z.
            let g : IsAnswering s l (marks m.cached) d = b.empty.flying d q z in
            record {
              holds = g.holds;
              asks = g.asks;
              seen = g.seen;
              unmarked = λ n r. elim (upd_cases (marks m.cached) next token n) [
                | inl t ↦
                    let same : token ≡ d = sym t.1 ∙ r in
                    let wrong : Unmoved ≡ Seen = sym unmoved ∙ ap l.stage (sym own ∙ ap (owner s) same) ∙ g.seen in
                    cc
                | inr t ↦ g.unmarked n (sym t.1 ∙ r)
              ];
            };
        took = b.empty.took;
        unmarked = λ n q r. elim (upd_cases (marks m.cached) next token n) [
          | inl t ↦ h.before.silent (subst (Says s (empties s m.cached)) t.1 r)
          | inr t ↦ b.empty.unmarked n (λ z. q (t.1 ∙ z)) (subst (Says s (empties s m.cached)) t.1 r)
        ];
        said = b.empty.said;
      } in
      let e : Empties s l (upd (marks m.cached) next token) (empties s (put m.cached (Mark (node_of next)) token)) (empties s m.kept) =
      subst (λ x. Empties s l (upd (marks m.cached) next token) x (empties s m.kept)) (sym (put_empties s m.cached (Mark (node_of next)) token (λ q. q))) e0 in
      let bl : Blank s m.kept (put m.cached (Mark (node_of next)) token) = store_blank s m l claimed waiting b (Mark (node_of next)) token may in
      let ab : Absent s (put m.cached (Mark (node_of next)) token) = store_absent s m l claimed waiting b (Mark (node_of next)) token may in
      let fi : AllFit s (put m.cached (Mark (node_of next)) token) = store_fits s m l claimed waiting b (Mark (node_of next)) token may in
      let is_first : IsFirst next waiting = claims_first first next c empty in
      let head_is : m.cached Head ≡ first = head_first first next c is_first in
      let kept_some : links m.kept first ≢ 0 = λ z. c.some (sym c.link ∙ z) in
      let at_head : links m.cached (m.cached Head) ≡ next = ap (links m.cached) head_is ∙ b.chained.kept first kept_some ∙ c.link in
      let one : links m.cached (m.cached Head) ≢ 0 → upd (marks m.cached) next token (links m.cached (m.cached Head)) ≢ 0 → links m.cached (links m.cached (m.cached Head)) ≢ 0
      → upd (marks m.cached) next token (links m.cached (links m.cached (m.cached Head))) ≡ 0 = λ q r f.
      let two : links m.cached (links m.cached (m.cached Head)) ≡ links m.cached next = ap (links m.cached) at_head in
      let free : (links m.cached next ≢ next) × (marks m.cached (links m.cached next) ≡ 0) = behind_free next is_first (λ z. f (two ∙ z)) in
      ap (upd (marks m.cached) next token) two ∙ upd_other (marks m.cached) next token (links m.cached next) free.0 ∙ free.1 in
      assumption (b, e, bl, ab, fi, k, im, fm, om, one)

-- an answer is stored that the queue was empty
pub yes_empties : (s : Shape) (l : Ledger) (mark e k : ℕ → ℕ) (c v : ℕ) → Empties s l mark e k → IsAnswering s l mark c → (empty_answer_of s.kind (token_of c)).value ≡ v → Empties s l mark (upd e c v) k
yes_empties s l mark e k c v b now reads = record {
  flying = λ d h z. elim (upd_cases e c v d) [
    | inl t ↦ subst (IsAnswering s l mark) (sym t.0) now
    | inr t ↦ b.flying d (sym t.1 ∙ h) z
  ];
  took = b.took;
  unmarked = λ n h r. elim (upd_cases e c v (mark n)) [
    | inl t ↦ now.unmarked n t.0
    | inr t ↦ b.unmarked n h (sym t.1 ∙ r)
  ];
  said = λ d h. elim (upd_cases e c v d) [
    | inl t ↦ t.1 ∙ sym reads ∙ ap (λ x. (empty_answer_of s.kind (token_of x)).value) (sym t.0)
    | inr t ↦ t.1 ∙ b.said d h
  ];
}

-- a result is stored there
pub no_empties : (s : Shape) (l : Ledger) (mark e k : ℕ → ℕ) (c v : ℕ) → Empties s l mark e k → ((empty_answer_of s.kind (token_of c)).value ≢ v) → record { at : ℕ; some : mark at ≢ 0; named : mark at ≡ c } → Empties s l mark (upd e c v) k
no_empties s l mark e k c v b other named = record {
  flying = λ d h z. elim (upd_cases e c v d) [
    | inl t ↦ absurd (other (ap (λ x. (empty_answer_of s.kind (token_of x)).value) (sym t.0) ∙ sym h ∙ t.1))
    | inr t ↦ b.flying d (sym t.1 ∙ h) z
  ];
  took = b.took;
  unmarked = λ n h r. elim (upd_cases e c v (mark n)) [
    | inl t ↦ other (ap (λ x. (empty_answer_of s.kind (token_of x)).value) (sym t.0) ∙ sym r ∙ t.1)
    | inr t ↦ b.unmarked n h (sym t.1 ∙ r)
  ];
  said = λ d h. elim (upd_cases e c v d) [
    | inl t ↦ absurd (b.unmarked named.at named.some (subst (Says s e) (t.0 ∙ sym named.named) (b.said d h)))
    | inr t ↦ t.1 ∙ b.said d h
  ];
}

module _ (s : Shape) (m : Memory) (l : Ledger) (claimed waiting : List ℕ) (b : Base s m l claimed waiting) where
  cell_base : (c : Token) (v : ℕ) → s.kind ≡ Durable → MayStore s m (Cell c) v → Empties s l (marks m.cached) (upd (empties s m.cached) c.0 v) (empties s m.kept) → Base s (with_store m (Cell c) v) l claimed waiting
  cell_base c v kind may now =
      let e : Empties s l (marks m.cached) (empties s (put m.cached (Cell c) v)) (empties s m.kept) =
      subst (λ x. Empties s l (marks m.cached) x (empties s m.kept)) (sym (cell_empties s m.cached c v kind)) now in
      let bl : Blank s m.kept (put m.cached (Cell c) v) = store_blank s m l claimed waiting b (Cell c) v may in
      let ab : Absent s (put m.cached (Cell c) v) = store_absent s m l claimed waiting b (Cell c) v may in
      let fi : AllFit s (put m.cached (Cell c) v) = store_fits s m l claimed waiting b (Cell c) v may in
      assumption (b, e, bl, ab, fi)

  status_base : (c : Token) (v : ℕ) → s.kind ≡ Log → MayStore s m (Status c) v → Empties s l (marks m.cached) (upd (empties s m.cached) c.0 v) (empties s m.kept) → Base s (with_store m (Status c) v) l claimed waiting
  status_base c v kind may now =
      let e : Empties s l (marks m.cached) (empties s (put m.cached (Status c) v)) (empties s m.kept) =
      subst (λ x. Empties s l (marks m.cached) x (empties s m.kept)) (sym (status_empties s m.cached c v kind)) now in
      let bl : Blank s m.kept (put m.cached (Status c) v) = store_blank s m l claimed waiting b (Status c) v may in
      let ab : Absent s (put m.cached (Status c) v) = store_absent s m l claimed waiting b (Status c) v may in
      let fi : AllFit s (put m.cached (Status c) v) = store_fits s m l claimed waiting b (Status c) v may in
      assumption (b, e, bl, ab, fi)

  -- a dequeue stores that the queue was empty
  pub empty_base : (c : Token) → c.0 ≢ 0 → IsIssued s m.kept c.0 → IsAnswering s l (marks m.cached) c.0
      → Base s (with_store m (empty_answer_of s.kind c).place (empty_answer_of s.kind c).value) l claimed waiting
  empty_base c some issued now = go s.kind refl
    where
      go : (kind : Kind) → s.kind ≡ kind → Base s (with_store m (empty_answer_of s.kind c).place (empty_answer_of s.kind c).value) l claimed waiting
      go Durable e = subst (λ k. Base s (with_store m (empty_answer_of k c).place (empty_answer_of k c).value) l claimed waiting) (sym e)
          (cell_base c 1 e (record { issued = λ r q. issued; of_kind = (e, some); fits = omega arith })
          (yes_empties s l (marks m.cached) (empties s m.cached) (empties s m.kept) c.0 1 b.empty now (ap (λ k. (empty_answer_of k c).value) e)))
      go Log e = subst (λ k. Base s (with_store m (empty_answer_of k c).place (empty_answer_of k c).value) l claimed waiting) (sym e)
          (status_base c 2 e (record { issued = λ r q. issued; of_kind = (e, some); fits = omega arith })
          (yes_empties s l (marks m.cached) (empties s m.cached) (empties s m.kept) c.0 2 b.empty now (ap (λ k. (empty_answer_of k c).value) e)))

  -- the result of a kept claim is stored
  pub result_base : (c : Token) (n : NodeId) → marks m.cached n.0 ≢ 0 → marks m.cached n.0 ≡ c.0 → n.0 ≤ greatest s
      → Base s (with_store m (result_of s.kind c n).place (result_of s.kind c n).value) l claimed waiting
  result_base c n some named node = go s.kind refl
    where
      go : (kind : Kind) → s.kind ≡ kind → Base s (with_store m (result_of s.kind c n).place (result_of s.kind c n).value) l claimed waiting
      go Durable e = subst (λ k. Base s (with_store m (result_of k c n).place (result_of k c n).value) l claimed waiting) (sym e)
          (cell_base c (n.0 + 2) e (record { issued = λ r q. subst (IsIssued s m.kept) named (b.issued_mark n.0 some); of_kind = (e, λ z. some (named ∙ z)); fits = omega (arith, node) })
          (no_empties s l (marks m.cached) (empties s m.cached) (empties s m.kept) c.0 (n.0 + 2) b.empty
          (λ q. let two : 1 ≡ n.0 + 2 = sym (ap (λ k. (empty_answer_of k c).value) e) ∙ q in absurd (omega (arith, two)))
          (record { at = n.0; some = some; named = named })))
      go Log e = subst (λ k. Base s (with_store m (result_of k c n).place (result_of k c n).value) l claimed waiting) (sym e)
          (own_base s m l claimed waiting b (EntryNode c) n.0
          (record { issued = λ r q. subst (IsIssued s m.kept) named (b.issued_mark n.0 some); of_kind = (e, λ z. some (named ∙ z)); fits = node })
          tt (λ q. q) (λ x part q. absurd (cc)) (λ t q. absurd (cc)) (λ t q. absurd (cc)))

module _ (s : Shape) (m : Memory) (l : Ledger) (claimed waiting : List ℕ) (b : Base s m l claimed waiting) (a : ℕ) where
  -- a store to no word of anybody's own, that names no node and claims none
  shared_grows : (p : Place) (v : ℕ) → (IsOwnWord p → ⊥) → ((x : ℕ) → links m.cached x ≢ 0 → links (put m.cached p v) x ≡ links m.cached x)
      → ((x : ℕ) → marks m.cached x ≢ 0 → marks (put m.cached p v) x ≡ marks m.cached x)
      → ((x : ℕ) → (links (put m.cached p v) x ≡ links m.cached x) ⊎ (owner s (links (put m.cached p v) x) ≡ a))
      → ((x : ℕ) → (marks (put m.cached p v) x ≡ marks m.cached x) ⊎ (owner s (marks (put m.cached p v) x) ≡ a))
      → LeadsTo (links m.kept) (put m.cached p v Tail) (m.cached Tail) → LeadsTo (links m.kept) (put m.cached p v Head) (m.cached Head) → Grows a s m l (with_store m p v) l
  shared_grows p v shared al am nl nm tail head = record {
    at_link = al;
    at_kept_link = λ x h. refl;
    at_mark = am;
    at_kept_mark = λ x h. refl;
    new_link = nl;
    new_mark = nm;
    at_own = λ q own ne free. put_other m.cached p v q (λ e. shared (subst IsOwnWord e own));
    at_kept_own = λ q own. inl refl;
    at_linked = λ x part h. refl;
    at_result = λ x h t.
        put_other m.cached p v (result_of s.kind (token_of (marks m.kept x)) (node_of x)).place
        (λ q. shared (subst IsOwnWord q (result_own s.kind (token_of (marks m.kept x)) (node_of x)))) ∙ t;
    tail = tail;
    head = head;
    begun = λ i ne. refl;
    stage = λ i ne loose silent. refl;
  }

  pub head_grows : (v : ℕ) → LeadsTo (links m.kept) v (m.cached Head) → Grows a s m l (with_store m Head v) l
  head_grows v r = shared_grows Head v (λ q. q) (λ x h. refl) (λ x h. refl) (λ x. inl refl) (λ x. inl refl) there r

  pub tail_grows : (v : ℕ) → LeadsTo (links m.kept) v (m.cached Tail) → Grows a s m l (with_store m Tail v) l
  tail_grows v r = shared_grows Tail v (λ q. q) (λ x h. refl) (λ x h. refl) (λ x. inl refl) (λ x. inl refl) r there

  pub link_grows : (node last : ℕ) → links m.cached last ≡ 0 → owner s node ≡ a → Grows a s m l (with_store m (Next (node_of last)) node) l
  link_grows node last empty own = shared_grows (Next (node_of last)) node (λ q. q)
      (λ x h. upd_other (links m.cached) last node x (λ e. h (ap (links m.cached) e ∙ empty)))
      (λ x h. refl)
      (λ x. elim (upd_cases (links m.cached) last node x) [ inl t ↦ inr (ap (owner s) t.1 ∙ own) | inr t ↦ inl t.1 ])
      (λ x. inl refl) there there

  pub claim_grows : (token next : ℕ) → marks m.cached next ≡ 0 → owner s token ≡ a → Grows a s m l (with_store m (Mark (node_of next)) token) l
  claim_grows token next empty own = shared_grows (Mark (node_of next)) token (λ q. q)
      (λ x h. refl)
      (λ x h. upd_other (marks m.cached) next token x (λ e. h (ap (marks m.cached) e ∙ empty)))
      (λ x. inl refl)
      (λ x. elim (upd_cases (marks m.cached) next token x) [ inl t ↦ inr (ap (owner s) t.1 ∙ own) | inr t ↦ inl t.1 ]) there there

  pub empty_grows : (c : Token) → owner s c.0 ≡ a → ((x : ℕ) → marks m.cached x ≢ c.0) → Grows a s m l (with_store m (empty_answer_of s.kind c).place (empty_answer_of s.kind c).value) l
  empty_grows c own free =
      own_store_grows s m l (empty_answer_of s.kind c).place (empty_answer_of s.kind c).value (empty_own s.kind c) a (inl (empty_home s s.kind c ∙ own))
      (no_result s m l claimed waiting (empty_answer_of s.kind c).place (empty_answer_of s.kind c).value b (λ r x e. free x (e ∙ empty_number s.kind c)))

  -- the result of a kept claim
  pub result_grows : (c : Token) (n : NodeId) → marks m.kept n.0 ≡ c.0 → c.0 ≢ 0 → Grows a s m l (with_store m (result_of s.kind c n).place (result_of s.kind c n).value) l
  result_grows c n named some =
      let cached : marks m.cached n.0 ≡ c.0 = b.marked.kept n.0 (λ z. some (sym named ∙ z)) ∙ named in
      own_store_grows s m l (result_of s.kind c n).place (result_of s.kind c n).value (result_own s.kind c n) a
      (inr (result_answer s.kind c n, record { at = n.0; named = cached ∙ sym (result_number s.kind c n) }))
      (λ x h at.
      let same : marks m.kept x ≡ c.0 = sym (result_number s.kind (token_of (marks m.kept x)) (node_of x)) ∙ ap number_of at ∙ result_number s.kind c n in
      let is_n : x ≡ n.0 = b.one_mark x n.0 (λ z. h (sym (b.marked.kept x h) ∙ z)) (b.marked.kept x h ∙ same ∙ sym cached) in
      ap (λ q. (result_of s.kind (token_of q) (node_of x)).value) same
      ∙ ap (λ q. (result_of s.kind c (node_of q)).value) is_n)
