-- Any word becomes kept.
use Rattle.std.proofs.Common.{◌≡◌, ◌≢◌, ℕ, ◌≤◌, inl, inr, List, ◌∷◌, ◌++◌, map, Bool, true, false, if◌then◌else◌, ◌==◌, refl, sym, ◌∙◌, ap, subst, arith}
use Rattle.std.proofs.lemmas.Bool.{cases_eq, eqb-true, eqb-false}
use mathlib.Core.Path.{fun_ext}
use Rattle.arena.specs.declared.place.Part.{Part}
use Rattle.words.specs.PlainQueue.{Value}
use Rattle.words.specs.declared.call.Client.{Client}
use Rattle.words.specs.declared.call.Kind.{Kind}
use Rattle.words.specs.declared.call.Kind.TheVariants.{Durable, Log}
use Rattle.words.specs.declared.call.NodeId.{NodeId}
use Rattle.words.specs.declared.call.Reply.TheVariants.{Done, Got, Empty}
use Rattle.words.specs.declared.call.Token.{Token}
use Rattle.arena.specs.Answers.{empty_answer_of}
use Rattle.arena.specs.Chain.{IsAmong}
use Rattle.arena.specs.Chain.LeadsTo.{there}
use Rattle.arena.specs.Place.{number_of}
use Rattle.arena.specs.Shape.{Shape, owner}
use Rattle.arena.specs.Words.{links, marks, part_at, values, bumps}
use Rattle.arena.specs.declared.place.Place.{Place}
use Rattle.arena.specs.declared.place.Place.TheVariants.{Head, Tail, Announcement, Bump, Item, Next, Mark, Cell, Insert}
use Rattle.arena.specs.declared.place.Place.TheVariants.{Number, EntryKind, Status, EntryNode}
use Rattle.helping.specs.Table.{token_of}
use Rattle.protocol.specs.Machine.{Memory, put, with_fence}
use Rattle.arena.proofs.Facts.{in_left, in_right}
use Rattle.protocol.proofs.chain.Chains.{upd, upd_at, upd_other, upd_cases, linked_by, leads_from, leads_in, map_agree}
use Rattle.protocol.specs.invariants.Ledger.{Stage, Ledger, held_token}
use Rattle.protocol.specs.invariants.Places.{Says, empties}
use Rattle.protocol.specs.invariants.Base.{Absent, AllFit, IsLinking, IsClaiming, IsAnswering, Empties, Base}
use Rattle.protocol.specs.invariants.Ledger.Stage.{Unmoved, Seen, Took}
use Rattle.protocol.proofs.changes.Puts.{IsEmptyWord, put_same, put_other, put_id, put_absent, put_fits, put_empties}
use Rattle.protocol.proofs.changes.Puts.{Issues, issues_fenced, parts_fenced, values_fenced, messages_fenced}
use Rattle.protocol.proofs.calls.Stable.{empty_number}
use Rattle.protocol.proofs.changes.Keeps.{restaged, counted, noticed_ledger, kept_ledger, Kept, still, keep_grows}
use Rattle.protocol.proofs.changes.Keeps.{link_kept, mark_kept}

-- a node of the chain has its message kept
pub chain_part : (s : Shape) (m : Memory) (l : Ledger) (claimed waiting : List ℕ) → Base s m l claimed waiting → (x : ℕ) → IsAmong x (claimed ++ waiting) → (part : Part) → part_at m.cached x part ≡ part_at m.kept x part
chain_part s m l claimed waiting b x h part =
    let p : (p : ℕ) × (links m.kept p ≡ x) × (x ≢ 0) = linked_by (links m.kept) 0 (claimed ++ waiting) b.chained.chain x h in
    let same : links m.cached p.0 ≡ x = b.chained.kept p.0 (λ z. p.2 (sym p.1 ∙ z)) ∙ p.1 in
    subst (λ y. part_at m.cached y part ≡ part_at m.kept y part) same (b.linked_part p.0 part (λ z. p.2 (sym same ∙ z)))

-- the empty answers, one of them written
pub empties_put : (s : Shape) (f : Place → ℕ) (c v : ℕ) → empties s (put f (empty_answer_of s.kind (token_of c)).place v) ≡ upd (empties s f) c v
empties_put s f c v = fun_ext (λ d. elim (cases_eq d c) [
  | inl e ↦ ap (empties s (put f (empty_answer_of s.kind (token_of c)).place v)) e ∙ put_same f (empty_answer_of s.kind (token_of c)).place v ∙ sym (upd_at (empties s f) c v d e)
  | inr ne ↦ put_other f (empty_answer_of s.kind (token_of c)).place v (empty_answer_of s.kind (token_of d)).place
      (λ e. ne (sym (empty_number s.kind (token_of d)) ∙ ap number_of e ∙ empty_number s.kind (token_of c))) ∙ sym (upd_other (empties s f) c v d ne)
])

-- an answer that is kept, and does not say that the queue was empty
quiet_empties : (s : Shape) (l : Ledger) (mark e k : ℕ → ℕ) (c : ℕ) → Empties s l mark e k → (Says s e c → ⊥) → Empties s l mark e (upd k c (e c))
quiet_empties s l mark e k c b quiet = record {
  flying = λ d h z. elim (upd_cases k c (e c) d) [
    | inl t ↦ absurd (quiet (subst (Says s e) t.0 h))
    | inr t ↦ b.flying d h (λ q. z (t.1 ∙ q))
  ];
  took = λ d h some hd. elim (upd_cases k c (e c) d) [
    | inl t ↦ absurd (quiet (subst (Says s e) t.0 (ap e t.0 ∙ sym t.1 ∙ h)))
    | inr t ↦ b.took d (sym t.1 ∙ h) some hd
  ];
  unmarked = b.unmarked;
  said = λ d h. elim (upd_cases k c (e c) d) [
    | inl t ↦ ap e t.0 ∙ sym t.1 ∙ h
    | inr t ↦ b.said d (sym t.1 ∙ h)
  ];
}

-- an answer that is kept, and says so: its dequeue took effect
says_empties : (s : Shape) (l : Ledger) (mark e k : ℕ → ℕ) (c : ℕ) → Empties s l mark e k → Says s e c → (Says s k c → ⊥) → Empties s (restaged l (owner s c) (counted (l.stage (owner s c))) l.queue) mark e (upd k c (e c))
says_empties s l mark e k c b says fresh =
    let f : IsAnswering s l mark c = b.flying c says fresh in
    let st : Stage = counted (l.stage (owner s c)) in
    record {
      flying = λ d h z. elim (upd_cases k c (e c) d) [
        | inl t ↦ absurd (z (t.1 ∙ ap e (sym t.0) ∙ h))
        | inr t ↦
            let g : IsAnswering s l mark d = b.flying d h (λ q. z (t.1 ∙ q)) in
            record {
              holds = g.holds;
              asks = g.asks;
              seen = upd_other l.stage (owner s c) (counted (l.stage (owner s c))) (owner s d) (λ q. t.0 (sym g.holds ∙ ap (held_token l) q ∙ f.holds)) ∙ g.seen;
              unmarked = g.unmarked;
            }
      ];
      took = λ d h some hd. elim (upd_cases k c (e c) d) [
        | inl t ↦ upd_at l.stage (owner s c) (counted (l.stage (owner s c))) (owner s d) (ap (owner s) t.0) ∙ ap counted f.seen
        | inr t ↦ still l (owner s c) Seen (counted (l.stage (owner s c))) l.queue f.seen (owner s d) (Took Empty) (λ q. cc) (b.took d (sym t.1 ∙ h) some hd)
      ];
      unmarked = b.unmarked;
      said = λ d h. elim (upd_cases k c (e c) d) [
        | inl t ↦ ap e t.0 ∙ sym t.1 ∙ h
        | inr t ↦ b.said d (sym t.1 ∙ h)
      ];
    }

pub cell_empties : (s : Shape) (f : Place → ℕ) (c : Token) (v : ℕ) → s.kind ≡ Durable → empties s (put f (Cell c) v) ≡ upd (empties s f) c.0 v
cell_empties s f c v e = subst (λ q. empties s (put f q v) ≡ upd (empties s f) c.0 v) (ap (λ k. (empty_answer_of k (token_of c.0)).place) e) (empties_put s f c.0 v)

pub status_empties : (s : Shape) (f : Place → ℕ) (c : Token) (v : ℕ) → s.kind ≡ Log → empties s (put f (Status c) v) ≡ upd (empties s f) c.0 v
status_empties s f c v e = subst (λ q. empties s (put f q v) ≡ upd (empties s f) c.0 v) (ap (λ k. (empty_answer_of k (token_of c.0)).place) e) (empties_put s f c.0 v)

-- what a cell, or a status, says
pub cell_says : (s : Shape) (f : Place → ℕ) (c : Token) → s.kind ≡ Durable → (Says s (empties s f) c.0 → f (Cell c) ≡ 1) × (f (Cell c) ≡ 1 → Says s (empties s f) c.0)
cell_says s f c e = (
  subst (λ k. f (empty_answer_of k (token_of c.0)).place ≡ (empty_answer_of k (token_of c.0)).value → f (Cell c) ≡ 1) (sym e) (λ h. h),
  subst (λ k. f (Cell c) ≡ 1 → f (empty_answer_of k (token_of c.0)).place ≡ (empty_answer_of k (token_of c.0)).value) (sym e) (λ h. h),
)

pub status_says : (s : Shape) (f : Place → ℕ) (c : Token) → s.kind ≡ Log → (Says s (empties s f) c.0 → f (Status c) ≡ 2) × (f (Status c) ≡ 2 → Says s (empties s f) c.0)
status_says s f c e = (
  subst (λ k. f (empty_answer_of k (token_of c.0)).place ≡ (empty_answer_of k (token_of c.0)).value → f (Status c) ≡ 2) (sym e) (λ h. h),
  subst (λ k. f (Status c) ≡ 2 → f (empty_answer_of k (token_of c.0)).place ≡ (empty_answer_of k (token_of c.0)).value) (sym e) (λ h. h),
)

empty_at : (s : Shape) (f : Place → ℕ) (c : Token) → (s.kind ≡ Durable → empties s f c.0 ≡ f (Cell c)) × (s.kind ≡ Log → empties s f c.0 ≡ f (Status c))
empty_at s f c = (λ e. ap (λ k. f (empty_answer_of k (token_of c.0)).place) e, λ e. ap (λ k. f (empty_answer_of k (token_of c.0)).place) e)

module _ (s : Shape) (m : Memory) (l : Ledger) (claimed waiting : List ℕ) (b : Base s m l claimed waiting) where
  issues : (p : Place) → Issues s m (with_fence m p).kept
  issues p = issues_fenced s m l claimed waiting b p

  -- a part of a message that is kept: where a node is linked its value is kept already
  item_base : (n : NodeId) (part : Part) → Base s (with_fence m (Item n part)) l claimed waiting
  item_base n part =
      let p : Place = Item n part in
      let v : ℕ = m.cached p in
      let after : ℕ → Value = values (put m.kept p v) in
      let stays : (x : ℕ) → IsAmong x (claimed ++ waiting) → after x ≡ values m.kept x = λ x h. values_fenced m p x (chain_part s m l claimed waiting b x h) in
      let content : map after waiting ≡ l.queue = map_agree after (values m.kept) waiting (λ x h. stays x (in_right x claimed waiting h)) ∙ b.content in
      let linked : (j : ℕ) (other : Part) → links m.cached j ≢ 0 → part_at m.cached (links m.cached j) other ≡ part_at (put m.kept p v) (links m.cached j) other = λ j other h.
      b.linked_part j other h ∙ sym (parts_fenced m p (links m.cached j) (λ q. b.linked_part j q h) other) in
      let took : (j : ℕ) → marks m.kept j ≢ 0 → held_token l (owner s (marks m.kept j)) ≡ marks m.kept j → l.stage (owner s (marks m.kept j)) ≡ Took (Got (after j)) = λ j h hd.
      b.took_mark j h hd ∙ ap (λ x. Took (Got x)) (sym (stays j (in_left j claimed waiting (b.marked.back j h)))) in
      let empty : Empties s l (marks m.cached) (empties s m.cached) (empties s (put m.kept p v)) =
      subst (λ k. Empties s l (marks m.cached) (empties s m.cached) k) (sym (put_empties s m.kept p v (λ x. x))) b.empty in
      let absent_kept = put_absent s m.kept p v (b.absent p) b.absent_kept in
      let fits_kept = put_fits s m.kept p v (b.fits p) b.fits_kept in
      record {
        chained = b.chained;
        marked = b.marked;
        content = content;
        head = b.head;
        head_to_tail = b.head_to_tail;
        kept_head = b.kept_head;
        kept_head_to_head = b.kept_head_to_head;
        kept_tail = b.kept_tail;
        linked_part = linked;
        message = messages_fenced m p b.message;
        issued_link = (issues p).issued_link;
        issued_mark = (issues p).issued_mark;
        flying_link = b.flying_link;
        flying_mark = b.flying_mark;
        took_link = b.took_link;
        took_mark = took;
        lag = b.lag;
        one_claim = b.one_claim;
        one_mark = b.one_mark;
        empty = empty;
        kept_bump = b.kept_bump;
        no_bump = b.no_bump;
        announced = (issues p).announced;
        announced_kept = (issues p).announced_kept;
        blank = (issues p).blank;
        blank_kept = (issues p).blank_kept;
        absent = b.absent;
        absent_kept = absent_kept;
        fits = b.fits;
        fits_kept = fits_kept;
      }

  bump_base : (t : ℕ) → Base s (with_fence m (Bump (record { 0 = t }))) l claimed waiting
  bump_base t =
      let p : Place = Bump (record { 0 = t }) in
      let v : ℕ = bumps m.cached t in
      let kept_bump : (x : ℕ) → upd (bumps m.kept) t (bumps m.cached t) x ≤ bumps m.cached x = λ x.
      elim (upd_cases (bumps m.kept) t (bumps m.cached t) x) [
        | inl e ↦ subst (λ y. y ≤ bumps m.cached x) (sym (e.1 ∙ ap (bumps m.cached) (sym e.0))) (omega arith)
        | inr e ↦ subst (λ y. y ≤ bumps m.cached x) (sym e.1) (b.kept_bump x)
      ] in
      record {
        chained = b.chained;
        marked = b.marked;
        content = b.content;
        head = b.head;
        head_to_tail = b.head_to_tail;
        kept_head = b.kept_head;
        kept_head_to_head = b.kept_head_to_head;
        kept_tail = b.kept_tail;
        linked_part = b.linked_part;
        message = b.message;
        issued_link = (issues (Bump (record { 0 = t }))).issued_link;
        issued_mark = (issues (Bump (record { 0 = t }))).issued_mark;
        flying_link = b.flying_link;
        flying_mark = b.flying_mark;
        took_link = b.took_link;
        took_mark = b.took_mark;
        lag = b.lag;
        one_claim = b.one_claim;
        one_mark = b.one_mark;
        empty = subst (λ k. Empties s l (marks m.cached) (empties s m.cached) k) (sym (put_empties s m.kept p v (λ x. x))) b.empty;
        kept_bump = kept_bump;
        no_bump = b.no_bump;
        announced = (issues (Bump (record { 0 = t }))).announced;
        announced_kept = (issues (Bump (record { 0 = t }))).announced_kept;
        blank = (issues (Bump (record { 0 = t }))).blank;
        blank_kept = (issues (Bump (record { 0 = t }))).blank_kept;
        absent = b.absent;
        absent_kept = put_absent s m.kept p v (b.absent p) b.absent_kept;
        fits = b.fits;
        fits_kept = put_fits s m.kept p v (b.fits p) b.fits_kept;
      }

  head_base : Base s (with_fence m Head) l claimed waiting
  head_base =
      let kept_head : IsAmong (m.cached Head) (0 ∷ claimed) = b.head in
      record {
        chained = b.chained;
        marked = b.marked;
        content = b.content;
        head = b.head;
        head_to_tail = b.head_to_tail;
        kept_head = b.head;
        kept_head_to_head = there;
        kept_tail = b.kept_tail;
        linked_part = b.linked_part;
        message = b.message;
        issued_link = (issues Head).issued_link;
        issued_mark = (issues Head).issued_mark;
        flying_link = b.flying_link;
        flying_mark = b.flying_mark;
        took_link = b.took_link;
        took_mark = b.took_mark;
        lag = b.lag;
        one_claim = b.one_claim;
        one_mark = b.one_mark;
        empty = subst (λ k. Empties s l (marks m.cached) (empties s m.cached) k) (sym (put_empties s m.kept Head (m.cached Head) (λ x. x))) b.empty;
        kept_bump = b.kept_bump;
        no_bump = b.no_bump;
        announced = (issues Head).announced;
        announced_kept = (issues Head).announced_kept;
        blank = (issues Head).blank;
        blank_kept = (issues Head).blank_kept;
        absent = b.absent;
        absent_kept = put_absent s m.kept Head (m.cached Head) (b.absent Head) b.absent_kept;
        fits = b.fits;
        fits_kept = put_fits s m.kept Head (m.cached Head) (b.fits Head) b.fits_kept;
      }

  tail_base : Base s (with_fence m Tail) l claimed waiting
  tail_base =
      let on_chain : IsAmong (m.cached Tail) (0 ∷ claimed ++ waiting) =
      leads_in (links m.kept) 0 (claimed ++ waiting) (m.cached Tail) (m.cached Head) b.chained.chain b.head_to_tail (in_left (m.cached Head) (0 ∷ claimed) waiting b.head) in
      record {
        chained = b.chained;
        marked = b.marked;
        content = b.content;
        head = b.head;
        head_to_tail = b.head_to_tail;
        kept_head = b.kept_head;
        kept_head_to_head = b.kept_head_to_head;
        kept_tail = leads_from (links m.kept) 0 (claimed ++ waiting) (m.cached Tail) b.chained.chain on_chain;
        linked_part = b.linked_part;
        message = b.message;
        issued_link = (issues Tail).issued_link;
        issued_mark = (issues Tail).issued_mark;
        flying_link = b.flying_link;
        flying_mark = b.flying_mark;
        took_link = b.took_link;
        took_mark = b.took_mark;
        lag = b.lag;
        one_claim = b.one_claim;
        one_mark = b.one_mark;
        empty = subst (λ k. Empties s l (marks m.cached) (empties s m.cached) k) (sym (put_empties s m.kept Tail (m.cached Tail) (λ x. x))) b.empty;
        kept_bump = b.kept_bump;
        no_bump = b.no_bump;
        announced = (issues Tail).announced;
        announced_kept = (issues Tail).announced_kept;
        blank = (issues Tail).blank;
        blank_kept = (issues Tail).blank_kept;
        absent = b.absent;
        absent_kept = put_absent s m.kept Tail (m.cached Tail) (b.absent Tail) b.absent_kept;
        fits = b.fits;
        fits_kept = put_fits s m.kept Tail (m.cached Tail) (b.fits Tail) b.fits_kept;
      }

  empty_stays : (p : Place) → (IsEmptyWord p → ⊥) → Empties s l (marks m.cached) (empties s m.cached) (empties s (put m.kept p (m.cached p)))
  empty_stays p none = subst (λ k. Empties s l (marks m.cached) (empties s m.cached) k) (sym (put_empties s m.kept p (m.cached p) none)) b.empty

  absent_stays : (p : Place) → Absent s (put m.kept p (m.cached p))
  absent_stays p = put_absent s m.kept p (m.cached p) (b.absent p) b.absent_kept

  fits_stay : (p : Place) → AllFit s (put m.kept p (m.cached p))
  fits_stay p = put_fits s m.kept p (m.cached p) (b.fits p) b.fits_kept

  announcement_base : (x : Client) → Base s (with_fence m (Announcement x)) l claimed waiting
  announcement_base x =
      let e : Empties s l (marks m.cached) (empties s m.cached) (empties s (put m.kept (Announcement x) (m.cached (Announcement x)))) = empty_stays (Announcement x) (λ r. r) in
      let i : Issues s m (with_fence m (Announcement x)).kept = issues (Announcement x) in
      let ab : Absent s (put m.kept (Announcement x) (m.cached (Announcement x))) = absent_stays (Announcement x) in
      let fi : AllFit s (put m.kept (Announcement x) (m.cached (Announcement x))) = fits_stay (Announcement x) in
      assumption (b, e, i, ab, fi)

  insert_base : (x : NodeId) → Base s (with_fence m (Insert x)) l claimed waiting
  insert_base x =
      let e : Empties s l (marks m.cached) (empties s m.cached) (empties s (put m.kept (Insert x) (m.cached (Insert x)))) = empty_stays (Insert x) (λ r. r) in
      let i : Issues s m (with_fence m (Insert x)).kept = issues (Insert x) in
      let ab : Absent s (put m.kept (Insert x) (m.cached (Insert x))) = absent_stays (Insert x) in
      let fi : AllFit s (put m.kept (Insert x) (m.cached (Insert x))) = fits_stay (Insert x) in
      assumption (b, e, i, ab, fi)

  number_base : (x : Token) → Base s (with_fence m (Number x)) l claimed waiting
  number_base x =
      let e : Empties s l (marks m.cached) (empties s m.cached) (empties s (put m.kept (Number x) (m.cached (Number x)))) = empty_stays (Number x) (λ r. r) in
      let i : Issues s m (with_fence m (Number x)).kept = issues (Number x) in
      let ab : Absent s (put m.kept (Number x) (m.cached (Number x))) = absent_stays (Number x) in
      let fi : AllFit s (put m.kept (Number x) (m.cached (Number x))) = fits_stay (Number x) in
      assumption (b, e, i, ab, fi)

  entry_kind_base : (x : Token) → Base s (with_fence m (EntryKind x)) l claimed waiting
  entry_kind_base x =
      let e : Empties s l (marks m.cached) (empties s m.cached) (empties s (put m.kept (EntryKind x) (m.cached (EntryKind x)))) = empty_stays (EntryKind x) (λ r. r) in
      let i : Issues s m (with_fence m (EntryKind x)).kept = issues (EntryKind x) in
      let ab : Absent s (put m.kept (EntryKind x) (m.cached (EntryKind x))) = absent_stays (EntryKind x) in
      let fi : AllFit s (put m.kept (EntryKind x) (m.cached (EntryKind x))) = fits_stay (EntryKind x) in
      assumption (b, e, i, ab, fi)

  entry_node_base : (x : Token) → Base s (with_fence m (EntryNode x)) l claimed waiting
  entry_node_base x =
      let e : Empties s l (marks m.cached) (empties s m.cached) (empties s (put m.kept (EntryNode x) (m.cached (EntryNode x)))) = empty_stays (EntryNode x) (λ r. r) in
      let i : Issues s m (with_fence m (EntryNode x)).kept = issues (EntryNode x) in
      let ab : Absent s (put m.kept (EntryNode x) (m.cached (EntryNode x))) = absent_stays (EntryNode x) in
      let fi : AllFit s (put m.kept (EntryNode x) (m.cached (EntryNode x))) = fits_stay (EntryNode x) in
      assumption (b, e, i, ab, fi)

  -- where no call takes effect
  plain_kept : (p : Place) → Base s (with_fence m p) l claimed waiting → Kept s m l (with_fence m p) l
  plain_kept p now = record { claimed = claimed; waiting = waiting; base = now; grows = keep_grows s m l claimed waiting p l b (λ i. refl) (λ i loose silent. refl) }

  cell_quiet_base : (c : Token) → s.kind ≡ Durable → m.cached (Cell c) ≢ 1 → Base s (with_fence m (Cell c)) l claimed waiting
  cell_quiet_base c kind quiet =
      let same : m.cached (Cell c) ≡ empties s m.cached c.0 = sym ((empty_at s m.cached c).0 kind) in
      let e : Empties s l (marks m.cached) (empties s m.cached) (empties s (put m.kept (Cell c) (m.cached (Cell c)))) =
      subst (λ k. Empties s l (marks m.cached) (empties s m.cached) k) (sym (cell_empties s m.kept c (m.cached (Cell c)) kind ∙ ap (upd (empties s m.kept) c.0) same))
      (quiet_empties s l (marks m.cached) (empties s m.cached) (empties s m.kept) c.0 b.empty (λ h. quiet ((cell_says s m.cached c kind).0 h))) in
      let i : Issues s m (with_fence m (Cell c)).kept = issues (Cell c) in
      let ab : Absent s (put m.kept (Cell c) (m.cached (Cell c))) = absent_stays (Cell c) in
      let fi : AllFit s (put m.kept (Cell c) (m.cached (Cell c))) = fits_stay (Cell c) in
      assumption (b, e, i, ab, fi)

  cell_says_kept : (c : Token) → s.kind ≡ Durable → m.cached (Cell c) ≡ 1 → m.kept (Cell c) ≢ m.cached (Cell c) → Kept s m l (with_fence m (Cell c)) (restaged l (owner s c.0) (counted (l.stage (owner s c.0))) l.queue)
  cell_says_kept c kind says apart =
      let same : m.cached (Cell c) ≡ empties s m.cached c.0 = sym ((empty_at s m.cached c).0 kind) in
      let now : Says s (empties s m.cached) c.0 = (cell_says s m.cached c kind).1 says in
      let fresh : Says s (empties s m.kept) c.0 → ⊥ = λ h. apart ((cell_says s m.kept c kind).0 h ∙ sym says) in
      let f : IsAnswering s l (marks m.cached) c.0 = b.empty.flying c.0 now fresh in
      let e : Empties s (restaged l (owner s c.0) (counted (l.stage (owner s c.0))) l.queue) (marks m.cached) (empties s m.cached) (empties s (put m.kept (Cell c) (m.cached (Cell c)))) =
      subst (λ k. Empties s (restaged l (owner s c.0) (counted (l.stage (owner s c.0))) l.queue) (marks m.cached) (empties s m.cached) k) (sym (cell_empties s m.kept c (m.cached (Cell c)) kind ∙ ap (upd (empties s m.kept) c.0) same))
      (says_empties s l (marks m.cached) (empties s m.cached) (empties s m.kept) c.0 b.empty now fresh) in
      let i : Issues s m (with_fence m (Cell c)).kept = issues (Cell c) in
      let ab : Absent s (put m.kept (Cell c) (m.cached (Cell c))) = absent_stays (Cell c) in
      let fi : AllFit s (put m.kept (Cell c) (m.cached (Cell c))) = fits_stay (Cell c) in
      let fl : (n : ℕ) → links m.cached n ≢ 0 → links m.kept n ≡ 0 → IsLinking s (restaged l (owner s c.0) (counted (l.stage (owner s c.0))) l.queue) (values m.cached) (links m.cached n) = λ n h z.
      let g : IsLinking s l (values m.cached) (links m.cached n) = b.flying_link n h z in
      record { holds = g.holds; asks = g.asks; unmoved = still l (owner s c.0) Seen (counted (l.stage (owner s c.0))) l.queue f.seen (owner s (links m.cached n)) Unmoved (λ q. cc) g.unmoved } in
      let fm : (n : ℕ) → marks m.cached n ≢ 0 → marks m.kept n ≡ 0 → IsClaiming s (restaged l (owner s c.0) (counted (l.stage (owner s c.0))) l.queue) (marks m.cached n) = λ n h z.
      let g : IsClaiming s l (marks m.cached n) = b.flying_mark n h z in
      record { holds = g.holds; asks = g.asks; unmoved = still l (owner s c.0) Seen (counted (l.stage (owner s c.0))) l.queue f.seen (owner s (marks m.cached n)) Unmoved (λ q. cc) g.unmoved } in
      let tl : (n : ℕ) → links m.kept n ≢ 0 → held_token l (owner s (links m.kept n)) ≡ links m.kept n → upd l.stage (owner s c.0) (counted (l.stage (owner s c.0))) (owner s (links m.kept n)) ≡ Took Done = λ n h hd.
      still l (owner s c.0) Seen (counted (l.stage (owner s c.0))) l.queue f.seen (owner s (links m.kept n)) (Took Done) (λ q. cc) (b.took_link n h hd) in
      let tm : (n : ℕ) → marks m.kept n ≢ 0 → held_token l (owner s (marks m.kept n)) ≡ marks m.kept n → upd l.stage (owner s c.0) (counted (l.stage (owner s c.0))) (owner s (marks m.kept n)) ≡ Took (Got (values m.kept n)) = λ n h hd.
      still l (owner s c.0) Seen (counted (l.stage (owner s c.0))) l.queue f.seen (owner s (marks m.kept n)) (Took (Got (values m.kept n))) (λ q. cc) (b.took_mark n h hd) in
      let base : Base s (with_fence m (Cell c)) (restaged l (owner s c.0) (counted (l.stage (owner s c.0))) l.queue) claimed waiting = assumption (b, e, i, ab, fi, fl, fm, tl, tm) in
      record {
        claimed = claimed;
        waiting = waiting;
        base = base;
        grows = keep_grows s m l claimed waiting (Cell c) (restaged l (owner s c.0) (counted (l.stage (owner s c.0))) l.queue) b (λ i. refl)
            (λ i loose silent. upd_other l.stage (owner s c.0) (counted (l.stage (owner s c.0))) i
            (λ q. silent (subst (Says s (empties s m.cached)) (sym (ap (held_token l) q ∙ f.holds)) now)));
      }

  cell_kept : (c : Token) → m.kept (Cell c) ≢ m.cached (Cell c) → Kept s m l (with_fence m (Cell c)) (if m.cached (Cell c) == 1 then restaged l (owner s c.0) (counted (l.stage (owner s c.0))) l.queue else l)
  cell_kept c apart = go s.kind refl (m.cached (Cell c) == 1) refl
    where
      go : (kind : Kind) → s.kind ≡ kind → (t : Bool) → (m.cached (Cell c) == 1) ≡ t → Kept s m l (with_fence m (Cell c)) (if t then restaged l (owner s c.0) (counted (l.stage (owner s c.0))) l.queue else l)
      go Durable e true t = cell_says_kept c e (eqb-true (m.cached (Cell c)) 1 t) apart
      go Durable e false t = plain_kept (Cell c) (cell_quiet_base c e (eqb-false (m.cached (Cell c)) 1 t))
      go Log e t q =
          let wrong : s.kind ≡ Durable → ⊥ = λ r. cc in
          absurd (apart (b.absent_kept (Cell c) (λ h. wrong h.0) ∙ sym (b.absent (Cell c) (λ h. wrong h.0))))

  status_quiet_base : (c : Token) → s.kind ≡ Log → m.cached (Status c) ≢ 2 → Base s (with_fence m (Status c)) l claimed waiting
  status_quiet_base c kind quiet =
      let same : m.cached (Status c) ≡ empties s m.cached c.0 = sym ((empty_at s m.cached c).1 kind) in
      let e : Empties s l (marks m.cached) (empties s m.cached) (empties s (put m.kept (Status c) (m.cached (Status c)))) =
      subst (λ k. Empties s l (marks m.cached) (empties s m.cached) k) (sym (status_empties s m.kept c (m.cached (Status c)) kind ∙ ap (upd (empties s m.kept) c.0) same))
      (quiet_empties s l (marks m.cached) (empties s m.cached) (empties s m.kept) c.0 b.empty (λ h. quiet ((status_says s m.cached c kind).0 h))) in
      let i : Issues s m (with_fence m (Status c)).kept = issues (Status c) in
      let ab : Absent s (put m.kept (Status c) (m.cached (Status c))) = absent_stays (Status c) in
      let fi : AllFit s (put m.kept (Status c) (m.cached (Status c))) = fits_stay (Status c) in
      assumption (b, e, i, ab, fi)

  status_says_kept : (c : Token) → s.kind ≡ Log → m.cached (Status c) ≡ 2 → m.kept (Status c) ≢ m.cached (Status c) → Kept s m l (with_fence m (Status c)) (restaged l (owner s c.0) (counted (l.stage (owner s c.0))) l.queue)
  status_says_kept c kind says apart =
      let same : m.cached (Status c) ≡ empties s m.cached c.0 = sym ((empty_at s m.cached c).1 kind) in
      let now : Says s (empties s m.cached) c.0 = (status_says s m.cached c kind).1 says in
      let fresh : Says s (empties s m.kept) c.0 → ⊥ = λ h. apart ((status_says s m.kept c kind).0 h ∙ sym says) in
      let f : IsAnswering s l (marks m.cached) c.0 = b.empty.flying c.0 now fresh in
      let e : Empties s (restaged l (owner s c.0) (counted (l.stage (owner s c.0))) l.queue) (marks m.cached) (empties s m.cached) (empties s (put m.kept (Status c) (m.cached (Status c)))) =
      subst (λ k. Empties s (restaged l (owner s c.0) (counted (l.stage (owner s c.0))) l.queue) (marks m.cached) (empties s m.cached) k) (sym (status_empties s m.kept c (m.cached (Status c)) kind ∙ ap (upd (empties s m.kept) c.0) same))
      (says_empties s l (marks m.cached) (empties s m.cached) (empties s m.kept) c.0 b.empty now fresh) in
      let i : Issues s m (with_fence m (Status c)).kept = issues (Status c) in
      let ab : Absent s (put m.kept (Status c) (m.cached (Status c))) = absent_stays (Status c) in
      let fi : AllFit s (put m.kept (Status c) (m.cached (Status c))) = fits_stay (Status c) in
      let fl : (n : ℕ) → links m.cached n ≢ 0 → links m.kept n ≡ 0 → IsLinking s (restaged l (owner s c.0) (counted (l.stage (owner s c.0))) l.queue) (values m.cached) (links m.cached n) = λ n h z.
      let g : IsLinking s l (values m.cached) (links m.cached n) = b.flying_link n h z in
      record { holds = g.holds; asks = g.asks; unmoved = still l (owner s c.0) Seen (counted (l.stage (owner s c.0))) l.queue f.seen (owner s (links m.cached n)) Unmoved (λ q. cc) g.unmoved } in
      let fm : (n : ℕ) → marks m.cached n ≢ 0 → marks m.kept n ≡ 0 → IsClaiming s (restaged l (owner s c.0) (counted (l.stage (owner s c.0))) l.queue) (marks m.cached n) = λ n h z.
      let g : IsClaiming s l (marks m.cached n) = b.flying_mark n h z in
      record { holds = g.holds; asks = g.asks; unmoved = still l (owner s c.0) Seen (counted (l.stage (owner s c.0))) l.queue f.seen (owner s (marks m.cached n)) Unmoved (λ q. cc) g.unmoved } in
      let tl : (n : ℕ) → links m.kept n ≢ 0 → held_token l (owner s (links m.kept n)) ≡ links m.kept n → upd l.stage (owner s c.0) (counted (l.stage (owner s c.0))) (owner s (links m.kept n)) ≡ Took Done = λ n h hd.
      still l (owner s c.0) Seen (counted (l.stage (owner s c.0))) l.queue f.seen (owner s (links m.kept n)) (Took Done) (λ q. cc) (b.took_link n h hd) in
      let tm : (n : ℕ) → marks m.kept n ≢ 0 → held_token l (owner s (marks m.kept n)) ≡ marks m.kept n → upd l.stage (owner s c.0) (counted (l.stage (owner s c.0))) (owner s (marks m.kept n)) ≡ Took (Got (values m.kept n)) = λ n h hd.
      still l (owner s c.0) Seen (counted (l.stage (owner s c.0))) l.queue f.seen (owner s (marks m.kept n)) (Took (Got (values m.kept n))) (λ q. cc) (b.took_mark n h hd) in
      let base : Base s (with_fence m (Status c)) (restaged l (owner s c.0) (counted (l.stage (owner s c.0))) l.queue) claimed waiting = assumption (b, e, i, ab, fi, fl, fm, tl, tm) in
      record {
        claimed = claimed;
        waiting = waiting;
        base = base;
        grows = keep_grows s m l claimed waiting (Status c) (restaged l (owner s c.0) (counted (l.stage (owner s c.0))) l.queue) b (λ i. refl)
            (λ i loose silent. upd_other l.stage (owner s c.0) (counted (l.stage (owner s c.0))) i
            (λ q. silent (subst (Says s (empties s m.cached)) (sym (ap (held_token l) q ∙ f.holds)) now)));
      }

  status_kept : (c : Token) → m.kept (Status c) ≢ m.cached (Status c) → Kept s m l (with_fence m (Status c)) (if m.cached (Status c) == 2 then restaged l (owner s c.0) (counted (l.stage (owner s c.0))) l.queue else l)
  status_kept c apart = go s.kind refl (m.cached (Status c) == 2) refl
    where
      go : (kind : Kind) → s.kind ≡ kind → (t : Bool) → (m.cached (Status c) == 2) ≡ t → Kept s m l (with_fence m (Status c)) (if t then restaged l (owner s c.0) (counted (l.stage (owner s c.0))) l.queue else l)
      go Log e true t = status_says_kept c e (eqb-true (m.cached (Status c)) 2 t) apart
      go Log e false t = plain_kept (Status c) (status_quiet_base c e (eqb-false (m.cached (Status c)) 2 t))
      go Durable e t q =
          let wrong : s.kind ≡ Log → ⊥ = λ r. cc in
          absurd (apart (b.absent_kept (Status c) (λ h. wrong h.0) ∙ sym (b.absent (Status c) (λ h. wrong h.0))))

  -- a kept word with a new value
  new_kept : (p : Place) → m.kept p ≢ m.cached p → Kept s m l (with_fence m p) (noticed_ledger s m l p (m.cached p))
  new_kept Head apart = plain_kept Head head_base
  new_kept Tail apart = plain_kept Tail tail_base
  new_kept (Announcement t) apart = plain_kept (Announcement t) (announcement_base t)
  new_kept (Bump t) apart = plain_kept (Bump t) (bump_base t.0)
  new_kept (Item n part) apart = plain_kept (Item n part) (item_base n part)
  new_kept (Next n) apart = link_kept s m l claimed waiting b n.0 apart
  new_kept (Mark n) apart = mark_kept s m l claimed waiting b n.0 apart
  new_kept (Cell c) apart = cell_kept c apart
  new_kept (Insert n) apart = plain_kept (Insert n) (insert_base n)
  new_kept (Number e) apart = plain_kept (Number e) (number_base e)
  new_kept (EntryKind e) apart = plain_kept (EntryKind e) (entry_kind_base e)
  new_kept (Status e) apart = status_kept e apart
  new_kept (EntryNode e) apart = plain_kept (EntryNode e) (entry_node_base e)

  -- any word is kept
  pub keep_any : (p : Place) → Kept s m l (with_fence m p) (kept_ledger s m l p)
  keep_any p = go (m.kept p == m.cached p) refl
    where
      same : m.kept p ≡ m.cached p → m ≡ with_fence m p
      same e = ap (λ f. record { cached = m.cached; kept = f }) (sym (put_id m.kept p (m.cached p) (sym e)))

      go : (t : Bool) → (m.kept p == m.cached p) ≡ t → Kept s m l (with_fence m p) (if t then l else noticed_ledger s m l p (m.cached p))
      go true e = plain_kept p (subst (λ n. Base s n l claimed waiting) (same (eqb-true (m.kept p) (m.cached p) e)) b)
      go false e = new_kept p (eqb-false (m.kept p) (m.cached p) e)
