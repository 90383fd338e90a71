-- A word becomes kept, by a call's fence or by the environment.
use Rattle.std.proofs.Common.{◌≡◌, ◌≢◌, ℕ, inl, inr, List, [], ◌∷◌, ◌++◌, map, drop, if◌then◌else◌, ◌==◌, refl, sym, ◌∙◌, ap, subst, append_assoc}
use Rattle.std.proofs.lemmas.List.{map-append}
use Rattle.words.specs.PlainQueue.{Value}
use Rattle.words.specs.declared.call.Call.TheVariants.{Enq, Deq}
use Rattle.words.specs.declared.call.Reply.TheVariants.{Done, Got, Empty}
use Rattle.arena.specs.Chain.{IsFirst}
use Rattle.arena.specs.Chain.LeadsTo.{there}
use Rattle.arena.specs.Shape.{Shape, owner}
use Rattle.arena.specs.Words.{links, marks, part_at, values}
use Rattle.arena.specs.declared.place.Place.{Place}
use Rattle.arena.specs.declared.place.Place.TheVariants.{Head, Tail, Next, Mark, Cell, Status}
use Rattle.protocol.specs.Machine.{Memory, with_fence}
use Rattle.arena.proofs.Facts.{in_left}
use Rattle.protocol.proofs.chain.Chains.{upd, upd_at, upd_other, upd_cases, leads_grows}
use Rattle.protocol.proofs.chain.Links.{kept_apart, keep_new_link, no_link_ahead, keep_new_mark, more_waiting}
use Rattle.protocol.proofs.chain.Links.{claimed_split}
use Rattle.protocol.specs.invariants.Links.{Links, Marks}
use Rattle.protocol.specs.invariants.Ledger.{Stage, Ledger, held_token, asked_call}
use Rattle.protocol.specs.invariants.Places.{SaysEmpty, empties}
use Rattle.protocol.specs.invariants.Base.{IsLinking, IsClaiming, IsAnswering, Empties, Base}
use Rattle.protocol.specs.invariants.Knows.{Loose}
use Rattle.protocol.specs.invariants.Grows.{Grows}
use Rattle.protocol.specs.invariants.Ledger.Stage.{Unmoved, Seen, Took}
use Rattle.protocol.proofs.changes.Puts.{put_cases, put_absent, put_fits, put_empties, Issues, issues_fenced}
use Rattle.protocol.proofs.changes.Puts.{parts_fenced}

-- client i's call is at another stage, and the queue is this one
abbrev pub restaged : Ledger → ℕ → Stage → List Value → Ledger
restaged l i st queue = record { begun = l.begun; stage = upd l.stage i st; queue = queue }

-- what a found empty queue comes to, once its answer is kept
abbrev pub counted : Stage → Stage
counted Seen = Took Empty
counted st = st

-- the ledger once a kept word has a new value
abbrev pub noticed_ledger : Shape → Memory → Ledger → Place → ℕ → Ledger
noticed_ledger s m l (Next n) new = restaged l (owner s new) (Took Done) (l.queue ++ values m.kept new ∷ [])
noticed_ledger s m l (Mark n) new = restaged l (owner s new) (Took (Got (values m.kept n.0))) (drop 1 l.queue)
noticed_ledger s m l (Cell c) new = if new == 1 then restaged l (owner s c.0) (counted (l.stage (owner s c.0))) l.queue else l
noticed_ledger s m l (Status e) new = if new == 2 then restaged l (owner s e.0) (counted (l.stage (owner s e.0))) l.queue else l
noticed_ledger s m l _ new = l

-- the ledger once the place's word is kept
abbrev pub kept_ledger : Shape → Memory → Ledger → Place → Ledger
kept_ledger s m l p = if m.kept p == m.cached p then l else noticed_ledger s m l p (m.cached p)

-- a change that is no step of anybody: what is so still holds, and nobody's knowledge suffers
pub record Kept (s : Shape) (m : Memory) (l : Ledger) (n : Memory) (k : Ledger) : Type 0 where
  pub claimed : List ℕ
  pub waiting : List ℕ
  pub base : Base s n k claimed waiting
  pub grows : (a : ℕ) → Grows a s m l n k

-- a stage of another kind than the one that changes stays
pub still : (l : Ledger) (i0 : ℕ) (st0 st1 : Stage) (queue : List Value) → l.stage i0 ≡ st0 → (i : ℕ) (st : Stage) → st ≢ st0 → l.stage i ≡ st → (restaged l i0 st1 queue).stage i ≡ st
still l i0 st0 st1 queue at i st ne h = upd_other l.stage i0 st1 i (λ e. ne (sym h ∙ ap l.stage e ∙ at)) ∙ h

enq_or_deq : (v : Value) → Deq ≡ Enq v → ⊥
enq_or_deq v e = cc

-- one word that is kept leaves what every client relies on
pub keep_grows : (s : Shape) (m : Memory) (l : Ledger) (claimed waiting : List ℕ) (p : Place) (k : Ledger) → Base s m l claimed waiting → ((i : ℕ) → k.begun i ≡ l.begun i)
    → ((i : ℕ) → Loose m (held_token l i) → (SaysEmpty s m.cached (held_token l i) → ⊥) → k.stage i ≡ l.stage i) → (a : ℕ) → Grows a s m l (with_fence m p) k
keep_grows s m l claimed waiting p k b begun stage a = record {
  at_link = λ x h. refl;
  at_kept_link = λ x h. elim (put_cases m.kept p (m.cached p) (Next (record { 0 = x }))) [
    | inl t ↦ t.1 ∙ ap m.cached (sym t.0) ∙ b.chained.kept x h
    | inr t ↦ t.1
  ];
  at_mark = λ x h. refl;
  at_kept_mark = λ x h. elim (put_cases m.kept p (m.cached p) (Mark (record { 0 = x }))) [
    | inl t ↦ t.1 ∙ ap m.cached (sym t.0) ∙ b.marked.kept x h
    | inr t ↦ t.1
  ];
  new_link = λ x. inl refl;
  new_mark = λ x. inl refl;
  at_own = λ q own ne free. refl;
  at_kept_own = λ q own. elim (put_cases m.kept p (m.cached p) q) [ inl t ↦ inr (t.1 ∙ ap m.cached (sym t.0)) | inr t ↦ inl t.1 ];
  at_linked = λ x part h. parts_fenced m p (links m.kept x)
      (λ q. subst (λ y. part_at m.cached y q ≡ part_at m.kept y q) (b.chained.kept x h) (b.linked_part x q (λ z. h (sym (b.chained.kept x h) ∙ z)))) part;
  at_result = λ x h t. t;
  tail = there;
  head = there;
  begun = λ i ne. begun i;
  stage = λ i ne loose silent. stage i loose silent;
}

-- a call's first effect leaves the answers of others as they stood
took_empties : (s : Shape) (l : Ledger) (mark e k : ℕ → ℕ) (i0 : ℕ) (st1 : Stage) (queue : List Value) → l.stage i0 ≡ Unmoved → Empties s l mark e k → Empties s (restaged l i0 st1 queue) mark e k
took_empties s l mark e k i0 st1 queue at b = record {
  flying = λ d h z.
      let f : IsAnswering s l mark d = b.flying d h z in
      record { holds = f.holds; asks = f.asks; seen = still l i0 Unmoved st1 queue at (owner s d) Seen (λ q. cc) f.seen; unmarked = f.unmarked };
  took = λ d h some hd. still l i0 Unmoved st1 queue at (owner s d) (Took Empty) (λ q. cc) (b.took d h some hd);
  unmarked = b.unmarked;
  said = b.said;
}

-- the link of n becomes kept, and with it the enqueue whose node it names takes effect
module _ (s : Shape) (m : Memory) (l : Ledger) (claimed waiting : List ℕ) (b : Base s m l claimed waiting) (n : ℕ) (apart : links m.kept n ≢ links m.cached n) where
  no_link : links m.kept n ≡ 0
  no_link = kept_apart (links m.cached) (links m.kept) n (b.chained.kept n) apart

  a_link : links m.cached n ≢ 0
  a_link = λ z. apart (no_link ∙ sym z)

  linking : IsLinking s l (values m.cached) (links m.cached n)
  linking = b.flying_link n a_link no_link

  link_ledger : Ledger
  link_ledger = restaged l (owner s (links m.cached n)) (Took Done) (l.queue ++ values m.kept (links m.cached n) ∷ [])

  old_link : (j : ℕ) → links m.kept j ≢ 0 → upd (links m.kept) n (links m.cached n) j ≡ links m.kept j
  old_link j h = upd_other (links m.kept) n (links m.cached n) j (λ e. h (ap (links m.kept) e ∙ no_link))

  link_base : Base s (with_fence m (Next (record { 0 = n }))) (restaged l (owner s (links m.cached n)) (Took Done) (l.queue ++ values m.kept (links m.cached n) ∷ [])) claimed (waiting ++ links m.cached n ∷ [])
  link_base =
      let v : ℕ = m.cached (Next (record { 0 = n })) in
      let p : Place = Next (record { 0 = n }) in
      let x : Issues s m (with_fence m (Next (record { 0 = n }))).kept = issues_fenced s m l claimed waiting b (Next (record { 0 = n })) in
      let longer : (claimed ++ waiting) ++ links m.cached n ∷ [] ≡ claimed ++ (waiting ++ links m.cached n ∷ []) = append_assoc claimed waiting (links m.cached n ∷ []) in
      record {
        chained = subst (Links (links m.cached) (upd (links m.kept) n (links m.cached n))) longer (keep_new_link (links m.cached) (links m.kept) (claimed ++ waiting) n apart b.chained);
        marked = more_waiting (marks m.cached) (marks m.kept) claimed waiting (links m.cached n) b.marked;
        content = map-append (values m.kept) waiting (links m.cached n ∷ []) ∙ ap (λ q. q ++ values m.kept (links m.cached n) ∷ []) b.content;
        head = b.head;
        head_to_tail = leads_grows (links m.kept) (upd (links m.kept) n (links m.cached n)) (m.cached Tail) (m.cached Head) old_link b.head_to_tail;
        kept_head = b.kept_head;
        kept_head_to_head = leads_grows (links m.kept) (upd (links m.kept) n (links m.cached n)) (m.cached Head) (m.kept Head) old_link b.kept_head_to_head;
        kept_tail = leads_grows (links m.kept) (upd (links m.kept) n (links m.cached n)) (m.kept Tail) 0 old_link b.kept_tail;
        linked_part = b.linked_part;
        message = b.message;
        issued_link = x.issued_link;
        issued_mark = x.issued_mark;
        flying_link = λ j h z. absurd (no_link_ahead (links m.cached) (links m.kept) (claimed ++ waiting) n apart b.chained j h z);
        flying_mark = λ j h z.
            let f : IsClaiming s l (marks m.cached j) = b.flying_mark j h z in
            record {
              holds = f.holds;
              asks = f.asks;
              unmoved = upd_other l.stage (owner s (links m.cached n)) (Took Done) (owner s (marks m.cached j))
                  (λ e. enq_or_deq (values m.cached (links m.cached n)) (sym f.asks ∙ ap (asked_call l) e ∙ linking.asks)) ∙ f.unmoved;
            };
        took_link = λ j h hd. elim (upd_cases (links m.kept) n (links m.cached n) j) [
          | inl t ↦ upd_at l.stage (owner s (links m.cached n)) (Took Done) (owner s (upd (links m.kept) n (links m.cached n) j)) (ap (owner s) t.1)
          | inr t ↦ subst (λ y. held_token l (owner s y) ≡ y → upd l.stage (owner s (links m.cached n)) (Took Done) (owner s y) ≡ Took Done) (sym t.1)
              (λ hy. still l (owner s (links m.cached n)) Unmoved (Took Done) l.queue linking.unmoved (owner s (links m.kept j)) (Took Done) (λ q. cc)
              (b.took_link j (λ z. h (t.1 ∙ z)) hy)) hd
        ];
        took_mark = λ j h hd. still l (owner s (links m.cached n)) Unmoved (Took Done) l.queue linking.unmoved (owner s (marks m.kept j)) (Took (Got (values m.kept j))) (λ q. cc) (b.took_mark j h hd);
        lag = b.lag;
        one_claim = b.one_claim;
        one_mark = b.one_mark;
        empty = subst (λ k. Empties s (restaged l (owner s (links m.cached n)) (Took Done) (l.queue ++ values m.kept (links m.cached n) ∷ [])) (marks m.cached) (empties s m.cached) k) (sym (put_empties s m.kept p v (λ x. x)))
            (took_empties s l (marks m.cached) (empties s m.cached) (empties s m.kept) (owner s (links m.cached n)) (Took Done) (l.queue ++ values m.kept (links m.cached n) ∷ []) linking.unmoved b.empty);
        kept_bump = b.kept_bump;
        no_bump = b.no_bump;
        announced = x.announced;
        announced_kept = x.announced_kept;
        blank = x.blank;
        blank_kept = x.blank_kept;
        absent = b.absent;
        absent_kept = put_absent s m.kept p v (b.absent p) b.absent_kept;
        fits = b.fits;
        fits_kept = put_fits s m.kept p v (b.fits p) b.fits_kept;
      }

  pub link_kept : Kept s m l (with_fence m (Next (record { 0 = n }))) (restaged l (owner s (links m.cached n)) (Took Done) (l.queue ++ values m.kept (links m.cached n) ∷ []))
  link_kept = record {
    claimed = claimed;
    waiting = waiting ++ links m.cached n ∷ [];
    base = link_base;
    grows = keep_grows s m l claimed waiting (Next (record { 0 = n })) (restaged l (owner s (links m.cached n)) (Took Done) (l.queue ++ values m.kept (links m.cached n) ∷ [])) b (λ i. refl)
        (λ i loose silent. upd_other l.stage (owner s (links m.cached n)) (Took Done) i (λ e. loose.link n (sym linking.holds ∙ ap (held_token l) (sym e))));
  }

drop_map : {X : Type 0} (f : ℕ → X) (xs : List ℕ) → map f (drop 1 xs) ≡ drop 1 (map f xs)
drop_map f [] = refl
drop_map f (x ∷ xs) = refl

-- the mark of n becomes kept, and with it the dequeue that it names takes effect
module _ (s : Shape) (m : Memory) (l : Ledger) (claimed waiting : List ℕ) (b : Base s m l claimed waiting) (n : ℕ) (apart : marks m.kept n ≢ marks m.cached n) where
  no_mark : marks m.kept n ≡ 0
  no_mark = kept_apart (marks m.cached) (marks m.kept) n (b.marked.kept n) apart

  a_mark : marks m.cached n ≢ 0
  a_mark = λ z. apart (no_mark ∙ sym z)

  claiming : IsClaiming s l (marks m.cached n)
  claiming = b.flying_mark n a_mark no_mark

  marked_now : Marks (marks m.cached) (upd (marks m.kept) n (marks m.cached n)) (claimed ++ n ∷ []) (drop 1 waiting) × IsFirst n waiting × ((j : ℕ) → marks m.cached j ≢ 0 → upd (marks m.kept) n (marks m.cached n) j ≡ 0 → ⊥)
  marked_now = keep_new_mark (marks m.cached) (marks m.kept) claimed waiting n apart b.marked

  mark_base : Base s (with_fence m (Mark (record { 0 = n }))) (restaged l (owner s (marks m.cached n)) (Took (Got (values m.kept n))) (drop 1 l.queue)) (claimed ++ n ∷ []) (drop 1 waiting)
  mark_base =
      let v : ℕ = m.cached (Mark (record { 0 = n })) in
      let p : Place = Mark (record { 0 = n }) in
      let x : Issues s m (with_fence m (Mark (record { 0 = n }))).kept = issues_fenced s m l claimed waiting b (Mark (record { 0 = n })) in
      let st : Stage = Took (Got (values m.kept n)) in
      record {
        chained = subst (Links (links m.cached) (links m.kept)) (sym (claimed_split n claimed waiting marked_now.1)) b.chained;
        marked = marked_now.0;
        content = drop_map (values m.kept) waiting ∙ ap (drop 1) b.content;
        head = in_left (m.cached Head) (0 ∷ claimed) (n ∷ []) b.head;
        head_to_tail = b.head_to_tail;
        kept_head = in_left (m.kept Head) (0 ∷ claimed) (n ∷ []) b.kept_head;
        kept_head_to_head = b.kept_head_to_head;
        kept_tail = b.kept_tail;
        linked_part = b.linked_part;
        message = b.message;
        issued_link = x.issued_link;
        issued_mark = x.issued_mark;
        flying_link = λ j h z.
            let f : IsLinking s l (values m.cached) (links m.cached j) = b.flying_link j h z in
            record {
              holds = f.holds;
              asks = f.asks;
              unmoved = upd_other l.stage (owner s (marks m.cached n)) (Took (Got (values m.kept n))) (owner s (links m.cached j))
                  (λ e. enq_or_deq (values m.cached (links m.cached j)) (sym claiming.asks ∙ ap (asked_call l) (sym e) ∙ f.asks)) ∙ f.unmoved;
            };
        flying_mark = λ j h z. absurd (marked_now.2 j h z);
        took_link = λ j h hd. still l (owner s (marks m.cached n)) Unmoved (Took (Got (values m.kept n))) l.queue claiming.unmoved (owner s (links m.kept j)) (Took Done) (λ q. cc) (b.took_link j h hd);
        took_mark = λ j h hd. elim (upd_cases (marks m.kept) n (marks m.cached n) j) [
          | inl t ↦ upd_at l.stage (owner s (marks m.cached n)) (Took (Got (values m.kept n))) (owner s (upd (marks m.kept) n (marks m.cached n) j)) (ap (owner s) t.1)
              ∙ ap (λ x. Took (Got (values m.kept x))) (sym t.0)
          | inr t ↦ subst (λ y. held_token l (owner s y) ≡ y → upd l.stage (owner s (marks m.cached n)) (Took (Got (values m.kept n))) (owner s y) ≡ Took (Got (values m.kept j))) (sym t.1)
              (λ hy. still l (owner s (marks m.cached n)) Unmoved (Took (Got (values m.kept n))) l.queue claiming.unmoved (owner s (marks m.kept j)) (Took (Got (values m.kept j))) (λ q. cc)
              (b.took_mark j (λ z. h (t.1 ∙ z)) hy)) hd
        ];
        lag = b.lag;
        one_claim = b.one_claim;
        one_mark = b.one_mark;
        empty = subst (λ k. Empties s (restaged l (owner s (marks m.cached n)) (Took (Got (values m.kept n))) (drop 1 l.queue)) (marks m.cached) (empties s m.cached) k) (sym (put_empties s m.kept p v (λ x. x)))
            (took_empties s l (marks m.cached) (empties s m.cached) (empties s m.kept) (owner s (marks m.cached n)) (Took (Got (values m.kept n))) (drop 1 l.queue) claiming.unmoved b.empty);
        kept_bump = b.kept_bump;
        no_bump = b.no_bump;
        announced = x.announced;
        announced_kept = x.announced_kept;
        blank = x.blank;
        blank_kept = x.blank_kept;
        absent = b.absent;
        absent_kept = put_absent s m.kept p v (b.absent p) b.absent_kept;
        fits = b.fits;
        fits_kept = put_fits s m.kept p v (b.fits p) b.fits_kept;
      }

  pub mark_kept : Kept s m l (with_fence m (Mark (record { 0 = n }))) (restaged l (owner s (marks m.cached n)) (Took (Got (values m.kept n))) (drop 1 l.queue))
  mark_kept = record {
    claimed = claimed ++ n ∷ [];
    waiting = drop 1 waiting;
    base = mark_base;
    grows = keep_grows s m l claimed waiting (Mark (record { 0 = n })) (restaged l (owner s (marks m.cached n)) (Took (Got (values m.kept n))) (drop 1 l.queue)) b (λ i. refl)
        (λ i loose silent. upd_other l.stage (owner s (marks m.cached n)) (Took (Got (values m.kept n))) i (λ e. loose.mark n (sym claiming.holds ∙ ap (held_token l) (sym e))));
  }
