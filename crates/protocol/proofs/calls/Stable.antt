-- What a call knows outlasts the acts of every other client.
use Rattle.std.proofs.Common.{◌≡◌, ◌≢◌, ℕ, zero, suc, ◌+◌, ◌≤◌, ◌⊎◌, inl, inr, Some, refl, sym, ◌∙◌, ap, subst}
use Rattle.std.specs.Prelude.{slice_get}
use Rattle.arena.specs.declared.place.Part.{Part}
use Rattle.arena.specs.declared.place.Part.TheVariants.{Length, First, Second, Third}
use Rattle.stepper.specs.Loading.{IsLoaded}
use Rattle.stepper.specs.declared.loading.Loading.{Loading}
use Rattle.stepper.specs.declared.loading.Loading.TheVariants.{Length as at_length, First as at_first}
use Rattle.stepper.specs.declared.loading.Loading.TheVariants.{Second as at_second, Third as at_third}
use Rattle.protocol.proofs.changes.Puts.{values_same}
use Rattle.words.specs.PlainQueue.{Value}
use Rattle.words.specs.declared.call.Call.{Call}
use Rattle.words.specs.declared.call.Call.TheVariants.{Enq, Deq}
use Rattle.words.specs.declared.call.Kind.{Kind}
use Rattle.words.specs.declared.call.Kind.TheVariants.{Durable, Log}
use Rattle.words.specs.declared.call.NodeId.{NodeId}
use Rattle.words.specs.declared.call.Token.{Token}
use Rattle.arena.specs.Answers.{empty_answer_of, result_of}
use Rattle.arena.specs.Chain.{LeadsTo}
use Rattle.arena.specs.Place.{number_of}
use Rattle.arena.specs.Shape.{Shape, owner}
use Rattle.arena.specs.Words.{links, marks, values, announcements, part_at, IsWritten}
use Rattle.arena.specs.declared.place.Write.{Write}
use Rattle.arena.specs.declared.place.Place.{Place}
use Rattle.arena.specs.declared.place.Place.TheVariants.{Head, Tail, Announcement, Bump, Item, Next, Mark, Cell, Insert}
use Rattle.arena.specs.declared.place.Place.TheVariants.{Number, EntryKind, Status, EntryNode}
use Rattle.stepper.specs.Preparation.{preparation_of, preparation_from, part_write, bump, announcement, write}
use Rattle.stepper.specs.declared.prepare.Begun.{Begun}
use Rattle.helping.specs.Claims.{winner}
use Rattle.helping.specs.Table.{token_of, node_of}
use Rattle.helping.specs.declared.dequeue.Claim.{Claim}
use Rattle.helping.specs.declared.dequeue.Claim.TheVariants.{Won, LostTo}
use Rattle.helping.specs.declared.op.Op.{Op}
use Rattle.helping.specs.declared.op.Op.TheVariants.{PrepareStore, PrepareFlush, PrepareFence, EnqueueLoadTail}
use Rattle.helping.specs.declared.op.Op.TheVariants.{EnqueueLoadNext, EnqueueCheckTail, EnqueueLink, EnqueueMoveTail}
use Rattle.helping.specs.declared.op.Op.TheVariants.{EnqueueHelpTail, DequeueLoadHead, DequeueLoadTail, DequeueLoadNext}
use Rattle.helping.specs.declared.op.Op.TheVariants.{DequeueCheckHead, DequeueStoreEmpty, DequeueHelpTail}
use Rattle.helping.specs.declared.op.Op.TheVariants.{DequeueLoadItem, DequeueClaim, DequeueStoreResult, DequeueMoveHead}
use Rattle.helping.specs.declared.op.Op.TheVariants.{Flush as FlushPoint, Fence as FencePoint}
use Rattle.helping.specs.declared.keeping.Keeping.{Keeping}
use Rattle.helping.specs.declared.keeping.Keeping.TheVariants.{Link as KeepLink, PassedLink as KeepPassedLink}
use Rattle.helping.specs.declared.keeping.Keeping.TheVariants.{Empty as KeepEmpty}
use Rattle.helping.specs.declared.keeping.Keeping.TheVariants.{DequeuePassedLink as KeepDequeuePassedLink}
use Rattle.helping.specs.declared.keeping.Keeping.TheVariants.{Claim as KeepClaim, Result as KeepResult}
use Rattle.protocol.specs.Machine.{Memory}
use Rattle.arena.proofs.Facts.{leads_trans}
use Rattle.protocol.proofs.chain.Chains.{leads_grows}
use Rattle.protocol.specs.invariants.Places.{IsOfRecord, IsOwnWord, IsAnswer, home, SaysEmpty}
use Rattle.protocol.specs.invariants.Ledger.{Ledger, asked_call}
use Rattle.protocol.specs.invariants.Knows.{Unstored, Mine, Loose, Before, Preparing, Prepared, Acting, Enqueuing}
use Rattle.protocol.specs.invariants.Knows.{Linked, Dequeuing, IsPassed, WasTail, Claims, Claimer, Claimed, Knows}
use Rattle.protocol.specs.invariants.Knows.{KnowsKeeping}
use Rattle.protocol.specs.invariants.Grows.{Grows}

-- where an empty answer is written
pub empty_own : (kind : Kind) (t : Token) → IsOwnWord (empty_answer_of kind t).place
empty_own Durable t = tt
empty_own Log t = tt

pub empty_home : (s : Shape) (kind : Kind) (t : Token) → home s (empty_answer_of kind t).place ≡ owner s t.0
empty_home s Durable t = refl
empty_home s Log t = refl

pub empty_number : (kind : Kind) (t : Token) → number_of (empty_answer_of kind t).place ≡ t.0
empty_number Durable t = refl
empty_number Log t = refl

pub result_own : (kind : Kind) (t : Token) (n : NodeId) → IsOwnWord (result_of kind t n).place
result_own Durable t n = tt
result_own Log t n = tt

-- a word of a record belongs to the record's client
home_of_record : (s : Shape) (p : Place) → IsOfRecord p → home s p ≡ owner s (number_of p)
home_of_record s Head r = absurd r
home_of_record s Tail r = absurd r
home_of_record s (Announcement t) r = absurd r
home_of_record s (Bump t) r = absurd r
home_of_record s (Item n part) r = refl
home_of_record s (Next n) r = refl
home_of_record s (Mark n) r = refl
home_of_record s (Cell c) r = refl
home_of_record s (Insert n) r = refl
home_of_record s (Number e) r = refl
home_of_record s (EntryKind e) r = refl
home_of_record s (Status e) r = refl
home_of_record s (EntryNode e) r = refl

-- a word that a preparation writes is the client's own
pub record IsOwnWrite (s : Shape) (b : Begun) (w : Write) : Type 0 where
  pub own : IsOwnWord w.place
  pub whose : home s w.place ≡ b.client.0
  pub answer : IsAnswer w.place → (b.call ≢ Deq) × (number_of w.place ≡ b.token.0)

plain_write : (s : Shape) (b : Begun) (w : Write) → IsOwnWord w.place → home s w.place ≡ b.client.0 → (IsAnswer w.place → ⊥) → IsOwnWrite s b w
plain_write s b w own whose none = record { own = own; whose = whose; answer = λ a. absurd (none a) }

own_from : (s : Shape) (b : Begun) (kind : Kind) (call : Call) (j : ℕ) (w : Write) → b.call ≡ call → owner s b.token.0 ≡ b.client.0 → slice_get (preparation_from kind call b) j ≡ Some w → IsOwnWrite s b w
own_from s b Durable (Enq v) zero w c o e = let same : bump b ≡ w = cc in subst (IsOwnWrite s b) same (plain_write s b (bump b) tt refl (λ x. x))
own_from s b Durable (Enq v) (suc zero) w c o e = let same : part_write b v Length ≡ w = cc in subst (IsOwnWrite s b) same (plain_write s b (part_write b v Length) tt o (λ x. x))
own_from s b Durable (Enq v) (suc (suc zero)) w c o e = let same : part_write b v First ≡ w = cc in subst (IsOwnWrite s b) same (plain_write s b (part_write b v First) tt o (λ x. x))
own_from s b Durable (Enq v) (suc (suc (suc zero))) w c o e = let same : part_write b v Second ≡ w = cc in subst (IsOwnWrite s b) same (plain_write s b (part_write b v Second) tt o (λ x. x))
own_from s b Durable (Enq v) (suc (suc (suc (suc zero)))) w c o e = let same : part_write b v Third ≡ w = cc in subst (IsOwnWrite s b) same (plain_write s b (part_write b v Third) tt o (λ x. x))
own_from s b Durable (Enq v) (suc (suc (suc (suc (suc j))))) w c o e = absurd (cc)
own_from s b Durable Deq zero w c o e = let same : bump b ≡ w = cc in subst (IsOwnWrite s b) same (plain_write s b (bump b) tt refl (λ x. x))
own_from s b Durable Deq (suc zero) w c o e = let same : announcement b ≡ w = cc in subst (IsOwnWrite s b) same (plain_write s b (announcement b) tt refl (λ x. x))
own_from s b Durable Deq (suc (suc j)) w c o e = absurd (cc)
own_from s b Log (Enq v) zero w c o e = let same : bump b ≡ w = cc in subst (IsOwnWrite s b) same (plain_write s b (bump b) tt refl (λ x. x))
own_from s b Log (Enq v) (suc zero) w c o e = let same : write (Number b.token) b.number ≡ w = cc in subst (IsOwnWrite s b) same (plain_write s b (write (Number b.token) b.number) tt o (λ x. x))
own_from s b Log (Enq v) (suc (suc zero)) w c o e = let same : write (EntryKind b.token) 1 ≡ w = cc in subst (IsOwnWrite s b) same (plain_write s b (write (EntryKind b.token) 1) tt o (λ x. x))
own_from s b Log (Enq v) (suc (suc (suc zero))) w c o e = let same : write (EntryNode b.token) b.token.0 ≡ w = cc in subst (IsOwnWrite s b) same (record { own = tt; whose = o; answer = λ a. (λ d. cc, refl) })
own_from s b Log (Enq v) (suc (suc (suc (suc zero)))) w c o e = let same : part_write b v Length ≡ w = cc in subst (IsOwnWrite s b) same (plain_write s b (part_write b v Length) tt o (λ x. x))
own_from s b Log (Enq v) (suc (suc (suc (suc (suc zero))))) w c o e = let same : part_write b v First ≡ w = cc in subst (IsOwnWrite s b) same (plain_write s b (part_write b v First) tt o (λ x. x))
own_from s b Log (Enq v) (suc (suc (suc (suc (suc (suc zero)))))) w c o e = let same : part_write b v Second ≡ w = cc in subst (IsOwnWrite s b) same (plain_write s b (part_write b v Second) tt o (λ x. x))
own_from s b Log (Enq v) (suc (suc (suc (suc (suc (suc (suc zero))))))) w c o e = let same : part_write b v Third ≡ w = cc in subst (IsOwnWrite s b) same (plain_write s b (part_write b v Third) tt o (λ x. x))
own_from s b Log (Enq v) (suc (suc (suc (suc (suc (suc (suc (suc zero)))))))) w c o e = let same : write (Insert (record { 0 = b.token.0 })) b.token.0 ≡ w = cc in subst (IsOwnWrite s b) same (plain_write s b (write (Insert (record { 0 = b.token.0 })) b.token.0) tt o (λ x. x))
own_from s b Log (Enq v) (suc (suc (suc (suc (suc (suc (suc (suc (suc zero))))))))) w c o e = let same : announcement b ≡ w = cc in subst (IsOwnWrite s b) same (plain_write s b (announcement b) tt refl (λ x. x))
own_from s b Log (Enq v) (suc (suc (suc (suc (suc (suc (suc (suc (suc (suc j)))))))))) w c o e = absurd (cc)
own_from s b Log Deq zero w c o e = let same : bump b ≡ w = cc in subst (IsOwnWrite s b) same (plain_write s b (bump b) tt refl (λ x. x))
own_from s b Log Deq (suc zero) w c o e = let same : write (Number b.token) b.number ≡ w = cc in subst (IsOwnWrite s b) same (plain_write s b (write (Number b.token) b.number) tt o (λ x. x))
own_from s b Log Deq (suc (suc zero)) w c o e = let same : write (EntryKind b.token) 2 ≡ w = cc in subst (IsOwnWrite s b) same (plain_write s b (write (EntryKind b.token) 2) tt o (λ x. x))
own_from s b Log Deq (suc (suc (suc zero))) w c o e = let same : announcement b ≡ w = cc in subst (IsOwnWrite s b) same (plain_write s b (announcement b) tt refl (λ x. x))
own_from s b Log Deq (suc (suc (suc (suc j)))) w c o e = absurd (cc)

pub own_write : (s : Shape) (b : Begun) (j : ℕ) (w : Write) → owner s b.token.0 ≡ b.client.0 → slice_get (preparation_of s.kind b) j ≡ Some w → IsOwnWrite s b w
own_write s b j w o e = own_from s b s.kind b.call j w refl o e

module _ (a i : ℕ) (s : Shape) (m : Memory) (l : Ledger) (n : Memory) (k : Ledger) (ne : i ≢ a) (g : Grows a s m l n k) where
  mine_stable : (c : ℕ) → Mine s l i c → Mine s k i c
  mine_stable c h = record { some = h.some; holds = ap (λ b. b.token.0) (g.begun i ne) ∙ h.holds; own = h.own }

  asks_stable : (c : Call) → asked_call l i ≡ c → asked_call k i ≡ c
  asks_stable c h = ap (λ b. b.call) (g.begun i ne) ∙ h

  unmarked_stable : (c : ℕ) → owner s c ≡ i → ((x : ℕ) → marks m.cached x ≢ c) → (x : ℕ) → marks n.cached x ≢ c
  unmarked_stable c own h x e = elim (g.new_mark x) [ inl t ↦ h x (sym t ∙ e) | inr t ↦ ne (sym own ∙ ap (owner s) (sym e) ∙ t) ]

  loose_stable : (c : ℕ) → owner s c ≡ i → Loose m c → Loose n c
  loose_stable c own h = record {
    link = λ x e. elim (g.new_link x) [ inl t ↦ h.link x (sym t ∙ e) | inr t ↦ ne (sym own ∙ ap (owner s) (sym e) ∙ t) ];
    mark = unmarked_stable c own h.mark;
  }

  same_empty : (c : ℕ) → owner s c ≡ i → ((x : ℕ) → marks m.cached x ≢ c) → n.cached (empty_answer_of s.kind (token_of c)).place ≡ m.cached (empty_answer_of s.kind (token_of c)).place
  same_empty c own h = g.at_own (empty_answer_of s.kind (token_of c)).place (empty_own s.kind (token_of c)) (λ e. ne (sym own ∙ sym (empty_home s s.kind (token_of c)) ∙ e)) (λ r x e. h x (e ∙ empty_number s.kind (token_of c)))

  stage_stable : (c : ℕ) → Before s m l i c → k.stage i ≡ l.stage i
  stage_stable c h = g.stage i ne (subst (Loose m) (sym h.mine.holds) h.loose) (λ e. h.silent (subst (SaysEmpty s m.cached) h.mine.holds e))

  before_stable : (c : ℕ) → Before s m l i c → Before s n k i c
  before_stable c h = record {
    mine = mine_stable c h.mine;
    loose = loose_stable c h.mine.own h.loose;
    silent = λ e. h.silent (sym (same_empty c h.mine.own h.loose.mark) ∙ e);
    untaken = λ r e. h.untaken r (sym (stage_stable c h) ∙ e);
  }

  -- a word of one's own that stands is kept as it is
  own_stands : (p : Place) (v : ℕ) → IsOwnWord p → home s p ≡ i → (IsAnswer p → (x : ℕ) → marks m.cached x ≢ number_of p) → (m.cached p ≡ v) × (m.kept p ≡ v) → (n.cached p ≡ v) × (n.kept p ≡ v)
  own_stands p v own whose free h = (
    g.at_own p own (λ e. ne (sym whose ∙ e)) free ∙ h.0,
    elim (g.at_kept_own p own) [ inl t ↦ t ∙ h.1 | inr t ↦ t ∙ h.0 ],
  )

  write_stands : (b : Begun) (j : ℕ) (w : Write) → b.client.0 ≡ i → owner s b.token.0 ≡ i → ((b.call ≡ Deq) ⊎ ((x : ℕ) → marks m.cached x ≢ b.token.0)) → slice_get (preparation_of s.kind b) j ≡ Some w
      → IsWritten m.cached w × IsWritten m.kept w → IsWritten n.cached w × IsWritten n.kept w
  write_stands b j w client own free e h =
      let o : IsOwnWrite s b w = own_write s b j w (own ∙ sym client) e in
      own_stands w.place w.value o.own (o.whose ∙ client)
      (λ r x q. elim free [ inl d ↦ (o.answer r).0 d | inr f ↦ f x (q ∙ (o.answer r).1) ]) h

  prepared_stable : (b : Begun) → b.client.0 ≡ i → owner s b.token.0 ≡ i → ((b.call ≡ Deq) ⊎ ((x : ℕ) → marks m.cached x ≢ b.token.0)) → Prepared s m b → Prepared s n b
  prepared_stable b client own free h = record { begun = h.begun; written = λ j w e. write_stands b j w client own free e (h.written j w e) }

  acting_stable : (c : ℕ) → ((asked_call l i ≡ Deq) ⊎ ((x : ℕ) → marks m.cached x ≢ c)) → Acting s m l i c → Acting s n k i c
  acting_stable c free h = record {
    mine = mine_stable c h.mine;
    prepared = subst (Prepared s n) (sym (g.begun i ne)) (prepared_stable (l.begun i) h.client (ap (owner s) h.mine.holds ∙ h.mine.own)
        (elim free [ inl d ↦ inl d | inr f ↦ inr (λ x e. f x (e ∙ h.mine.holds)) ]) h.prepared);
    client = ap (λ b. b.client.0) (g.begun i ne) ∙ h.client;
  }

  preparing_stable : (b : Begun) (index : ℕ) (w : Write) → Preparing s m l i b index w → Preparing s n k i b index w
  preparing_stable b index w h = record {
    before = before_stable b.token.0 h.before;
    unmoved = stage_stable b.token.0 h.before ∙ h.unmoved;
    begun = g.begun i ne ∙ h.begun;
    own = h.own;
    in_hand = h.in_hand;
    so_far = record {
      begun = h.so_far.begun;
      numbered = h.so_far.numbered;
      written = λ j v q e. write_stands b j v h.own h.before.mine.own (inr h.before.loose.mark) e (h.so_far.written j v q e);
    };
    bump = subst (λ x. x ≤ b.used + 1) (sym (g.at_own (Bump (record { 0 = i })) tt ne (λ r. absurd r))) h.bump;
    rest = λ p own of named none.
        own_stands p 0 own (home_of_record s p of ∙ ap (owner s) named ∙ h.before.mine.own) (λ r x e. h.before.loose.mark x (e ∙ named)) (h.rest p own of named none);
    unannounced = λ none.
        let old : (announcements m.cached i ≢ b.token.0) × (announcements m.kept i ≢ b.token.0) = h.unannounced none in
        let cached : announcements n.cached i ≡ announcements m.cached i = g.at_own (Announcement (record { 0 = i })) tt ne (λ r. absurd r) in (
          λ e. old.0 (sym cached ∙ e),
          λ e. elim (g.at_kept_own (Announcement (record { 0 = i })) tt) [ inl t ↦ old.1 (sym t ∙ e) | inr t ↦ old.0 (sym t ∙ e) ],
        );
  }

  unstored_stable : (b : Begun) (index : ℕ) (w : Write) → Preparing s m l i b index w → Unstored m w → Unstored n w
  unstored_stable b index w h fresh x part e =
      let o : IsOwnWrite s b w = own_write s b index w (h.before.mine.own ∙ sym h.own) h.in_hand in
      own_stands w.place 0 o.own (o.whose ∙ h.own) (λ r y q. h.before.loose.mark y (q ∙ (o.answer r).1)) (fresh x part e)

  in_hand_stable : (b : Begun) (index : ℕ) (w : Write) → Preparing s m l i b index w → IsWritten m.cached w → IsWritten n.cached w
  in_hand_stable b index w h e =
      let o : IsOwnWrite s b w = own_write s b index w (h.before.mine.own ∙ sym h.own) h.in_hand in
      g.at_own w.place o.own (λ q. ne (sym h.own ∙ sym o.whose ∙ q)) (λ r x q. h.before.loose.mark x (q ∙ (o.answer r).1)) ∙ e

  same_part : (c : ℕ) (part : Part) → owner s c ≡ i → part_at n.cached c part ≡ part_at m.cached c part
  same_part c part own = g.at_own (Item (record { 0 = c }) part) tt (λ e. ne (sym own ∙ e)) (λ r. absurd r)

  same_value : (c : ℕ) → owner s c ≡ i → values n.cached c ≡ values m.cached c
  same_value c own = values_same n.cached m.cached c (λ part. same_part c part own)

  enqueuing_stable : (c : ℕ) → Enqueuing s m l i c → Enqueuing s n k i c
  enqueuing_stable c h = record {
    before = before_stable c h.before;
    acting = acting_stable c (inr h.before.loose.mark) h.acting;
    unmoved = stage_stable c h.before ∙ h.unmoved;
    asks = asks_stable (asked_call l i) refl ∙ h.asks ∙ ap Enq (sym (same_value c h.before.mine.own));
    kept = λ part. elim (g.at_kept_own (Item (record { 0 = c }) part) tt) [ inl t ↦ t ∙ h.kept part | inr t ↦ t ] ∙ sym (same_part c part h.before.mine.own);
  }

  linked_stable : (c : ℕ) → Linked s m l i c → Linked s n k i c
  linked_stable c h = record {
    acting = acting_stable c (inr h.unmarked) h.acting;
    unmarked = unmarked_stable c h.acting.mine.own h.unmarked;
    asks = asks_stable (asked_call l i) refl ∙ h.asks ∙ ap Enq (sym (same_value c h.acting.mine.own));
  }

  dequeuing_stable : (c : ℕ) → Dequeuing s m l i c → Dequeuing s n k i c
  dequeuing_stable c h = record {
    before = before_stable c h.before;
    acting = acting_stable c (inl h.asks) h.acting;
    asks = asks_stable Deq h.asks;
  }

  passed_stable : (x : ℕ) → IsPassed m x → IsPassed n x
  passed_stable x h = elim h [ inl z ↦ inl z | inr t ↦ inr (λ z. t (sym (g.at_kept_mark x t) ∙ z)) ]

  leads_stable : (y x : ℕ) → LeadsTo (links m.kept) y x → LeadsTo (links n.kept) y x
  leads_stable y x h = leads_grows (links m.kept) (links n.kept) y x g.at_kept_link h

  -- a way to the tail leads to the later tail
  tail_stable : (x : ℕ) → LeadsTo (links m.kept) (m.cached Tail) x → LeadsTo (links n.kept) (n.cached Tail) x
  tail_stable x h = leads_trans (links n.kept) (m.cached Tail) (n.cached Tail) x (leads_stable (m.cached Tail) x h) g.tail

  -- and so of the head
  head_stable : (x : ℕ) → LeadsTo (links m.kept) (m.cached Head) x → LeadsTo (links n.kept) (n.cached Head) x
  head_stable x h = leads_trans (links n.kept) (m.cached Head) (n.cached Head) x (leads_stable (m.cached Head) x h) g.head

  was_tail_stable : (x : ℕ) → WasTail m x → WasTail n x
  was_tail_stable x h = record { chain = leads_stable x 0 h.chain; tail = tail_stable x h.tail }

  link_stable : (x y : ℕ) → y ≢ 0 → links m.cached x ≡ y → links n.cached x ≡ y
  link_stable x y some e = g.at_link x (λ z. some (sym e ∙ z)) ∙ e

  kept_link_stable : (x y : ℕ) → y ≢ 0 → links m.kept x ≡ y → links n.kept x ≡ y
  kept_link_stable x y some e = g.at_kept_link x (λ z. some (sym e ∙ z)) ∙ e

  claims_stable : (x y : ℕ) → Claims m x y → Claims n x y
  claims_stable x y h = record {
    passed = passed_stable x h.passed;
    head = head_stable x h.head;
    link = kept_link_stable x y h.some h.link;
    some = h.some;
    tail = tail_stable y h.tail;
  }

  part_stable : (x y : ℕ) (part : Part) → Claims m x y → part_at n.kept y part ≡ part_at m.kept y part
  part_stable x y part h = subst (λ z. part_at n.kept z part ≡ part_at m.kept z part) h.link (g.at_linked x part (λ z. h.some (sym h.link ∙ z)))

  value_stable : (x y : ℕ) (v : Value) → Claims m x y → values m.kept y ≡ v → values n.kept y ≡ v
  value_stable x y v h e = values_same n.kept m.kept y (λ part. part_stable x y part h) ∙ e

  loaded_stable : (x y : ℕ) (loading : Loading) → Claims m x y → IsLoaded m.kept y loading → IsLoaded n.kept y loading
  loaded_stable x y at_length h e = e
  loaded_stable x y (at_first len) h e = part_stable x y Length h ∙ e
  loaded_stable x y (at_second len first) h e = (part_stable x y Length h ∙ e.0, part_stable x y First h ∙ e.1)
  loaded_stable x y (at_third len first second) h e = (part_stable x y Length h ∙ e.0, part_stable x y First h ∙ e.1, part_stable x y Second h ∙ e.2)

  claimer_stable : (token : Token) (claim : Claim) → Claimer s m l i token claim → Claimer s n k i token claim
  claimer_stable token Won h = (acting_stable token.0 (inl h.1) h.0, asks_stable Deq h.1)
  claimer_stable token (LostTo other) h = (dequeuing_stable token.0 h.0, stage_stable token.0 h.0.before ∙ h.1, h.2)

  claimed_stable : (x y : ℕ) (v : Value) (found : ℕ) → Claimed m x y v found → Claimed n x y v found
  claimed_stable x y v found h = record {
    claims = claims_stable x y h.claims;
    value = value_stable x y v h.claims h.value;
    marked = g.at_kept_mark y (λ z. h.some (sym h.marked ∙ z)) ∙ h.marked;
    some = h.some;
  }

  result_stable : (x y : ℕ) (v : Value) (token : Token) → Claimed m x y v token.0 → IsWritten m.cached (result_of s.kind token (node_of y)) → IsWritten n.cached (result_of s.kind token (node_of y))
  result_stable x y v token h =
      subst (λ t. IsWritten m.cached (result_of s.kind (token_of t) (node_of y)) → IsWritten n.cached (result_of s.kind (token_of t) (node_of y))) h.marked
      (g.at_result y (λ z. h.some (sym h.marked ∙ z)))

  keeping_stable : (q : Keeping) → KnowsKeeping s m l i q → KnowsKeeping s n k i q
  keeping_stable (KeepLink p) h = (linked_stable p.node.0 h.0, link_stable p.last.0 p.node.0 h.0.acting.mine.some h.1)
  keeping_stable (KeepPassedLink p) h = (enqueuing_stable p.node.0 h.0, h.1, link_stable p.last.0 p.next.0 h.1 h.2)
  keeping_stable (KeepEmpty p) h = (
    acting_stable p.token.0 (inl h.1) h.0,
    asks_stable Deq h.1,
    loose_stable p.token.0 h.0.mine.own h.2,
    same_empty p.token.0 h.0.mine.own h.2.mark ∙ h.3,
  )
  keeping_stable (KeepDequeuePassedLink p) h = (dequeuing_stable p.token.0 h.0, h.1, link_stable p.last.0 p.next.0 h.1 h.2)
  keeping_stable (KeepClaim p) h = (
    claimer_stable p.claimed.token p.claimed.claim h.0,
    claims_stable p.claimed.first.0 p.claimed.next.0 h.1,
    value_stable p.claimed.first.0 p.claimed.next.0 p.claimed.value h.1 h.2,
    g.at_mark p.claimed.next.0 (λ z. h.4 (sym h.3 ∙ z)) ∙ h.3,
    h.4,
  )
  keeping_stable (KeepResult p) h = (
    claimer_stable p.claimed.token p.claimed.claim h.0,
    claimed_stable p.claimed.first.0 p.claimed.next.0 p.claimed.value (winner p.claimed.claim p.claimed.token).0 h.1,
    result_stable p.claimed.first.0 p.claimed.next.0 p.claimed.value (winner p.claimed.claim p.claimed.token) h.1 h.2,
  )

  pub stable : (op : Op) → Knows s m l i op → Knows s n k i op
  stable (PrepareStore p) h = (preparing_stable p.begun p.index p.write h.0, unstored_stable p.begun p.index p.write h.0 h.1)
  stable (PrepareFence p) h = (preparing_stable p.begun p.index p.write h.0, in_hand_stable p.begun p.index p.write h.0 h.1)
  stable (PrepareFlush p) h = (preparing_stable p.begun p.index p.write h.0, in_hand_stable p.begun p.index p.write h.0 h.1)
  stable (EnqueueLoadTail p) h = enqueuing_stable p.node.0 h
  stable (EnqueueLoadNext p) h = (enqueuing_stable p.node.0 h.0, was_tail_stable p.last.0 h.1)
  stable (EnqueueCheckTail p) h = (enqueuing_stable p.node.0 h.0, was_tail_stable p.last.0 h.1, λ z. link_stable p.last.0 p.next.0 z (h.2 z))
  stable (EnqueueLink p) h = (enqueuing_stable p.node.0 h.0, was_tail_stable p.last.0 h.1)
  stable (EnqueueMoveTail p) h = (linked_stable p.node.0 h.0, kept_link_stable p.last.0 p.node.0 h.0.acting.mine.some h.1)
  stable (EnqueueHelpTail p) h = (enqueuing_stable p.node.0 h.0, h.1, kept_link_stable p.last.0 p.next.0 h.1 h.2)
  stable (DequeueLoadHead p) h = dequeuing_stable p.token.0 h
  stable (DequeueLoadTail p) h = (dequeuing_stable p.token.0 h.0, passed_stable p.first.0 h.1, tail_stable p.first.0 h.2)
  stable (DequeueLoadNext p) h = (dequeuing_stable p.token.0 h.0, passed_stable p.first.0 h.1, leads_stable p.last.0 p.first.0 h.2, tail_stable p.last.0 h.3)
  stable (DequeueCheckHead p) h = (
    dequeuing_stable p.token.0 h.0,
    passed_stable p.first.0 h.1,
    leads_stable p.last.0 p.first.0 h.2,
    tail_stable p.last.0 h.3,
    λ z. (link_stable p.first.0 p.next.0 z (h.4 z).0, stage_stable p.token.0 h.0.before ∙ (h.4 z).1),
    λ z. stage_stable p.token.0 h.0.before ∙ h.5 z,
    h.6,
  )
  stable (DequeueStoreEmpty p) h = (dequeuing_stable p.token.0 h.0, stage_stable p.token.0 h.0.before ∙ h.1)
  stable (DequeueHelpTail p) h = (dequeuing_stable p.token.0 h.0, h.1, kept_link_stable p.last.0 p.next.0 h.1 h.2)
  stable (DequeueLoadItem p) h = (
    dequeuing_stable p.token.0 h.0,
    stage_stable p.token.0 h.0.before ∙ h.1,
    claims_stable p.first.0 p.next.0 h.2,
    loaded_stable p.first.0 p.next.0 p.loading h.2 h.3,
  )
  stable (DequeueClaim p) h = (
    dequeuing_stable p.token.0 h.0,
    stage_stable p.token.0 h.0.before ∙ h.1,
    claims_stable p.first.0 p.next.0 h.2,
    value_stable p.first.0 p.next.0 p.value h.2 h.3,
  )
  stable (DequeueStoreResult p) h = (claimer_stable p.claimed.token p.claimed.claim h.0, claimed_stable p.claimed.first.0 p.claimed.next.0 p.claimed.value (winner p.claimed.claim p.claimed.token).0 h.1)
  stable (DequeueMoveHead p) h =
      let now : IsWritten n.cached (result_of s.kind (winner p.claimed.claim p.claimed.token) p.claimed.next) = result_stable p.claimed.first.0 p.claimed.next.0 p.claimed.value (winner p.claimed.claim p.claimed.token) h.1 h.2 in (
        claimer_stable p.claimed.token p.claimed.claim h.0,
        claimed_stable p.claimed.first.0 p.claimed.next.0 p.claimed.value (winner p.claimed.claim p.claimed.token).0 h.1,
        now,
        elim (g.at_kept_own (result_of s.kind (winner p.claimed.claim p.claimed.token) p.claimed.next).place (result_own s.kind (winner p.claimed.claim p.claimed.token) p.claimed.next)) [ inl t ↦ t ∙ h.3 | inr t ↦ t ∙ h.2 ],
      )
  stable (FlushPoint q) h = keeping_stable q h
  stable (FencePoint q) h = keeping_stable q h
