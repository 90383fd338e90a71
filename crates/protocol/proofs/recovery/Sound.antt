-- A crash leaves sound words, and the words of a finished recovery are those of a ready queue.
use Rattle.std.proofs.Common.{◌≡◌, ◌≢◌, ℕ, ◌≤◌, inl, inr, List, ◌∷◌, ◌++◌, refl, sym, ◌∙◌, ap, subst, arith}
use Rattle.std.proofs.lemmas.Bool.{cases_eq}
use Rattle.words.specs.PlainQueue.{Value}
use Rattle.arena.specs.Chain.{IsAmong, LeadsTo}
use Rattle.arena.specs.Chain.LeadsTo.{there}
use Rattle.arena.specs.Shape.{Shape}
use Rattle.arena.specs.Words.{links, marks, bumps, announcements, entry_nodes}
use Rattle.arena.specs.declared.place.Place.{Place}
use Rattle.arena.specs.declared.place.Place.TheVariants.{Head, Tail, Insert, Number, EntryKind, Status, EntryNode}
use Rattle.helping.specs.Table.{token_of, node_of}
use Rattle.protocol.proofs.changes.Puts.{kept_item}
use Rattle.protocol.specs.Machine.{Memory}
use Rattle.sound_words.specs.Sound.{IsIssued}
use Rattle.protocol.specs.Recovered.{end_of}
use Rattle.protocol.proofs.chain.Chains.{in_end_of, after_end, leads_end, end_is_last}
use Rattle.protocol.specs.invariants.Links.{Marks}
use Rattle.protocol.specs.invariants.Ledger.{Ledger}
use Rattle.protocol.specs.invariants.Base.{Base}
use Rattle.protocol.specs.invariants.Places.{SaysEmpty}
use Rattle.protocol.specs.invariants.Ledger.Stage.{Unmoved, Took}
use Rattle.protocol.specs.invariants.Records.{Both, answer, AnsweredTo, IsEnqueued, StatusRight, NodeRight, IsEntry, Records}
use Rattle.protocol.specs.invariants.Sound.{memory_at_rest, idle_ledger, Sound}

both_still : (m : Memory) (p : Place) (v : ℕ) → Both m p v → Both (memory_at_rest m.kept) p v
both_still m p v h = (h.1, h.1)

entry_still : (m : Memory) (e : ℕ) → IsEntry m e → IsEntry (memory_at_rest m.kept) e
entry_still m e h = record {
  number = h.number;
  some = h.some;
  in_range = h.in_range;
  numbered = both_still m (Number (token_of e)) h.number h.numbered;
  kind = elim h.kind [
    | inl q ↦ inl (both_still m (EntryKind (token_of e)) 1 q.0, both_still m (EntryNode (token_of e)) e q.1)
    | inr q ↦ inr (both_still m (EntryKind (token_of e)) 2 q)
  ];
}

-- a crash leaves the words of records as they are kept
records_still : (s : Shape) (m : Memory) (l : Ledger) (claimed waiting : List ℕ) → Base s m l claimed waiting → Records s m l → (queue : List Value) → Records s (memory_at_rest m.kept) (idle_ledger queue)
records_still s m l claimed waiting b r queue =
    let head : AnsweredTo s (memory_at_rest m.kept) (m.kept Head) = record {
      passed = r.to_kept_head.passed;
      path = r.to_kept_head.path;
      at = r.to_kept_head.at;
      claimed = r.to_kept_head.claimed;
      answered = λ n i. both_still m (answer s m n).place (answer s m n).value (r.to_kept_head.answered n i);
    } in
    let node : (c : ℕ) → NodeRight (memory_at_rest m.kept) c (entry_nodes m.kept c) = λ c kind some. r.node_kept c (inr (elim kind [ inl e ↦ e | inr e ↦ e ])) some in
    let status : (c : ℕ) → StatusRight (memory_at_rest m.kept) c (m.kept (Status (token_of c))) = λ c. record {
      taken = (r.status_kept c).taken;
      empty = λ e. both_still m (EntryKind (token_of c)) 2 ((r.status_kept c).empty e);
    } in
    record {
      to_head = head;
      to_kept_head = head;
      cell = r.cell_kept;
      cell_kept = r.cell_kept;
      node = node;
      node_kept = node;
      enqueued = λ k n some.
          let same : links m.cached n ≡ links m.kept n = b.chained.kept n some in
          let q : IsEnqueued m (links m.kept n) = subst (IsEnqueued m) same (r.enqueued k n (λ z. some (sym same ∙ z))) in
          record { insert = both_still m (Insert (node_of (links m.kept n))) (links m.kept n) q.insert; kind = both_still m (EntryKind (token_of (links m.kept n))) 1 q.kind };
      dequeued = λ k n some.
          let same : marks m.cached n ≡ marks m.kept n = b.marked.kept n some in
          both_still m (EntryKind (token_of (marks m.kept n))) 2 (subst (λ c. Both m (EntryKind (token_of c)) 2) same (r.dequeued k n (λ z. some (sym same ∙ z))));
      status = status;
      status_kept = status;
      entry = λ k t some. entry_still m (announcements m.kept t) (r.entry_kept k t some);
      entry_kept = λ k t some. entry_still m (announcements m.kept t) (r.entry_kept k t some);
      took = λ i reply e. let wrong : Unmoved ≡ Took reply = e in absurd (cc);
      announcing = λ i h. absurd (h refl);
    }

-- a crash leaves sound words
pub crash_sound : (s : Shape) (m : Memory) (l : Ledger) (claimed waiting : List ℕ) → Base s m l claimed waiting → Records s m l → Sound s m.kept claimed waiting l.queue
crash_sound s m l claimed waiting b r = record {
  chain = b.chained.chain;
  on_chain = λ n some. b.chained.on n (λ z. some (sym (b.chained.kept n some) ∙ z));
  back = b.marked.back;
  on = b.marked.on;
  content = b.content;
  item = λ n. kept_item m n (b.message n);
  tail = b.kept_tail;
  issued_link = λ n some. subst (IsIssued s m.kept) (b.chained.kept n some) (b.issued_link n (λ z. some (sym (b.chained.kept n some) ∙ z)));
  issued_mark = λ n some. subst (IsIssued s m.kept) (b.marked.kept n some) (b.issued_mark n (λ z. some (sym (b.marked.kept n some) ∙ z)));
  one_mark = λ n j some e.
      let other : marks m.kept j ≢ 0 = λ z. some (e ∙ z) in
      b.one_mark n j (λ z. some (sym (b.marked.kept n some) ∙ z)) (b.marked.kept n some ∙ e ∙ sym (b.marked.kept j other));
  silent = λ n some says.
      b.empty.unmarked n (λ z. some (sym (b.marked.kept n some) ∙ z)) (subst (SaysEmpty s m.cached) (sym (b.marked.kept n some)) (b.empty.said (marks m.kept n) says));
  no_bump = λ t h. le_zero (bumps m.kept t) (bumps m.cached t) (b.kept_bump t) (b.no_bump t h);
  announced = b.announced_kept;
  blank = b.blank_kept;
  absent = b.absent_kept;
  fits = b.fits_kept;
  records = records_still s m l claimed waiting b r;
}
  where
    le_zero : (x y : ℕ) → x ≤ y → y ≡ 0 → x ≡ 0
    le_zero x y h e = omega (arith, h, e)

-- sound words with the right head and the right tail are those of a ready queue
pub wake_base : (s : Shape) (k : Place → ℕ) (claimed waiting : List ℕ) (queue : List Value) → Sound s k claimed waiting queue → k Head ≡ end_of 0 claimed → k Tail ≡ end_of 0 (claimed ++ waiting) → Base s (memory_at_rest k) (idle_ledger queue) claimed waiting
wake_base s k claimed waiting queue b head tail =
    let marked : Marks (marks k) (marks k) claimed waiting = record { kept = λ n h. refl; back = b.back; on = b.on; ahead = λ n h z. absurd (h z) } in
    let among : IsAmong (k Head) (0 ∷ claimed) = subst (λ x. IsAmong x (0 ∷ claimed)) (sym head) (in_end_of 0 claimed) in
    let ended : links k (k Tail) ≡ 0 = ap (links k) tail ∙ end_is_last (links k) 0 (claimed ++ waiting) b.chain in
    let unmarked : links k (k Head) ≢ 0 → marks k (links k (k Head)) ≡ 0 = λ some. behind_end (links k (k Head)) (λ i.
    past_end (subst (λ x. IsAmong (links k x) claimed) head i)) in
    record {
      chained = record { chain = b.chain; kept = λ n h. refl; on = b.on_chain; ahead = λ n h z. absurd (h z) };
      marked = marked;
      content = b.content;
      head = among;
      head_to_tail = subst (λ x. LeadsTo (links k) (k Tail) x) (sym head) (subst (λ x. LeadsTo (links k) x (end_of 0 claimed)) (sym tail) (leads_end (links k) 0 claimed waiting b.chain));
      kept_head = among;
      kept_head_to_head = there;
      kept_tail = b.tail;
      linked_part = λ n part h. refl;
      message = λ n. record { item = b.item n; stays = λ part. inl refl; sized = λ part word some. refl };
      issued_link = b.issued_link;
      issued_mark = b.issued_mark;
      flying_link = λ n h z. absurd (h z);
      flying_mark = λ n h z. absurd (h z);
      took_link = λ n h e. absurd (h (sym e));
      took_mark = λ n h e. absurd (h (sym e));
      lag = λ some. absurd (some ended);
      one_claim = λ some marked more. absurd (marked (unmarked some));
      one_mark = b.one_mark;
      empty = record {
        flying = λ c h z. absurd (z h);
        took = λ c h some e. absurd (some (sym e));
        unmarked = b.silent;
        said = λ c h. h;
      };
      kept_bump = λ t. omega arith;
      no_bump = b.no_bump;
      announced = b.announced;
      announced_kept = b.announced;
      blank = b.blank;
      blank_kept = b.blank;
      absent = b.absent;
      absent_kept = b.absent;
      fits = b.fits;
      fits_kept = b.fits;
    }
  where
    behind_end : (n : ℕ) → (IsAmong n claimed → ⊥) → marks k n ≡ 0
    behind_end n off = elim (cases_eq (marks k n) 0) [ inl z ↦ z | inr some ↦ absurd (off (b.back n some)) ]

    -- what follows the last claimed node is not claimed
    past_end : IsAmong (links k (end_of 0 claimed)) claimed → ⊥
    past_end i = after_end (links k) 0 claimed waiting b.chain i
