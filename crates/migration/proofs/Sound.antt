-- Migrated words obey the rules where the old ones do.
use Rattle.std.proofs.Common.{◌≡◌, ℕ, ◌+◌, ◌<◌, ◌≤◌, inl, inr, List, [], ◌∷◌, Some, refl, sym, ◌∙◌, ap, arith}
use Rattle.std.specs.Prelude.{nat_eq}
use Rattle.std.specs.List.{list_any}
use Rattle.std.proofs.lemmas.Bool.{cases_eq, cases_lt, eq-eqb, ne_eqb, lt-ltb}
use Rattle.words.specs.PlainQueue.{Value}
use Rattle.words.specs.declared.call.Kind.{Kind}
use Rattle.words.specs.declared.call.Kind.TheVariants.{Durable, Log}
use Rattle.words.proofs.Facts.{parts_blank}
use Rattle.arena.specs.Chain.{IsAmong, IsChain}
use Rattle.arena.specs.Content.{chain_of}
use Rattle.arena.specs.Shape.{Shape}
use Rattle.arena.specs.Words.{HoldsIn, IsBlankItem, cells, item_parts, links, marks, values_in}
use Rattle.arena.specs.declared.form.Form.TheVariants.{OfItems, OfValues}
use Rattle.arena.specs.declared.place.Part.{Part}
use Rattle.arena.specs.declared.place.Part.TheVariants.{Length, First, Second, Third}
use Rattle.arena.specs.declared.place.Place.{Place}
use Rattle.sound_words.specs.Sound.{AnswersAreSoundIn, ChainIsSoundIn, ClaimsAreSoundIn, EndsAreSound, EntriesAreSound}
use Rattle.sound_words.specs.Sound.{IsAnnounced, IsBlankAnswer, IsBlankRecordIn, IsClaimOf, IsClaimed, IsIssued}
use Rattle.sound_words.specs.Sound.{IsOfSomeCall, IsOnChain, IsOwn, IsPassed, IsResultIn, IsSoundIn, RecordsAreSoundIn}
use Rattle.sound_words.specs.Sound.{RemovedIsSound, RowsAreSoundIn, StatusIsSound}
use Rattle.sound_words.specs.Told.{node_claimed_by}
use Rattle.sound_words.proofs.Facts.{among_any, among_none, is_among_or_not}
use Rattle.migration.specs.Migrated.{cell_migrated, claimed_node, migrated, node_or_none, part_migrated}
use Rattle.migration.proofs.Alike.{cell_named}
use Rattle.migration.proofs.Values.{value_fits}

-- a cell is open, or empty, only where it was
cell_was : (cell node x : ℕ) → x < 2 → cell_migrated cell node ≡ x → cell ≡ x
cell_was cell node x small same = elim (cases_lt cell 2) [
  | inl low ↦ sym (rw (lt-ltb cell 2 low) refl) ∙ same
  | inr high ↦ absurd (omega (arith, cell_named cell node high, same, small))
]

cell_high : (cell node : ℕ) → 2 ≤ cell_migrated cell node → 2 ≤ cell
cell_high cell node high = elim (cases_lt cell 2) [
  | inl low ↦ let still : cell_migrated cell node ≡ cell = rw (lt-ltb cell 2 low) refl in omega (arith, still, high)
  | inr up ↦ up
]

no_word_on : (link : ℕ → ℕ) (from : ℕ) (ns : List ℕ) → IsChain link from ns → IsAmong 0 ns → ⊥
no_word_on link from [] c h = h
no_word_on link from (n ∷ ns) c (inl e) = c.1 (sym e)
no_word_on link from (n ∷ ns) c (inr h) = no_word_on link n ns c.2 h

-- some node of these that the token claims, where there is one
claimant : (k : Place → ℕ) (token n : ℕ) (ns : List ℕ) → marks k n ≡ token → IsAmong n ns
    → record { at : ℕ; is : node_claimed_by k token ns ≡ Some at; among : IsAmong at ns; mark : marks k at ≡ token }
claimant k token n [] mark h = absurd h
claimant k token n (m ∷ ns) mark h = elim (cases_eq (marks k m) token) [
  | inl e ↦ record { at = m; is = rw (eq-eqb (marks k m) token e) refl; among = inl refl; mark = e }
  | inr ne ↦
      let rest : IsAmong n ns = elim h [ inl here ↦ absurd (ne (ap (marks k) (sym here) ∙ mark)) | inr later ↦ later ] in
      let q = claimant k token n ns mark rest in
      record { at = q.at; is = rw (ne_eqb (marks k m) token ne) q.is; among = inr q.among; mark = q.mark }
]

module _ (s : Shape) (k : Place → ℕ) (h : IsSoundIn OfValues s k) where
  abbrev l : Place → ℕ
  l = migrated s k

  -- a node off the chain has no message, and one on it an item
  blank_off : (n : ℕ) → (IsOnChain s k n → ⊥) → IsBlankItem l n
  blank_off n off =
      let value : Value = values_in OfValues k n in
      let none : (part : Part) → part_migrated (list_any (nat_eq n) (chain_of s k)) value part ≡ 0 =
      (λ part. ap (λ b. part_migrated b value part) (among_none n (chain_of s k) off)) in
      record { len = none Length; first = none First; second = none Second; third = none Third }

  holds_item : (n : ℕ) → HoldsIn OfItems l n
  holds_item n = elim (is_among_or_not n (chain_of s k)) [
    | inl on ↦
        let value : Value = values_in OfValues k n in
        rw (among_any n (chain_of s k) on) (item_parts value (value_fits _))
    | inr off ↦ let b : IsBlankItem l n = blank_off n off in rw (b.len, b.first, b.second, b.third) (parts_blank 0 (omega arith))
  ]

  issued : (n : ℕ) → IsIssued s k n → IsIssued s l n
  issued n i = record { is_record = i.is_record; used = i.used }

  was_issued : (n : ℕ) → IsIssued s l n → IsIssued s k n
  was_issued n i = record { is_record = i.is_record; used = i.used }

  claimed : (n : ℕ) → IsClaimed s k n → IsClaimed s l n
  claimed n c = record { on_chain = c.on_chain; marked = c.marked }

  was_claimed : (n : ℕ) → IsClaimed s l n → IsClaimed s k n
  was_claimed n c = record { on_chain = c.on_chain; marked = c.marked }

  was_passed : (n : ℕ) → IsPassed s l n → IsPassed s k n
  was_passed n p = record { claimed = was_claimed n p.claimed; leads = p.leads }

  own : (t number : ℕ) → IsOwn s k t number → IsOwn s l t number
  own t number o = record { issued = issued number o.issued; owned = o.owned }

  blank_answer : (kind : Kind) (n : ℕ) → IsBlankAnswer kind k n → IsBlankAnswer kind l n
  blank_answer Durable n b = rw b refl
  blank_answer Log n b = record { insert = b.insert; number = b.number; kind = b.kind; status = b.status; node = b.node }

  blank_record : (n : ℕ) → (IsIssued s k n → ⊥) → IsBlankRecordIn OfValues s k n → IsBlankRecordIn OfItems s l n
  blank_record n unused b = record {
    item = blank_off n (λ on. unused (h.chain.issued n on));
    link = b.link;
    mark = b.mark;
    answer = blank_answer s.kind n b.answer;
  }

  records_sound : RecordsAreSoundIn OfItems s l
  records_sound = record {
    within = h.records.within;
    unused = λ n r. record {
      blank = λ none.
          let unused : IsIssued s k n → ⊥ = λ i. none (issued n i) in
          blank_record n unused ((h.records.unused n r).blank unused);
    };
  }

  chain_sound : ChainIsSoundIn OfItems s l
  chain_sound = record {
    ends = h.chain.ends;
    issued = λ n on. issued n (h.chain.issued n on);
    loose = λ n r. record {
      loose = λ off. let q = (h.chain.loose n r).loose off in record { link = q.link; mark = q.mark };
    };
    sentinel = record {
      item = blank_off 0 (no_word_on (links k) 0 (chain_of s k) h.chain.ends);
      mark = h.chain.sentinel.mark;
      insert = h.chain.sentinel.insert;
    };
  }

  claims_sound : ClaimsAreSoundIn OfItems s l
  claims_sound = record {
    in_range = λ n i. holds_item n;
    in_turn = λ n on c. h.claims.in_turn n on (was_claimed (links k n) c);
    issued = λ n c. issued (marks k n) (h.claims.issued n (was_claimed n c));
    once = λ n m c d. h.claims.once n m (was_claimed n c) (was_claimed m d);
  }

  ends_sound : EndsAreSound s l
  ends_sound = record {
    head = elim h.ends.head [ inl z ↦ inl z | inr c ↦ inr (claimed _ c) ];
    tail = h.ends.tail;
  }

  -- durable queues
  result_sound : (c : ℕ) → IsResultIn OfValues s k c → 2 ≤ cells k c → IsResultIn OfItems s l c
  result_sound c r high =
      let q = claimant k c r.node (chain_of s k) r.claim.mark r.claim.on_chain in
      let named : claimed_node s k c ≡ q.at = ap node_or_none q.is in
      record {
        node = q.at;
        claim = record { on_chain = q.among; mark = q.mark };
        named = ap (λ n. n + 2) (sym named) ∙ sym (cell_named (cells k c) (claimed_node s k c) high);
      }

  rows_sound : RowsAreSoundIn OfValues s k → RowsAreSoundIn OfItems s l
  rows_sound r = record {
    rows = λ t c. elim (r.rows t c) [ inl z ↦ inl z | inr o ↦ inr (own t _ o) ];
    results = λ c i high. let up : 2 ≤ cells k c = cell_high (cells k c) _ high in result_sound c (r.results c i up) up;
    not_empty = λ n c one. r.not_empty n (was_claimed n c) (cell_was (cells k (marks k n)) _ 1 (omega arith) one);
    not_open = λ n p none. r.not_open n (was_passed n p) (cell_was (cells k (marks k n)) _ 0 (omega arith) none);
  }

  -- log queues
  some_call : (e : ℕ) → IsOfSomeCall k e → IsOfSomeCall l e
  some_call e (inl enqueue) = inl (record { kind = enqueue.kind; node = enqueue.node })
  some_call e (inr dequeue) = inr dequeue

  announced : (t e : ℕ) → IsAnnounced s k t e → IsAnnounced s l t e
  announced t e a = record { own = own t e a.own; call = some_call e a.call; numbered = a.numbered; in_range = a.in_range }

  claim_was : (e n : ℕ) → IsClaimOf s l e n → IsClaimOf s k e n
  claim_was e n c = record { on_chain = c.on_chain; mark = c.mark }

  claim_is : (e n : ℕ) → IsClaimOf s k e n → IsClaimOf s l e n
  claim_is e n c = record { on_chain = c.on_chain; mark = c.mark }

  status_sound : (e : ℕ) → StatusIsSound s k e → StatusIsSound s l e
  status_sound e (inl none) = inl none
  status_sound e (inr (inl taken)) = inr (inl (record { status = taken.status; kind = taken.kind; on_chain = taken.on_chain }))
  status_sound e (inr (inr empty)) =
      inr (inr (record { status = empty.status; kind = empty.kind; no_claim = λ n c. empty.no_claim n (claim_was e n c) }))

  removed_sound : (e : ℕ) → RemovedIsSound s k e → RemovedIsSound s l e
  removed_sound e (inl none) = inl none
  removed_sound e (inr claim) = inr (claim_is e _ claim)

  entries_sound : EntriesAreSound s k → EntriesAreSound s l
  entries_sound q = record {
    inserts = λ n on. let i = q.inserts n on in record { insert = i.insert; kind = i.kind };
    logs = λ t c. elim (q.logs t c) [ inl z ↦ inl z | inr a ↦ inr (announced t _ a) ];
    kinds = q.kinds;
    statuses = λ e r. status_sound e (q.statuses e r);
    claims = λ n c. q.claims n (was_claimed n c);
    results = λ e r kind. removed_sound e (q.results e r kind);
    told = λ n p. q.told n (was_passed n p);
  }

  answers_sound : (kind : Kind) → AnswersAreSoundIn OfValues kind s k → AnswersAreSoundIn OfItems kind s l
  answers_sound Durable a = rows_sound a
  answers_sound Log a = entries_sound a

  pub migrated_sound : IsSoundIn OfItems s l
  migrated_sound = record {
    records = records_sound;
    chain = chain_sound;
    claims = claims_sound;
    ends = ends_sound;
    answers = answers_sound s.kind h.answers;
  }
