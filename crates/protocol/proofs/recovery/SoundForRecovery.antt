-- What every crash leaves keeps all rules by which recovery tells sound words.
use Rattle.std.proofs.Common.{◌≡◌, ◌≢◌, ℕ, ◌+◌, ◌≤◌, inl, inr, List, [], ◌∷◌, ◌++◌, refl, sym, ◌∙◌, ap, subst, arith}
use Rattle.std.proofs.lemmas.Bool.{cases_eq, cases_lt}
use Rattle.arena.specs.declared.place.Part.TheVariants.{Length, First, Second, Third}
use Rattle.words.specs.PlainQueue.{Value}
use Rattle.words.specs.declared.call.Kind.{Kind}
use Rattle.words.specs.declared.call.Kind.TheVariants.{Durable, Log}
use Rattle.arena.specs.Answers.{result_of}
use Rattle.arena.specs.Chain.{IsChain, IsAmong, LeadsTo}
use Rattle.arena.specs.Chain.LeadsTo.{there, on}
use Rattle.arena.specs.Content.{chain_of}
use Rattle.arena.specs.Place.{IsRecord, number_of}
use Rattle.arena.specs.Shape.{Shape}
use Rattle.arena.specs.Words.{links, marks, cells, entry_kinds, statuses, entry_nodes, announcements}
use Rattle.arena.specs.declared.place.Place.{Place}
use Rattle.arena.specs.declared.place.Place.TheVariants.{Head, Tail, Bump, Item, Next, Mark, Cell, Insert, Number}
use Rattle.arena.specs.declared.place.Place.TheVariants.{EntryKind, Status, EntryNode}
use Rattle.helping.specs.Table.{token_of, node_of}
use Rattle.sound_words.specs.Sound.{IsBlankAnswer, IsOnChain, IsClaimed, IsClaimOf, IsPassed, StatusIsSound, RemovedIsSound}
use Rattle.sound_words.specs.Sound.{LogIsSound, RecordsAreSound, ChainIsSound, ClaimsAreSound, EndsAreSound, RowsAreSound}
use Rattle.sound_words.specs.Sound.{EntriesAreSound, AnswersAreSound, IsIssued, IsSound}
use Rattle.protocol.specs.Recovered.{end_of}
use Rattle.arena.proofs.Facts.{distinct, in_left, not_again, parts_apart}
use Rattle.protocol.proofs.chain.Chains.{in_parts, in_chain, linked_by, leads_in}
use Rattle.protocol.specs.invariants.Places.{IsOfRecord}
use Rattle.protocol.proofs.changes.Fences.{cell_says, status_says}
use Rattle.protocol.specs.invariants.Records.{IsPath, AnsweredTo, IsEnqueued, IsEntry, Records}
use Rattle.protocol.specs.invariants.Sound.{memory_at_rest, idle_ledger, Sound}
use Rattle.protocol.proofs.recovery.RecoveryEnds.{answered_among, part_chain}

-- a path along a chain is its first part
path_part : (link : ℕ → ℕ) (from : ℕ) (ns xs : List ℕ) → IsPath link from ns → IsChain link from xs → (rest : List ℕ) × (xs ≡ ns ++ rest)
path_part link from [] xs p c = (xs, refl)
path_part link from (n ∷ ns) [] p c = absurd (p.1 (sym p.0 ∙ c))
path_part link from (n ∷ ns) (x ∷ xs) p c =
    let same : n ≡ x = sym p.0 ∙ c.0 in
    let q : (rest : List ℕ) × (xs ≡ ns ++ rest) = path_part link n ns xs p.2 (subst (λ y. IsChain link y xs) (sym same) c.2) in
    (q.0, ap (λ y. y ∷ xs) (sym same) ∙ ap (λ t. n ∷ t) q.1)

-- from a node of a chain links lead to nodes of the chain
leads_inside : (link : ℕ → ℕ) (from : ℕ) (ns : List ℕ) (b a : ℕ) → IsChain link from ns → LeadsTo link b a → IsAmong a ns → IsAmong b ns
leads_inside link from ns b a c there i = i
leads_inside link from ns b a c (on x some p) i = leads_inside link from ns b (link a) c p (in_chain link from ns a c (inr i) some)

-- a node of the chain that leads to the end of a path stands on the path
passed_before : (link : ℕ → ℕ) (from : ℕ) (ns xs : List ℕ) (n : ℕ) → IsPath link from ns → IsChain link from xs → IsAmong n xs
    → LeadsTo link (end_of from ns) n → IsAmong n ns
passed_before link from ns xs n p c i leads =
    let q : (rest : List ℕ) × (xs ≡ ns ++ rest) = path_part link from ns xs p c in
    elim (in_parts n ns q.0 (subst (IsAmong n) q.1 i)) [
      | inl a ↦ a
      | inr r ↦
          let rest : IsChain link (end_of from ns) q.0 = part_chain link from ns q.0 (subst (IsChain link from) q.1 c) in
          absurd (not_again link (end_of from ns) q.0 rest (leads_inside link (end_of from ns) q.0 (end_of from ns) n rest leads r))
    ]

module _ (s : Shape) (k : Place → ℕ) (claimed waiting : List ℕ) (queue : List Value) (b : Sound s k claimed waiting queue) (chain : chain_of s k ≡ claimed ++ waiting) where
  r : Records s (memory_at_rest k) (idle_ledger queue)
  r = b.records queue

  among : (n : ℕ) → IsOnChain s k n → IsAmong n (claimed ++ waiting)
  among n i = subst (IsAmong n) chain i

  linked : (n : ℕ) → IsOnChain s k n → (p : ℕ) × (links k p ≡ n) × (n ≢ 0)
  linked n i = linked_by (links k) 0 (claimed ++ waiting) b.chain n (among n i)

  marked_on : (n : ℕ) → marks k n ≢ 0 → IsOnChain s k n
  marked_on n some = subst (IsAmong n) (sym chain) (in_left n claimed waiting (b.back n some))

  linked_on : (n : ℕ) → links k n ≢ 0 → IsOnChain s k (links k n)
  linked_on n some = subst (IsAmong (links k n)) (sym chain) (in_chain (links k) 0 (claimed ++ waiting) n b.chain (b.on_chain n some) some)

  claim_of : (e n : ℕ) → e ≢ 0 → marks k n ≡ e → IsClaimOf s k e n
  claim_of e n some mark = record { on_chain = marked_on n (λ z. some (sym mark ∙ z)); mark = mark }

  on_issued : (n : ℕ) → IsOnChain s k n → IsIssued s k n
  on_issued n i =
      let q : (p : ℕ) × (links k p ≡ n) × (n ≢ 0) = linked n i in
      subst (IsIssued s k) q.1 (b.issued_link q.0 (λ z. q.2 (sym q.1 ∙ z)))

  -- records that are not issued are blank
  blank_word : (n : ℕ) → IsRecord s n → (IsIssued s k n → ⊥) → (p : Place) → IsOfRecord p → number_of p ≡ n → k p ≡ 0
  blank_word n rec free p of at = b.blank p of (λ z. absurd (omega (arith, rec.0, at, z))) (λ h. free (subst (IsIssued s k) at h))

  blank_answer : (kind : Kind) (n : ℕ) → IsRecord s n → (IsIssued s k n → ⊥) → IsBlankAnswer kind k n
  blank_answer Durable n rec free = blank_word n rec free (Cell (token_of n)) tt refl
  blank_answer Log n rec free = record {
    insert = blank_word n rec free (Insert (node_of n)) tt refl;
    number = blank_word n rec free (Number (token_of n)) tt refl;
    kind = blank_word n rec free (EntryKind (token_of n)) tt refl;
    status = blank_word n rec free (Status (token_of n)) tt refl;
    node = blank_word n rec free (EntryNode (token_of n)) tt refl;
  }

  records_sound : RecordsAreSound s k
  records_sound = record {
    within = λ t client. b.fits (Bump (record { 0 = t })) tt;
    unused = λ n rec. record {
      blank = λ free. record {
        item = record {
          len = blank_word n rec free (Item (node_of n) Length) tt refl;
          first = blank_word n rec free (Item (node_of n) First) tt refl;
          second = blank_word n rec free (Item (node_of n) Second) tt refl;
          third = blank_word n rec free (Item (node_of n) Third) tt refl;
        };
        link = blank_word n rec free (Next (node_of n)) tt refl;
        mark = blank_word n rec free (Mark (node_of n)) tt refl;
        answer = blank_answer s.kind n rec free;
      };
    };
  }

  -- other nodes are loose, and node 0 has a link alone
  unlinked : (n : ℕ) → IsRecord s n → (IsOnChain s k n → ⊥) → links k n ≡ 0
  unlinked n rec off = elim (cases_eq (links k n) 0) [
    | inl z ↦ z
    | inr some ↦ elim (b.on_chain n some) [ inl z ↦ absurd (omega (arith, rec.0, z)) | inr i ↦ absurd (off (subst (IsAmong n) (sym chain) i)) ]
  ]

  unmarked : (n : ℕ) → (IsOnChain s k n → ⊥) → marks k n ≡ 0
  unmarked n off = elim (cases_eq (marks k n) 0) [ inl z ↦ z | inr some ↦ absurd (off (marked_on n some)) ]

  chain_sound : ChainIsSound s k
  chain_sound = record {
    ends = subst (IsChain (links k) 0) (sym chain) b.chain;
    issued = on_issued;
    loose = λ n rec. record { loose = λ off. record { link = unlinked n rec off; mark = unmarked n off } };
    sentinel = record {
      item = record {
        len = b.absent (Item (node_of 0) Length) (λ h. h refl);
        first = b.absent (Item (node_of 0) First) (λ h. h refl);
        second = b.absent (Item (node_of 0) Second) (λ h. h refl);
        third = b.absent (Item (node_of 0) Third) (λ h. h refl);
      };
      mark = unmarked 0 (λ i. (linked 0 i).2 refl);
      insert = λ log. b.absent (Insert (node_of 0)) (λ h. h.1 refl);
    };
  }

  -- the node behind an unclaimed one is not claimed
  in_turn : (n : ℕ) → IsOnChain s k n → IsClaimed s k (links k n) → marks k n ≢ 0
  in_turn n i c = elim (in_parts n claimed waiting (among n i)) [
    | inl now ↦ b.on n now
    | inr later ↦
        let next : IsAmong (links k n) waiting =
        in_chain (links k) (end_of 0 claimed) waiting n (part_chain (links k) 0 claimed waiting b.chain) (inr later) (linked (links k n) c.on_chain).2 in
        absurd (parts_apart claimed waiting (links k n) (distinct (links k) 0 (claimed ++ waiting) b.chain) (b.back (links k n) c.marked) next)
  ]

  claims_sound : ClaimsAreSound s k
  claims_sound = record {
    in_range = λ n node. b.item n;
    in_turn = in_turn;
    issued = λ n c. b.issued_mark n c.marked;
    once = λ n m c d same. b.one_mark n m c.marked same;
  }

  ends_sound : EndsAreSound s k
  ends_sound = record {
    head = elim (answered_among s k claimed waiting queue b (k Head) r.to_head) [
      | inl z ↦ inl z
      | inr i ↦ inr (record { on_chain = marked_on (k Head) (b.on (k Head) i); marked = b.on (k Head) i })
    ];
    tail = elim (leads_in (links k) 0 (claimed ++ waiting) (k Tail) 0 b.chain b.tail (inl refl)) [
      | inl z ↦ inl z
      | inr i ↦ inr (subst (IsAmong (k Tail)) (sym chain) i)
    ];
  }

  -- once the head has passed a node its answer is kept
  answered : (kind : Kind) → s.kind ≡ kind → (n : ℕ) → IsPassed s k n
      → k (result_of kind (token_of (marks k n)) (node_of n)).place ≡ (result_of kind (token_of (marks k n)) (node_of n)).value
  answered kind e n p =
      let a : AnsweredTo s (memory_at_rest k) (k Head) = r.to_head in
      let i : IsAmong n a.passed =
      passed_before (links k) 0 a.passed (claimed ++ waiting) n a.path b.chain (among n p.claimed.on_chain) (subst (λ x. LeadsTo (links k) x n) a.at p.leads) in
      subst (λ x. k (result_of x (token_of (marks k n)) (node_of n)).place ≡ (result_of x (token_of (marks k n)) (node_of n)).value) e (a.answered n i).0

  rows_sound : s.kind ≡ Durable → RowsAreSound s k
  rows_sound d = record {
    rows = λ t client. elim (cases_eq (announcements k t) 0) [ inl z ↦ inl z | inr some ↦ inr (b.announced t some) ];
    results = λ c rec two.
        let q : record { at : ℕ; named : marks k at ≡ c; some : c ≢ 0; value : cells k c ≡ at + 2 } =
        r.cell c (λ z. absurd (omega (arith, z, two))) (λ z. absurd (omega (arith, z, two))) in
        record { node = q.at; claim = claim_of c q.at q.some q.named; named = sym q.value };
    not_empty = λ n c one. b.silent n c.marked ((cell_says s k (token_of (marks k n)) d).1 one);
    not_open = λ n p zero_cell. let told : cells k (marks k n) ≡ n + 2 = answered Durable d n p in absurd (omega (arith, zero_cell, told));
  }

  log_sound : s.kind ≡ Log → (t : ℕ) → LogIsSound s k t
  log_sound l t = elim (cases_eq (announcements k t) 0) [
    | inl z ↦ inl z
    | inr some ↦
        let q : IsEntry (memory_at_rest k) (announcements k t) = r.entry l t some in
        inr (record {
          own = b.announced t some;
          call = elim q.kind [ inl e ↦ inl (record { kind = e.0.0; node = e.1.0 }) | inr e ↦ inr e.0 ];
          numbered = subst (λ x. 1 ≤ x) (sym q.numbered.0) q.some;
          in_range = subst (λ x. x ≤ 1099511627776) (sym q.numbered.0) q.in_range;
        })
  ]

  status_sound : s.kind ≡ Log → (e : ℕ) → IsRecord s e → StatusIsSound s k e
  status_sound l e rec = elim (cases_lt (statuses k e) 1) [
    | inl none ↦ inl (omega (arith, none))
    | inr some ↦ elim (cases_eq (statuses k e) 1) [
      | inl one ↦
          let q : record { at : ℕ; linked : links k at ≡ e; some : e ≢ 0 } = (r.status e).taken one in
          let linked_some : links k q.at ≢ 0 = λ z. q.some (sym q.linked ∙ z) in
          inr (inl (record {
            status = one;
            kind = subst (λ x. entry_kinds k x ≡ 1) q.linked (r.enqueued l q.at linked_some).kind.0;
            on_chain = subst (IsOnChain s k) q.linked (linked_on q.at linked_some);
          }))
      | inr other ↦
          let few : statuses k e ≤ 2 = b.fits (Status (token_of e)) tt in
          let two : statuses k e ≡ 2 = omega (arith, few, some, other) in
          inr (inr (record {
            status = two;
            kind = ((r.status e).empty two).0;
            no_claim = λ n c.
                let marked : marks k n ≢ 0 = λ z. absurd (omega (arith, rec.0, c.mark, z)) in
                b.silent n marked ((status_says s k (token_of (marks k n)) l).1 (ap (statuses k) c.mark ∙ two));
          }))
    ]
  ]

  removed_sound : (e : ℕ) → entry_kinds k e ≡ 2 → RemovedIsSound s k e
  removed_sound e two = elim (cases_eq (entry_nodes k e) 0) [
    | inl z ↦ inl z
    | inr some ↦ let q : (marks k (entry_nodes k e) ≡ e) × (e ≢ 0) = r.node e (inl two) some in inr (claim_of e (entry_nodes k e) q.1 q.0)
  ]

  entries_sound : s.kind ≡ Log → EntriesAreSound s k
  entries_sound l = record {
    inserts = λ n i.
        let q : (p : ℕ) × (links k p ≡ n) × (n ≢ 0) = linked n i in
        let e : IsEnqueued (memory_at_rest k) n = subst (IsEnqueued (memory_at_rest k)) q.1 (r.enqueued l q.0 (λ z. q.2 (sym q.1 ∙ z))) in
        record { insert = e.insert.0; kind = e.kind.0 };
    logs = λ t client. log_sound l t;
    kinds = λ e rec. b.fits (EntryKind (token_of e)) tt;
    statuses = status_sound l;
    claims = λ n c. (r.dequeued l n c.marked).0;
    results = λ e rec two. removed_sound e two;
    told = λ n p zero_node.
        let node : entry_nodes k (marks k n) ≡ n = answered Log l n p in
        (linked n p.claimed.on_chain).2 (sym node ∙ zero_node);
  }

  answers_sound : (kind : Kind) → s.kind ≡ kind → AnswersAreSound kind s k
  answers_sound Durable e = rows_sound e
  answers_sound Log e = entries_sound e

  pub sound_for_recovery : IsSound s k
  sound_for_recovery = record {
    records = records_sound;
    chain = chain_sound;
    claims = claims_sound;
    ends = ends_sound;
    answers = answers_sound s.kind refl;
  }
