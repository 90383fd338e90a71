-- Sound words are sound whatever other words say of places that the layout does not have.
use Rattle.std.proofs.Common.{◌≡◌, ◌≢◌, ℕ, zero, suc, ◌-◌, ◌*◌, ◌≤◌, ◌<◌, inl, inr, List, [], ◌∷◌, refl, sym, ◌∙◌, ap, subst, arith}
use Rattle.std.proofs.Math.Nat.{div-lt_iff_lt-mul}
use Rattle.std.proofs.lemmas.Bool.{cases_eq}
use Rattle.words.specs.declared.call.Kind.{Kind}
use Rattle.words.specs.declared.call.Kind.TheVariants.{Durable, Log}
use Rattle.arena.specs.Shape.{Shape, greatest, owner, record_of}
use Rattle.arena.specs.Place.{IsPlace, IsNode, IsRecord}
use Rattle.arena.specs.Words.{links, part_at, IsBlankItem, marks, cells, numbers, entry_kinds, statuses, entry_nodes, announcements, bumps}
use Rattle.arena.specs.Chain.{IsChain, IsAmong, LeadsTo, walk}
use Rattle.arena.specs.Chain.LeadsTo.{there, on}
use Rattle.arena.specs.Content.{chain_of}
use Rattle.arena.specs.declared.place.Part.{Part}
use Rattle.arena.specs.declared.place.Part.TheVariants.{Length, First, Second, Third}
use Rattle.arena.specs.declared.place.Place.{Place}
use Rattle.arena.specs.declared.place.Place.TheVariants.{Head, Tail, Announcement, Bump, Item, Next, Mark, Cell, Insert, Number, EntryKind, Status, EntryNode}
use Rattle.sound_words.specs.Sound.{IsIssued, IsBlank, IsBlankAnswer, IsLoose, IsOnChain, IsClaimed, IsPassed, IsOwn, IsClaimOf, IsResult, IsOfSomeCall, IsAnnounced, IsInserted, AnswersAreSound, RowsAreSound, EntriesAreSound, RecordsAreSound, ChainIsSound, ClaimsAreSound, EndsAreSound, IsSound}
use Rattle.sound_words.proofs.Chains.{walk_end, walk_next}
use Rattle.sound_words.proofs.Surveys.{record_on_chain, in_chain}

-- a record is a client's
pub owner_below : (s : Shape) (c : ℕ) → IsRecord s c → owner s c < s.clients
owner_below s c r = elim (cases_eq s.records 0) [
  | inl z ↦ absurd (none z)
  | inr some ↦ (div-lt_iff_lt-mul {k = s.records} {x = c - 1} {y = s.clients} (omega (arith, some))).1 (before r.1)
]
  where
    before : c ≤ s.clients * s.records → c - 1 < s.clients * s.records
    before up = omega (arith, up, r.0)

    none : s.records ≡ 0 → ⊥
    none z = let up : c ≤ s.clients * 0 = subst (λ x. c ≤ s.clients * x) z r.1 in absurd (omega (arith, up, r.0))

-- l has the words of k at the places of the layout
module _ (s : Shape) (k l : Place → ℕ) (same : (p : Place) → IsPlace s p → l p ≡ k p) (h : IsSound s k) where
  link : (n : ℕ) → IsNode s n → links l n ≡ links k n
  link n i = same (Next (record { 0 = n })) i

  mark : (n : ℕ) → IsNode s n → marks l n ≡ marks k n
  mark n i = same (Mark (record { 0 = n })) i

  part : (n : ℕ) (p : Part) → IsNode s n → part_at l n p ≡ part_at k n p
  part n p i = same (Item (record { 0 = n }) p) i

  blank_item : (n : ℕ) → IsNode s n → IsBlankItem k n → IsBlankItem l n
  blank_item n i b = record {
    len = part n Length i ∙ b.len;
    first = part n First i ∙ b.first;
    second = part n Second i ∙ b.second;
    third = part n Third i ∙ b.third;
  }

  -- the chain
  walk_like : (fuel n : ℕ) → IsNode s n → ((m : ℕ) → IsAmong m (walk fuel (links k) n) → IsNode s m) → walk fuel (links l) n ≡ walk fuel (links k) n
  walk_like zero n i all = refl
  walk_like (suc fuel) n i all = elim (cases_eq (links k n) 0) [
    | inl z ↦ walk_end (links l) (suc fuel) n (link n i ∙ z) ∙ sym (walk_end (links k) (suc fuel) n z)
    | inr some ↦
        let step : walk (suc fuel) (links k) n ≡ links k n ∷ walk fuel (links k) (links k n) = walk_next (links k) (suc fuel) fuel n (links k n) refl refl some in
        let next : IsNode s (links k n) = all (links k n) (subst (IsAmong (links k n)) (sym step) (inl refl)) in
        let rest : walk fuel (links l) (links k n) ≡ walk fuel (links k) (links k n) =
        walk_like fuel (links k n) next (λ m j. all m (subst (IsAmong m) (sym step) (inr j))) in
        walk_next (links l) (suc fuel) fuel n (links k n) refl (link n i) some ∙ ap (λ t. links k n ∷ t) rest ∙ sym step
  ]

  pub chain_like : chain_of s l ≡ chain_of s k
  chain_like = walk_like (greatest s) 0 (omega arith) (λ m i. (record_on_chain s k h.chain m i).1)

  onto : (n : ℕ) → IsOnChain s k n → IsOnChain s l n
  onto n i = subst (IsAmong n) (sym chain_like) i

  back : (n : ℕ) → IsOnChain s l n → IsOnChain s k n
  back n i = subst (IsAmong n) chain_like i

  node : (n : ℕ) → IsOnChain s k n → IsNode s n
  node n i = (record_on_chain s k h.chain n i).1

  chain_on : (from : ℕ) (ns : List ℕ) → IsNode s from → ((n : ℕ) → IsAmong n ns → IsNode s n) → IsChain (links k) from ns → IsChain (links l) from ns
  chain_on from [] i all c = link from i ∙ c
  chain_on from (n ∷ ns) i all c = (link from i ∙ c.0, c.1, chain_on n ns (all n (inl refl)) (λ m j. all m (inr j)) c.2)

  -- records and claims
  issued : (c : ℕ) → IsIssued s k c → IsIssued s l c
  issued c i =
      let bump : bumps l (owner s c) ≡ bumps k (owner s c) = same (Bump (record { 0 = owner s c })) (owner_below s c i.is_record) in
      record { is_record = i.is_record; used = subst (λ x. c < record_of s (owner s c) x) (sym bump) i.used }

  claimed_onto : (n : ℕ) → IsClaimed s k n → IsClaimed s l n
  claimed_onto n c = record { on_chain = onto n c.on_chain; marked = λ z. c.marked (sym (mark n (node n c.on_chain)) ∙ z) }

  claimed : (n : ℕ) → IsClaimed s l n → IsClaimed s k n
  claimed n c = let i : IsOnChain s k n = back n c.on_chain in record { on_chain = i; marked = λ z. c.marked (mark n (node n i) ∙ z) }

  marks_like : (n : ℕ) → IsClaimed s l n → marks l n ≡ marks k n
  marks_like n c = mark n (node n (claimed n c).on_chain)

  claim_onto : (c n : ℕ) → IsClaimOf s k c n → IsClaimOf s l c n
  claim_onto c n q = record { on_chain = onto n q.on_chain; mark = mark n (node n q.on_chain) ∙ q.mark }

  claim_back : (c n : ℕ) → IsClaimOf s l c n → IsClaimOf s k c n
  claim_back c n q = let i : IsOnChain s k n = back n q.on_chain in record { on_chain = i; mark = sym (mark n (node n i)) ∙ q.mark }

  leads_back : (to n : ℕ) → LeadsTo (links l) to n → IsOnChain s k n → LeadsTo (links k) to n
  leads_back to n there i = there
  leads_back to n (on x ne p) i =
      let e : links l x ≡ links k x = link x (node x i) in
      let some : links k x ≢ 0 = λ z. ne (e ∙ z) in
      let next : IsOnChain s k (links k x) = in_chain (links k) 0 (chain_of s k) x h.chain.ends (inr i) some in
      on x some (subst (LeadsTo (links k) to) e (leads_back to (links l x) p (subst (IsOnChain s k) (sym e) next)))

  passed : (n : ℕ) → IsPassed s l n → IsPassed s k n
  passed n p =
      let c : IsClaimed s k n = claimed n p.claimed in
      record { claimed = c; leads = subst (λ x. LeadsTo (links k) x n) (same Head tt) (leads_back (l Head) n p.leads c.on_chain) }

  -- the rules
  blank_answer : (kind : Kind) → s.kind ≡ kind → (n : ℕ) → IsRecord s n → IsBlankAnswer kind k n → IsBlankAnswer kind l n
  blank_answer Durable e n r b = same (Cell (record { 0 = n })) (e, r) ∙ b
  blank_answer Log e n r b = record {
    insert = same (Insert (record { 0 = n })) (e, r.1) ∙ b.insert;
    number = same (Number (record { 0 = n })) (e, r) ∙ b.number;
    kind = same (EntryKind (record { 0 = n })) (e, r) ∙ b.kind;
    status = same (Status (record { 0 = n })) (e, r) ∙ b.status;
    node = same (EntryNode (record { 0 = n })) (e, r) ∙ b.node;
  }

  records_like : RecordsAreSound s l
  records_like = record {
    within = λ t c. subst (λ x. x ≤ s.records) (sym (same (Bump (record { 0 = t })) c)) (h.records.within t c);
    unused = λ n r. record {
      blank = λ none.
          let b : IsBlank s k n = (h.records.unused n r).blank (λ i. none (issued n i)) in
          record { item = blank_item n r.1 b.item; link = link n r.1 ∙ b.link; mark = mark n r.1 ∙ b.mark; answer = blank_answer s.kind refl n r b.answer };
    };
  }

  chain_sound : ChainIsSound s l
  chain_sound = record {
    ends = subst (IsChain (links l) 0) (sym chain_like) (chain_on 0 (chain_of s k) (omega arith) node h.chain.ends);
    issued = λ n i. issued n (h.chain.issued n (back n i));
    loose = λ n r. record {
      loose = λ off.
          let q : IsLoose k n = (h.chain.loose n r).loose (λ i. off (onto n i)) in
          record { link = link n r.1 ∙ q.link; mark = mark n r.1 ∙ q.mark };
    };
    sentinel = record {
      item = blank_item 0 (omega arith) h.chain.sentinel.item;
      mark = mark 0 (omega arith) ∙ h.chain.sentinel.mark;
      insert = λ log. same (Insert (record { 0 = 0 })) (log, omega arith) ∙ h.chain.sentinel.insert log;
    };
  }

  claims_sound : ClaimsAreSound s l
  claims_sound = record {
    in_range = λ n i. rw (part n Length i, part n First i, part n Second i, part n Third i) (h.claims.in_range n i);
    in_turn = λ n i c z.
        let j : IsOnChain s k n = back n i in
        h.claims.in_turn n j (claimed (links k n) (subst (IsClaimed s l) (link n (node n j)) c)) (sym (mark n (node n j)) ∙ z);
    issued = λ n c. subst (IsIssued s l) (sym (marks_like n c)) (issued (marks k n) (h.claims.issued n (claimed n c)));
    once = λ n m c d e. h.claims.once n m (claimed n c) (claimed m d) (sym (marks_like n c) ∙ e ∙ marks_like m d);
  }

  ends_sound : EndsAreSound s l
  ends_sound = record {
    head = elim h.ends.head [ inl z ↦ inl (same Head tt ∙ z) | inr c ↦ inr (subst (IsClaimed s l) (sym (same Head tt)) (claimed_onto (k Head) c)) ];
    tail = elim h.ends.tail [ inl z ↦ inl (same Tail tt ∙ z) | inr i ↦ inr (subst (IsOnChain s l) (sym (same Tail tt)) (onto (k Tail) i)) ];
  }

  own_like : (t c : ℕ) → IsOwn s k t c → IsOwn s l t c
  own_like t c o = record { issued = issued c o.issued; owned = o.owned }

  -- a claimed node's mark is a record
  mark_record : (n : ℕ) → IsClaimed s l n → IsRecord s (marks k n)
  mark_record n c = (h.claims.issued n (claimed n c)).is_record

  rows_sound : s.kind ≡ Durable → RowsAreSound s k → RowsAreSound s l
  rows_sound e r = record {
    rows = λ t c.
        let a : announcements l t ≡ announcements k t = same (Announcement (record { 0 = t })) c in
        elim (r.rows t c) [ inl z ↦ inl (a ∙ z) | inr o ↦ inr (subst (IsOwn s l t) (sym a) (own_like t (announcements k t) o)) ];
    results = λ c i two.
        let a : cells l c ≡ cells k c = same (Cell (record { 0 = c })) (e, i) in
        let q : IsResult s k c = r.results c i (subst (λ x. 2 ≤ x) a two) in
        record { node = q.node; claim = claim_onto c q.node q.claim; named = q.named ∙ sym a };
    not_empty = λ n c z. r.not_empty n (claimed n c) (sym (cell n c) ∙ z);
    not_open = λ n p z. r.not_open n (passed n p) (sym (cell n p.claimed) ∙ z);
  }
    where
      cell : (n : ℕ) → IsClaimed s l n → cells l (marks l n) ≡ cells k (marks k n)
      cell n c = ap (cells l) (marks_like n c) ∙ same (Cell (record { 0 = marks k n })) (e, mark_record n c)

  entries_sound : s.kind ≡ Log → EntriesAreSound s k → EntriesAreSound s l
  entries_sound e q = record {
    inserts = λ n i.
        let j : IsOnChain s k n = back n i in
        let old : IsInserted k n = q.inserts n j in
        record { insert = same (Insert (record { 0 = n })) (e, node n j) ∙ old.insert; kind = kind n (record_on_chain s k h.chain n j) ∙ old.kind };
    logs = λ t c.
        let a : announcements l t ≡ announcements k t = same (Announcement (record { 0 = t })) c in
        elim (q.logs t c) [
          | inl z ↦ inl (a ∙ z)
          | inr o ↦
              let r : IsRecord s (announcements k t) = o.own.issued.is_record in
              let number : numbers l (announcements k t) ≡ numbers k (announcements k t) = same (Number (record { 0 = announcements k t })) (e, r) in
              let call : IsOfSomeCall l (announcements k t) = elim o.call [
                | inl x ↦ inl (record { kind = kind (announcements k t) r ∙ x.kind; node = removed (announcements k t) r ∙ x.node })
                | inr x ↦ inr (kind (announcements k t) r ∙ x)
              ] in
              inr (subst (λ x. IsAnnounced s l t x) (sym a) (record {
                own = own_like t (announcements k t) o.own;
                call = call;
                numbered = subst (λ x. 1 ≤ x) (sym number) o.numbered;
                in_range = subst (λ x. x ≤ 1099511627776) (sym number) o.in_range;
              }))
        ];
    kinds = λ c r. subst (λ x. x ≤ 2) (sym (kind c r)) (q.kinds c r);
    statuses = λ c r. elim (q.statuses c r) [
      | inl z ↦ inl (status c r ∙ z)
      | inr x ↦ elim x [
        | inl taken ↦ inr (inl (record { status = status c r ∙ taken.status; kind = kind c r ∙ taken.kind; on_chain = onto c taken.on_chain }))
        | inr empty ↦ inr (inr (record { status = status c r ∙ empty.status; kind = kind c r ∙ empty.kind; no_claim = λ n x. empty.no_claim n (claim_back c n x) }))
      ]
    ];
    claims = λ n c. ap (entry_kinds l) (marks_like n c) ∙ kind (marks k n) (mark_record n c) ∙ q.claims n (claimed n c);
    results = λ c r two. elim (q.results c r (sym (kind c r) ∙ two)) [
      | inl z ↦ inl (removed c r ∙ z)
      | inr claim ↦ inr (subst (IsClaimOf s l c) (sym (removed c r)) (claim_onto c (entry_nodes k c) claim))
    ];
    told = λ n p z. q.told n (passed n p) (sym (ap (entry_nodes l) (marks_like n p.claimed) ∙ removed (marks k n) (mark_record n p.claimed)) ∙ z);
  }
    where
      kind : (c : ℕ) → IsRecord s c → entry_kinds l c ≡ entry_kinds k c
      kind c r = same (EntryKind (record { 0 = c })) (e, r)

      status : (c : ℕ) → IsRecord s c → statuses l c ≡ statuses k c
      status c r = same (Status (record { 0 = c })) (e, r)

      removed : (c : ℕ) → IsRecord s c → entry_nodes l c ≡ entry_nodes k c
      removed c r = same (EntryNode (record { 0 = c })) (e, r)

  answers_sound : (kind : Kind) → s.kind ≡ kind → AnswersAreSound kind s k → AnswersAreSound kind s l
  answers_sound Durable e a = rows_sound e a
  answers_sound Log e a = entries_sound e a

  pub sound_like : IsSound s l
  sound_like = record { records = records_like; chain = chain_sound; claims = claims_sound; ends = ends_sound; answers = answers_sound s.kind refl h.answers }
