-- Kept words that recovery finds sound are such as every crash leaves.
use Rattle.std.proofs.Common.{◌≡◌, ◌≢◌, ℕ, ◌+◌, ◌≤◌, ◌<◌, ◌⊎◌, inl, inr, List, [], ◌∷◌, ◌++◌, map, refl, sym, ◌∙◌, ap, subst, arith}
use Rattle.std.proofs.lemmas.Bool.{cases_eq, cases_lt}
use Rattle.arena.specs.declared.place.Part.{Part}
use Rattle.arena.specs.declared.place.Part.TheVariants.{Length, First, Second, Third}
use Rattle.words.proofs.Facts.{parts_blank}
use Rattle.words.specs.PlainQueue.{Value}
use Rattle.words.specs.declared.call.Kind.{Kind}
use Rattle.words.specs.declared.call.Kind.TheVariants.{Durable, Log}
use Rattle.arena.specs.Answers.{result_of}
use Rattle.arena.specs.Chain.{IsChain, IsAmong, LeadsTo}
use Rattle.arena.specs.Chain.LeadsTo.{there, on}
use Rattle.arena.specs.Content.{chain_of, kept_content}
use Rattle.arena.specs.Place.{IsPlace, IsRecord, number_of}
use Rattle.arena.specs.Ranges.{Fits, IsReadByCalls}
use Rattle.arena.specs.Shape.{Shape, greatest}
use Rattle.arena.specs.Words.{links, marks, part_at, values, HoldsItem, IsBlankItem, bumps, announcements, inserts}
use Rattle.arena.specs.Words.{cells, numbers, entry_kinds, statuses, entry_nodes, IsWritten}
use Rattle.arena.specs.declared.place.Place.{Place}
use Rattle.arena.specs.declared.place.Place.TheVariants.{Head, Tail, Announcement, Bump, Item, Next, Mark, Cell, Insert}
use Rattle.arena.specs.declared.place.Place.TheVariants.{Number, EntryKind, Status, EntryNode}
use Rattle.helping.specs.Table.{token_of, node_of}
use Rattle.sound_words.specs.Sound.{IsSound, IsOnChain, IsClaimed, IsPassed as has_passed, IsBlank, IsBlankAnswer}
use Rattle.sound_words.specs.Sound.{IsBlankEntry, IsRead, IsResult, IsClaimOf, AnswersAreSound, RowsAreSound}
use Rattle.sound_words.specs.Sound.{EntriesAreSound, IsIssued, IsOwn}
use Rattle.sound_words.proofs.Facts.{claimed_by_mark, is_among_or_not, sound_fits}
use Rattle.protocol.specs.Recovered.{end_of}
use Rattle.protocol.proofs.chain.Chains.{in_chain, in_parts, linked_by, leads_from}
use Rattle.protocol.specs.invariants.Places.{IsOfRecord, IsOfKind, SaysEmpty}
use Rattle.protocol.specs.invariants.Base.{Blank, Absent, AllFit}
use Rattle.protocol.specs.invariants.Ledger.Stage.{Unmoved, Took}
use Rattle.protocol.proofs.changes.Fences.{cell_says, status_says}
use Rattle.protocol.specs.invariants.Records.{IsPath, IsAnswered, AnsweredTo, IsEnqueued, CellRight, NodeRight}
use Rattle.protocol.specs.invariants.Records.{StatusRight, IsEntry, Records}
use Rattle.protocol.specs.invariants.Sound.{memory_at_rest, idle_ledger, Sound}
use Rattle.protocol.proofs.worlds.Facts.{waiting_is, zero_fits}

-- the first part of a chain is marked, and the second is not
pub record Parts (mark : ℕ → ℕ) (ns : List ℕ) : Type 0 where
  pub claimed : List ℕ
  pub waiting : List ℕ
  pub same : ns ≡ claimed ++ waiting
  pub on : (n : ℕ) → IsAmong n claimed → mark n ≢ 0
  pub off : (n : ℕ) → IsAmong n waiting → mark n ≡ 0

-- no marked node follows one without a mark
abbrev pub InTurn : (ℕ → ℕ) → (ℕ → ℕ) → List ℕ → Type 0
InTurn link mark ns = (n : ℕ) → IsAmong n ns → link n ≢ 0 → mark (link n) ≢ 0 → mark n ≢ 0

-- behind a node without a mark none has one
none_behind : (link mark : ℕ → ℕ) (from : ℕ) (ns : List ℕ) → IsChain link from ns → InTurn link mark (from ∷ ns)
    → mark from ≡ 0 → (x : ℕ) → IsAmong x ns → mark x ≡ 0
none_behind link mark from [] c turn z x i = absurd i
none_behind link mark from (n ∷ ns) c turn z x i =
    let here : mark n ≡ 0 = elim (cases_eq (mark n) 0) [
      | inl e ↦ e
      | inr some ↦ absurd (turn from (inl refl) (λ e. c.1 (sym c.0 ∙ e)) (λ e. some (ap mark (sym c.0) ∙ e)) z)
    ] in
    elim i [
      | inl e ↦ ap mark e ∙ here
      | inr j ↦ none_behind link mark n ns c.2 (λ y h. turn y (inr h)) here x j
    ]

pub parts : (link mark : ℕ → ℕ) (from : ℕ) (ns : List ℕ) → IsChain link from ns → InTurn link mark ns → Parts mark ns
parts link mark from [] c turn = record { claimed = []; waiting = []; same = refl; on = λ n i. absurd i; off = λ n i. absurd i }
parts link mark from (n ∷ ns) c turn =
    elim (cases_eq (mark n) 0) [
      | inl z ↦ record {
        claimed = [];
        waiting = n ∷ ns;
        same = refl;
        on = λ x i. absurd i;
        off = λ x i. elim i [ inl e ↦ ap mark e ∙ z | inr j ↦ none_behind link mark n ns c.2 turn z x j ];
      }
      | inr some ↦
          let rest : Parts mark ns = parts link mark n ns c.2 (λ y h. turn y (inr h)) in
          record {
            claimed = n ∷ rest.claimed;
            waiting = rest.waiting;
            same = ap (λ t. n ∷ t) rest.same;
            on = λ x i. elim i [ inl e ↦ (λ z. some (ap mark (sym e) ∙ z)) | inr j ↦ rest.on x j ];
            off = rest.off;
          }
    ]

-- a chain up to one of its nodes, to which each of these leads
pub record UpTo (link : ℕ → ℕ) (from : ℕ) (ns : List ℕ) (x : ℕ) : Type 0 where
  pub passed : List ℕ
  pub path : IsPath link from passed
  pub at : x ≡ end_of from passed
  pub among : (n : ℕ) → IsAmong n passed → IsAmong n ns
  pub leads : (n : ℕ) → IsAmong n passed → LeadsTo link x n

pub up_to : (link : ℕ → ℕ) (from : ℕ) (ns : List ℕ) (x : ℕ) → IsChain link from ns → IsAmong x ns → UpTo link from ns x
up_to link from [] x c i = absurd i
up_to link from (n ∷ ns) x c (inl e) = record {
  passed = n ∷ [];
  path = (c.0, c.1, tt);
  at = e;
  among = λ m i. elim i [ inl q ↦ inl q | inr j ↦ absurd j ];
  leads = λ m i. elim i [ inl q ↦ subst (LeadsTo link x) (e ∙ sym q) there | inr j ↦ absurd j ];
}
up_to link from (n ∷ ns) x c (inr h) =
    let rest : UpTo link n ns x = up_to link n ns x c.2 h in
    record {
      passed = n ∷ rest.passed;
      path = (c.0, c.1, rest.path);
      at = rest.at;
      among = λ m i. elim i [ inl q ↦ inl q | inr j ↦ inr (rest.among m j) ];
      leads = λ m i. elim i [ inl q ↦ subst (LeadsTo link x) (sym q) (leads_from link n ns x c.2 (inr h)) | inr j ↦ rest.leads m j ];
    }

-- a node that leads to a marked one is marked
pub marked_before : (link mark : ℕ → ℕ) (from : ℕ) (ns : List ℕ) → IsChain link from ns → InTurn link mark ns
    → (x n : ℕ) → LeadsTo link x n → IsAmong n ns → mark x ≢ 0 → mark n ≢ 0
marked_before link mark from ns c turn x n there i some = some
marked_before link mark from ns c turn x n (on y ne p) i some =
    turn y i ne (marked_before link mark from ns c turn x (link y) p (in_chain link from ns y c (inr i) ne) some)

-- whether two kinds are one, a place is one of the layout's, and both of two things hold
kind_or_not : (a b : Kind) → (a ≡ b) ⊎ (a ≡ b → ⊥)
kind_or_not Durable Durable = inl refl
kind_or_not Durable Log = inr (λ e. cc)
kind_or_not Log Durable = inr (λ e. cc)
kind_or_not Log Log = inl refl

both_or_not : (A B : Type 0) → A ⊎ (A → ⊥) → B ⊎ (B → ⊥) → (A × B) ⊎ (A × B → ⊥)
both_or_not A B (inl a) (inl b) = inl (a, b)
both_or_not A B (inl a) (inr out) = inr (λ h. out h.1)
both_or_not A B (inr out) q = inr (λ h. out h.0)

below_or_not : (x y : ℕ) → (x < y) ⊎ (x < y → ⊥)
below_or_not x y = elim (cases_lt x y) [ inl lt ↦ inl lt | inr ge ↦ inr (λ h. absurd (omega (arith, ge, h))) ]

up_or_not : (x y : ℕ) → (x ≤ y) ⊎ (x ≤ y → ⊥)
up_or_not x y = elim (cases_lt y x) [ inl lt ↦ inr (λ h. absurd (omega (arith, lt, h))) | inr ge ↦ inl (omega (arith, ge)) ]

record_or_not : (s : Shape) (c : ℕ) → IsRecord s c ⊎ (IsRecord s c → ⊥)
record_or_not s c = both_or_not (1 ≤ c) (c ≤ greatest s) (up_or_not 1 c) (up_or_not c (greatest s))

place_or_not : (s : Shape) (p : Place) → IsPlace s p ⊎ (IsPlace s p → ⊥)
place_or_not s Head = inl tt
place_or_not s Tail = inl tt
place_or_not s (Announcement t) = below_or_not t.0 s.clients
place_or_not s (Bump t) = below_or_not t.0 s.clients
place_or_not s (Item n part) = up_or_not n.0 (greatest s)
place_or_not s (Next n) = up_or_not n.0 (greatest s)
place_or_not s (Mark n) = up_or_not n.0 (greatest s)
place_or_not s (Cell c) = both_or_not (s.kind ≡ Durable) (IsRecord s c.0) (kind_or_not s.kind Durable) (record_or_not s c.0)
place_or_not s (Insert n) = both_or_not (s.kind ≡ Log) (n.0 ≤ greatest s) (kind_or_not s.kind Log) (up_or_not n.0 (greatest s))
place_or_not s (Number e) = both_or_not (s.kind ≡ Log) (IsRecord s e.0) (kind_or_not s.kind Log) (record_or_not s e.0)
place_or_not s (EntryKind e) = both_or_not (s.kind ≡ Log) (IsRecord s e.0) (kind_or_not s.kind Log) (record_or_not s e.0)
place_or_not s (Status e) = both_or_not (s.kind ≡ Log) (IsRecord s e.0) (kind_or_not s.kind Log) (record_or_not s e.0)
place_or_not s (EntryNode e) = both_or_not (s.kind ≡ Log) (IsRecord s e.0) (kind_or_not s.kind Log) (record_or_not s e.0)

calls_read : (s : Shape) (k : Place → ℕ) (p : Place) → IsReadByCalls p → IsRead s k p
calls_read s k Head r = tt
calls_read s k Tail r = tt
calls_read s k (Announcement t) r = tt
calls_read s k (Bump t) r = tt
calls_read s k (Item n part) r = tt
calls_read s k (Next n) r = tt
calls_read s k (Mark n) r = tt
calls_read s k (Cell c) r = tt
calls_read s k (Insert n) r = absurd r
calls_read s k (Number e) r = absurd r
calls_read s k (EntryKind e) r = tt
calls_read s k (Status e) r = tt
calls_read s k (EntryNode e) r = absurd r

-- sound words, that are 0 where the layout has no place
module _ (s : Shape) (k : Place → ℕ) (h : IsSound s k) (nowhere : (p : Place) → (IsPlace s p → ⊥) → k p ≡ 0) where
  rows : s.kind ≡ Durable → RowsAreSound s k
  rows kind = subst (λ x. AnswersAreSound x s k) kind h.answers

  entries : s.kind ≡ Log → EntriesAreSound s k
  entries kind = subst (λ x. AnswersAreSound x s k) kind h.answers

  -- a word that is not 0 is of a place
  is_place : (p : Place) → k p ≢ 0 → IsPlace s p
  is_place p some = elim (place_or_not s p) [ inl i ↦ i | inr out ↦ absurd (some (nowhere p out)) ]

  -- linked nodes are on the chain, or 0
  linked_on : (n : ℕ) → links k n ≢ 0 → IsAmong n (0 ∷ chain_of s k)
  linked_on n some = elim (cases_eq n 0) [
    | inl z ↦ inl z
    | inr ne ↦
        let r : IsRecord s n = (omega (arith, ne), is_place (Next (node_of n)) some) in
        elim (is_among_or_not n (chain_of s k)) [
          | inl i ↦ inr i
          | inr off ↦ absurd (some ((h.chain.loose n r).loose off).link)
        ]
  ]

  next_on : (n : ℕ) → links k n ≢ 0 → IsOnChain s k (links k n)
  next_on n some = in_chain (links k) 0 (chain_of s k) n h.chain.ends (linked_on n some) some

  -- marked nodes are claimed
  claimed_if : (n : ℕ) → marks k n ≢ 0 → IsClaimed s k n
  claimed_if n some =
      let ne : n ≢ 0 = λ z. some (ap (marks k) z ∙ h.chain.sentinel.mark) in
      claimed_by_mark s k h.chain n (omega (arith, ne), is_place (Mark (node_of n)) some) some

  turn : InTurn (links k) (marks k) (chain_of s k)
  turn n i linked marked = h.claims.in_turn n i (record { on_chain = next_on n linked; marked = marked })

  pub p : Parts (marks k) (chain_of s k)
  p = parts (links k) (marks k) 0 (chain_of s k) h.chain.ends turn

  back : (n : ℕ) → marks k n ≢ 0 → IsAmong n p.claimed
  back n some = elim (in_parts n p.claimed p.waiting (subst (IsAmong n) p.same (claimed_if n some).on_chain)) [
    | inl i ↦ i
    | inr i ↦ absurd (some (p.off n i))
  ]

  chain : IsChain (links k) 0 (p.claimed ++ p.waiting)
  chain = subst (IsChain (links k) 0) p.same h.chain.ends

  all_fit : AllFit s k
  all_fit q read = elim (place_or_not s q) [
    | inl i ↦ sound_fits s k h q i (calls_read s k q read)
    | inr out ↦ subst (Fits s q) (sym (nowhere q out)) (zero_fits s q)
  ]

  content : map (values k) p.waiting ≡ kept_content s k
  content = ap (map (values k)) (sym (waiting_is s k p.claimed p.waiting chain all_fit p.on back))

  tail : LeadsTo (links k) (k Tail) 0
  tail = elim h.ends.tail [
    | inl z ↦ subst (λ x. LeadsTo (links k) x 0) (sym z) there
    | inr i ↦ leads_from (links k) 0 (chain_of s k) (k Tail) h.chain.ends (inr i)
  ]

  one_claim : (n m : ℕ) → marks k n ≢ 0 → marks k n ≡ marks k m → n ≡ m
  one_claim n m some e = h.claims.once n m (claimed_if n some) (claimed_if m (λ z. some (e ∙ z))) e

  status_two : s.kind ≡ Log → (e : ℕ) → IsRecord s e → statuses k e ≡ 2 → (entry_kinds k e ≡ 2) × ((n : ℕ) → IsClaimOf s k e n → ⊥)
  status_two log e r two = elim ((entries log).statuses e r) [
    | inl z ↦ absurd (omega (arith, z, two))
    | inr q ↦ elim q [ inl taken ↦ absurd (let one : statuses k e ≡ 1 = taken.status in omega (arith, one, two)) | inr empty ↦ (empty.kind, empty.no_claim) ]
  ]

  silent : (n : ℕ) → marks k n ≢ 0 → SaysEmpty s k (marks k n) → ⊥
  silent n some says = go s.kind refl
    where
      claimed_now : IsClaimed s k n
      claimed_now = claimed_if n some

      go : (kind : Kind) → s.kind ≡ kind → ⊥
      go Durable e = (rows e).not_empty n claimed_now ((cell_says s k (token_of (marks k n)) e).0 says)
      go Log e =
          (status_two e (marks k n) (h.claims.issued n claimed_now).is_record ((status_says s k (token_of (marks k n)) e).0 says)).1 n
          (record { on_chain = claimed_now.on_chain; mark = refl })

  no_bump : (t : ℕ) → s.clients ≤ t → bumps k t ≡ 0
  no_bump t ge = nowhere (Bump (record { 0 = t })) (λ lt. absurd (omega (arith, ge, lt)))

  announced : (t : ℕ) → announcements k t ≢ 0 → IsOwn s k t (announcements k t)
  announced t some = go s.kind refl
    where
      client : t < s.clients
      client = is_place (Announcement (record { 0 = t })) some

      go : (kind : Kind) → s.kind ≡ kind → IsOwn s k t (announcements k t)
      go Durable e = elim ((rows e).rows t client) [ inl z ↦ absurd (some z) | inr own ↦ own ]
      go Log e = elim ((entries e).logs t client) [ inl z ↦ absurd (some z) | inr a ↦ a.own ]

  unused : (n : ℕ) → IsRecord s n → (IsIssued s k n → ⊥) → IsBlank s k n
  unused n r none = (h.records.unused n r).blank none

  blank_cell : (n : ℕ) → s.kind ≡ Durable → IsBlank s k n → cells k n ≡ 0
  blank_cell n e b = let answer : IsBlankAnswer Durable k n = subst (λ x. IsBlankAnswer x k n) e b.answer in answer

  blank_entry : (n : ℕ) → s.kind ≡ Log → IsBlank s k n → IsBlankEntry k n
  blank_entry n e b = let answer : IsBlankAnswer Log k n = subst (λ x. IsBlankAnswer x k n) e b.answer in answer

  blank_part : {n : ℕ} → IsBlankItem k n → (part : Part) → part_at k n part ≡ 0
  blank_part b Length = b.len
  blank_part b First = b.first
  blank_part b Second = b.second
  blank_part b Third = b.third

  -- every node's words are an item's: those of one that there is not are 0
  items : (n : ℕ) → HoldsItem k n
  items n = elim (up_or_not n (greatest s)) [
    | inl i ↦ h.claims.in_range n i
    | inr out ↦ rw (nowhere (Item (node_of n) Length) out, nowhere (Item (node_of n) First) out, nowhere (Item (node_of n) Second) out, nowhere (Item (node_of n) Third) out) (parts_blank 0 (omega arith))
  ]

  blank_at : (q : Place) → IsPlace s q → IsOfRecord q → number_of q ≢ 0 → (IsIssued s k (number_of q) → ⊥) → k q ≡ 0
  blank_at Head i of ne none = absurd of
  blank_at Tail i of ne none = absurd of
  blank_at (Announcement t) i of ne none = absurd of
  blank_at (Bump t) i of ne none = absurd of
  blank_at (Item n part) i of ne none = blank_part (unused n.0 (omega (arith, ne), i) none).item part
  blank_at (Next n) i of ne none = (unused n.0 (omega (arith, ne), i) none).link
  blank_at (Mark n) i of ne none = (unused n.0 (omega (arith, ne), i) none).mark
  blank_at (Cell c) i of ne none = blank_cell c.0 i.0 (unused c.0 i.1 none)
  blank_at (Insert n) i of ne none = (blank_entry n.0 i.0 (unused n.0 (omega (arith, ne), i.1) none)).insert
  blank_at (Number e) i of ne none = (blank_entry e.0 i.0 (unused e.0 i.1 none)).number
  blank_at (EntryKind e) i of ne none = (blank_entry e.0 i.0 (unused e.0 i.1 none)).kind
  blank_at (Status e) i of ne none = (blank_entry e.0 i.0 (unused e.0 i.1 none)).status
  blank_at (EntryNode e) i of ne none = (blank_entry e.0 i.0 (unused e.0 i.1 none)).node

  blank : Blank s k k
  blank q of ne none = elim (place_or_not s q) [ inl i ↦ blank_at q i of ne none | inr out ↦ nowhere q out ]

  -- a word of the layout is of this kind of queue, but for the message and the insert word of node 0, which are 0
  absent_at : (q : Place) → IsPlace s q → (IsOfKind s.kind q → ⊥) → k q ≡ 0
  absent_at Head i none = absurd (none tt)
  absent_at Tail i none = absurd (none tt)
  absent_at (Announcement t) i none = absurd (none tt)
  absent_at (Bump t) i none = absurd (none tt)
  absent_at (Item n part) i none = elim (cases_eq n.0 0) [ inl z ↦ ap (λ x. k (Item (record { 0 = x }) part)) z ∙ blank_part h.chain.sentinel.item part | inr some ↦ absurd (none some) ]
  absent_at (Next n) i none = absurd (none tt)
  absent_at (Mark n) i none = absurd (none tt)
  absent_at (Cell c) i none = absurd (none (i.0, λ z. absurd (omega (arith, i.1.0, z))))
  absent_at (Insert n) i none = elim (cases_eq n.0 0) [ inl z ↦ ap (inserts k) z ∙ h.chain.sentinel.insert i.0 | inr some ↦ absurd (none (i.0, some)) ]
  absent_at (Number e) i none = absurd (none (i.0, λ z. absurd (omega (arith, i.1.0, z))))
  absent_at (EntryKind e) i none = absurd (none (i.0, λ z. absurd (omega (arith, i.1.0, z))))
  absent_at (Status e) i none = absurd (none (i.0, λ z. absurd (omega (arith, i.1.0, z))))
  absent_at (EntryNode e) i none = absurd (none (i.0, λ z. absurd (omega (arith, i.1.0, z))))

  absent : Absent s k
  absent q none = elim (place_or_not s q) [ inl i ↦ absent_at q i none | inr out ↦ nowhere q out ]

  -- the result of a claimed node that the head has passed stands where it belongs
  passed_cell : s.kind ≡ Durable → (n : ℕ) → has_passed s k n → cells k (marks k n) ≡ n + 2
  passed_cell e n passed =
      let not_empty : cells k (marks k n) ≢ 1 = (rows e).not_empty n passed.claimed in
      let not_open : cells k (marks k n) ≢ 0 = (rows e).not_open n passed in
      let result : IsResult s k (marks k n) = (rows e).results (marks k n) (h.claims.issued n passed.claimed).is_record (omega (arith, not_empty, not_open)) in
      let same : n ≡ result.node = one_claim n result.node passed.claimed.marked (sym result.claim.mark) in
      sym result.named ∙ ap (λ x. x + 2) (sym same)

  passed_entry : s.kind ≡ Log → (n : ℕ) → has_passed s k n → entry_nodes k (marks k n) ≡ n
  passed_entry e n passed =
      elim ((entries e).results (marks k n) (h.claims.issued n passed.claimed).is_record ((entries e).claims n passed.claimed)) [
        | inl z ↦ absurd ((entries e).told n passed z)
        | inr claim ↦ sym (one_claim n (entry_nodes k (marks k n)) passed.claimed.marked (sym claim.mark))
      ]

  passed_answered : (n : ℕ) → has_passed s k n → IsAnswered s (memory_at_rest k) n
  passed_answered n passed = (go s.kind refl, go s.kind refl)
    where
      go : (kind : Kind) → s.kind ≡ kind → IsWritten k (result_of kind (token_of (marks k n)) (node_of n))
      go Durable e = passed_cell e n passed
      go Log e = passed_entry e n passed

  head_answered : AnsweredTo s (memory_at_rest k) (k Head)
  head_answered = elim h.ends.head [
    | inl z ↦ record { passed = []; path = tt; at = z; claimed = λ n i. absurd i; answered = λ n i. absurd i }
    | inr claimed ↦
        let u : UpTo (links k) 0 (chain_of s k) (k Head) = up_to (links k) 0 (chain_of s k) (k Head) h.chain.ends claimed.on_chain in
        let marked : (n : ℕ) → IsAmong n u.passed → marks k n ≢ 0 = λ n i.
        marked_before (links k) (marks k) 0 (chain_of s k) h.chain.ends turn (k Head) n (u.leads n i) (u.among n i) claimed.marked in
        record {
          passed = u.passed;
          path = u.path;
          at = u.at;
          claimed = marked;
          answered = λ n i. passed_answered n (record { claimed = record { on_chain = u.among n i; marked = marked n i }; leads = u.leads n i });
        }
  ]

  cell_right : (c : ℕ) → CellRight (memory_at_rest k) c (cells k c)
  cell_right c some other =
      let place : (s.kind ≡ Durable) × IsRecord s c = is_place (Cell (token_of c)) some in
      let result : IsResult s k c = (rows place.0).results c place.1 (omega (arith, some, other)) in
      record { at = result.node; named = result.claim.mark; some = λ z. absurd (omega (arith, place.1.0, z)); value = sym result.named }

  node_right : (c : ℕ) → NodeRight (memory_at_rest k) c (entry_nodes k c)
  node_right c kind some =
      let two : entry_kinds k c ≡ 2 = elim kind [ inl e ↦ e | inr e ↦ e ] in
      let place : (s.kind ≡ Log) × IsRecord s c = is_place (EntryNode (token_of c)) some in
      elim ((entries place.0).results c place.1 two) [
        | inl z ↦ absurd (some z)
        | inr claim ↦ (claim.mark, λ z. absurd (omega (arith, place.1.0, z)))
      ]

  status_right : (c : ℕ) → StatusRight (memory_at_rest k) c (statuses k c)
  status_right c = record {
    taken = λ one.
        let place : (s.kind ≡ Log) × IsRecord s c = is_place (Status (token_of c)) (λ z. absurd (omega (arith, one, z))) in
        let chained : IsAmong c (chain_of s k) = elim ((entries place.0).statuses c place.1) [
          | inl z ↦ absurd (omega (arith, z, one))
          | inr q ↦ elim q [ inl taken ↦ taken.on_chain | inr empty ↦ absurd (let two : statuses k c ≡ 2 = empty.status in omega (arith, one, two)) ]
        ] in
        let l : (l : ℕ) × (links k l ≡ c) × (c ≢ 0) = linked_by (links k) 0 (chain_of s k) h.chain.ends c chained in
        record { at = l.0; linked = l.1; some = l.2 };
    empty = λ two.
        let place : (s.kind ≡ Log) × IsRecord s c = is_place (Status (token_of c)) (λ z. absurd (omega (arith, two, z))) in
        let kind : entry_kinds k c ≡ 2 = (status_two place.0 c place.1 two).0 in
        (kind, kind);
  }

  entry_right : s.kind ≡ Log → (t : ℕ) → announcements k t ≢ 0 → IsEntry (memory_at_rest k) (announcements k t)
  entry_right e t some = elim ((entries e).logs t (is_place (Announcement (record { 0 = t })) some)) [
    | inl z ↦ absurd (some z)
    | inr a ↦ record {
      number = numbers k (announcements k t);
      some = a.numbered;
      in_range = a.in_range;
      numbered = (refl, refl);
      kind = elim a.call [ inl enqueue ↦ inl ((enqueue.kind, enqueue.kind), (enqueue.node, enqueue.node)) | inr dequeue ↦ inr (dequeue, dequeue) ];
    }
  ]

  enqueued_right : s.kind ≡ Log → (n : ℕ) → links k n ≢ 0 → IsEnqueued (memory_at_rest k) (links k n)
  enqueued_right e n some =
      let i : inserts k (links k n) ≡ links k n = ((entries e).inserts (links k n) (next_on n some)).insert in
      let kind : entry_kinds k (links k n) ≡ 1 = ((entries e).inserts (links k n) (next_on n some)).kind in
      record { insert = (i, i); kind = (kind, kind) }

  records_right : (queue : List Value) → Records s (memory_at_rest k) (idle_ledger queue)
  records_right queue = record {
    to_head = head_answered;
    to_kept_head = head_answered;
    cell = cell_right;
    cell_kept = cell_right;
    node = node_right;
    node_kept = node_right;
    enqueued = enqueued_right;
    dequeued = λ e n some. let two : entry_kinds k (marks k n) ≡ 2 = (entries e).claims n (claimed_if n some) in (two, two);
    status = status_right;
    status_kept = status_right;
    entry = entry_right;
    entry_kept = entry_right;
    took = λ i reply e. let wrong : Unmoved ≡ Took reply = e in absurd (cc);
    announcing = λ i apart. absurd (apart refl);
  }

  -- as after a crash
  pub boot_sound : Sound s k p.claimed p.waiting (kept_content s k)
  boot_sound = record {
    chain = chain;
    on_chain = λ n some. subst (λ ns. IsAmong n (0 ∷ ns)) p.same (linked_on n some);
    back = back;
    on = p.on;
    content = content;
    item = items;
    tail = tail;
    issued_link = λ n some. h.chain.issued (links k n) (next_on n some);
    issued_mark = λ n some. h.claims.issued n (claimed_if n some);
    one_mark = one_claim;
    silent = silent;
    no_bump = no_bump;
    announced = announced;
    blank = blank;
    absent = absent;
    fits = all_fit;
    records = records_right;
  }
