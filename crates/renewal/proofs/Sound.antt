-- Renewed words obey every rule.
use Rattle.std.proofs.Common.{◌≡◌, ◌≢◌, ℕ, ◌+◌, ◌-◌, ◌*◌, ◌≤◌, ◌<◌, ◌⊎◌, inl, inr, Bool, true, false, [], length, if◌then◌else◌, refl, sym, ◌∙◌, ap, subst, arith}
use Rattle.std.specs.Prelude.{is_some, nat_lt, unwrap_or}
use Rattle.std.proofs.lemmas.Bool.{cases_Bool, cases_lt, eq-eqb, false≢true, le-ltb, lt-ltb}
use Rattle.std.proofs.lemmas.List.{get_or_past}
use Rattle.words.specs.PlainQueue.{FitsValue, Value}
use Rattle.words.specs.declared.call.Kind.{Kind}
use Rattle.words.specs.declared.call.Kind.TheVariants.{Durable, Log}
use Rattle.words.specs.declared.call.Reply.TheVariants.{Done, Got, Empty}
use Rattle.words.specs.declared.told.Outcome.{Outcome}
use Rattle.words.specs.declared.told.Outcome.TheVariants.{NotTaken, Taken}
use Rattle.words.specs.declared.told.Row.TheVariants.{NoCall, Open, Empty as row_empty, Got as row_got}
use Rattle.words.specs.declared.told.Told.{Told}
use Rattle.words.specs.declared.told.Verdict.{Verdict}
use Rattle.words.specs.declared.told.Told.TheVariants.{None as told_none, Verdict as told_verdict, Row as told_row}
use Rattle.arena.specs.Chain.{IsAmong, IsChain}
use Rattle.arena.specs.Place.{IsRecord}
use Rattle.arena.specs.Shape.{Shape, owner, record_of}
use Rattle.arena.specs.Words.{IsBlankItem, cells, entry_kinds, entry_nodes, item_part, item_parts, links, marks}
use Rattle.arena.specs.Words.{numbers}
use Rattle.arena.specs.declared.place.Part.{Part}
use Rattle.arena.specs.declared.place.Part.TheVariants.{Length, First as first_part, Second as second_part, Third}
use Rattle.arena.specs.declared.place.Place.{Place}
use Rattle.arena.proofs.Facts.{in_left, in_right}
use Rattle.sound_words.specs.Sound.{AnswersAreSound, ChainIsSound, ClaimsAreSound, EndsAreSound, EntriesAreSound}
use Rattle.sound_words.specs.Sound.{IsAnnounced, IsBlank, IsBlankAnswer, IsClaimOf, IsClaimed, IsInserted, IsIssued}
use Rattle.sound_words.specs.Sound.{IsOnChain, IsOwn, IsPassed, IsResult, IsSound, LogIsSound, RecordsAreSound}
use Rattle.sound_words.specs.Sound.{RemovedIsSound, RowIsSound, RowsAreSound, StatusIsSound}
use Rattle.renewal.specs.Renewal.{Renewal, told_in}
use Rattle.renewal.specs.Renewed.{announced, cell, cell_told, chain, entry_kind, entry_node, has_node, has_verdict}
use Rattle.renewal.specs.Renewed.{is_linked, mark, message, number, number_at, number_told, outcome_node}
use Rattle.renewal.specs.Renewed.{outcome_record, outcome_status, removed, renewed, status, told_node, told_status}
use Rattle.renewal.specs.Renewed.{waiting}
use Rattle.renewal.specs.Roles.{first_record, role_of, second_record, used_for}
use Rattle.renewal.specs.Words.{FitsOutcome, FitsVerdict, MayBeRenewed, MayBeTold}
use Rattle.renewal.specs.declared.role.Role.{Role}
use Rattle.renewal.specs.declared.role.Role.TheVariants.{First, Second, Item, Sentinel}
use Rattle.renewal.proofs.Lists.{in_parts}
use Rattle.renewal.proofs.Chained.{follower_off, follower_second, leads_nowhere}
use Rattle.renewal.proofs.Roles.{owner_of, role_first, role_second, unused_item, used_within}
use Rattle.renewal.proofs.Members.{IsRemoved, IsWaiting, RoleOf, chain_distinct, chain_is, ends, first_issued}
use Rattle.renewal.proofs.Members.{issued_by, no_sentinel, on_removed, on_waiting, removed_issued, removed_on, role_is}
use Rattle.renewal.proofs.Members.{role_removed, role_waiting, second_issued, two, waiting_issued, waiting_on}
use Rattle.renewal.proofs.Members.RoleOf.{for_answer, for_item, for_node}

-- the message of the empty item
pub blank_part : (part : Part) → item_part [] part ≡ 0
unfolding item_part
blank_part Length = refl
blank_part first_part = refl
blank_part second_part = refl
blank_part Third = refl

pub no_item : FitsValue []
no_item = record { short = omega arith; bytes = λ k. omega arith }

-- a node of a call that was told of has a message
outcome_fits : (kind : Kind) (told : Told) → MayBeTold kind told → FitsValue (unwrap_or (told_node told) [])
outcome_fits Durable told_none may = no_item
outcome_fits Durable (told_verdict verdict) may = absurd may
outcome_fits Durable (told_row NoCall) may = no_item
outcome_fits Durable (told_row Open) may = no_item
outcome_fits Durable (told_row row_empty) may = no_item
outcome_fits Durable (told_row (row_got value)) may = may
outcome_fits Log told_none may = no_item
outcome_fits Log (told_verdict verdict) may = of_outcome verdict.outcome may.outcome
  where
    of_outcome : (o : Outcome) → FitsOutcome o → FitsValue (unwrap_or (told_node (told_verdict (record { number = verdict.number; outcome = o }))) [])
    of_outcome NotTaken is = no_item
    of_outcome (Taken Done) is = no_item
    of_outcome (Taken (Got value)) is = is
    of_outcome (Taken Empty) is = no_item
outcome_fits Log (told_row row) may = absurd may

-- no word of a node or a record of this role is other than 0
record IsBlankRole (r : Renewal) (n : ℕ) (role : Role) : Type 0 where
  message : message r role ≡ []
  mark : mark r role ≡ 0
  off : is_linked r role ≡ false
  cell : cell r role ≡ 0
  number : number r n role ≡ 0
  kind : entry_kind r role ≡ 0
  status : status r role ≡ 0
  node : entry_node r n role ≡ 0

past_items : (r : Renewal) (n at : ℕ) → length r.content ≤ at → IsBlankRole r n (Item at)
past_items r n at past = record {
  message = get_or_past r.content at [] past;
  mark = refl;
  off = le-ltb at (length r.content) past;
  cell = refl;
  number = refl;
  kind = rw (le-ltb at (length r.content) past) refl;
  status = refl;
  node = rw (le-ltb at (length r.content) past) refl;
}

-- which record is announced, by what is told
announced_cases : (s : Shape) (t : ℕ) (told : Told)
    → (announced s t told ≡ 0) ⊎ ((announced s t told ≡ first_record s t) ⊎ (announced s t told ≡ second_record s t))
announced_cases s t told_none = inl refl
announced_cases s t (told_verdict verdict) = inr (of_outcome verdict.outcome)
  where
    of_outcome : (o : Outcome) → (outcome_record s t o ≡ first_record s t) ⊎ (outcome_record s t o ≡ second_record s t)
    of_outcome NotTaken = inr refl
    of_outcome (Taken Done) = inl refl
    of_outcome (Taken (Got value)) = inr refl
    of_outcome (Taken Empty) = inr refl
announced_cases s t (told_row NoCall) = inl refl
announced_cases s t (told_row Open) = inr (inr refl)
announced_cases s t (told_row row_empty) = inr (inr refl)
announced_cases s t (told_row (row_got value)) = inr (inr refl)

-- a cell of 2 or more is that of a dequeue that got an item, and its node is on the chain
cell_got : (s : Shape) (t : ℕ) (told : Told) → 2 ≤ cell_told s t told
    → (is_some (told_node told) ≡ true) × (cell_told s t told ≡ first_record s t + 2)
cell_got s t told_none high = absurd (omega arith)
cell_got s t (told_verdict verdict) high = absurd (omega arith)
cell_got s t (told_row NoCall) high = absurd (omega arith)
cell_got s t (told_row Open) high = absurd (omega arith)
cell_got s t (told_row row_empty) high = absurd (omega arith)
cell_got s t (told_row (row_got value)) high = (refl, refl)

cell_of_node : (s : Shape) (t : ℕ) (told : Told) → MayBeTold Durable told → is_some (told_node told) ≡ true
    → cell_told s t told ≡ first_record s t + 2
cell_of_node s t told_none may node = absurd (false≢true node)
cell_of_node s t (told_verdict verdict) may node = absurd may
cell_of_node s t (told_row NoCall) may node = absurd (false≢true node)
cell_of_node s t (told_row Open) may node = absurd (false≢true node)
cell_of_node s t (told_row row_empty) may node = absurd (false≢true node)
cell_of_node s t (told_row (row_got value)) may node = refl

-- a status that is not 0 is that of a dequeue that found nothing, and no node stands for that
status_cases : (told : Told)
    → (told_status told ≡ 0) ⊎ ((told_status told ≡ 2) × (has_verdict told ≡ true) × (is_some (told_node told) ≡ false))
status_cases told_none = inl refl
status_cases (told_row row) = inl refl
status_cases (told_verdict verdict) = of_outcome verdict.outcome
  where
    of_outcome : (o : Outcome) → (outcome_status o ≡ 0) ⊎ ((outcome_status o ≡ 2) × (true ≡ true) × (is_some (outcome_node o) ≡ false))
    of_outcome NotTaken = inl refl
    of_outcome (Taken Done) = inl refl
    of_outcome (Taken (Got value)) = inl refl
    of_outcome (Taken Empty) = inr (refl, refl, refl)

-- in a log queue what is told of a node is a verdict
verdict_of_node : (told : Told) → MayBeTold Log told → is_some (told_node told) ≡ true → has_verdict told ≡ true
verdict_of_node told_none may node = absurd (false≢true node)
verdict_of_node (told_verdict verdict) may node = refl
verdict_of_node (told_row row) may node = absurd may

-- a dequeue's number is announced with its second record, that of an enqueue that was done with its first one
number_here : (r : Renewal) (t e : ℕ) → announced r.shape t (told_in r t) ≡ e → number_at r t e ≡ number_told (told_in r t)
number_here r t e is = rw (eq-eqb (announced r.shape t (told_in r t)) e is) refl

-- the kind of an entry
kind_small : (r : Renewal) (role : Role) → entry_kind r role ≤ 2
kind_small r Sentinel = omega arith
kind_small r (First t) = of_test (has_node r t.0)
  where
    of_test : (b : Bool) → (if b then 1 else 0) ≤ 2
    of_test true = omega arith
    of_test false = omega arith
kind_small r (Second t) = of_test (has_verdict (told_in r t.0))
  where
    of_test : (b : Bool) → (if b then 2 else 0) ≤ 2
    of_test true = omega arith
    of_test false = omega arith
kind_small r (Item at) = of_test (nat_lt at (length r.content))
  where
    of_test : (b : Bool) → (if b then 1 else 0) ≤ 2
    of_test true = omega arith
    of_test false = omega arith

-- that of a node's entry is no dequeue's
not_dequeue : (b : Bool) → ◌≡◌ {A = ℕ} (if b then 1 else 0) 2 → ⊥
not_dequeue true e = omega (arith, e)
not_dequeue false e = omega (arith, e)

module _ (r : Renewal) (h : MayBeRenewed r) where
  abbrev s : Shape
  s = r.shape

  abbrev m : ℕ
  m = length r.content

  abbrev l : Place → ℕ
  l = renewed r

  -- on the chain, as the words have it
  pub linked : (n : ℕ) → IsOnChain s l n → IsRemoved r n ⊎ IsWaiting r n
  linked n i = elim (in_parts n (removed r) (waiting r) (subst (IsAmong n) (chain_is r h) i)) [
    | inl a ↦ inl (on_removed r h n a)
    | inr b ↦ inr (on_waiting r h n b)
  ]

  pub removed_linked : (n : ℕ) → IsRemoved r n → IsOnChain s l n
  removed_linked n q = subst (IsAmong n) (sym (chain_is r h)) (subst (λ (x : ℕ). IsAmong x (chain r)) (sym q.is) (in_left _ (removed r) (waiting r) (removed_on r h q.client q.in_range q.node)))

  pub waiting_linked : (n : ℕ) → IsWaiting r n → IsOnChain s l n
  waiting_linked n q = subst (IsAmong n) (sym (chain_is r h)) (subst (λ (x : ℕ). IsAmong x (chain r)) (sym q.is) (in_right _ (removed r) (waiting r) (waiting_on r h q.at q.in_range)))

  -- the first record of a client whose call has a node is on the chain
  pub node_linked : (t : ℕ) → t < s.clients → has_node r t ≡ true → IsRemoved r (first_record s t)
  node_linked t client node = record { client = t; in_range = client; node = node; is = refl }

  -- marks
  pub mark_first : (t : ℕ) → has_node r t ≡ true → marks l (first_record s t) ≡ second_record s t
  mark_first t node = ap (mark r) (role_first s t (two r h)) ∙ rw node refl

  pub mark_removed : (n : ℕ) → (q : IsRemoved r n) → marks l n ≡ second_record s q.client
  mark_removed n q = ap (mark r) (role_removed r h n q) ∙ rw q.node refl

  pub mark_waiting : (n : ℕ) → IsWaiting r n → marks l n ≡ 0
  mark_waiting n q = ap (mark r) (role_waiting r h n q)

  -- a record that is not used is blank
  item_blank : (n : ℕ) → message r (role_of s n) ≡ [] → IsBlankItem l n
  item_blank n none = record {
    len = ap (λ (v : Value). item_part v Length) none ∙ blank_part Length;
    first = ap (λ (v : Value). item_part v first_part) none ∙ blank_part first_part;
    second = ap (λ (v : Value). item_part v second_part) none ∙ blank_part second_part;
    third = ap (λ (v : Value). item_part v Third) none ∙ blank_part Third;
  }

  issued : (n : ℕ) → IsOnChain s l n → IsIssued s l n
  issued n on = elim (linked n on) [ inl q ↦ removed_issued r h n q | inr q ↦ waiting_issued r h n q ]

  off_link : (n : ℕ) → IsRecord s n → (IsOnChain s l n → ⊥) → links l n ≡ 0
  off_link n i off = follower_off n 0 (chain r) (λ among. elim among [
    | inl z ↦ omega (arith, z, i.0)
    | inr on ↦ off (subst (IsAmong n) (sym (chain_is r h)) on)
  ])

  blank_answer : (kind : Kind) (n : ℕ) → IsBlankRole r n (role_of s n) → IsBlankAnswer kind l n
  blank_answer Durable n b = b.cell
  blank_answer Log n b = record { insert = rw b.off refl; number = b.number; kind = b.kind; status = b.status; node = b.node }

  unused_blank : (n : ℕ) → IsRecord s n → (IsIssued s l n → ⊥) → IsBlank s l n
  unused_blank n i unused = go (role_is r h n i)
    where
      past : (t used : ℕ) → t < s.clients → n ≡ record_of s t used → used_for s m t ≤ used
          → role_of s n ≡ Item ((used - 2) * s.clients + t) → IsBlank s l n
      past t used client is over role =
          let at : ℕ = (used - 2) * s.clients + t in
          let b : IsBlankRole r n (role_of s n) = subst (IsBlankRole r n) (sym role) (past_items r n at (unused_item s m h.counts.some_client h.room t used client over)) in
          record {
            item = item_blank n b.message;
            link = off_link n i (λ on. unused (issued n on));
            mark = b.mark;
            answer = blank_answer s.kind n b;
          }

      go : RoleOf r n → IsBlank s l n
      go (for_node t client is role) = absurd (unused (subst (IsIssued s l) (sym is) (first_issued r h t client)))
      go (for_answer t client is role) = absurd (unused (subst (IsIssued s l) (sym is) (second_issued r h t client)))
      go (for_item t used client below third is role) = elim (cases_lt used (used_for s m t)) [
        | inl was ↦ absurd (unused (subst (IsIssued s l) (sym is) (issued_by r h t used client was)))
        | inr over ↦ past t used client is over role
      ]

  records_sound : RecordsAreSound s l
  records_sound = record {
    within = λ t client. used_within s m h.counts.some_client h.room t client;
    unused = λ n i. record { blank = unused_blank n i };
  }

  -- the chain
  off_mark : (n : ℕ) → IsRecord s n → (IsOnChain s l n → ⊥) → marks l n ≡ 0
  off_mark n i off = go (role_is r h n i)
    where
      go : RoleOf r n → marks l n ≡ 0
      go (for_node t client is role) = elim (cases_Bool (has_node r t)) [
        | inl node ↦ absurd (off (subst (IsOnChain s l) (sym is) (removed_linked (first_record s t) (node_linked t client node))))
        | inr none ↦ ap (mark r) role ∙ rw none refl
      ]
      go (for_answer t client is role) = ap (mark r) role
      go (for_item t used client below third is role) = ap (mark r) role

  chain_sound : ChainIsSound s l
  chain_sound = record {
    ends = subst (IsChain (links l) 0) (sym (chain_is r h)) (ends r h);
    issued = issued;
    loose = λ n i. record { loose = λ off. record { link = off_link n i off; mark = off_mark n i off } };
    sentinel = record { item = item_blank 0 refl; mark = refl; insert = λ log. refl };
  }

  -- claims
  pub claimed_removed : (n : ℕ) → IsClaimed s l n → IsRemoved r n
  claimed_removed n c = elim (linked n c.on_chain) [ inl q ↦ q | inr q ↦ absurd (c.marked (mark_waiting n q)) ]

  pub message_fits : (role : Role) → FitsValue (message r role)
  message_fits Sentinel = no_item
  message_fits (First t) = outcome_fits s.kind (told_in r t.0) (h.told t.0)
  message_fits (Second t) = no_item
  message_fits (Item at) = h.items at

  not_sentinel : IsOnChain s l 0 → ⊥
  not_sentinel on = no_sentinel r h (subst (IsAmong 0) (chain_is r h) on)

  in_turn : (n : ℕ) → IsOnChain s l n → IsClaimed s l (links l n) → marks l n ≢ 0
  in_turn n on next = elim (linked n on) [
    | inl q ↦ λ z. omega (arith, mark_removed n q, z)
    | inr q ↦
        let among : IsAmong n (waiting r) = subst (λ (x : ℕ). IsAmong x (waiting r)) (sym q.is) (waiting_on r h q.at q.in_range) in
        elim (follower_second n 0 (removed r) (waiting r) (chain_distinct r h) among) [
          | inl z ↦ absurd (not_sentinel (subst (IsOnChain s l) z next.on_chain))
          | inr later ↦ absurd (next.marked (mark_waiting (links l n) (on_waiting r h (links l n) later)))
        ]
  ]

  second_own : (t u : ℕ) → second_record s t ≡ second_record s u → t ≡ u
  second_own t u e = sym (owner_of s t 1 (omega (arith, two r h))) ∙ ap (owner s) e ∙ owner_of s u 1 (omega (arith, two r h))

  pub once : (n k : ℕ) → IsRemoved r n → IsRemoved r k → marks l n ≡ marks l k → n ≡ k
  once n k p q same =
      p.is ∙ ap (first_record s) (second_own p.client q.client (sym (mark_removed n p) ∙ same ∙ mark_removed k q)) ∙ sym q.is

  claims_sound : ClaimsAreSound s l
  claims_sound = record {
    in_range = λ n i. item_parts (message r (role_of s n)) (message_fits (role_of s n));
    in_turn = in_turn;
    issued = λ n c. let q : IsRemoved r n = claimed_removed n c in subst (IsIssued s l) (sym (mark_removed n q)) (second_issued r h q.client q.in_range);
    once = λ n k c d. once n k (claimed_removed n c) (claimed_removed k d);
  }

  -- the head is at node 0, and has passed none
  ends_sound : EndsAreSound s l
  ends_sound = record { head = inl refl; tail = inl refl }

  passed_none : (n : ℕ) → IsPassed s l n → ⊥
  passed_none n p = not_sentinel (subst (IsOnChain s l) (leads_nowhere (links l) 0 n refl p.leads) p.claimed.on_chain)

  -- a client's first two records are its own
  own_first : (t : ℕ) → t < s.clients → IsOwn s l t (first_record s t)
  own_first t client = record { issued = first_issued r h t client; owned = owner_of s t 0 (omega (arith, two r h)) }

  own_second : (t : ℕ) → t < s.clients → IsOwn s l t (second_record s t)
  own_second t client = record { issued = second_issued r h t client; owned = owner_of s t 1 (omega (arith, two r h)) }

  -- the second one claims the first one
  claim_second : (t : ℕ) → t < s.clients → has_node r t ≡ true → IsClaimOf s l (second_record s t) (first_record s t)
  claim_second t client node = record { on_chain = removed_linked (first_record s t) (node_linked t client node); mark = mark_first t node }

  -- and claims nothing where no node stands for the call
  pub no_claim : (t n : ℕ) → has_node r t ≡ false → IsOnChain s l n → marks l n ≢ second_record s t
  no_claim t n none on same = elim (linked n on) [
    | inl q ↦
        let e : q.client ≡ t = second_own q.client t (sym (mark_removed n q) ∙ same) in
        false≢true (sym none ∙ ap (has_node r) (sym e) ∙ q.node)
    | inr q ↦ omega (arith, mark_waiting n q, same)
  ]

  -- durable queues
  row_sound : (t : ℕ) → t < s.clients → RowIsSound s l t
  row_sound t client = elim (announced_cases s t (told_in r t)) [
    | inl none ↦ inl none
    | inr some ↦ elim some [
      | inl first ↦ inr (subst (IsOwn s l t) (sym first) (own_first t client))
      | inr second ↦ inr (subst (IsOwn s l t) (sym second) (own_second t client))
    ]
  ]

  pub cell_second : (t : ℕ) → cells l (second_record s t) ≡ cell_told s t (told_in r t)
  cell_second t = ap (cell r) (role_second s t (two r h))

  result_sound : (c : ℕ) → IsRecord s c → 2 ≤ cells l c → IsResult s l c
  result_sound c i high = go (role_is r h c i)
    where
      named : (t : ℕ) → t < s.clients → c ≡ second_record s t → (is_some (told_node (told_in r t)) ≡ true) × (cell_told s t (told_in r t) ≡ first_record s t + 2)
          → cells l c ≡ cell_told s t (told_in r t) → IsResult s l c
      named t client is got says = record {
        node = first_record s t;
        claim = subst (λ (x : ℕ). IsClaimOf s l x (first_record s t)) (sym is) (claim_second t client got.0);
        named = sym (says ∙ got.1);
      }

      go : RoleOf r c → IsResult s l c
      go (for_node t client is role) = absurd (let none : cells l c ≡ 0 = ap (cell r) role in omega (arith, none, high))
      go (for_item t used client below third is role) = absurd (let none : cells l c ≡ 0 = ap (cell r) role in omega (arith, none, high))
      go (for_answer t client is role) =
          let says : cells l c ≡ cell_told s t (told_in r t) = ap (cell r) role in
          named t client is (cell_got s t (told_in r t) (subst (λ (x : ℕ). 2 ≤ x) says high)) says

  not_empty : s.kind ≡ Durable → (n : ℕ) → IsClaimed s l n → cells l (marks l n) ≢ 1
  not_empty kind n c one =
      let q : IsRemoved r n = claimed_removed n c in
      let says : cells l (marks l n) ≡ first_record s q.client + 2 =
      ap (cells l) (mark_removed n q) ∙ cell_second q.client
      ∙ cell_of_node s q.client (told_in r q.client) (subst (λ (k : Kind). MayBeTold k (told_in r q.client)) kind (h.told q.client)) q.node in
      omega (arith, says, one)

  rows_sound : s.kind ≡ Durable → RowsAreSound s l
  rows_sound kind = record {
    rows = row_sound;
    results = result_sound;
    not_empty = not_empty kind;
    not_open = λ n p. absurd (passed_none n p);
  }

  -- log queues
  linked_role : (n : ℕ) → IsOnChain s l n → (is_linked r (role_of s n) ≡ true) × (entry_kind r (role_of s n) ≡ 1)
  linked_role n on = elim (linked n on) [
    | inl q ↦
        let role : role_of s n ≡ First (record { 0 = q.client }) = role_removed r h n q in
        (ap (is_linked r) role ∙ q.node, ap (entry_kind r) role ∙ rw q.node refl)
    | inr q ↦
        let role : role_of s n ≡ Item q.at = role_waiting r h n q in
        (ap (is_linked r) role ∙ lt-ltb q.at m q.in_range, ap (entry_kind r) role ∙ rw (lt-ltb q.at m q.in_range) refl)
  ]

  inserted : (n : ℕ) → IsOnChain s l n → IsInserted l n
  inserted n on = let q : (is_linked r (role_of s n) ≡ true) × (entry_kind r (role_of s n) ≡ 1) = linked_role n on in record {
    insert = rw q.0 refl;
    kind = q.1;
  }

  first_node : (t : ℕ) → has_node r t ≡ true → entry_nodes l (first_record s t) ≡ first_record s t
  first_node t node = ap (entry_node r (first_record s t)) (role_first s t (two r h)) ∙ rw node refl

  pub first_kind : (t : ℕ) → has_node r t ≡ true → entry_kinds l (first_record s t) ≡ 1
  first_kind t node = ap (entry_kind r) (role_first s t (two r h)) ∙ rw node refl

  pub second_kind : (t : ℕ) → has_verdict (told_in r t) ≡ true → entry_kinds l (second_record s t) ≡ 2
  second_kind t says = ap (entry_kind r) (role_second s t (two r h)) ∙ rw says refl

  pub first_number : (t : ℕ) → announced s t (told_in r t) ≡ first_record s t → numbers l (first_record s t) ≡ number_told (told_in r t)
  first_number t is = ap (number r (first_record s t)) (role_first s t (two r h)) ∙ number_here r t (first_record s t) is

  pub second_number : (t : ℕ) → announced s t (told_in r t) ≡ second_record s t → numbers l (second_record s t) ≡ number_told (told_in r t)
  second_number t is = ap (number r (second_record s t)) (role_second s t (two r h)) ∙ number_here r t (second_record s t) is

  -- the entry that a verdict is told by
  log_second : (t : ℕ) → t < s.clients → (verdict : Verdict) → told_in r t ≡ told_verdict verdict → FitsVerdict verdict
      → outcome_record s t verdict.outcome ≡ second_record s t → IsAnnounced s l t (second_record s t)
  log_second t client verdict told is second =
      let at : announced s t (told_in r t) ≡ second_record s t = ap (announced s t) told ∙ second in
      let says : numbers l (second_record s t) ≡ verdict.number = second_number t at ∙ ap number_told told in
      record {
        own = own_second t client;
        call = inr (second_kind t (ap has_verdict told));
        numbered = subst (λ (x : ℕ). 1 ≤ x) (sym says) is.numbered;
        in_range = subst (λ (x : ℕ). x ≤ 1099511627776) (sym says) is.in_range;
      }

  log_first : (t : ℕ) → t < s.clients → (verdict : Verdict) → told_in r t ≡ told_verdict verdict → FitsVerdict verdict
      → verdict.outcome ≡ Taken Done → IsAnnounced s l t (first_record s t)
  log_first t client verdict told is done =
      let at : announced s t (told_in r t) ≡ first_record s t = ap (announced s t) told ∙ ap (outcome_record s t) done in
      let says : numbers l (first_record s t) ≡ verdict.number = first_number t at ∙ ap number_told told in
      let node : has_node r t ≡ true = ap (λ (x : Told). is_some (told_node x)) told ∙ ap (λ (o : Outcome). is_some (outcome_node o)) done in
      record {
        own = own_first t client;
        call = inl (record { kind = first_kind t node; node = first_node t node });
        numbered = subst (λ (x : ℕ). 1 ≤ x) (sym says) is.numbered;
        in_range = subst (λ (x : ℕ). x ≤ 1099511627776) (sym says) is.in_range;
      }

  log_verdict : (t : ℕ) → t < s.clients → (verdict : Verdict) → told_in r t ≡ told_verdict verdict → FitsVerdict verdict → LogIsSound s l t
  log_verdict t client verdict told is = of_outcome verdict.outcome refl
    where
      second : outcome_record s t verdict.outcome ≡ second_record s t → LogIsSound s l t
      second at = inr (subst (IsAnnounced s l t) (sym (ap (announced s t) told ∙ at)) (log_second t client verdict told is at))

      of_outcome : (o : Outcome) → verdict.outcome ≡ o → LogIsSound s l t
      of_outcome NotTaken e = second (ap (outcome_record s t) e)
      of_outcome (Taken Done) e =
          inr (subst (IsAnnounced s l t) (sym (ap (announced s t) told ∙ ap (outcome_record s t) e)) (log_first t client verdict told is e))
      of_outcome (Taken (Got value)) e = second (ap (outcome_record s t) e)
      of_outcome (Taken Empty) e = second (ap (outcome_record s t) e)

  log_sound : s.kind ≡ Log → (t : ℕ) → t < s.clients → LogIsSound s l t
  log_sound kind t client = of_told (told_in r t) refl (subst (λ (k : Kind). MayBeTold k (told_in r t)) kind (h.told t))
    where
      of_told : (told : Told) → told_in r t ≡ told → MayBeTold Log told → LogIsSound s l t
      of_told told_none e may = inl (ap (announced s t) e)
      of_told (told_verdict verdict) e may = log_verdict t client verdict e may
      of_told (told_row row) e may = absurd may

  status_sound : (e : ℕ) → IsRecord s e → StatusIsSound s l e
  status_sound e i = go (role_is r h e i)
    where
      go : RoleOf r e → StatusIsSound s l e
      go (for_node t client is role) = inl (ap (status r) role)
      go (for_item t used client below third is role) = inl (ap (status r) role)
      go (for_answer t client is role) = elim (status_cases (told_in r t)) [
        | inl none ↦ inl (ap (status r) role ∙ none)
        | inr q ↦ inr (inr (record {
          status = ap (status r) role ∙ q.0;
          kind = ap (entry_kinds l) is ∙ second_kind t q.1;
          no_claim = λ n claim. no_claim t n q.2 claim.on_chain (claim.mark ∙ is);
        }))
      ]

  claim_kind : s.kind ≡ Log → (n : ℕ) → IsClaimed s l n → entry_kinds l (marks l n) ≡ 2
  claim_kind kind n c =
      let q : IsRemoved r n = claimed_removed n c in
      ap (entry_kinds l) (mark_removed n q)
      ∙ second_kind q.client (verdict_of_node (told_in r q.client) (subst (λ (k : Kind). MayBeTold k (told_in r q.client)) kind (h.told q.client)) q.node)

  removed_sound : (e : ℕ) → IsRecord s e → entry_kinds l e ≡ 2 → RemovedIsSound s l e
  removed_sound e i dequeue = go (role_is r h e i)
    where
      go : RoleOf r e → RemovedIsSound s l e
      go (for_node t client is role) = absurd (not_dequeue (has_node r t) (sym (ap (entry_kind r) role) ∙ dequeue))
      go (for_item t used client below third is role) =
          absurd (not_dequeue (nat_lt ((used - 2) * s.clients + t) m) (sym (ap (entry_kind r) role) ∙ dequeue))
      go (for_answer t client is role) = elim (cases_Bool (has_node r t)) [
        | inl node ↦
            let says : entry_nodes l e ≡ first_record s t = ap (entry_node r e) role ∙ rw node refl in
            inr (subst (IsClaimOf s l e) (sym says) (subst (λ (x : ℕ). IsClaimOf s l x (first_record s t)) (sym is) (claim_second t client node)))
        | inr none ↦ inl (ap (entry_node r e) role ∙ rw none refl)
      ]

  entries_sound : s.kind ≡ Log → EntriesAreSound s l
  entries_sound kind = record {
    inserts = inserted;
    logs = log_sound kind;
    kinds = λ e i. kind_small r (role_of s e);
    statuses = status_sound;
    claims = claim_kind kind;
    results = removed_sound;
    told = λ n p. absurd (passed_none n p);
  }

  answers_sound : (kind : Kind) → s.kind ≡ kind → AnswersAreSound kind s l
  answers_sound Durable e = rows_sound e
  answers_sound Log e = entries_sound e

  pub renewed_sound : IsSound s l
  renewed_sound = record {
    records = records_sound;
    chain = chain_sound;
    claims = claims_sound;
    ends = ends_sound;
    answers = answers_sound s.kind refl;
  }
