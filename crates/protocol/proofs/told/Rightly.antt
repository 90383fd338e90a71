-- Each act keeps what the kept words tell right.
use Rattle.std.proofs.Common.{◌≡◌, ◌≢◌, ℕ, ◌<◌, ◌⊎◌, inl, inr, List, length, Option, Some, None, refl, sym, ◌∙◌, ap, subst, arith}
use Rattle.std.proofs.lemmas.Bool.{cases_eq}
use Rattle.std.proofs.lemmas.Option.{slice_get_within}
use Rattle.words.specs.declared.call.Call.{Call}
use Rattle.words.specs.declared.call.Call.TheVariants.{Deq}
use Rattle.words.specs.declared.call.Client.{Client}
use Rattle.words.specs.declared.call.Kind.{Kind}
use Rattle.words.specs.declared.call.Kind.TheVariants.{Durable, Log}
use Rattle.words.specs.declared.call.Reply.TheVariants.{Done, Got, Empty}
use Rattle.words.specs.declared.told.Outcome.{Outcome}
use Rattle.words.specs.declared.told.Outcome.TheVariants.{NotTaken, Taken}
use Rattle.words.specs.declared.told.Row.{Row}
use Rattle.words.specs.declared.told.Row.TheVariants.{NoCall, Open, Empty as row_empty, Got as row_got}
use Rattle.words.specs.declared.told.Told.{Told}
use Rattle.words.specs.declared.told.Told.TheVariants.{None as told_none, Verdict as told_verdict, Row as told_row}
use Rattle.arena.specs.Answers.{empty_answer_of}
use Rattle.arena.specs.Shape.{Shape, owner}
use Rattle.arena.specs.Words.{links, marks, values, numbers, entry_kinds, statuses, announcements}
use Rattle.arena.specs.declared.place.Place.{Place}
use Rattle.arena.specs.declared.place.Place.TheVariants.{Announcement, Next, Mark, Number, EntryKind}
use Rattle.helping.specs.Table.{token_of, node_of}
use Rattle.events.specs.Effects.{order_of}
use Rattle.events.specs.Telling.{IsToldOf}
use Rattle.events.specs.declared.event.Effect.{Effect}
use Rattle.events.specs.declared.event.Event.TheVariants.{Call as call_event}
use Rattle.protocol.specs.Machine.{Memory, World, put, with_fence}
use Rattle.protocol.specs.declared.UnderWay.{UnderWay}
use Rattle.protocol.specs.Announced.{IsCallOf}
use Rattle.protocol.specs.Kept.{OutcomeBy, RowBy, TellsBy, TellsOf}
use Rattle.protocol.specs.invariants.Ledger.{Ledger, held_token, asked_call}
use Rattle.protocol.specs.invariants.Places.{SaysEmpty, empties}
use Rattle.protocol.specs.invariants.Base.{IsLinking, IsClaiming, IsAnswering, Base}
use Rattle.protocol.specs.invariants.Grows.{Grows}
use Rattle.protocol.specs.invariants.Knows.{Knows}
use Rattle.protocol.proofs.changes.Puts.{put_cases}
use Rattle.protocol.proofs.changes.Keeps.{kept_ledger}
use Rattle.protocol.proofs.changes.Fences.{cell_says, status_says, keep_any}
use Rattle.protocol.specs.invariants.Records.{Both, IsEntry, IsAnnouncing, Records}
use Rattle.protocol.proofs.records.Records.{both_fenced, claimed_value}
use Rattle.protocol.proofs.records.RecordStores.{acting_or, announced_number}
use Rattle.stepper.specs.Preparation.{IsBegun}
use Rattle.helping.specs.declared.op.Op.{Op}
use Rattle.protocol.specs.invariants.Worlds.{record_of_call, stage_of, ledger_of, ledger_from, IsCalling, Working}
use Rattle.protocol.proofs.worlds.Moments.{Noted, calling, holder}
use Rattle.protocol.specs.invariants.Told.{IsTold, Names, RightlyTold, AreIssued}
use Rattle.protocol.proofs.told.Tells.{told_more, more_by_stage, told_of_cases, announced_told}

told_dequeue : (kind : Kind) → IsToldOf kind Deq
told_dequeue Durable = tt
told_dequeue Log = tt

-- what a kept word leaves of what is told of an announced record that no call under way has
module _ (s : Shape) (m : Memory) (l : Ledger) (claimed waiting : List ℕ) (b : Base s m l claimed waiting) (r : Records s m l) (p : Place) (j : ℕ) (some : announcements m.kept j ≢ 0)
    (free : held_token l j ≡ announcements m.kept j → IsToldOf s.kind (asked_call l j) → ⊥) where
  e : ℕ
  e = announcements m.kept j

  own : owner s (announcements m.kept j) ≡ j
  own = (b.announced_kept j some).owned

  held_by : (x : ℕ) → x ≡ announcements m.kept j → held_token l (owner s x) ≡ x → held_token l j ≡ announcements m.kept j
  held_by x at h = ap (held_token l) (sym own ∙ ap (owner s) (sym at)) ∙ h ∙ at

  asked_by : (x : ℕ) (c : Call) → x ≡ announcements m.kept j → asked_call l (owner s x) ≡ c → asked_call l j ≡ c
  asked_by x c at h = ap (asked_call l) (sym own ∙ ap (owner s) (sym at)) ∙ h

  link_back : s.kind ≡ Log → (at : ℕ) → links (with_fence m p).kept at ≡ announcements m.kept j → links m.kept at ≡ announcements m.kept j
  link_back k at h = elim (put_cases m.kept p (m.cached p) (Next (node_of at))) [
    | inl t ↦
        let now : links m.cached at ≡ announcements m.kept j = ap m.cached t.0 ∙ sym t.1 ∙ h in
        elim (cases_eq (links m.kept at) 0) [
          | inl none ↦
              let f : IsLinking s l (values m.cached) (links m.cached at) = b.flying_link at (λ z. some (sym now ∙ z)) none in
              absurd (free (held_by (links m.cached at) now f.holds) (subst (λ x. IsToldOf x (asked_call l j)) (sym k) tt))
          | inr ne ↦ sym (b.chained.kept at ne) ∙ now
        ]
    | inr t ↦ sym t.1 ∙ h
  ]

  mark_back : (at : ℕ) → marks (with_fence m p).kept at ≡ announcements m.kept j → marks m.kept at ≡ announcements m.kept j
  mark_back at h = elim (put_cases m.kept p (m.cached p) (Mark (node_of at))) [
    | inl t ↦
        let now : marks m.cached at ≡ announcements m.kept j = ap m.cached t.0 ∙ sym t.1 ∙ h in
        elim (cases_eq (marks m.kept at) 0) [
          | inl none ↦
              let f : IsClaiming s l (marks m.cached at) = b.flying_mark at (λ z. some (sym now ∙ z)) none in
              absurd (free (held_by (marks m.cached at) now f.holds) (subst (IsToldOf s.kind) (sym (asked_by (marks m.cached at) Deq now f.asks)) (told_dequeue s.kind)))
          | inr ne ↦ sym (b.marked.kept at ne) ∙ now
        ]
    | inr t ↦ sym t.1 ∙ h
  ]

  says_back : SaysEmpty s (with_fence m p).kept (announcements m.kept j) → SaysEmpty s m.kept (announcements m.kept j)
  says_back h = elim (put_cases m.kept p (m.cached p) (empty_answer_of s.kind (token_of (announcements m.kept j))).place) [
    | inl t ↦
        let now : SaysEmpty s m.cached (announcements m.kept j) = ap m.cached t.0 ∙ sym t.1 ∙ h in
        elim (cases_eq (empties s m.kept (announcements m.kept j)) (empty_answer_of s.kind (token_of (announcements m.kept j))).value) [
          | inl says ↦ says
          | inr ne ↦
              let f : IsAnswering s l (marks m.cached) (announcements m.kept j) = b.empty.flying (announcements m.kept j) now ne in
              absurd (free (held_by (announcements m.kept j) refl f.holds) (subst (IsToldOf s.kind) (sym (asked_by (announcements m.kept j) Deq refl f.asks)) (told_dequeue s.kind)))
        ]
    | inr t ↦ sym t.1 ∙ h
  ]

  grows : Grows 0 s m l (with_fence m p) (kept_ledger s m l p)
  grows = (keep_any s m l claimed waiting b p).grows 0

  link_forth : (at : ℕ) → links m.kept at ≡ announcements m.kept j → links (with_fence m p).kept at ≡ announcements m.kept j
  link_forth at h = grows.at_kept_link at (λ z. some (sym h ∙ z)) ∙ h

  mark_forth : (at : ℕ) → marks m.kept at ≡ announcements m.kept j → marks (with_fence m p).kept at ≡ announcements m.kept j
  mark_forth at h = grows.at_kept_mark at (λ z. some (sym h ∙ z)) ∙ h

  says_forth : SaysEmpty s m.kept (announcements m.kept j) → SaysEmpty s (with_fence m p).kept (announcements m.kept j)
  says_forth h = elim (put_cases m.kept p (m.cached p) (empty_answer_of s.kind (token_of (announcements m.kept j))).place) [
    | inl t ↦ t.1 ∙ ap m.cached (sym t.0) ∙ b.empty.said (announcements m.kept j) h
    | inr t ↦ t.1 ∙ h
  ]

  same_kind : s.kind ≡ Log → entry_kinds (with_fence m p).kept (announcements m.kept j) ≡ entry_kinds m.kept (announcements m.kept j)
  same_kind k = elim (r.entry_kept k j some).kind [
    | inl q ↦ (both_fenced m p (EntryKind (token_of (announcements m.kept j))) 1 q.0).1 ∙ sym q.0.1
    | inr q ↦ (both_fenced m p (EntryKind (token_of (announcements m.kept j))) 2 q).1 ∙ sym q.1
  ]

  same_number : s.kind ≡ Log → numbers (with_fence m p).kept (announcements m.kept j) ≡ numbers m.kept (announcements m.kept j)
  same_number k =
      let q : IsEntry m (announcements m.kept j) = r.entry_kept k j some in
      (both_fenced m p (Number (token_of (announcements m.kept j))) q.number q.numbered).1 ∙ sym q.numbered.1

  status_two : s.kind ≡ Log → statuses (with_fence m p).kept (announcements m.kept j) ≡ 2 → statuses m.kept (announcements m.kept j) ≡ 2
  status_two k h = (status_says s m.kept (token_of (announcements m.kept j)) k).0 (says_back ((status_says s (with_fence m p).kept (token_of (announcements m.kept j)) k).1 h))

  status_too : s.kind ≡ Log → statuses m.kept (announcements m.kept j) ≡ 2 → statuses (with_fence m p).kept (announcements m.kept j) ≡ 2
  status_too k h = (status_says s (with_fence m p).kept (token_of (announcements m.kept j)) k).0 (says_forth ((status_says s m.kept (token_of (announcements m.kept j)) k).1 h))

  outcome_back : s.kind ≡ Log → (o : Outcome) → OutcomeBy (with_fence m p).kept (announcements m.kept j) o → OutcomeBy m.kept (announcements m.kept j) o
  outcome_back k (Taken Done) h = (sym (same_kind k) ∙ h.0, record { at = h.1.at; linked = link_back k h.1.at h.1.linked })
  outcome_back k (Taken Empty) h = (λ q. h.0 (same_kind k ∙ q), status_two k h.1)
  outcome_back k (Taken (Got v)) h =
      let marked : marks m.kept h.1.at ≡ announcements m.kept j = mark_back h.1.at h.1.marked in (
        λ q. h.0 (same_kind k ∙ q),
        record { at = h.1.at; marked = marked; value = sym (claimed_value s m l claimed waiting b r p h.1.at (λ z. some (sym marked ∙ z))) ∙ h.1.value },
      )
  outcome_back k NotTaken h = (
    λ one at q. h.0 (same_kind k ∙ one) at (link_forth at q),
    λ ne.
        let q : (statuses (with_fence m p).kept (announcements m.kept j) ≢ 2) × ((at : ℕ) → marks (with_fence m p).kept at ≢ announcements m.kept j) = h.1 (λ z. ne (sym (same_kind k) ∙ z)) in
        (λ two. q.0 (status_too k two), λ at x. q.1 at (mark_forth at x)),
  )

  row_back : s.kind ≡ Durable → (o : Row) → RowBy (with_fence m p).kept (announcements m.kept j) o → RowBy m.kept (announcements m.kept j) o
  row_back k (row_got v) h =
      let marked : marks m.kept h.at ≡ announcements m.kept j = mark_back h.at h.marked in
      record { at = h.at; marked = marked; value = sym (claimed_value s m l claimed waiting b r p h.at (λ z. some (sym marked ∙ z))) ∙ h.value }
  row_back k row_empty h = (cell_says s m.kept (token_of (announcements m.kept j)) k).0 (says_back ((cell_says s (with_fence m p).kept (token_of (announcements m.kept j)) k).1 h))
  row_back k Open h = (
    λ one. h.0 ((cell_says s (with_fence m p).kept (token_of (announcements m.kept j)) k).0 (says_forth ((cell_says s m.kept (token_of (announcements m.kept j)) k).1 one))),
    λ at x. h.1 at (mark_forth at x),
  )
  row_back k NoCall h = h

-- what is told of a client whose announcement stays
module _ (s : Shape) (m : Memory) (l : Ledger) (claimed waiting : List ℕ) (b : Base s m l claimed waiting) (r : Records s m l) (p : Place) (j : ℕ)
    (same : announcements (with_fence m p).kept j ≡ announcements m.kept j) (free : announcements m.kept j ≢ 0 → held_token l j ≡ announcements m.kept j → IsToldOf s.kind (asked_call l j) → ⊥) where
  row_before : s.kind ≡ Durable → (row : Row) → TellsBy Durable (with_fence m p).kept j (told_row row) → TellsBy Durable m.kept j (told_row row)
  row_before k NoCall h = sym same ∙ h
  row_before k Open h = let ne : announcements m.kept j ≢ 0 = λ z. h.0 (same ∙ z) in (ne, row_back s m l claimed waiting b r p j ne (free ne) k Open (subst (λ e. RowBy (with_fence m p).kept e Open) same h.1))
  row_before k row_empty h = let ne : announcements m.kept j ≢ 0 = λ z. h.0 (same ∙ z) in (ne, row_back s m l claimed waiting b r p j ne (free ne) k row_empty (subst (λ e. RowBy (with_fence m p).kept e row_empty) same h.1))
  row_before k (row_got v) h = let ne : announcements m.kept j ≢ 0 = λ z. h.0 (same ∙ z) in (ne, row_back s m l claimed waiting b r p j ne (free ne) k (row_got v) (subst (λ e. RowBy (with_fence m p).kept e (row_got v)) same h.1))

  tells_before : (kind : Kind) → s.kind ≡ kind → (t : Told) → TellsBy kind (with_fence m p).kept j t → TellsBy kind m.kept j t
  tells_before Log k told_none h = sym same ∙ h
  tells_before Log k (told_verdict v) h =
      let ne : announcements m.kept j ≢ 0 = λ z. h.0 (same ∙ z) in (
        ne,
        h.1 ∙ ap (numbers (with_fence m p).kept) same ∙ same_number s m l claimed waiting b r p j ne (free ne) k,
        outcome_back s m l claimed waiting b r p j ne (free ne) k v.outcome (subst (λ e. OutcomeBy (with_fence m p).kept e v.outcome) same h.2),
      )
  tells_before Log k (told_row row) h = h
  tells_before Durable k (told_row row) h = row_before k row h
  tells_before Durable k told_none h = h
  tells_before Durable k (told_verdict v) h = h

-- the kept words stay, or one of them is kept
abbrev pub KeptBy : Memory → Memory → Type 0
KeptBy m n = (n.kept ≡ m.kept) ⊎ record { p : Place; same : n.kept ≡ put m.kept p (m.cached p) }

both_kept : (m n : Memory) (q : Place) (x : ℕ) → KeptBy m n → Both m q x → n.kept q ≡ x
both_kept m n q x (inl e) h = ap (λ (f : Place → ℕ). f q) e ∙ h.1
both_kept m n q x (inr k) h = ap (λ (f : Place → ℕ). f q) k.same ∙ (both_fenced m k.p q x h).1

-- the record of a call under way
pub call_begun_fits : (s : Shape) (m : Memory) (l : Ledger) (i : ℕ) (op : Op) → Knows s m l i op → IsBegun s (l.begun i)
call_begun_fits s m l i op h = elim (acting_or s m l i op h) [
  | inl a ↦ a.prepared.begun
  | inr p ↦ subst (IsBegun s) (sym p.preparing.begun) p.preparing.so_far.begun
]

module _ (w : World) (v : Working w) (tells : RightlyTold w) (issued : AreIssued w) (n : Memory) (effects : List Effect) (k : Ledger) (claimed waiting : List ℕ) (b : Base w.shape n k claimed waiting) (r : Records w.shape n k) (noted : Noted w effects k) (kept : KeptBy w.memory n) where
  base_now : Base w.shape n (ledger_from w.calls w.log.events w.base effects) claimed waiting
  base_now = subst (λ x. Base w.shape n x claimed waiting) (sym noted.same) b

  records_now : Records w.shape n (ledger_from w.calls w.log.events w.base effects)
  records_now = subst (Records w.shape n) (sym noted.same) r

  -- the client's announcement stays, where the call that it has under way is not announced
  announced_stays : (j : ℕ) → ((u : UnderWay) → w.calls j ≡ Some u → IsToldOf w.shape.kind u.begun.call → announcements n.kept j ≡ u.begun.token.0 → ⊥) → announcements n.kept j ≡ announcements w.memory.kept j
  announced_stays j free = go kept
    where
      go : KeptBy w.memory n → announcements n.kept j ≡ announcements w.memory.kept j
      go (inl e) = ap (λ (f : Place → ℕ). announcements f j) e
      go (inr q) = elim (put_cases w.memory.kept q.p (w.memory.cached q.p) (Announcement (record { 0 = j }))) [
        | inl t ↦
            let cached : announcements n.kept j ≡ announcements w.memory.cached j = ap (λ (f : Place → ℕ). announcements f j) q.same ∙ t.1 ∙ ap w.memory.cached (sym t.0) in
            elim (cases_eq (announcements w.memory.cached j) (announcements w.memory.kept j)) [
              | inl e ↦ cached ∙ e
              | inr ne ↦
                  let a : IsAnnouncing w.shape w.memory (ledger_of w) j = v.records.announcing j ne in
                  let u : (u : UnderWay) × (w.calls j ≡ Some u) = holder w v j (announcements w.memory.cached j) a.some (sym a.holds) in
                  absurd (free u.0 u.1 (subst (λ x. IsToldOf w.shape.kind (record_of_call x).call) u.1 a.told_of) (cached ∙ a.holds ∙ ap (λ x. (record_of_call x).token.0) u.1))
            ]
        | inr t ↦ ap (λ (f : Place → ℕ). announcements f j) q.same ∙ t.1
      ]

  -- what the words told before
  before_told : (j : ℕ) (told : Told) → ((u : UnderWay) → w.calls j ≡ Some u → IsToldOf w.shape.kind u.begun.call → announcements n.kept j ≡ u.begun.token.0 → ⊥) → TellsOf w.shape n.kept j told → TellsOf w.shape w.memory.kept j told
  before_told j told free h = (λ lt. go kept (h.0 lt), h.1)
    where
      go : KeptBy w.memory n → TellsBy w.shape.kind n.kept j told → TellsBy w.shape.kind w.memory.kept j told
      go (inl e) t = subst (λ (f : Place → ℕ). TellsBy w.shape.kind f j told) e t
      go (inr q) t = tells_before w.shape w.memory (ledger_of w) v.claimed v.waiting v.base v.records q.p j same unheld w.shape.kind refl told (subst (λ (f : Place → ℕ). TellsBy w.shape.kind f j told) q.same t)
        where
          same : announcements (with_fence w.memory q.p).kept j ≡ announcements w.memory.kept j
          same = ap (λ (f : Place → ℕ). announcements f j) (sym q.same) ∙ announced_stays j free

          unheld : announcements w.memory.kept j ≢ 0 → held_token (ledger_of w) j ≡ announcements w.memory.kept j → IsToldOf w.shape.kind (asked_call (ledger_of w) j) → ⊥
          unheld some h of =
              let u : (u : UnderWay) × (w.calls j ≡ Some u) = holder w v j (announcements w.memory.kept j) some h in
              free u.0 u.1 (subst (λ x. IsToldOf w.shape.kind (record_of_call x).call) u.1 of) (announced_stays j free ∙ sym h ∙ ap (λ x. (record_of_call x).token.0) u.1)

  -- the order has more of other calls alone
  more_told : (e : ℕ) (client : Client) (told : Told) → ((u : UnderWay) → w.calls client.0 ≡ Some u → IsToldOf w.shape.kind u.begun.call → announcements n.kept client.0 ≡ u.begun.token.0 → ⊥)
      → IsTold w.shape.kind w.told w.log.issued e w.log.events (order_of w.log.effects) client told → IsTold w.shape.kind w.told w.log.issued e w.log.events (order_of effects) client told
  more_told e client told free h = elim noted.moved [
    | inl same ↦ told_more w.shape.kind w.told w.log.issued e w.log.events (length w.log.events) (order_of w.log.effects) (order_of effects) client told
        (more_by_stage (length w.log.events) w.log.effects effects noted.part (λ q ne. same q))
        (λ number begins. absurd (omega (arith, slice_get_within w.log.events (length w.log.events) (call_event client number begins.call) begins.begins))) h
    | inr x ↦ told_more w.shape.kind w.told w.log.issued e w.log.events x.u.place (order_of w.log.effects) (order_of effects) client told
        (more_by_stage x.u.place w.log.effects effects noted.part x.others)
        (λ number begins.
        let c : IsCalling w.log.events x.o x.u = (calling w v x.o x.u x.at).1 in
        let same : Some (call_event x.u.begun.client x.u.begun.number x.u.begun.call) ≡ Some (call_event client number begins.call) = sym c.stands ∙ begins.begins in
        let who : x.u.begun.client ≡ client = cc in
        let call : x.u.begun.call ≡ begins.call = cc in
        let j : x.o ≡ client.0 = sym c.who ∙ ap (λ y. y.0) who in
        let of : IsToldOf w.shape.kind x.u.begun.call = subst (IsToldOf w.shape.kind) (sym call) begins.told_of in
        free x.u (ap w.calls (sym j) ∙ x.at) of
        (subst (λ y. announcements n.kept y ≡ x.u.begun.token.0) j (both_kept w.memory n (Announcement (record { 0 = x.o })) x.u.begun.token.0 kept (x.announced of)))) h
  ]

  -- of an announced call the words tell now
  now_told : (client : Client) (told : Told) (u : UnderWay) → w.calls client.0 ≡ Some u → IsToldOf w.shape.kind u.begun.call → announcements n.kept client.0 ≡ u.begun.token.0 → TellsOf w.shape n.kept client.0 told
      → IsTold w.shape.kind w.told w.log.issued (announcements n.kept client.0) w.log.events (order_of effects) client told
  now_told client told u at of ann h =
      let q : Knows w.shape w.memory (ledger_of w) client.0 u.op × IsCalling w.log.events client.0 u = calling w v client.0 u at in
      let fits : IsBegun w.shape ((ledger_of w).begun client.0) = call_begun_fits w.shape w.memory (ledger_of w) client.0 u.op q.0 in
      let begun : (ledger_of w).begun client.0 ≡ u.begun = ap record_of_call at in
      let below : client.0 < w.shape.clients = subst (λ x. x < w.shape.clients) (ap (λ x. x.client.0) begun ∙ q.1.who) fits.client in
      let some : u.begun.token.0 ≢ 0 = λ z. absurd (omega (arith, fits.is_record.0, ap (λ x. x.token.0) begun, z)) in
      let held_is : held_token (ledger_of w) client.0 ≡ u.begun.token.0 = ap (λ x. x.token.0) begun in
      let which : (announcements w.memory.cached client.0 ≡ held_token (ledger_of w) client.0) ⊎ (announcements w.memory.kept client.0 ≡ held_token (ledger_of w) client.0) =
      elim kept [
        | inl e ↦ inr (sym (ap (λ (f : Place → ℕ). announcements f client.0) e) ∙ ann ∙ sym held_is)
        | inr x ↦ elim (put_cases w.memory.kept x.p (w.memory.cached x.p) (Announcement (record { 0 = client.0 }))) [
          | inl t ↦ inl (ap w.memory.cached t.0 ∙ sym t.1 ∙ sym (ap (λ (f : Place → ℕ). announcements f client.0) x.same) ∙ ann ∙ sym held_is)
          | inr t ↦ inr (sym t.1 ∙ sym (ap (λ (f : Place → ℕ). announcements f client.0) x.same) ∙ ann ∙ sym held_is)
        ]
      ] in
      let numbered : w.shape.kind ≡ Log → numbers n.kept u.begun.token.0 ≡ u.begun.number = λ e.
      both_kept w.memory n (Number (token_of u.begun.token.0)) u.begun.number kept
      (subst (λ x. Both w.memory (Number x.token) x.number) begun (announced_number w.shape w.memory (ledger_of w) client.0 u.op q.0 which e)) in
      let names : Names w.log.issued (announcements n.kept client.0) client.0 u.begun.number u.place = record {
        some = λ z. some (sym ann ∙ z);
        call = record { place = u.place; begun = u.begun };
        of = subst (λ t. IsCallOf w.log.issued t (record { place = u.place; begun = u.begun })) (sym ann) (issued client.0 u at);
        own = q.1.who;
        number = refl;
        place = refl;
      } in
      announced_told w.shape n (ledger_from w.calls w.log.events w.base effects) claimed waiting base_now records_now w.base w.told w.log.events effects noted.log client.0 u q.1 begun (ap (λ c. stage_of c effects) at)
      of ann numbered w.log.issued client refl some names told (h.0 below)

  -- whatever is told by the words after the act, before any event
  pub kept_told : (client : Client) (told : Told) → client.0 < 16 → TellsOf w.shape n.kept client.0 told → IsTold w.shape.kind w.told w.log.issued (announcements n.kept client.0) w.log.events (order_of effects) client told
  kept_told client told few h = go (w.calls client.0) refl
    where
      old_way : ((u : UnderWay) → w.calls client.0 ≡ Some u → IsToldOf w.shape.kind u.begun.call → announcements n.kept client.0 ≡ u.begun.token.0 → ⊥) → IsTold w.shape.kind w.told w.log.issued (announcements n.kept client.0) w.log.events (order_of effects) client told
      old_way free = more_told (announcements n.kept client.0) client told free
          (subst (λ e. IsTold w.shape.kind w.told w.log.issued e w.log.events (order_of w.log.effects) client told) (sym (announced_stays client.0 free)) (tells client told few (before_told client.0 told free h)))

      same_call : (u x : UnderWay) → w.calls client.0 ≡ Some u → w.calls client.0 ≡ Some x → x ≡ u
      same_call u x e f = let same : Some x ≡ Some u = sym f ∙ e in cc

      go : (c : Option UnderWay) → w.calls client.0 ≡ c → IsTold w.shape.kind w.told w.log.issued (announcements n.kept client.0) w.log.events (order_of effects) client told
      go None e = old_way (λ u f. let wrong : None ≡ Some u = sym e ∙ f in absurd (cc))
      go (Some u) e = elim (told_of_cases w.shape.kind u.begun.call) [
        | inl of ↦ elim (cases_eq (announcements n.kept client.0) u.begun.token.0) [
          | inl ann ↦ now_told client told u e of ann h
          | inr ne ↦ old_way (λ x f of ann. ne (ann ∙ ap (λ y. y.begun.token.0) (same_call u x e f)))
        ]
        | inr no_call ↦ old_way (λ x f of. absurd (no_call (subst (λ y. IsToldOf w.shape.kind y.begun.call) (same_call u x e f) of)))
      ]
