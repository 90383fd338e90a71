-- The words of records that are not used are 0.
use Rattle.std.proofs.Common.{◌≡◌, ℕ, ◌+◌, ◌-◌, ◌*◌, ◌/◌, ◌≤◌, ◌<◌, inl, inr, true, false, List, Bool, length, replicate, set, get_or, Option, Some, None, refl, sym, ◌∙◌, subst, arith}
use Rattle.std.specs.Prelude.{MatchOption}
use Rattle.std.proofs.lemmas.Bool.{cases_eq, cases_lt, false≢true}
use Rattle.std.proofs.Math.Nat.{mul-le-mul_right}
use Rattle.std.proofs.lemmas.List.{get_or-replicate, get_or-set_other, get_or_past, length-replicate}
use Rattle.words.specs.declared.call.Kind.{Kind}
use Rattle.words.specs.declared.call.Kind.TheVariants.{Durable, Log}
use Rattle.arena.specs.Layout.{laid_out, place_at, size_of, word_at, word_by, word_in}
use Rattle.arena.specs.Place.{IsPlace}
use Rattle.arena.specs.Shape.{Shape, greatest, record_of}
use Rattle.arena.specs.Words.{bumps}
use Rattle.arena.specs.declared.form.Form.TheVariants.{OfItems}
use Rattle.arena.specs.declared.place.Part.TheVariants.{Length, First, Second, Third}
use Rattle.arena.specs.declared.place.Place.{Place}
use Rattle.arena.specs.declared.place.Place.TheVariants.{Head, Tail, Announcement, Bump, Item, Next, Mark, Cell, Insert, Number, EntryKind, Status, EntryNode}
use Rattle.sound_words.specs.Sound.{IsBlank, IsBlankAnswer}
use Rattle.renewal.specs.Renewal.{Renewal}
use Rattle.renewal.specs.Renewed.{renewed}
use Rattle.renewal.specs.Roles.{first_record, used_for}
use Rattle.renewal.specs.Words.{MayBeRenewed, renewed_or_zero, word_renewed}
use Rattle.renewal.specs.Zeros.{AreZeroRuns, answer_from, answer_words, node_from, node_words}
use Rattle.renewal.proofs.Roles.{is_record, owner_of}
use Rattle.renewal.proofs.Sound.{renewed_sound}
use Rattle.renewal.proofs.Words.{word_past}

-- one more run is noted
pub run_noted : (r : Renewal) (runs : List Bool) (from to run : ℕ) → ((w : ℕ) → from ≤ w → w < to → word_renewed r w ≡ 0)
    → from / 64 + 1 ≤ run → run < to / 64 → AreZeroRuns r runs → AreZeroRuns r (set runs run true)
run_noted r runs from to run zero after before so_far = λ w noted. elim (cases_eq (w / 64) run) [
  | inl here ↦ zero w (omega (arith, here, after)) (omega (arith, here, before))
  | inr other ↦ so_far w (sym (get_or-set_other runs run (w / 64) true false other) ∙ noted)
]

-- at first none is
pub none_noted : (r : Renewal) (count : ℕ) → AreZeroRuns r (replicate count false)
none_noted r count = λ w noted. absurd (false≢true (sym (is_false (w / 64)) ∙ noted))
  where
    is_false : (run : ℕ) → get_or (replicate count false) run false ≡ false
    is_false run = elim (cases_lt run count) [
      | inl below ↦ get_or-replicate count run false false below
      | inr past ↦ get_or_past (replicate count false) run false (subst (λ (n : ℕ). n ≤ run) (sym (length-replicate count false)) past)
    ]

-- a client's records are numbered within the queue's
pub records_within : (s : Shape) (t used : ℕ) → t < s.clients → used ≤ s.records → record_of s t used ≤ greatest s + 1
records_within s t used client few =
    let turns : (t + 1) * s.records ≤ s.clients * s.records = mul-le-mul_right {m = t + 1} {n = s.clients} s.records (omega (arith, client)) in
    let more : (t + 1) * s.records ≡ t * s.records + s.records = grind arith in
    omega (arith, turns, more, few)

module _ (r : Renewal) (h : MayBeRenewed r) where
  abbrev s : Shape
  s = r.shape

  abbrev m : ℕ
  m = length r.content

  abbrev l : Place → ℕ
  l = renewed r

  abbrev AreBlank : ℕ → ℕ → Type 0
  AreBlank lo hi = (n : ℕ) → lo ≤ n → n < hi → IsBlank s l n

  unused : (t : ℕ) → t < s.clients → AreBlank (record_of s t (used_for s m t)) (record_of s t s.records)
  unused t client n from below =
      let used : ℕ = n - first_record s t in
      let is : n ≡ record_of s t used = omega (arith, from) in
      let few : used < s.records = omega (arith, from, below) in
      subst (IsBlank s l) (sym is) (((renewed_sound r h).records.unused (record_of s t used) (is_record s t used client few)).blank (λ issued.
      let low : record_of s t used < record_of s t (used_for s m t) =
      subst (λ (o : ℕ). record_of s t used < record_of s o (bumps l o)) (owner_of s t used few) issued.used in
      omega (arith, low, from, is)))

  -- where nodes, and records, are blank, each place among their words has 0
  node_zero : (kind : Kind) (lo hi : ℕ) → AreBlank lo hi → hi ≤ greatest s + 1 → (p : Place) → IsPlace s p
      → 2 + 2 * s.clients + node_words kind * lo ≤ word_by OfItems kind s p
      → word_by OfItems kind s p < 2 + 2 * s.clients + node_words kind * hi → l p ≡ 0
  node_zero Durable lo hi blank few Head at from to = absurd (omega (arith, from))
  node_zero Durable lo hi blank few Tail at from to = absurd (omega (arith, from))
  node_zero Durable lo hi blank few (Announcement t) at from to = absurd (omega (arith, from, at))
  node_zero Durable lo hi blank few (Bump t) at from to = absurd (omega (arith, from, at))
  node_zero Durable lo hi blank few (Item n Length) at from to = (blank n.0 (omega (arith, from)) (omega (arith, to))).item.len
  node_zero Durable lo hi blank few (Item n First) at from to = (blank n.0 (omega (arith, from)) (omega (arith, to))).item.first
  node_zero Durable lo hi blank few (Item n Second) at from to = (blank n.0 (omega (arith, from)) (omega (arith, to))).item.second
  node_zero Durable lo hi blank few (Item n Third) at from to = (blank n.0 (omega (arith, from)) (omega (arith, to))).item.third
  node_zero Durable lo hi blank few (Next n) at from to = (blank n.0 (omega (arith, from)) (omega (arith, to))).link
  node_zero Durable lo hi blank few (Mark n) at from to = (blank n.0 (omega (arith, from)) (omega (arith, to))).mark
  node_zero Durable lo hi blank few (Cell c) at from to = absurd (omega (arith, to, few, at.1.0))
  node_zero Durable lo hi blank few (Insert n) at from to = absurd (omega (arith, from))
  node_zero Durable lo hi blank few (Number e) at from to = absurd (omega (arith, from))
  node_zero Durable lo hi blank few (EntryKind e) at from to = absurd (omega (arith, from))
  node_zero Durable lo hi blank few (Status e) at from to = absurd (omega (arith, from))
  node_zero Durable lo hi blank few (EntryNode e) at from to = absurd (omega (arith, from))
  node_zero Log lo hi blank few Head at from to = absurd (omega (arith, from))
  node_zero Log lo hi blank few Tail at from to = absurd (omega (arith, from))
  node_zero Log lo hi blank few (Announcement t) at from to = absurd (omega (arith, from, at))
  node_zero Log lo hi blank few (Bump t) at from to = absurd (omega (arith, from, at))
  node_zero Log lo hi blank few (Item n Length) at from to = (blank n.0 (omega (arith, from)) (omega (arith, to))).item.len
  node_zero Log lo hi blank few (Item n First) at from to = (blank n.0 (omega (arith, from)) (omega (arith, to))).item.first
  node_zero Log lo hi blank few (Item n Second) at from to = (blank n.0 (omega (arith, from)) (omega (arith, to))).item.second
  node_zero Log lo hi blank few (Item n Third) at from to = (blank n.0 (omega (arith, from)) (omega (arith, to))).item.third
  node_zero Log lo hi blank few (Next n) at from to = (blank n.0 (omega (arith, from)) (omega (arith, to))).link
  node_zero Log lo hi blank few (Mark n) at from to = (blank n.0 (omega (arith, from)) (omega (arith, to))).mark
  node_zero Log lo hi blank few (Insert n) at from to =
      (subst (λ (k : Kind). IsBlankAnswer k l n.0) at.0 (blank n.0 (omega (arith, from)) (omega (arith, to))).answer).insert
  node_zero Log lo hi blank few (Cell c) at from to = absurd (omega (arith, from))
  node_zero Log lo hi blank few (Number e) at from to = absurd (omega (arith, to, few))
  node_zero Log lo hi blank few (EntryKind e) at from to = absurd (omega (arith, to, few))
  node_zero Log lo hi blank few (Status e) at from to = absurd (omega (arith, to, few))
  node_zero Log lo hi blank few (EntryNode e) at from to = absurd (omega (arith, to, few))

  abbrev before : Kind → ℕ
  before kind = 2 + 2 * s.clients + node_words kind * (greatest s + 1)

  answer_zero : (kind : Kind) (lo hi : ℕ) → AreBlank lo hi → 1 ≤ lo → (p : Place) → IsPlace s p
      → before kind + answer_words kind * (lo - 1) ≤ word_by OfItems kind s p
      → word_by OfItems kind s p < before kind + answer_words kind * (hi - 1) → l p ≡ 0
  answer_zero Durable lo hi blank some Head at from to = absurd (omega (arith, from))
  answer_zero Durable lo hi blank some Tail at from to = absurd (omega (arith, from))
  answer_zero Durable lo hi blank some (Announcement t) at from to = absurd (omega (arith, from, at))
  answer_zero Durable lo hi blank some (Bump t) at from to = absurd (omega (arith, from, at))
  answer_zero Durable lo hi blank some (Item n Length) at from to = absurd (omega (arith, from, at))
  answer_zero Durable lo hi blank some (Item n First) at from to = absurd (omega (arith, from, at))
  answer_zero Durable lo hi blank some (Item n Second) at from to = absurd (omega (arith, from, at))
  answer_zero Durable lo hi blank some (Item n Third) at from to = absurd (omega (arith, from, at))
  answer_zero Durable lo hi blank some (Next n) at from to = absurd (omega (arith, from, at))
  answer_zero Durable lo hi blank some (Mark n) at from to = absurd (omega (arith, from, at))
  answer_zero Durable lo hi blank some (Cell c) at from to =
      subst (λ (k : Kind). IsBlankAnswer k l c.0) at.0 (blank c.0 (omega (arith, from, some, at.1.0)) (omega (arith, to, at.1.0))).answer
  answer_zero Durable lo hi blank some (Insert n) at from to = absurd (omega (arith, from))
  answer_zero Durable lo hi blank some (Number e) at from to = absurd (omega (arith, from))
  answer_zero Durable lo hi blank some (EntryKind e) at from to = absurd (omega (arith, from))
  answer_zero Durable lo hi blank some (Status e) at from to = absurd (omega (arith, from))
  answer_zero Durable lo hi blank some (EntryNode e) at from to = absurd (omega (arith, from))
  answer_zero Log lo hi blank some Head at from to = absurd (omega (arith, from))
  answer_zero Log lo hi blank some Tail at from to = absurd (omega (arith, from))
  answer_zero Log lo hi blank some (Announcement t) at from to = absurd (omega (arith, from, at))
  answer_zero Log lo hi blank some (Bump t) at from to = absurd (omega (arith, from, at))
  answer_zero Log lo hi blank some (Item n Length) at from to = absurd (omega (arith, from, at))
  answer_zero Log lo hi blank some (Item n First) at from to = absurd (omega (arith, from, at))
  answer_zero Log lo hi blank some (Item n Second) at from to = absurd (omega (arith, from, at))
  answer_zero Log lo hi blank some (Item n Third) at from to = absurd (omega (arith, from, at))
  answer_zero Log lo hi blank some (Next n) at from to = absurd (omega (arith, from, at))
  answer_zero Log lo hi blank some (Mark n) at from to = absurd (omega (arith, from, at))
  answer_zero Log lo hi blank some (Insert n) at from to = absurd (omega (arith, from, at.1))
  answer_zero Log lo hi blank some (Cell c) at from to = absurd (omega (arith, from))
  answer_zero Log lo hi blank some (Number e) at from to =
      (subst (λ (k : Kind). IsBlankAnswer k l e.0) at.0 (blank e.0 (omega (arith, from, some, at.1.0)) (omega (arith, to, at.1.0))).answer).number
  answer_zero Log lo hi blank some (EntryKind e) at from to =
      (subst (λ (k : Kind). IsBlankAnswer k l e.0) at.0 (blank e.0 (omega (arith, from, some, at.1.0)) (omega (arith, to, at.1.0))).answer).kind
  answer_zero Log lo hi blank some (Status e) at from to =
      (subst (λ (k : Kind). IsBlankAnswer k l e.0) at.0 (blank e.0 (omega (arith, from, some, at.1.0)) (omega (arith, to, at.1.0))).answer).status
  answer_zero Log lo hi blank some (EntryNode e) at from to =
      (subst (λ (k : Kind). IsBlankAnswer k l e.0) at.0 (blank e.0 (omega (arith, from, some, at.1.0)) (omega (arith, to, at.1.0))).answer).node

  -- a word is that of its place
  by_place : (w : ℕ) (o : Option Place) → MatchOption o (size_of s ≤ w) (λ p. IsPlace s p × (word_at s p ≡ w))
      → ((p : Place) → IsPlace s p → word_at s p ≡ w → l p ≡ 0) → renewed_or_zero r o ≡ 0
  by_place w None named each = refl
  by_place w (Some p) named each = each p named.0 named.1

  pub unused_nodes : (t : ℕ) → t < s.clients → record_of s t s.records ≤ greatest s + 1 → (w : ℕ)
      → node_from s (record_of s t (used_for s m t)) ≤ w → w < node_from s (record_of s t s.records) → word_renewed r w ≡ 0
  unfolding word_in
  unused_nodes t client few w from to = by_place w (place_at s w) ((laid_out s).named w) (λ p at is.
      node_zero s.kind (record_of s t (used_for s m t)) (record_of s t s.records) (unused t client) few p at
      (subst (λ (x : ℕ). node_from s (record_of s t (used_for s m t)) ≤ x) (sym is) from)
      (subst (λ (x : ℕ). x < node_from s (record_of s t s.records)) (sym is) to))

  pub unused_answers : (t : ℕ) → t < s.clients → (w : ℕ)
      → answer_from s (record_of s t (used_for s m t)) ≤ w → w < answer_from s (record_of s t s.records) → word_renewed r w ≡ 0
  unfolding word_in
  unused_answers t client w from to = by_place w (place_at s w) ((laid_out s).named w) (λ p at is.
      answer_zero s.kind (record_of s t (used_for s m t)) (record_of s t s.records) (unused t client) (omega arith) p at
      (subst (λ (x : ℕ). answer_from s (record_of s t (used_for s m t)) ≤ x) (sym is) from)
      (subst (λ (x : ℕ). x < answer_from s (record_of s t s.records)) (sym is) to))

-- past the layout words are 0
pub past_layout : (r : Renewal) (w : ℕ) → size_of r.shape ≤ w → word_renewed r w ≡ 0
past_layout r w past = word_past r w (place_at r.shape w) ((laid_out r.shape).named w) past
