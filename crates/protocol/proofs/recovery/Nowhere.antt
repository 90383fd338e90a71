-- Where the layout has no place, what every crash leaves is 0.
use Rattle.std.proofs.Common.{◌≡◌, ℕ, ◌+◌, ◌-◌, ◌*◌, ◌≤◌, ◌<◌, inl, inr, List, subst, arith}
use Rattle.std.proofs.Math.Nat.{div-mul-le_self}
use Rattle.std.proofs.lemmas.Bool.{cases_eq, cases_lt}
use Rattle.words.specs.PlainQueue.{Value}
use Rattle.arena.specs.Place.{IsPlace, IsRecord, number_of}
use Rattle.arena.specs.Shape.{Shape, owner, greatest}
use Rattle.arena.specs.Words.{bumps, announcements}
use Rattle.arena.specs.declared.place.Place.{Place}
use Rattle.arena.specs.declared.place.Place.TheVariants.{Head, Tail, Announcement, Bump, Item, Next, Mark, Cell, Insert, Number, EntryKind, Status, EntryNode}
use Rattle.sound_words.specs.Sound.{IsIssued, IsOwn}
use Rattle.protocol.specs.invariants.Places.{IsOfRecord, IsOfKind}
use Rattle.protocol.specs.invariants.Sound.{Sound}

module _ (s : Shape) (k : Place → ℕ) (claimed waiting : List ℕ) (queue : List Value) (b : Sound s k claimed waiting queue) where
  -- an issued record is one of the layout's clients'
  owner_within : (c : ℕ) → IsIssued s k c → owner s c < s.clients
  owner_within c i = elim (cases_lt (owner s c) s.clients) [
    | inl lt ↦ lt
    | inr ge ↦
        let down : owner s c * s.records ≤ c - 1 = div-mul-le_self (c - 1) s.records in
        absurd (beyond (owner s c * s.records) (bumps k (owner s c)) i.is_record.0 i.used (b.no_bump (owner s c) ge) down)
  ]
    where
      beyond : (x u : ℕ) → 1 ≤ c → c < 1 + x + u → u ≡ 0 → x ≤ c - 1 → ⊥
      beyond x u some h none down = absurd (omega (arith, some, h, none, down))

  -- a word of a record beyond the last, or of a record that the layout does not have
  blank_out : (p : Place) → IsOfRecord p → greatest s < number_of p → k p ≡ 0
  blank_out p of out = b.blank p of (λ z. absurd (omega (arith, out, z))) (λ i. absurd (omega (arith, out, i.is_record.1)))

  entry_out : (p : Place) → IsOfRecord p → (IsRecord s (number_of p) → IsOfKind s.kind p → ⊥) → (number_of p ≡ 0 → IsOfKind s.kind p → ⊥) → k p ≡ 0
  entry_out p of inside none = elim (cases_eq (number_of p) 0) [
    | inl z ↦ b.absent p (none z)
    | inr some ↦ elim (cases_lt (greatest s) (number_of p)) [
      | inl out ↦ blank_out p of out
      | inr le ↦ b.absent p (inside (omega (arith, some), omega (arith, le)))
    ]
  ]

  node_out : (n : ℕ) → (n ≤ greatest s → ⊥) → greatest s < n
  node_out n out = elim (cases_lt (greatest s) n) [ inl lt ↦ lt | inr le ↦ absurd (out (omega (arith, le))) ]

  pub nowhere : (p : Place) → (IsPlace s p → ⊥) → k p ≡ 0
  nowhere Head out = absurd (out tt)
  nowhere Tail out = absurd (out tt)
  nowhere (Announcement t) out = elim (cases_eq (announcements k t.0) 0) [
    | inl z ↦ z
    | inr some ↦
        let a : IsOwn s k t.0 (announcements k t.0) = b.announced t.0 some in
        absurd (out (subst (λ x. x < s.clients) a.owned (owner_within (announcements k t.0) a.issued)))
  ]
  nowhere (Bump t) out = elim (cases_lt t.0 s.clients) [ inl lt ↦ absurd (out lt) | inr ge ↦ b.no_bump t.0 ge ]
  nowhere (Item n part) out = blank_out (Item n part) tt (node_out n.0 out)
  nowhere (Next n) out = blank_out (Next n) tt (node_out n.0 out)
  nowhere (Mark n) out = blank_out (Mark n) tt (node_out n.0 out)
  nowhere (Cell c) out = entry_out (Cell c) tt (λ r h. out (h.0, r)) (λ z h. h.1 z)
  nowhere (Insert n) out = entry_out (Insert n) tt (λ r h. out (h.0, r.1)) (λ z h. h.1 z)
  nowhere (Number e) out = entry_out (Number e) tt (λ r h. out (h.0, r)) (λ z h. h.1 z)
  nowhere (EntryKind e) out = entry_out (EntryKind e) tt (λ r h. out (h.0, r)) (λ z h. h.1 z)
  nowhere (Status e) out = entry_out (Status e) tt (λ r h. out (h.0, r)) (λ z h. h.1 z)
  nowhere (EntryNode e) out = entry_out (EntryNode e) tt (λ r h. out (h.0, r)) (λ z h. h.1 z)
