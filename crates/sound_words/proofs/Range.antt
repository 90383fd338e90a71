-- What follows from sound words: the words that recovery and calls read are in range; and all words zero are sound.
use Rattle.std.proofs.Common.{◌≡◌, ℕ, ◌+◌, ◌≤◌, ◌<◌, inl, inr, refl, ◌∙◌, ap, subst, arith}
use Rattle.std.proofs.lemmas.Bool.{cases_eq, cases_lt}
use Rattle.words.specs.declared.call.Kind.{Kind}
use Rattle.words.specs.declared.call.Kind.TheVariants.{Durable, Log}
use Rattle.arena.specs.Shape.{Shape, greatest}
use Rattle.arena.specs.Place.{IsPlace, IsNode, IsRecord}
use Rattle.arena.specs.Ranges.{Fits}
use Rattle.arena.specs.Words.{links, marks, cells, inserts, numbers, entry_kinds, statuses, entry_nodes, announcements}
use Rattle.arena.specs.Content.{chain_of}
use Rattle.arena.specs.declared.form.Form.{Form}
use Rattle.arena.specs.declared.place.Place.{Place}
use Rattle.arena.specs.declared.place.Place.TheVariants.{Head, Tail, Announcement, Bump, Item, Next, Mark, Cell, Insert, Number, EntryKind, Status, EntryNode}
use Rattle.sound_words.specs.Sound.{IsAnnouncedOne, IsRead, AnswersAreSound, RowsAreSound, EntriesAreSound, ChainIsSoundIn, IsSound}
use Rattle.sound_words.proofs.Surveys.{record_on_chain, claimed_by_mark, next_on_chain, in_chain}

-- the answers of a queue of this kind
rows_of : (s : Shape) (kept : Place → ℕ) → s.kind ≡ Durable → IsSound s kept → RowsAreSound s kept
rows_of s kept kind h = subst (λ k. AnswersAreSound k s kept) kind h.answers

entries_of : (s : Shape) (kept : Place → ℕ) → s.kind ≡ Log → IsSound s kept → EntriesAreSound s kept
entries_of s kept kind h = subst (λ k. AnswersAreSound k s kept) kind h.answers

-- an announced record
announced_within : (k : Kind) (s : Shape) (kept : Place → ℕ) → AnswersAreSound k s kept → (t : ℕ) → t < s.clients → announcements kept t ≤ greatest s
announced_within Durable s kept h t c = elim (h.rows t c) [ inl z ↦ omega (arith, z) | inr own ↦ own.issued.is_record.1 ]
announced_within Log s kept h t c = elim (h.logs t c) [ inl z ↦ omega (arith, z) | inr a ↦ a.own.issued.is_record.1 ]

-- a link
link_within : {form : Form} (s : Shape) (kept : Place → ℕ) → ChainIsSoundIn form s kept → (n : ℕ) → IsNode s n → links kept n ≤ greatest s
link_within s kept c n node =
    elim (cases_eq (links kept n) 0) [
      | inl z ↦ omega (arith, z)
      | inr linked ↦
          elim (cases_eq n 0) [
            | inl e ↦ (record_on_chain s kept c (links kept n) (in_chain (links kept) 0 (chain_of s kept) n c.ends (inl e) linked)).1
            | inr some ↦ (record_on_chain s kept c (links kept n) (next_on_chain s kept c n (links kept n) (omega (arith, some), node) refl linked)).1
          ]
    ]

-- a mark
mark_within : (s : Shape) (kept : Place → ℕ) → IsSound s kept → (n : ℕ) → IsNode s n → marks kept n ≤ greatest s
mark_within s kept h n node =
    elim (cases_eq (marks kept n) 0) [
      | inl z ↦ omega (arith, z)
      | inr marked ↦
          elim (cases_eq n 0) [
            | inl e ↦ absurd (marked (ap (marks kept) e ∙ h.chain.sentinel.mark))
            | inr some ↦ (h.claims.issued n (claimed_by_mark s kept h.chain n (omega (arith, some), node) marked)).is_record.1
          ]
    ]

-- a cell
cell_within : (s : Shape) (kept : Place → ℕ) → IsSound s kept → s.kind ≡ Durable → (c : ℕ) → IsRecord s c → cells kept c ≤ greatest s + 2
cell_within s kept h kind c r =
    elim (cases_lt (cells kept c) 2) [
      | inl few ↦ omega (arith, few)
      | inr two ↦
          let result = (rows_of s kept kind h).results c r two in
          let few : result.node ≤ greatest s = (record_on_chain s kept h.chain result.node result.claim.on_chain).1 in
          omega (arith, few, result.named)
    ]

-- an entry's status and node word
status_within : (s : Shape) (kept : Place → ℕ) → IsSound s kept → s.kind ≡ Log → (e : ℕ) → IsRecord s e → statuses kept e ≤ 2
status_within s kept h kind e r =
    elim ((entries_of s kept kind h).statuses e r) [
      | inl z ↦ omega (arith, z)
      | inr t ↦ elim t [ inl a ↦ omega (arith, a.status) | inr b ↦ omega (arith, b.status) ]
    ]

dequeue_node_within : (s : Shape) (kept : Place → ℕ) → IsSound s kept → s.kind ≡ Log → (e : ℕ) → IsRecord s e → entry_kinds kept e ≡ 2 → entry_nodes kept e ≤ greatest s
dequeue_node_within s kept h kind e r two =
    elim ((entries_of s kept kind h).results e r two) [
      | inl z ↦ omega (arith, z)
      | inr claim ↦ (record_on_chain s kept h.chain (entry_nodes kept e) claim.on_chain).1
    ]

-- an entry that a client announced
announced_number : (s : Shape) (kept : Place → ℕ) → IsSound s kept → s.kind ≡ Log → (e : ℕ) → IsRecord s e → IsAnnouncedOne s kept e → numbers kept e ≤ 1099511627776
announced_number s kept h kind e r by =
    elim ((entries_of s kept kind h).logs by.client by.is_client) [
      | inl z ↦ absurd (omega (arith, z, by.names, r.0))
      | inr a ↦ subst (λ x. numbers kept x ≤ 1099511627776) by.names a.in_range
    ]

announced_node : (s : Shape) (kept : Place → ℕ) → IsSound s kept → s.kind ≡ Log → (e : ℕ) → IsRecord s e → IsAnnouncedOne s kept e → entry_nodes kept e ≤ greatest s
announced_node s kept h kind e r by =
    elim ((entries_of s kept kind h).logs by.client by.is_client) [
      | inl z ↦ absurd (omega (arith, z, by.names, r.0))
      | inr a ↦ elim a.call [
        | inl enqueue ↦ (let own : entry_nodes kept e ≡ e = subst (λ x. entry_nodes kept x ≡ x) by.names enqueue.node in omega (arith, own, r.1))
        | inr dequeue ↦ dequeue_node_within s kept h kind e r (subst (λ x. entry_kinds kept x ≡ 2) by.names dequeue)
      ]
    ]

-- of sound words, each that is read is in range
pub sound_fits : (s : Shape) (kept : Place → ℕ) → IsSound s kept → (p : Place) → IsPlace s p → IsRead s kept p → Fits s p (kept p)
sound_fits s kept h Head place read = elim h.ends.head [ inl z ↦ omega (arith, z) | inr c ↦ (record_on_chain s kept h.chain (kept Head) c.on_chain).1 ]
sound_fits s kept h Tail place read = elim h.ends.tail [ inl z ↦ omega (arith, z) | inr c ↦ (record_on_chain s kept h.chain (kept Tail) c).1 ]
sound_fits s kept h (Announcement t) place read = announced_within s.kind s kept h.answers t.0 place
sound_fits s kept h (Bump t) place read = h.records.within t.0 place
sound_fits s kept h (Item n part) place read = tt
sound_fits s kept h (Next n) place read = link_within s kept h.chain n.0 place
sound_fits s kept h (Mark n) place read = mark_within s kept h n.0 place
sound_fits s kept h (Cell c) place read = cell_within s kept h place.0 c.0 place.1
sound_fits s kept h (Insert n) place (inl e) =
    let none : inserts kept n.0 ≡ 0 = ap (inserts kept) e ∙ h.chain.sentinel.insert place.0 in omega (arith, none)
sound_fits s kept h (Insert n) place (inr on) =
    let own : inserts kept n.0 ≡ n.0 = ((entries_of s kept place.0 h).inserts n.0 on).insert in omega (arith, own, place.1)
sound_fits s kept h (Number e) place by = announced_number s kept h place.0 e.0 place.1 by
sound_fits s kept h (EntryKind e) place read = (entries_of s kept place.0 h).kinds e.0 place.1
sound_fits s kept h (Status e) place read = status_within s kept h place.0 e.0 place.1
sound_fits s kept h (EntryNode e) place (inl two) = dequeue_node_within s kept h place.0 e.0 place.1 two
sound_fits s kept h (EntryNode e) place (inr by) = announced_node s kept h place.0 e.0 place.1 by
