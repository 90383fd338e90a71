-- A part of a message that is stored: what is said of the message holds still.
use Rattle.std.proofs.Common.{◌≡◌, ◌≢◌, ℕ, ◌+◌, ◌≤◌, ◌<◌, ◌⊎◌, inl, inr, Some, refl, sym, ◌∙◌, ap, subst, arith}
use Rattle.std.specs.Prelude.{slice_get}
use Rattle.std.proofs.lemmas.Bool.{cases_lt}
use Rattle.words.specs.PlainQueue.{Value, FitsValue}
use Rattle.words.proofs.Facts.{parts_cut}
use Rattle.words.specs.declared.call.Call.TheVariants.{Enq}
use Rattle.words.specs.declared.call.NodeId.{NodeId}
use Rattle.arena.specs.Place.{number_of, part_number}
use Rattle.arena.specs.Shape.{Shape}
use Rattle.arena.specs.Words.{part_at, item_part, item_parts}
use Rattle.arena.specs.declared.place.Part.{Part}
use Rattle.arena.specs.declared.place.Part.TheVariants.{Length, First, Second, Third}
use Rattle.arena.specs.declared.place.Place.TheVariants.{Item}
use Rattle.arena.specs.declared.place.Write.{Write}
use Rattle.stepper.specs.Preparation.{preparation_of, part_write}
use Rattle.stepper.specs.declared.prepare.Begun.{Begun}
use Rattle.protocol.specs.Machine.{Memory, with_store}
use Rattle.protocol.specs.invariants.Base.{IsMessage}
use Rattle.protocol.specs.invariants.Knows.{Preparing, Unstored}
use Rattle.protocol.specs.invariants.Ledger.{Ledger}
use Rattle.protocol.specs.invariants.Places.{IsOfRecord}
use Rattle.protocol.proofs.calls.Preparations.{IsPlanned, given, message_at, part_written, planned, planned_write}
use Rattle.protocol.proofs.calls.Preparations.{turn_item, turn_of}
use Rattle.protocol.proofs.changes.Puts.{put_cases}

-- the length is the first part, and a part is known by its number
some_number : (part : Part) → part ≢ Length → 1 ≤ part_number part
some_number Length ne = absurd (ne refl)
some_number First ne = omega arith
some_number Second ne = omega arith
some_number Third ne = omega arith

is_length : (part : Part) → part_number part ≡ 0 → part ≡ Length
is_length Length e = refl
is_length First e = absurd (cc)
is_length Second e = absurd (cc)
is_length Third e = absurd (cc)

module _ (s : Shape) (m : Memory) (l : Ledger) (i : ℕ) (b : Begun) (index : ℕ) (w : Write) (h : Preparing s m l i b index w) (fresh : Unstored m w)
    (x : NodeId) (part : Part) (at : w.place ≡ Item x part) (v : Value) (call : b.call ≡ Enq v) where
  abbrev n : Memory
  n = with_store m w.place w.value

  plan : IsPlanned s s.kind b.call b index w
  plan = planned_write s b index w h.so_far.begun h.in_hand

  own : x.0 ≡ b.token.0
  own = ap number_of (sym at) ∙ (plan.numbered (subst IsOfRecord (sym at) tt)).0

  turn : (p : Part) (j : ℕ) (u : Write) → slice_get (preparation_of s.kind b) j ≡ Some u → u.place ≡ Item x p → message_at s.kind + part_number p ≡ j
  turn p j u e same =
      sym (turn_item s.kind v x p) ∙ ap (λ c. turn_of s.kind c (Item x p)) (sym call) ∙ ap (turn_of s.kind b.call) (sym same)
      ∙ (planned_write s b j u h.so_far.begun e).turn

  now : message_at s.kind + part_number part ≡ index
  now = turn part index w h.in_hand at

  -- what it writes there
  written_as : (p : Part) → Item x p ≡ w.place → w.value ≡ item_part v p
  written_as p same = plan.value ∙ ap (planned b) (sym same) ∙ ap (λ c. given c p) call

  -- a part before this one is written and kept, and a later one is not written
  earlier : (p : Part) → message_at s.kind + part_number p < index → (part_at m.cached x.0 p ≡ item_part v p) × (part_at m.kept x.0 p ≡ item_part v p)
  earlier p lt =
      subst (λ y. (part_at m.cached y p ≡ item_part v p) × (part_at m.kept y p ≡ item_part v p)) (sym own)
      (h.so_far.written (message_at s.kind + part_number p) (part_write b v p) lt (part_written s b v p call))

  later : (p : Part) → Item x p ≢ w.place → index ≤ message_at s.kind + part_number p → (part_at m.cached x.0 p ≡ 0) × (part_at m.kept x.0 p ≡ 0)
  later p apart le =
      h.rest (Item x p) tt tt own
      (λ j u few e same.
      let j_is : message_at s.kind + part_number p ≡ j = turn p j u e same in
      let last : j ≡ index = omega (arith, j_is, few, le) in
      let one : Some w ≡ Some u = sym h.in_hand ∙ ap (slice_get (preparation_of s.kind b)) (sym last) ∙ e in
      let is : w ≡ u = cc in
      apart (sym same ∙ ap (λ q. q.place) (sym is)))

  cached_is : (p : Part) → (part_at n.cached x.0 p ≡ item_part v p) ⊎ (part_at n.cached x.0 p ≡ 0)
  cached_is p = elim (put_cases m.cached w.place w.value (Item x p)) [
    | inl t ↦ inl (t.1 ∙ written_as p t.0)
    | inr t ↦ elim (cases_lt (message_at s.kind + part_number p) index) [
      | inl lt ↦ inl (t.1 ∙ (earlier p lt).0)
      | inr le ↦ inr (t.1 ∙ (later p t.0 le).0)
    ]
  ]

  kept_is : (p : Part) → (part_at n.kept x.0 p ≡ part_at n.cached x.0 p) ⊎ (part_at n.kept x.0 p ≡ 0)
  kept_is p = elim (put_cases m.cached w.place w.value (Item x p)) [
    | inl t ↦ inr (ap m.kept t.0 ∙ (fresh x part at).1)
    | inr t ↦ elim (cases_lt (message_at s.kind + part_number p) index) [
      | inl lt ↦ inl ((earlier p lt).1 ∙ sym (earlier p lt).0 ∙ sym t.1)
      | inr le ↦ inr (later p t.0 le).1
    ]
  ]

  length_is : part_at n.cached x.0 Length ≡ item_part v Length
  length_is = elim (put_cases m.cached w.place w.value (Item x Length)) [
    | inl t ↦ t.1 ∙ written_as Length t.0
    | inr t ↦ elim (cases_lt (message_at s.kind + part_number Length) index) [
      | inl lt ↦ t.1 ∙ (earlier Length lt).0
      | inr le ↦
          let zero : part_number part ≡ 0 = omega (arith, now, le) in
          absurd (t.0 (ap (Item x) (sym (is_length part zero)) ∙ sym at))
    ]
  ]

  -- where a later part is written the length was kept before
  length_kept : (p : Part) → p ≢ Length → part_at n.cached x.0 p ≢ 0 → part_at n.kept x.0 Length ≡ part_at n.cached x.0 Length
  length_kept p word some =
      let past : message_at s.kind + part_number p ≤ index = elim (put_cases m.cached w.place w.value (Item x p)) [
        | inl t ↦ omega (arith, turn p index w h.in_hand (sym t.0))
        | inr t ↦ elim (cases_lt (message_at s.kind + part_number p) index) [
          | inl lt ↦ omega (arith, lt)
          | inr le ↦ absurd (some (t.1 ∙ (later p t.0 le).0))
        ]
      ] in
      let lt : message_at s.kind + part_number Length < index = omega (arith, past, some_number p word) in
      (earlier Length lt).1 ∙ sym length_is

  stored : FitsValue v → IsMessage n x.0
  stored fits = record {
    item = rw length_is (parts_cut (item_part v Length) (item_part v First) (item_part v Second) (item_part v Third)
        (part_at n.cached x.0 First) (part_at n.cached x.0 Second) (part_at n.cached x.0 Third) (item_parts v fits) (cached_is First) (cached_is Second) (cached_is Third));
    stays = kept_is;
    sized = length_kept;
  }

pub message_stored : (s : Shape) (m : Memory) (l : Ledger) (i : ℕ) (b : Begun) (index : ℕ) (w : Write) → Preparing s m l i b index w → Unstored m w
    → (x : NodeId) (part : Part) → w.place ≡ Item x part → IsMessage (with_store m w.place w.value) x.0
message_stored s m l i b index w h fresh x part at =
    let given = (planned_write s b index w h.so_far.begun h.in_hand).gives x part at in
    stored s m l i b index w h fresh x part at given.v given.is (h.so_far.begun.value given.v given.is)
