-- What follows where the chain is sound.
use Rattle.std.proofs.Common.{◌≡◌, ◌≢◌, ℕ, ◌-◌, ◌≤◌, inl, inr, List, [], ◌∷◌, Bool, true, false, not, refl, sym, ◌∙◌, ap, subst, arith}
use Rattle.std.specs.Prelude.{IsTrue}
use Rattle.std.proofs.lemmas.Bool.{cases_eq, false≢true}
use Rattle.arena.specs.Shape.{Shape, greatest}
use Rattle.arena.specs.Place.{IsClient, IsRecord}
use Rattle.arena.specs.Words.{links, marks, cells}
use Rattle.arena.specs.Chain.{IsChain, IsAmong, LeadsTo}
use Rattle.arena.specs.Content.{chain_of}
use Rattle.arena.specs.declared.form.Form.{Form}
use Rattle.arena.specs.declared.place.Place.{Place}
use Rattle.arena.specs.declared.place.Place.TheVariants.{Head}
use Rattle.sound_words.specs.Sound.{IsOnChain, IsClaimed, IsClaimOf, IsResultIn, named_in, RowIsSound, ChainIsSoundIn, ClaimsAreSoundIn, EndsAreSound, RowsAreSoundIn}
use Rattle.sound_words.specs.Order.{IsInTurn, IsOrder, IsClaimTable, CellTellsIn, ClaimIsToldInCell}
use Rattle.sound_words.proofs.Chains.{is_among_or_not}
use Rattle.sound_words.proofs.Followed.{leads_up}

-- what follows a node of the chain is a node of the chain
pub in_chain : (link : ℕ → ℕ) (from : ℕ) (ns : List ℕ) (m : ℕ) → IsChain link from ns → IsAmong m (from ∷ ns) → link m ≢ 0 → IsAmong (link m) ns
in_chain link from [] m c (inl e) ne = absurd (ne (ap link e ∙ c))
in_chain link from [] m c (inr h) ne = absurd h
in_chain link from (n ∷ ns) m c (inl e) ne = inl (ap link e ∙ c.0)
in_chain link from (n ∷ ns) m c (inr h) ne = inr (in_chain link n ns m c.2 h ne)

pub record_on_chain : {form : Form} (s : Shape) (kept : Place → ℕ) → ChainIsSoundIn form s kept → (n : ℕ) → IsOnChain s kept n → IsRecord s n
record_on_chain s kept c n h = (c.issued n h).is_record

-- a node with a mark is claimed
pub claimed_by_mark : {form : Form} (s : Shape) (kept : Place → ℕ) → ChainIsSoundIn form s kept → (n : ℕ) → IsRecord s n → marks kept n ≢ 0 → IsClaimed s kept n
claimed_by_mark s kept c n r marked = record {
  on_chain = elim (is_among_or_not n (chain_of s kept)) [ inl h ↦ h | inr off ↦ absurd (marked ((c.loose n r).loose off).mark) ];
  marked = marked;
}

-- a node with a link, and the one that it links, are on the chain
on_chain_by_link : {form : Form} (s : Shape) (kept : Place → ℕ) → ChainIsSoundIn form s kept → (n : ℕ) → IsRecord s n → links kept n ≢ 0 → IsOnChain s kept n
on_chain_by_link s kept c n r linked = elim (is_among_or_not n (chain_of s kept)) [ inl h ↦ h | inr off ↦ absurd (linked ((c.loose n r).loose off).link) ]

pub next_on_chain : {form : Form} (s : Shape) (kept : Place → ℕ) → ChainIsSoundIn form s kept → (n next : ℕ) → IsRecord s n → next ≡ links kept n → next ≢ 0 → IsOnChain s kept next
next_on_chain s kept c n next r at ne =
    let linked : links kept n ≢ 0 = λ z. ne (at ∙ z) in
    subst (IsOnChain s kept) (sym at) (in_chain (links kept) 0 (chain_of s kept) n c.ends (inr (on_chain_by_link s kept c n r linked)) linked)

-- an unclaimed node is in turn exactly where the next one has no mark
pub in_turn : (s : Shape) (kept : Place → ℕ) (n next m : ℕ) → next ≡ links kept n → m ≡ marks kept next → m ≡ 0 → IsInTurn s kept n
in_turn s kept n next m at mark none = record { turn = λ h claimed. absurd (claimed.marked (ap (marks kept) (sym at) ∙ sym mark ∙ none)) }

pub unclaimed_next : {form : Form} (s : Shape) (kept : Place → ℕ) → ChainIsSoundIn form s kept → (n next m : ℕ) → IsRecord s n → marks kept n ≡ 0 → next ≡ links kept n → next ≢ 0 → m ≡ marks kept next → IsInTurn s kept n → m ≡ 0
unclaimed_next s kept c n next m r free at ne mark t =
    elim (cases_eq m 0) [
      | inl z ↦ z
      | inr some ↦
          let h : IsOnChain s kept next = next_on_chain s kept c n next r at ne in
          let claimed : IsClaimed s kept next = claimed_by_mark s kept c next (record_on_chain s kept c next h) (λ z. some (mark ∙ z)) in
          absurd (t.turn (on_chain_by_link s kept c n r (λ z. ne (at ∙ z))) (subst (IsClaimed s kept) at claimed) free)
    ]

-- a claimed node's claim is by a used record, and the table has it
pub record_of_mark : {form : Form} (s : Shape) (kept : Place → ℕ) → ChainIsSoundIn form s kept → ClaimsAreSoundIn form s kept → (n m : ℕ) → IsRecord s n → m ≡ marks kept n → m ≢ 0 → IsRecord s m
record_of_mark s kept c claims n m r at ne =
    subst (IsRecord s) (sym at) (claims.issued n (claimed_by_mark s kept c n r (λ z. ne (at ∙ z)))).is_record

pub claim_noted : (s : Shape) (kept : Place → ℕ) (claimed : ℕ → ℕ) → IsClaimTable s kept claimed → (c n : ℕ) → c ≢ 0 → IsClaimOf s kept c n → claimed c ≡ n
claim_noted s kept claimed t c n some h =
    ap claimed (sym h.mark) ∙ t.noted n (record { on_chain = h.on_chain; marked = λ z. some (sym h.mark ∙ z) })

-- the head is a node
pub head_within : {form : Form} (s : Shape) (kept : Place → ℕ) → ChainIsSoundIn form s kept → EndsAreSound s kept → (head : ℕ) → head ≡ kept Head → head ≤ greatest s
head_within s kept c e head at =
    elim e.head [
      | inl z ↦ omega (arith, at, z)
      | inr h ↦ subst (λ x. x ≤ greatest s) (sym at) (record_on_chain s kept c (kept Head) h.on_chain).1
    ]

-- the head has passed a node of the chain exactly where that stands no later than it
pub passed_if : (s : Shape) (kept : Place → ℕ) (place : ℕ → ℕ) → IsOrder s kept place → (head n : ℕ) → head ≡ kept Head → place n ≢ 0 → place n ≤ place head → LeadsTo (links kept) (kept Head) n
passed_if s kept place o head n at some up = subst (λ x. LeadsTo (links kept) x n) at (o.leads n head some up)

pub passed_only : (s : Shape) (kept : Place → ℕ) (place : ℕ → ℕ) → IsOrder s kept place → (head n : ℕ) → head ≡ kept Head → place n ≢ 0 → LeadsTo (links kept) (kept Head) n → place n ≤ place head
passed_only s kept place o head n at some h = leads_up s kept place o head n (subst (λ x. LeadsTo (links kept) x n) (sym at) h) some

-- a claimed node whose cell is open
pub open_if : (s : Shape) (kept : Place → ℕ) (n m : ℕ) → m ≡ marks kept n → cells kept m ≡ 0 → (LeadsTo (links kept) (kept Head) n → ⊥) → ClaimIsToldInCell s kept n
open_if s kept n m at none ahead =
    let zero_cell : cells kept (marks kept n) ≡ 0 = ap (cells kept) (sym at) ∙ none in
    record { not_empty = λ h one. absurd (omega (arith, zero_cell, one)); not_open = λ p z. ahead p.leads }

pub open_only : {form : Form} (s : Shape) (kept : Place → ℕ) → ChainIsSoundIn form s kept → (n m : ℕ) → IsRecord s n → m ≡ marks kept n → m ≢ 0 → cells kept m ≡ 0 → ClaimIsToldInCell s kept n → LeadsTo (links kept) (kept Head) n → ⊥
open_only s kept c n m r at ne none t h =
    t.not_open (record { claimed = claimed_by_mark s kept c n r (λ z. ne (at ∙ z)); leads = h }) (ap (cells kept) (sym at) ∙ none)

pub not_empty_only : {form : Form} (s : Shape) (kept : Place → ℕ) → ChainIsSoundIn form s kept → (n m : ℕ) → IsRecord s n → m ≡ marks kept n → m ≢ 0 → cells kept m ≡ 1 → ClaimIsToldInCell s kept n → ⊥
not_empty_only s kept c n m r at ne one t = t.not_empty (claimed_by_mark s kept c n r (λ z. ne (at ∙ z))) (ap (cells kept) (sym at) ∙ one)

-- a test that is turned
pub not_if : (b : Bool) (P : Type 0) → (IsTrue b → P) → (P → IsTrue b) → (IsTrue (not b) → P → ⊥) × ((P → ⊥) → IsTrue (not b))
not_if true P f g = (λ no p. absurd (false≢true no), λ no. absurd (no (f refl)))
not_if false P f g = (λ yes p. absurd (false≢true (g p)), λ no. refl)

-- a cell that names a node
pub result_if : {form : Form} (s : Shape) (kept : Place → ℕ) (claimed : ℕ → ℕ) → IsClaimTable s kept claimed → (c answer : ℕ) → claimed c ≢ 0 → answer ≡ cells kept c → named_in form kept (claimed c) ≡ answer - 2 → CellTellsIn form s kept c
result_if {form} s kept claimed t c answer some at same = record {
  result = λ two. record { node = claimed c; claim = t.claim c some; named = omega (arith, at, same, two) };
}

pub claims_only : {form : Form} (s : Shape) (kept : Place → ℕ) (claimed : ℕ → ℕ) → ChainIsSoundIn form s kept → IsClaimTable s kept claimed → (c n : ℕ) → c ≢ 0 → IsClaimOf s kept c n → claimed c ≢ 0
claims_only s kept claimed chain t c n some h z =
    let low : 1 ≤ n = (record_on_chain s kept chain n h.on_chain).0 in
    omega (arith, low, z, claim_noted s kept claimed t c n some h)

pub result_some : {form : Form} (s : Shape) (kept : Place → ℕ) (claimed : ℕ → ℕ) → ChainIsSoundIn form s kept → IsClaimTable s kept claimed → (c answer : ℕ) → IsRecord s c → answer ≡ cells kept c → 2 ≤ answer → CellTellsIn form s kept c → claimed c ≢ 0
result_some {form} s kept claimed chain t c answer r at two told =
    let h : IsResultIn form s kept c = told.result (omega (arith, at, two)) in
    claims_only s kept claimed chain t c h.node (λ z. omega (arith, z, r.0)) h.claim

pub result_only : {form : Form} (s : Shape) (kept : Place → ℕ) (claimed : ℕ → ℕ) → IsClaimTable s kept claimed → (c answer : ℕ) → IsRecord s c → answer ≡ cells kept c → 2 ≤ answer → CellTellsIn form s kept c → named_in form kept (claimed c) ≡ answer - 2
result_only {form} s kept claimed t c answer r at two told =
    let h : IsResultIn form s kept c = told.result (omega (arith, at, two)) in
    let same : claimed c ≡ h.node = claim_noted s kept claimed t c h.node (λ z. omega (arith, z, r.0)) h.claim in
    let says : named_in form kept (claimed c) ≡ named_in form kept h.node = ap (named_in form kept) same in
    omega (arith, says, h.named, at)

-- all rows and cells
pub rows_if : {form : Form} (s : Shape) (kept : Place → ℕ) → ChainIsSoundIn form s kept → ((t : ℕ) → IsClient s t → RowIsSound s kept t) → ((c : ℕ) → IsRecord s c → CellTellsIn form s kept c) → ((n : ℕ) → IsRecord s n → ClaimIsToldInCell s kept n) → RowsAreSoundIn form s kept
rows_if s kept chain rows results told = record {
  rows = rows;
  results = λ c r. (results c r).result;
  not_empty = λ n h. (told n (record_on_chain s kept chain n h.on_chain)).not_empty h;
  not_open = λ n p. (told n (record_on_chain s kept chain n p.claimed.on_chain)).not_open p;
}

pub rows_results : {form : Form} (s : Shape) (kept : Place → ℕ) → RowsAreSoundIn form s kept → (c : ℕ) → IsRecord s c → CellTellsIn form s kept c
rows_results s kept h c r = record { result = h.results c r }

pub rows_told : {form : Form} (s : Shape) (kept : Place → ℕ) → RowsAreSoundIn form s kept → (n : ℕ) → IsRecord s n → ClaimIsToldInCell s kept n
rows_told s kept h n r = record { not_empty = h.not_empty n; not_open = h.not_open n }
