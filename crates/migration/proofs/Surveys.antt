-- The tables of a survey say which nodes are on the chain, and which node a token claims.
use Rattle.std.proofs.Common.{◌≡◌, ◌≢◌, ℕ, inl, inr, List, [], ◌∷◌, Some, None, true, false, refl, sym, ◌∙◌, ap}
use Rattle.std.specs.Prelude.{nat_eq}
use Rattle.std.specs.List.{list_any}
use Rattle.std.proofs.lemmas.Bool.{cases_eq, eq-eqb, ne_eqb}
use Rattle.arena.specs.Chain.{IsAmong}
use Rattle.arena.specs.Content.{chain_of}
use Rattle.arena.specs.Shape.{Shape}
use Rattle.arena.specs.Words.{marks}
use Rattle.arena.specs.declared.place.Place.{Place}
use Rattle.sound_words.specs.Order.{IsClaimTable, IsOrder}
use Rattle.sound_words.specs.Told.{node_claimed_by}
use Rattle.sound_words.proofs.Facts.{among_any, among_none}
use Rattle.migration.specs.Migrated.{claimed_node, node_or_none}

pub off_chain : (s : Shape) (k : Place → ℕ) (place : ℕ → ℕ) → IsOrder s k place → (n : ℕ) → place n ≡ 0
    → list_any (nat_eq n) (chain_of s k) ≡ false
off_chain s k place order n none = among_none n (chain_of s k) (λ on. order.noted n on none)

pub on_chain : (s : Shape) (k : Place → ℕ) (place : ℕ → ℕ) → IsOrder s k place → (n : ℕ) → place n ≢ 0
    → list_any (nat_eq n) (chain_of s k) ≡ true
on_chain s k place order n some = among_any n (chain_of s k) (order.on_chain n some)

-- the first of these nodes that a token claims, or none of them
data Looked (k : Place → ℕ) (token : ℕ) (ns : List ℕ) : Type 0 where
  no_node : node_claimed_by k token ns ≡ None → ((n : ℕ) → IsAmong n ns → marks k n ≢ token) → Looked k token ns
  node : (at : ℕ) → node_claimed_by k token ns ≡ Some at → IsAmong at ns → marks k at ≡ token → Looked k token ns

looked : (k : Place → ℕ) (token : ℕ) (ns : List ℕ) → Looked k token ns
looked k token [] = no_node refl (λ n on. absurd on)
looked k token (n ∷ ns) = elim (cases_eq (marks k n) token) [
  | inl e ↦ node n (rw (eq-eqb (marks k n) token e) refl) (inl refl) e
  | inr ne ↦ later n ne (looked k token ns)
]
  where
    later : (n : ℕ) → marks k n ≢ token → Looked k token ns → Looked k token (n ∷ ns)
    later n ne (no_node none all) =
        no_node (rw (ne_eqb (marks k n) token ne) none) (λ m on. elim on [ inl here ↦ λ e. ne (ap (marks k) (sym here) ∙ e) | inr more ↦ all m more ])
    later n ne (node at is among mark) = node at (rw (ne_eqb (marks k n) token ne) is) (inr among) mark

pub claimed_is : (s : Shape) (k : Place → ℕ) (claimed : ℕ → ℕ) → IsClaimTable s k claimed → (token : ℕ) → token ≢ 0
    → claimed_node s k token ≡ claimed token
claimed_is s k claimed table token some = told (looked k token (chain_of s k))
  where
    told : Looked k token (chain_of s k) → claimed_node s k token ≡ claimed token
    told (no_node none all) = ap node_or_none none ∙ elim (cases_eq (claimed token) 0) [
      | inl z ↦ sym z
      | inr claims ↦ let claim = table.claim token claims in absurd (all (claimed token) claim.on_chain claim.mark)
    ]
    told (node at is among mark) =
        let noted : claimed (marks k at) ≡ at = table.noted at (record { on_chain = among; marked = λ z. some (sym mark ∙ z) }) in
        ap node_or_none is ∙ sym noted ∙ ap claimed mark
