use Rattle.std.proofs.Common.{◌≡◌, ◌<◌, ℕ, List, ◌∷◌, inl, inr, sym, ap, subst, ◌∙◌, arith}
use Rattle.std.specs.Prelude.{length, slice_index}
use Rattle.arena.specs.Chain.{IsAmong, IsChain}
use Rattle.arena.specs.Place.{IsRecord}
use Rattle.arena.specs.Shape.{greatest}
use Rattle.renewal.specs.Renewal.{Renewal}
use Rattle.renewal.specs.Renewed.{chain, follower}
use Rattle.renewal.specs.Words.{MayBeRenewed}
use Rattle.renewal.proofs.Members.{ends, is_linked_node}
use Rattle.renewal.proofs.renewal.Renewal.links.Goals as goal

pub links_of-requires-clause-chain : goal.links_of-requires-clause-chain
links_of-requires-clause-chain c =
    let is : c.deref.result.now ≡ chain c.args.self.now = c.deref.ensures.value ∙ c.in_ok-chain.ensures in
    subst (λ (xs : List ℕ). IsChain (λ (n : ℕ). follower n 0 xs) 0 xs) (sym is) (ends c.args.self.now c.greatest.ensures.may)

within_chain : (r : Renewal) → MayBeRenewed r → (n count : ℕ) → greatest r.shape < count → IsAmong n (0 ∷ chain r) → n < count
within_chain r may n count above (inl zero) = omega (arith, zero, above)
within_chain r may n count above (inr on) = let at : IsRecord r.shape n = is_linked_node r may n on in omega (arith, at.1, above)

pub links_of-requires-clause-within : goal.links_of-requires-clause-within
links_of-requires-clause-within c = λ n among.
    let may : MayBeRenewed c.args.self.now = c.greatest.ensures.may in
    let is : c.deref.result.now ≡ chain c.args.self.now = c.deref.ensures.value ∙ c.in_ok-chain.ensures in
    within_chain c.args.self.now may n _ (omega (arith, c.greatest.ensures.value))
    (subst (λ (xs : List ℕ). IsAmong n (0 ∷ xs)) is among)

pub returns : goal.returns
returns c = λ n node.
    let is : c.deref.result.now ≡ chain c.args.self.now = c.deref.ensures.value ∙ c.in_ok-chain.ensures in
    let q : (n < length c.in_ok-links.links.items) × (slice_index c.in_ok-links.links.items n ≡ follower n 0 c.deref.result.now) = c.in_ok-links.ensures n (omega (arith, node, c.greatest.ensures.value)) in
    (q.0, q.1 ∙ ap (follower n 0) is)
