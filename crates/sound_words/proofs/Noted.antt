-- The pass over the nodes that notes what each token claims.
use Rattle.std.proofs.Common.{◌≡◌, ◌≢◌, ℕ, ◌+◌, ◌≤◌, ◌<◌, sym, ◌∙◌, ap, subst, arith}
use Rattle.arena.specs.Shape.{Shape, greatest}
use Rattle.arena.specs.Place.{IsRecord}
use Rattle.arena.specs.Words.{marks}
use Rattle.arena.specs.declared.form.Form.{Form}
use Rattle.arena.specs.declared.place.Place.{Place}
use Rattle.sound_words.specs.Sound.{IsIssued, IsClaimed, ChainIsSoundIn}
use Rattle.sound_words.specs.Order.{AreClaims, IsClaimTable}
use Rattle.sound_words.proofs.Surveys.{claimed_by_mark, record_on_chain}

-- this node, before n, is claimed by the token
pub record IsNoted (kept : Place → ℕ) (n c node : ℕ) : Type 0 where
  pub some : 1 ≤ node
  pub before : node < n
  pub mark : marks kept node ≡ c
  pub token : c ≢ 0

-- the claims of the nodes before n are noted, and of used records
pub record AreNoted (s : Shape) (kept : Place → ℕ) (claimed : ℕ → ℕ) (n : ℕ) : Type 0 where
  pub back : (c : ℕ) → claimed c ≢ 0 → IsNoted kept n c (claimed c)
  pub noted : (k : ℕ) → 1 ≤ k → k < n → marks kept k ≢ 0 → claimed (marks kept k) ≡ k
  pub issued : (k : ℕ) → 1 ≤ k → k < n → marks kept k ≢ 0 → IsIssued s kept (marks kept k)

-- the nodes of the chain are all noted in the end
pub noted_claims : {form : Form} (s : Shape) (kept : Place → ℕ) (claimed : ℕ → ℕ) (n : ℕ) → ChainIsSoundIn form s kept → AreNoted s kept claimed n → greatest s < n → AreClaims s kept
noted_claims s kept claimed n chain f past =
    let at : (k : ℕ) → IsClaimed s kept k → claimed (marks kept k) ≡ k =
    λ k h. let r : IsRecord s k = record_on_chain s kept chain k h.on_chain in f.noted k r.0 (omega (arith, r.1, past)) h.marked in
    record {
      issued = λ k h. let r : IsRecord s k = record_on_chain s kept chain k h.on_chain in f.issued k r.0 (omega (arith, r.1, past)) h.marked;
      once = λ k j h i e. sym (at k h) ∙ ap claimed e ∙ at j i;
    }

pub noted_table : {form : Form} (s : Shape) (kept : Place → ℕ) (claimed : ℕ → ℕ) (n : ℕ) → ChainIsSoundIn form s kept → AreNoted s kept claimed n → greatest s < n → n ≤ greatest s + 1 → IsClaimTable s kept claimed
noted_table s kept claimed n chain f past most = record {
  claim = λ c some.
      let b : IsNoted kept n c (claimed c) = f.back c some in
      record {
        on_chain = (claimed_by_mark s kept chain (claimed c) (b.some, omega (arith, b.before, most)) (λ z. b.token (sym b.mark ∙ z))).on_chain;
        mark = b.mark;
      };
  noted = λ k h. let r : IsRecord s k = record_on_chain s kept chain k h.on_chain in f.noted k r.0 (omega (arith, r.1, past)) h.marked;
}

-- a claim that is none
pub not_by_used : {form : Form} (s : Shape) (kept : Place → ℕ) (n m : ℕ) → ChainIsSoundIn form s kept → IsRecord s n → m ≡ marks kept n → m ≢ 0 → AreClaims s kept → IsIssued s kept m
not_by_used s kept n m chain r at ne claims =
    subst (IsIssued s kept) (sym at) (claims.issued n (claimed_by_mark s kept chain n r (λ z. ne (at ∙ z))))

pub claimed_twice : {form : Form} (s : Shape) (kept : Place → ℕ) (claimed : ℕ → ℕ) (n m : ℕ) → ChainIsSoundIn form s kept → AreNoted s kept claimed n → IsRecord s n → m ≡ marks kept n → m ≢ 0 → claimed m ≢ 0 → AreClaims s kept → ⊥
claimed_twice s kept claimed n m chain f r at ne again claims =
    let b : IsNoted kept n m (claimed m) = f.back m again in
    let first : IsClaimed s kept (claimed m) = claimed_by_mark s kept chain (claimed m) (b.some, omega (arith, b.before, r.1)) (λ z. ne (sym b.mark ∙ z)) in
    let second : IsClaimed s kept n = claimed_by_mark s kept chain n r (λ z. ne (at ∙ z)) in
    let same : claimed m ≡ n = claims.once (claimed m) n first second (b.mark ∙ at) in
    omega (arith, same, b.before)
