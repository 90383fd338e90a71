-- A directory with one queue more.
use Rattle.std.proofs.Common.{◌≡◌, ◌≢◌, ℕ, ◌<◌, length, Some, None, sym, ◌∙◌, ap, subst, arith, inl, inr, length-set, slice_set}
use Rattle.std.proofs.lemmas.Bool.Decides.{eqb_tells}
use Rattle.std.proofs.lemmas.Option.{slice_get_within}
use Rattle.directory.specs.Directory.{Directory, IsDirectory, IsFree, HasQueue, HasName}
use Rattle.directory.specs.declared.queue.Queue.{Queue}
use Rattle.directory.proofs.Creations.{set_here, set_there}

module _ (places : Directory) (slot : ℕ) (queue : Queue) (h : IsDirectory places) (free : IsFree places slot) (fresh : HasName places queue.name → ⊥) where
  below : slot < 8
  below = let within = slice_get_within places slot None free in omega (arith, h.count)

  -- the queue in the slot is the new one, and any other was there before
  opened_here : (q : Queue) → HasQueue (slice_set places slot (Some queue)) slot q → queue ≡ q
  opened_here q has =
      let both : Some (Some queue) ≡ Some (Some q) = sym (set_here places slot (Some queue) (omega (arith, h.count, below))) ∙ has in
      cc

  was_there : (other : ℕ) (q : Queue) → other ≢ slot → HasQueue (slice_set places slot (Some queue)) other q → HasQueue places other q
  was_there other q apart has =
      let within : other < length (slice_set places slot (Some queue)) = slice_get_within (slice_set places slot (Some queue)) other (Some q) has in
      let long = length-set places slot (Some queue) in
      sym (set_there places slot other (Some queue) (omega arith) apart) ∙ has

  -- nobody else has its name
  not_old : (other : ℕ) (q : Queue) → HasQueue places other q → q.name ≡ queue.name → ⊥
  not_old other q has same = fresh (record { slot = other; here = record { queue = q; has = has; named = same } })

  once : (i j : ℕ) (p q : Queue) → HasQueue (slice_set places slot (Some queue)) i p → HasQueue (slice_set places slot (Some queue)) j q → p.name ≡ q.name → i ≡ j
  once i j p q has_i has_j same = elim (eqb_tells i slot) [
    | inl e ↦
        let first : queue ≡ p = opened_here p (subst (λ (s : ℕ). HasQueue (slice_set places slot (Some queue)) s p) e.1 has_i) in
        elim (eqb_tells j slot) [
          | inl f ↦ e.1 ∙ sym f.1
          | inr f ↦ absurd (not_old j q (was_there j q f.1 has_j) (sym same ∙ ap (λ (r : Queue). r.name) (sym first)))
        ]
    | inr e ↦ elim (eqb_tells j slot) [
      | inl f ↦
          let second : queue ≡ q = opened_here q (subst (λ (s : ℕ). HasQueue (slice_set places slot (Some queue)) s q) f.1 has_j) in
          absurd (not_old i p (was_there i p e.1 has_i) (same ∙ ap (λ (r : Queue). r.name) (sym second)))
      | inr f ↦ h.once i j p q (was_there i p e.1 has_i) (was_there j q f.1 has_j) same
    ]
  ]

  pub opened : IsDirectory (slice_set places slot (Some queue))
  opened = record { count = length-set places slot (Some queue) ∙ h.count; once = once }

-- the same, where the directory is known to be these places
pub opened_in : (places directory : Directory) → places ≡ directory → (slot : ℕ) (queue : Queue) → IsDirectory places → IsFree directory slot → (HasName directory queue.name → ⊥) → IsDirectory (slice_set places slot (Some queue))
opened_in places directory same slot queue h free fresh =
    opened places slot queue h
    (subst (λ (d : Directory). IsFree d slot) (sym same) free)
    (subst (λ (d : Directory). HasName d queue.name → ⊥) (sym same) fresh)

pub place_there : (places directory : Directory) → places ≡ directory → (slot : ℕ) → IsFree directory slot → slot < length places
place_there places directory same slot free =
    slice_get_within places slot None (subst (λ (d : Directory). IsFree d slot) (sym same) free)
