-- The directory that kept words have, slot by slot.
use Rattle.std.proofs.Common.{◌≡◌, ℕ, ◌<◌, ◌≤◌, List, Some, None, sym, ◌∙◌, ap, arith, inl, inr, ◌⊎◌}
use Rattle.std.specs.Prelude.{slice_get}
use Rattle.std.proofs.lemmas.Bool.{cases_lt}
use Rattle.std.proofs.lemmas.List.FromFn.{length-map-range_with_len, get_or-map-range_with_len}
use Rattle.std.proofs.lemmas.Option.{slice_get-get_or, slice_get_within}
use Rattle.directory.specs.Queue.{queue_of, slot_in, directory_of}
use Rattle.directory.specs.Directory.{Directory, IsDirectory, HasName}
use Rattle.directory.specs.Recovering.{AreFoundBefore}
use Rattle.directory.specs.declared.queue.Queue.{Queue}
use Rattle.directory.proofs.Creations.{directory_is}

-- equal words tell of one queue
pub queue_of-same : (a b c x y z : ℕ) → a ≡ x → b ≡ y → c ≡ z → queue_of a b c ≡ queue_of x y z
queue_of-same a b c x y z first second kind =
    ap (λ (w : ℕ). queue_of w b c) first ∙ (ap (λ (w : ℕ). queue_of x w c) second ∙ ap (λ (w : ℕ). queue_of x y w) kind)

-- what the directory has in a slot
pub directory_at : (ws : List ℕ) (slot : ℕ) → slot < 8 → slice_get (directory_of ws) slot ≡ Some (slot_in ws slot)
unfolding directory_of
directory_at ws slot below =
    slice_get-get_or (directory_of ws) slot None (let long = length-map-range_with_len (slot_in ws) 0 8 in omega arith)
    ∙ ap Some (get_or-map-range_with_len (slot_in ws) 0 8 slot slot None below (omega arith))

-- all slots were read
pub all_found : (ws : List ℕ) (places : Directory) (slot : ℕ) → 8 ≤ slot → AreFoundBefore places (directory_of ws) slot → places ≡ directory_of ws
all_found ws places slot all h = sym (directory_is ws places h.count (λ other below. h.before other (omega arith) ∙ directory_at ws other below))

-- a name that a slot before has stands twice
pub twice : (ws : List ℕ) (places : Directory) (slot : ℕ) (queue : Queue) → slot < 8 → AreFoundBefore places (directory_of ws) slot → slot_in ws slot ≡ Some queue
    → HasName places queue.name → IsDirectory (directory_of ws) → ⊥
twice ws places slot queue below h has named directory = go (cases_lt named.slot slot)
  where
    here : slice_get (directory_of ws) slot ≡ Some (Some queue)
    here = directory_at ws slot below ∙ ap Some has

    go : (named.slot < slot) ⊎ (slot ≤ named.slot) → ⊥
    go (inl lower) =
        let there : slice_get (directory_of ws) named.slot ≡ Some (Some named.here.queue) = sym (h.before named.slot lower) ∙ named.here.has in
        let same : named.slot ≡ slot = directory.once named.slot slot named.here.queue queue there here named.here.named in
        omega arith
    go (inr higher) =
        let within = slice_get_within places named.slot (Some named.here.queue) named.here.has in
        let free : slice_get places named.slot ≡ Some None = h.from named.slot higher (omega (arith, h.count)) in
        let both : Some None ≡ Some (Some named.here.queue) = sym free ∙ named.here.has in
        cc
