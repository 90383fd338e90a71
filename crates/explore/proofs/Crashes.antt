-- A crash comes to what its acts leave: those up to the point, the evictions, and then recovery's.
use Rattle.std.proofs.Common.{◌≡◌, refl, ℕ, false, List, map, replicate, ap, ◌∙◌}
use Rattle.arena.specs.Layout.{size_of}
use Rattle.arena.specs.Shape.{Shape}
use Rattle.protocol.specs.declared.acts.Act.{Act}
use Rattle.protocol.specs.declared.acts.Act.TheVariants.{Evict, Recover}
use Rattle.interleave.specs.State.{State, new_world, after_acts, after_crash, after_stop, taken_of, most_to_ready}
use Rattle.explore.specs.Points.{crashed_world, evicted_words, found_in, found_by_recovery, found_stopped, recovery_of}
use Rattle.explore.specs.Points.{found_after}
use Rattle.explore.specs.declared.evictions.Evictions.{Evictions}
use Rattle.explore.specs.declared.evictions.Evictions.TheVariants.{None as no_word}
use Rattle.explore.proofs.Shapes.{after_acts_shape}

pub evictions_of : Shape → Evictions → ℕ → List (Act ℕ)
evictions_of s evictions point = map Evict (evicted_words evictions (size_of s) point)

pub evictions_are : (s : Shape) (evictions : Evictions) (point : ℕ)
    → map Evict (evicted_words evictions (size_of s) point) ≡ evictions_of s evictions point
unfolding evictions_of
evictions_are s evictions point = refl

-- the words that are evicted are those of the layout
evicted : (s : Shape) (acts : List (Act ℕ)) (evictions : Evictions) (point : ℕ) (w v : State)
    → w ≡ after_acts (new_world s) acts → v ≡ after_acts w (evictions_of w.shape evictions point)
    → v ≡ after_acts (after_acts (new_world s) acts) (evictions_of s evictions point)
evicted s acts evictions point w v brought kept =
    kept ∙ ap (λ (u : State). after_acts u (evictions_of u.shape evictions point)) brought
    ∙ ap (λ t. after_acts (after_acts (new_world s) acts) (evictions_of t evictions point))
    (after_acts_shape (new_world s) acts)

down_is : (s : Shape) (acts : List (Act ℕ)) (evictions : Evictions) (point : ℕ)
    → after_crash false (after_acts (after_acts (new_world s) acts) (evictions_of s evictions point))
    ≡ crashed_world s acts evictions point
unfolding evictions_of crashed_world
down_is s acts evictions point = refl

down_shape : (s : Shape) (acts : List (Act ℕ)) (evictions : Evictions) (point : ℕ)
    → (crashed_world s acts evictions point).shape ≡ s
unfolding crashed_world
down_shape s acts evictions point =
    after_acts_shape (after_acts (new_world s) acts) (map Evict (evicted_words evictions (size_of s) point))
    ∙ after_acts_shape (new_world s) acts

recovers : (down v ready : State) (steps : ℕ) (some all : List (Act ℕ)) → down ≡ v → some ≡ all
    → ready ≡ after_acts down some → steps ≡ taken_of down some → found_in ready steps ≡ found_by_recovery v all
recovers down v ready steps some all same enough leads counts =
    ap (λ u. found_in u steps) leads ∙ ap (found_in (after_acts down some)) counts
    ∙ ap (λ u. found_by_recovery u some) same ∙ ap (found_by_recovery v) enough

pub comes_to : (s : Shape) (acts : List (Act ℕ)) (evictions : Evictions) (point : ℕ) (made w v down ready : State)
    (most steps : ℕ) → made ≡ new_world s → w ≡ after_acts made acts
    → v ≡ after_acts w (map Evict (evicted_words evictions (size_of w.shape) point)) → down ≡ after_crash false v
    → most ≡ most_to_ready down.shape → ready ≡ after_acts down (replicate most Recover)
    → steps ≡ taken_of down (replicate most Recover) → found_in ready steps ≡ found_after s acts evictions point
comes_to s acts evictions point made w v down ready most steps new brought kept crashed many leads counts =
    let same : down ≡ crashed_world s acts evictions point =
    crashed ∙ ap (after_crash false)
    (evicted s acts evictions point w v (brought ∙ ap (λ u. after_acts u acts) new)
    (kept ∙ ap (after_acts w) (evictions_are w.shape evictions point)))
    ∙ down_is s acts evictions point in
    let enough : most ≡ most_to_ready s =
    many ∙ ap (λ (u : State). most_to_ready u.shape) same ∙ ap most_to_ready (down_shape s acts evictions point) in
    recovers down (crashed_world s acts evictions point) ready steps (replicate most Recover) (recovery_of s) same
    (ap (λ n. replicate n Recover) enough) leads counts

-- and where no word is evicted, to what a world comes to that stops after them
pub stops_at : (s : Shape) (acts : List (Act ℕ)) (point : ℕ) (w : State) → w ≡ after_acts (new_world s) acts
    → found_stopped w ≡ found_after s acts no_word point
unfolding crashed_world
stops_at s acts point w is =
    ap found_stopped is
    ∙ ap (λ (t : Shape). found_by_recovery (after_stop (after_acts (new_world s) acts)) (recovery_of t)) (after_acts_shape (new_world s) acts)
