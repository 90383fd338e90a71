-- Words that are all zero are those of a queue that nobody used.
use Rattle.std.proofs.Common.{◌≡◌, ℕ, inl, replicate, length, sym, ap}
use Rattle.std.proofs.lemmas.List.{length-replicate}
use Rattle.persist.specs.Memory.{zero_words}
use Rattle.arena.specs.Layout.{size_of}
use Rattle.arena.specs.Shape.{Shape}
use Rattle.interleave.specs.Ranges.{AreUnused}

pub zero_words_are_unused : (s : Shape) → AreUnused s (zero_words (size_of s))
zero_words_are_unused s =
    let n : ℕ = size_of s in
    let long : n ≡ length (replicate n (let z : ℕ = 0 in z)) = sym (length-replicate n 0) in
    record { count = inl (length-replicate n 0); cached = ap (λ m. replicate m 0) long; kept = ap (λ m. replicate m 0) long }
