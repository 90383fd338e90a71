use Rattle.std.proofs.Common.{◌≡◌, sym, subst, ap, ◌∙◌, rules}
use Rattle.persist.specs.Memory.{zero_words}
use Rattle.arena.specs.Layout.{size_of}
use Rattle.arena.specs.Shape.{Shape}
use Rattle.interleave.specs.Ranges.{AreUnused}
use Rattle.interleave.specs.State.{world_over}
use Rattle.interleave.proofs.words.UnusedWords.{zero_words_are_unused}
use Rattle.interleave.proofs.world.World.make.Goals as goal

pub over-requires : goal.over-requires
over-requires c =
    let s : Shape = c.args.layout in
    let memory : c.in_ok-memory.memory.words ≡ zero_words (size_of s) = search rules in
    subst (AreUnused s) (sym memory) (zero_words_are_unused s)

pub returns-clause-made : goal.returns-clause-made
returns-clause-made c =
    let s : Shape = c.args.layout in
    let memory : c.in_ok-memory.memory.words ≡ zero_words (size_of s) = search rules in
    c.over.ensures ∙ ap (world_over s) memory
