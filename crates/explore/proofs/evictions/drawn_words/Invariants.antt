use Rattle.std.proofs.Common.{◌≡◌, ◌-◌, ◌++◌}
use Rattle.explore.specs.Points.{drawn_words}
use Rattle.explore.proofs.evictions.drawn_words.Given as goal

-- the words so far, and those that are still drawn, are all
abbrev pub invariant-loop-word : goal.invariant-loop-word
invariant-loop-word l =
    l.words.items ++ drawn_words (l.size - l.word) l.word l.draws ≡ drawn_words l.size 0 l.fn.draws
