use Rattle.std.proofs.Common.{◌≡◌, ℕ, ◌-◌, ◌++◌}
use Rattle.arena.specs.Shape.{greatest}
use Rattle.arena.specs.Place.{IsNode}
use Rattle.arena.specs.Content.{kept_content}
use Rattle.interleave.specs.Values.{value_of_place}
use Rattle.interleave.proofs.words.Contents.{content_from}
use Rattle.arena.specs.declared.place.Place.{Place}
use Rattle.interleave.proofs.content.content.Given as goal

-- what was found and what the links that are left reach is all that there is
abbrev pub invariant-loop : goal.invariant-loop
invariant-loop g l =
    let s = l.layout in
    let word : Place → ℕ = value_of_place s (g.K.KeptWords.kept_words l.kept) in
    record {
      links : l.links ≡ greatest s;
      node : IsNode s l.node.0;
      content : l.values.items ++ content_from word (l.links - l.counter) l.node.0 ≡ kept_content s word;
    }
