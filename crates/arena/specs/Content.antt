-- What the kept words say that the queue holds.
use Rattle.std.specs.Prelude.{ℕ, List, map, filter, not, ◌==◌}
use Rattle.words.specs.PlainQueue.{Value}
use Rattle.arena.specs.Shape.{Shape, greatest}
use Rattle.arena.specs.declared.place.Place.{Place}
use Rattle.arena.specs.Form.{running}
use Rattle.arena.specs.declared.form.Form.{Form}
use Rattle.arena.specs.Words.{links, marks, values_in}
use Rattle.arena.specs.Chain.{walk}

-- the nodes that kept links reach from node 0
abbrev pub chain_of : Shape → (Place → ℕ) → List ℕ
chain_of s kept = walk (greatest s) (links kept) 0

-- those with a kept mark, and those without one
abbrev pub claimed_of : Shape → (Place → ℕ) → List ℕ
claimed_of s kept = filter (λ n. not (marks kept n == 0)) (chain_of s kept)

abbrev pub waiting_of : Shape → (Place → ℕ) → List ℕ
waiting_of s kept = filter (λ n. marks kept n == 0) (chain_of s kept)

-- the messages of the nodes without one
abbrev pub content_in : Form → Shape → (Place → ℕ) → List Value
content_in form s kept = map (values_in form kept) (waiting_of s kept)

abbrev pub kept_content : Shape → (Place → ℕ) → List Value
kept_content = content_in running
