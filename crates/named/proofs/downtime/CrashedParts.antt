-- A queue in its block, and a slot, over the words that a crash leaves.
use Rattle.std.proofs.Common.{◌≡◌, ℕ, ◌+◌, ◌≤◌, List, length, take, drop, arith, ◌∙◌, length-drop, length-take}
use Rattle.persist.specs.Memory.{Words}
use Rattle.named.specs.Blocks.{BlockState, IsWellIn}

-- where a part is as long as it should be, so much of the list is there
part_there : (from len : ℕ) (c : List ℕ) → 1 ≤ len → length (take len (drop from c)) ≡ len → from + len ≤ length c
part_there from len c some e = omega (arith, length-take len (drop from c), length-drop from c, e, some)

-- as many words are kept as are cached
pub inside_kept : (ws : Words) (block : BlockState) → IsWellIn ws block → block.from + block.len ≤ length ws.kept
inside_kept ws block well =
    let part : length (take block.len (drop block.from ws.kept)) ≡ length (take block.len (drop block.from ws.cached)) = well.holds.safe.words.same in
    let long : length (take block.len (drop block.from ws.cached)) ≡ block.len =
    omega (arith, length-take block.len (drop block.from ws.cached), length-drop block.from ws.cached, well.inside) in
    part_there block.from block.len ws.kept well.some (part ∙ long)
