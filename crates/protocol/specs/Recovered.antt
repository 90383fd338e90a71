-- What a recovery that is done leaves.
use Rattle.std.specs.Prelude.{◌≡◌, ℕ, List, [], ◌∷◌}
use Rattle.words.specs.declared.call.Kind.TheVariants.{Log}
use Rattle.arena.specs.Answers.{result_of}
use Rattle.arena.specs.Chain.{IsAmong}
use Rattle.arena.specs.Content.{chain_of, claimed_of, waiting_of}
use Rattle.arena.specs.Shape.{Shape}
use Rattle.arena.specs.Words.{marks, statuses, IsWritten}
use Rattle.arena.specs.declared.place.Place.{Place}
use Rattle.arena.specs.declared.place.Place.TheVariants.{Head, Tail}

-- the last of from and these nodes
abbrev pub end_of : ℕ → List ℕ → ℕ
end_of from [] = from
end_of from (n ∷ ns) = end_of n ns

-- the head is at the last claimed node and the tail at the last node, or at node 0 where there is none; the result of
-- each
-- claimed node is written where its dequeue's answer belongs; and the entry of each waiting node says that it was
-- taken. That
-- of a claimed node may say nothing, where the head had passed the node: its claim says as much
pub record IsRecovered (s : Shape) (k : Place → ℕ) : Type 0 where
  pub head : k Head ≡ end_of 0 (claimed_of s k)
  pub tail : k Tail ≡ end_of 0 (chain_of s k)
  pub answered : (n : ℕ) → IsAmong n (claimed_of s k)
      → IsWritten k (result_of s.kind (record { 0 = marks k n }) (record { 0 = n }))
  pub taken : s.kind ≡ Log → (n : ℕ) → IsAmong n (waiting_of s k) → statuses k n ≡ 1
