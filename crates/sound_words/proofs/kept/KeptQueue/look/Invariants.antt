use Rattle.std.proofs.Common.{◌≡◌, ◌-◌, false, slice_index, slice_index_or}
use Rattle.arena.specs.Shape.{greatest}
use Rattle.sound_words.specs.Kept.{kept_of}
use Rattle.sound_words.proofs.Looked.{AreLooked}
use Rattle.sound_words.proofs.kept.KeptQueue.look.Given as goal

abbrev pub invariant-loop : goal.invariant-loop
invariant-loop g l =
    let s = l.self.shape in
    record {
      all : l.greatest ≡ greatest s;
      looked : AreLooked s (kept_of l.self) (λ t. slice_index_or l.on_chain t false) (λ t. slice_index l.claimed t) (greatest s - l.counter) l.node;
    }
