use Rattle.std.proofs.Common.{◌≡◌, ◌<◌, length, slice_index}
use Rattle.arena.specs.Place.{IsNode}
use Rattle.arena.specs.Shape.{greatest}
use Rattle.sound_words.specs.Kept.{kept_of}
use Rattle.sound_words.proofs.Followed.{IsFollowed}
use Rattle.sound_words.proofs.kept.KeptQueue.follow.Given as goal

abbrev pub invariant-loop-i : goal.invariant-loop-i
invariant-loop-i g l =
    let s = l.self.shape in
    record {
      all : l.greatest ≡ greatest s;
      table : greatest s < length l.place;
      node : IsNode s l.node;
      walked : IsFollowed s (kept_of l.self) (λ n. slice_index l.place n) l.i l.node;
    }
