use Rattle.std.proofs.Common.{◌<◌, length, slice_index}
use Rattle.arena.specs.Shape.{greatest}
use Rattle.sound_words.specs.Kept.{kept_of}
use Rattle.sound_words.proofs.Noted.{AreNoted}
use Rattle.sound_words.proofs.kept.KeptQueue.note_claims.Given as goal

abbrev pub invariant-loop-node : goal.invariant-loop-node
invariant-loop-node g l =
    let s = l.self.shape in
    record {
      table : greatest s < length l.claimed;
      noted : AreNoted s (kept_of l.self) (λ n. slice_index l.claimed n) l.node;
    }
