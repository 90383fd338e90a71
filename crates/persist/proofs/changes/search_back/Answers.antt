use Rattle.std.proofs.Common.{arith}
use Rattle.persist.proofs.Places.{place_is_below_word}
use Rattle.persist.proofs.changes.search_back.Goals.{then-word-at, else-word-at}
use Rattle.persist.proofs.changes.search_back.Goals as goal

pub loop-at-init : goal.loop-at-init
loop-at-init c = elim c.if-word-at.branch [
  | then-word-at w ↦ record {
    within = omega (arith, w.if-word-at.true, w.at-is);
    higher_after = λ j from here. omega (arith, place_is_below_word c.args.entries.now c.requires j here, from, w.at-is);
  }
  | else-word-at w ↦ record { within = omega (arith, w.at-is); higher_after = λ j from here. absurd (omega (arith, from, here, w.at-is)) }
]
