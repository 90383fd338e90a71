use Rattle.std.proofs.Common.{◌≡◌, refl, sym, subst}
use Rattle.persist.specs.Memory.{Words, words_after_crash}
use Rattle.interleave.specs.Asked.{AreAsked, requests_of}
use Rattle.interleave.specs.Booted.{booted_world}
use Rattle.interleave.specs.Core.{state_of}
use Rattle.interleave.specs.Holds.{Holds}
use Rattle.interleave.specs.State.{State}
use Rattle.interleave.proofs.words.Requests.{asked_at_boot}
use Rattle.interleave.proofs.world.World.boot.Goals as goal

pub invariant_of-result : goal.invariant_of-result
invariant_of-result c =
    let s = c.args.layout in
    let booted : state_of c.in_ok-core.core (words_after_crash c.args.memory.words) ≡ booted_world s c.args.memory.words = c.in_ok-core.ensures.booted c.args.memory.words refl in
    record {
      world = subst (λ (ws : Words). Holds (state_of c.in_ok-core.core ws)) (sym c.crash.ensures.words) (c.in_ok-core.ensures.holds c.args.memory.words refl);
      asked = subst (λ (w : State). AreAsked w.shape w.calls w.recovery (requests_of c.crash.new.self)) (sym booted)
          (asked_at_boot s s.clients (requests_of c.crash.new.self));
    }
