use Rattle.std.proofs.Common.{◌≡◌, rules, sym, subst, ap, ◌∙◌}
use Rattle.persist.specs.Memory.{Words, zero_words}
use Rattle.arena.specs.Layout.{size_of}
use Rattle.arena.specs.Shape.{Shape}
use Rattle.interleave.specs.Asked.{AreAsked, requests_of}
use Rattle.interleave.specs.Core.{state_of}
use Rattle.interleave.specs.Ranges.{AreUnused}
use Rattle.interleave.specs.State.{State, world_over}
use Rattle.interleave.proofs.Facts.{asked_at_first, zero_words_are_unused}
use Rattle.script_reports.proofs.stage.Stage.make.Goals as goal

pub invariant_of-result : goal.invariant_of-result
invariant_of-result c =
    let s : Shape = c.args.layout in
    let m = c.in_ok-memory.memory in
    let memory : m.words ≡ zero_words (size_of s) = search rules in
    let over : state_of c.new-2.result m.words ≡ world_over s m.words = c.new-2.ensures.world m.words in
    record {
      world = c.new-2.ensures.holds m.words (subst (AreUnused s) (sym memory) (zero_words_are_unused s));
      asked = subst (λ (w : State). AreAsked w.shape w.calls w.recovery (requests_of m)) (sym over)
          (asked_at_first s s.clients (requests_of m));
    }

pub returns-clause-made : goal.returns-clause-made
returns-clause-made c =
    let s : Shape = c.args.layout in
    let memory : c.in_ok-memory.memory.words ≡ zero_words (size_of s) = search rules in
    c.new-2.ensures.world c.in_ok-memory.memory.words ∙ ap (λ (ws : Words). world_over s ws) memory
