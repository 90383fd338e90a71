use Rattle.std.proofs.Common.{◌∙◌, ◌+◌, sym, ap, subst, arith, Some}
use Rattle.directory.specs.Queue.{directory_of}
use Rattle.directory.specs.Directory.{Directory}
use Rattle.directory.specs.Recovering.{AreFoundBefore}
use Rattle.directory.proofs.Kept.{directory_at, all_found, twice}
use Rattle.directory.proofs.Recoveries.{found_more, found_queue}
use Rattle.directory.proofs.soundness.kept_directory.Goals as goal

pub loop-slot-preserved-in_default : goal.loop-slot-preserved-in_default
loop-slot-preserved-in_default g c =
    let ws = g.W.KeptWords.kept_words c.args.words.now in
    record {
      found = found_more (directory_of ws) c.loop-slot.directory c.loop-slot.slot c.loop-slot-test.true c.loop-slot.invariant.found
          (directory_at ws c.loop-slot.slot c.loop-slot-test.true ∙ ap Some (sym c.slot_in.ensures ∙ c.in_default.is));
      directory = c.loop-slot.invariant.directory;
    }

pub returns-then-has-clause-none : goal.returns-then-has-clause-none
returns-then-has-clause-none g c =
    twice (g.W.KeptWords.kept_words c.args.words.now) c.loop-slot.directory c.loop-slot.slot c.in-Some.queue c.loop-slot-test.true
    c.loop-slot.invariant.found (sym c.slot_in.ensures ∙ c.in-Some.is) (c.has.ensures.0 c.if-has.true)

pub open-requires-clause-free : goal.open-requires-clause-free
open-requires-clause-free g c = c.loop-slot.invariant.found.from c.loop-slot.slot (omega arith) c.loop-slot-test.true

pub loop-slot-preserved : goal.loop-slot-preserved
loop-slot-preserved g c =
    let ws = g.W.KeptWords.kept_words c.args.words.now in
    record {
      found =
          subst (λ (places : Directory). AreFoundBefore places (directory_of ws) (c.loop-slot.slot + 1)) (sym c.open.ensures.opened)
          (found_queue (directory_of ws) c.loop-slot.directory c.loop-slot.slot (Some c.in-Some.queue) c.loop-slot-test.true
          c.loop-slot.invariant.found (directory_at ws c.loop-slot.slot c.loop-slot-test.true ∙ ap Some (sym c.slot_in.ensures ∙ c.in-Some.is)));
      directory = c.open.ensures.directory;
    }

pub returns-clause-read : goal.returns-clause-read
returns-clause-read g c =
    all_found (g.W.KeptWords.kept_words c.args.words.now) c.loop-slot.directory c.loop-slot.slot c.loop-slot-test.false c.loop-slot.invariant.found
