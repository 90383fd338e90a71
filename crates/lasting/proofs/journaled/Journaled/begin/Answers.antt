use Rattle.lasting.proofs.Moments.{kept_begun}
use Rattle.lasting.proofs.journaled.Journaled.begin.Goals as goal

pub invariant_of-result : goal.invariant_of-result
invariant_of-result g c =
    kept_begun g.J.Naming.first c.args.policy c.args.handed c.new.result.items c.args.key.now c.args.words.items
    c.in_ok-journal.journal c.new.ensures.items c.requires.words c.requires.moment c.requires.nothing
    c.in_ok-journal.ensures.journal
