use Rattle.std.proofs.Common.{◌+◌, ◌<◌, ◌∷◌, length, List, drop, ap, subst, arith}
use Rattle.std.proofs.lemmas.Option.{slice_get_within}
use Rattle.std.specs.Prelude.{Ok}
use Rattle.grammar.specs.declared.commands.Command.TheVariants.{Again}
use Rattle.playing.proofs.Facts.{made_first, made_within}
use Rattle.broker_lines.specs.declared.statements.Statement.{Statement}
use Rattle.broker_lines.specs.declared.statements.Statement.TheVariants.{Whole as whole}
use Rattle.broker_script.proofs.Again.{all_made, next_left}
use Rattle.broker_script.proofs.Going.{AllLead}
use Rattle.broker_script.proofs.play.follow_all.Goals as goal

pub loop-at-preserved : goal.loop-at-preserved
loop-at-preserved c =
    let all = c.args.statements.now in
    let at = c.loop-at.at in
    let m = c.line_to_make-made.result in
    let statement = c.index-statements-made.result in
    let here : at < length all = c.loop-at-test.true in
    let placed = made_within c.loop-at.put_off c.loop-at.made at m (length all) c.line_to_make-made.ensures c.loop-at.invariant.before here in
    let within : m < length all = placed.0 in
    let by = c.in_ok-put_off.ensures in
    let leads : AllLead c.args.player all c.loop-at.player (statement ∷ drop (at + 1) all) c.loop-at.lines.items =
    subst (λ (l : List Statement). AllLead c.args.player all c.loop-at.player l c.loop-at.lines.items)
    (made_first all c.loop-at.put_off c.loop-at.made at m statement c.line_to_make-made.ensures within c.index-statements-made.is)
    c.loop-at.invariant.leads in
    record {
      leads = next_left c.args.player c.loop-at.player c.follow.new.player all m at statement c.loop-at.lines.items c.follow.new.lines.items
          c.in_ok-put_off.put_off leads within c.index-statements-made.is (λ e. by.followed (ap Ok e))
          (λ e. (by.put_off (ap Ok e), by.line (ap Ok e))) (λ e. c.is_again-again.ensures (by.again (ap Ok e)));
      before = let low = placed.1 in omega (arith, low);
      again = λ e. slice_get_within all (at + 1) (whole Again) (c.is_again-again.ensures (by.again (ap Ok e)));
    }

pub returns-clause-lines : goal.returns-clause-lines
returns-clause-lines c =
    all_made c.args.player c.loop-at.player c.args.statements.now c.loop-at.put_off c.loop-at.made c.loop-at.at c.loop-at.lines.items
    c.loop-at.invariant.again (omega arith) c.loop-at.invariant.leads
