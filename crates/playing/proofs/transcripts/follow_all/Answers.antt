use Rattle.std.proofs.Common.{◌+◌, ◌<◌, ◌∷◌, length, List, drop, ap, subst, arith}
use Rattle.std.proofs.lemmas.Option.{slice_get_within}
use Rattle.std.specs.Prelude.{Ok}
use Rattle.grammar.specs.declared.commands.Command.{Command}
use Rattle.grammar.specs.declared.commands.Command.TheVariants.{Again}
use Rattle.playing.proofs.Again.{made_first, made_within, nothing_pending}
use Rattle.playing.proofs.MayGive.{may_end, may_next, MayLead}
use Rattle.playing.proofs.transcripts.follow_all.Goals as goal

pub loop-at-preserved : goal.loop-at-preserved
loop-at-preserved c =
    let all = c.args.commands.now in
    let at = c.loop-at.at in
    let m = c.line_to_make-made.result in
    let command = c.index-commands-made.result in
    let here : at < length all = c.loop-at-test.true in
    let placed = made_within c.loop-at.put_off c.loop-at.made at m (length all) c.line_to_make-made.ensures c.loop-at.invariant.before here in
    let within : m < length all = placed.0 in
    let by = c.in_ok-put_off.ensures in
    let leads : MayLead c.args.layout all c.loop-at.player (command ∷ drop (at + 1) all) c.loop-at.lines.items =
    subst (λ (l : List Command). MayLead c.args.layout all c.loop-at.player l c.loop-at.lines.items)
    (made_first all c.loop-at.put_off c.loop-at.made at m command c.line_to_make-made.ensures within c.index-commands-made.is)
    c.loop-at.invariant.leads in
    record {
      leads = may_next c.args.layout all c.loop-at.player c.follow.new.player m at command c.loop-at.lines.items c.follow.new.lines.items
          c.in_ok-put_off.put_off leads within c.index-commands-made.is (λ e. by.play (ap Ok e)) (λ e. by.lines (ap Ok e))
          (λ e. by.same (ap Ok e)) (λ e. by.put_off (ap Ok e)) (λ e. c.is_again-again.ensures (by.again (ap Ok e)));
      before = let low = placed.1 in omega (arith, low);
      again = λ e. slice_get_within all (at + 1) Again (c.is_again-again.ensures (by.again (ap Ok e)));
    }

pub returns-clause-lines : goal.returns-clause-lines
returns-clause-lines c =
    let all = c.args.commands.now in
    may_end c.args.layout all c.loop-at.player c.loop-at.lines.items
    (subst (λ (l : List Command). MayLead c.args.layout all c.loop-at.player l c.loop-at.lines.items)
    (nothing_pending all c.loop-at.put_off c.loop-at.made c.loop-at.at c.loop-at.invariant.again (omega arith)) c.loop-at.invariant.leads)
