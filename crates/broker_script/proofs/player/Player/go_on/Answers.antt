use Rattle.std.proofs.Common.{◌≡◌, ◌-◌, [], ◌∷◌, ap, sym, ◌∙◌, arith, subst, refl}
use Rattle.std.proofs.lemmas.Result.{IfOk-weaker}
use Rattle.std.specs.Prelude.{nat_lt, option_to_list}
use Rattle.named.specs.Brokers.{IsWell}
use Rattle.playing.proofs.Facts.{always_ok, ends_answered, ends_refused, gives_answered, gives_on, gives_refused}
use Rattle.playing.proofs.Facts.{leads_on}
use Rattle.playing.specs.Play.{after_steps}
use Rattle.playing.specs.Transcript.{step_lines}
use Rattle.broker_script.specs.Play.{play_at}
use Rattle.broker_script.proofs.Acted.{answered_none, answered_some, on_ok_from, only_none, only_then}
use Rattle.broker_script.proofs.PutOffs.{none_made, refused_first}
use Rattle.broker_script.proofs.player.Player.go_on.Goals as goal

pub loop-made-init : goal.loop-made-init
loop-made-init c =
    let play = play_at c.args.self.now c.args.slot.0 in
    let all : c.args.most - 0 ≡ c.args.most = omega arith in
    let well : IsWell c.args.self.now.broker = subst IsWell (ap (λ p. p.broker) c.self.view_is) c.self.invariant.broker.well in
    record {
      ready = c.requires.ready;
      is_open = c.requires.open;
      only = only_none c.args.slot.0 c.args.self.now well;
      first = λ e. refl;
      leads = ap (λ n. after_steps c.args.client n play) all;
      gives = ap (λ n. step_lines c.args.client n play) all;
    }

pub returns-in-Err : goal.returns-in-Err
returns-in-Err c =
    let play = play_at c.loop-made.self c.args.slot.0 in
    let slot = c.args.slot.0 in
    let made = c.loop-made.made in
    record {
      lines = IfOk-weaker c.refused_line.result _ _ (λ line told.
          ap option_to_list told.1
          ∙ sym (gives_refused c.args.client c.args.most made play c.in-Err.refusal c.loop-made-test.true (c.in-Err.ensures.refused told.0))
          ∙ c.loop-made.invariant.gives) c.refused_line.ensures.line;
      play = on_ok_from c.refused_line.result _ (λ line told.
          c.in-Err.ensures.same told.0
          ∙ sym (ends_refused c.args.client c.args.most made play c.in-Err.refusal c.loop-made-test.true (c.in-Err.ensures.refused told.0))
          ∙ c.loop-made.invariant.leads) c.refused_line.ensures.line;
      only = always_ok c.refused_line.result
          (only_then slot c.args.self.now c.loop-made.self c.step.new.self c.loop-made.invariant.only c.in-Err.ensures.only);
      put_off = refused_first c.refused_line.result c.args.self.now c.loop-made.self c.step.new.self c.in-Err.refusal (nat_lt 0 made)
          c.refused_line.ensures.memory c.refused_line.ensures.begun
          (λ e. c.loop-made.invariant.first (none_made made e))
          (λ e. c.in-Err.ensures.put_off (cc));
    }

pub returns-in-Ok-Some-clause-play : goal.returns-in-Ok-Some-clause-play
returns-in-Ok-Some-clause-play c =
    let play = play_at c.loop-made.self c.args.slot.0 in
    let by = answered_some play c.args.client c.in-Ok-Some.field-0 c.in-Ok-Some.line c.in-Ok-Some.ensures.answered c.in-Ok-Some.field-0-is in
    c.in-Ok-Some.ensures.play
    ∙ sym (ends_answered c.args.client c.args.most c.loop-made.made play by.reply c.loop-made-test.true by.answered)
    ∙ c.loop-made.invariant.leads

pub returns-in-Ok-Some-clause-lines : goal.returns-in-Ok-Some-clause-lines
returns-in-Ok-Some-clause-lines c =
    let play = play_at c.loop-made.self c.args.slot.0 in
    let by = answered_some play c.args.client c.in-Ok-Some.field-0 c.in-Ok-Some.line c.in-Ok-Some.ensures.answered c.in-Ok-Some.field-0-is in
    ap (λ l. l ∷ []) by.is
    ∙ sym (gives_answered c.args.client c.args.most c.loop-made.made play by.reply c.loop-made-test.true by.answered)
    ∙ c.loop-made.invariant.gives

pub loop-made-preserved : goal.loop-made-preserved
loop-made-preserved c =
    let client = c.args.client in
    let play = play_at c.loop-made.self c.args.slot.0 in
    let next = play_at c.step.new.self c.args.slot.0 in
    let going = answered_none play client c.in-Ok-None.field-0 c.in-Ok-None.ensures.answered c.in-Ok-None.field-0-is in
    let only = c.in-Ok-None.ensures.only in
    record {
      ready = only.beside.recovery ∙ c.loop-made.invariant.ready;
      is_open = c.in-Ok-None.ensures.open;
      only = only_then c.args.slot.0 c.args.self.now c.loop-made.self c.step.new.self c.loop-made.invariant.only only;
      first = λ e. absurd (omega (arith, e));
      leads = leads_on client c.args.most c.loop-made.made play next c.loop-made-test.true going c.in-Ok-None.ensures.play ∙ c.loop-made.invariant.leads;
      gives = gives_on client c.args.most c.loop-made.made play next c.loop-made-test.true going c.in-Ok-None.ensures.play ∙ c.loop-made.invariant.gives;
    }
