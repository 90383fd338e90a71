use Rattle.std.proofs.Common.{◌≡◌, false, [], ◌∷◌, ◌++◌, slice_index, sym, ap, ◌∙◌}
use Rattle.std.proofs.lemmas.Result.{on_ok_weaker}
use Rattle.std.specs.Prelude.{List, Option, None, Some, Result, Ok, Err}
use Rattle.words.specs.declared.call.Reply.{Reply}
use Rattle.words.specs.declared.refusal.Refusal.{Refusal}
use Rattle.interleave.specs.Calls.{is_no_memory}
use Rattle.interleave.specs.State.{step_result, after_step}
use Rattle.playing.specs.Steps.{count_after, call_counted}
use Rattle.playing.specs.Play.{Play, play_after_step}
use Rattle.playing.specs.declared.lines.Line.{Line}
use Rattle.playing.specs.declared.lines.Line.TheVariants.{Return}
use Rattle.playing.proofs.Plays.{is_another, where_both, always_ok, refused_same, one_step, leads_on, gives_on, ends_answered, gives_answered, ends_refused, gives_refused}
use Rattle.playing.proofs.player.Player.go_on.Goals as goal

pub returns-in-Err-clause-play : goal.returns-in-Err-clause-play
returns-in-Err-clause-play c =
    let play : Play = record { world = c.loop.self-inside.world.now; steps = c.loop.self-inside.steps } in
    let client = c.args.client in
    on_ok_weaker c.add_refused.result (λ other.
    let memory : is_no_memory c.step.result ≡ false =
    ap (λ (r : Result (Option Reply) Refusal). is_no_memory r) c.in-Err.is
    ∙ is_another (Option Reply) c.in-Err.refusal other in
    let refused : step_result false play.world client ≡ Err c.in-Err.refusal =
    ap (λ full. step_result full play.world client) (sym memory) ∙ sym c.step.ensures.by_rule.answers ∙ c.in-Err.is in
    let same : c.step.new.self.now ≡ play.world =
    c.step.ensures.by_rule.leaves
    ∙ ap (λ full. after_step full play.world client) memory
    ∙ refused_same play.world client c.in-Err.refusal refused in
    ap (λ w. record { world = w; steps = play.steps }) same
    ∙ sym (ends_refused client c.args.most c.loop.counter play c.in-Err.refusal c.loop-test.true refused)
    ∙ c.loop.invariant.leads) c.add_refused.ensures.another

pub returns-in-Err-clause-lines : goal.returns-in-Err-clause-lines
returns-in-Err-clause-lines c =
    let play : Play = record { world = c.loop.self-inside.world.now; steps = c.loop.self-inside.steps } in
    let client = c.args.client in
    where_both c.add_refused.result c.add_refused.ensures.another c.add_refused.ensures.lines (λ other lines.
    let memory : is_no_memory c.step.result ≡ false =
    ap (λ (r : Result (Option Reply) Refusal). is_no_memory r) c.in-Err.is
    ∙ is_another (Option Reply) c.in-Err.refusal other in
    let refused : step_result false play.world client ≡ Err c.in-Err.refusal =
    ap (λ full. step_result full play.world client) (sym memory) ∙ sym c.step.ensures.by_rule.answers ∙ c.in-Err.is in
    lines
    ∙ ap (λ ls. c.loop.lines.items ++ ls)
    (sym (gives_refused client c.args.most c.loop.counter play c.in-Err.refusal c.loop-test.true refused))
    ∙ c.loop.invariant.gives)

pub returns-in-Some-clause-play : goal.returns-in-Some-clause-play
returns-in-Some-clause-play c =
    let play : Play = record { world = c.loop.self-inside.world.now; steps = c.loop.self-inside.steps } in
    let client = c.args.client in
    let is : c.step.result ≡ Ok (Some c.in-Some.reply) = c.in-Ok.is ∙ ap Ok c.in-Some.is in
    let memory : is_no_memory c.step.result ≡ false = ap (λ (r : Result (Option Reply) Refusal). is_no_memory r) is in
    let answered : step_result false play.world client ≡ Ok (Some c.in-Some.reply) =
    ap (λ full. step_result full play.world client) (sym memory) ∙ sym c.step.ensures.by_rule.answers ∙ is in
    let world : c.step.new.self.now ≡ after_step false play.world client =
    c.step.ensures.by_rule.leaves ∙ ap (λ full. after_step full play.world client) memory in
    let steps : c.go_on-steps.new.self ≡ call_counted 1 client play.steps = c.go_on-steps.ensures.steps in
    always_ok c.add.result (
    one_step client play c.step.new.self.now c.go_on-steps.new.self world steps
    ∙ sym (ends_answered client c.args.most c.loop.counter play c.in-Some.reply c.loop-test.true answered)
    ∙ c.loop.invariant.leads)

pub returns-in-Some-clause-lines : goal.returns-in-Some-clause-lines
returns-in-Some-clause-lines c =
    let play : Play = record { world = c.loop.self-inside.world.now; steps = c.loop.self-inside.steps } in
    let client = c.args.client in
    let before : List Line = c.loop.lines.items in
    let is : c.step.result ≡ Ok (Some c.in-Some.reply) = c.in-Ok.is ∙ ap Ok c.in-Some.is in
    let memory : is_no_memory c.step.result ≡ false = ap (λ (r : Result (Option Reply) Refusal). is_no_memory r) is in
    let answered : step_result false play.world client ≡ Ok (Some c.in-Some.reply) =
    ap (λ full. step_result full play.world client) (sym memory) ∙ sym c.step.ensures.by_rule.answers ∙ is in
    let count : c.go_on-steps.result ≡ count_after 1 (slice_index play.steps.calls client.0) =
    c.go_on-steps.ensures.count in
    on_ok_weaker c.add.result (λ told.
    told
    ∙ ap (λ n. before ++ Return client c.in-Some.reply n ∷ []) count
    ∙ ap (λ ls. before ++ ls)
    (sym (gives_answered client c.args.most c.loop.counter play c.in-Some.reply c.loop-test.true answered))
    ∙ c.loop.invariant.gives) c.add.ensures.lines

pub loop-preserved : goal.loop-preserved
loop-preserved c =
    let play : Play = record { world = c.loop.self-inside.world.now; steps = c.loop.self-inside.steps } in
    let next : Play = record { world = c.step.new.self.now; steps = c.go_on-steps.new.self } in
    let client = c.args.client in
    let is : c.step.result ≡ Ok None = c.in-Ok.is ∙ ap Ok c.in_default.is in
    let memory : is_no_memory c.step.result ≡ false = ap (λ (r : Result (Option Reply) Refusal). is_no_memory r) is in
    let going : step_result false play.world client ≡ Ok None =
    ap (λ full. step_result full play.world client) (sym memory) ∙ sym c.step.ensures.by_rule.answers ∙ is in
    let world : c.step.new.self.now ≡ after_step false play.world client =
    c.step.ensures.by_rule.leaves ∙ ap (λ full. after_step full play.world client) memory in
    let steps : c.go_on-steps.new.self ≡ call_counted 1 client play.steps = c.go_on-steps.ensures.steps in
    let same : next ≡ play_after_step play client =
    one_step client play c.step.new.self.now c.go_on-steps.new.self world steps in
    record {
      leads = leads_on client c.args.most c.loop.counter play next c.loop-test.true going same ∙ c.loop.invariant.leads;
      gives =
          ap (λ ls. c.loop.lines.items ++ ls)
          (gives_on client c.args.most c.loop.counter play next c.loop-test.true going same)
          ∙ c.loop.invariant.gives;
    }
