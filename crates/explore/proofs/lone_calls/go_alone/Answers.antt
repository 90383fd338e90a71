use Rattle.std.proofs.Common.{◌≡◌, ℕ, Result, Ok, Err, false, ap, subst}
use Rattle.words.specs.declared.call.Reply.{Reply}
use Rattle.words.specs.declared.refusal.Refusal.{Refusal}
use Rattle.interleave.specs.Rules.{IsByAlone}
use Rattle.interleave.specs.State.{State, step_result, step_result_with}
use Rattle.playing.specs.Play.{most_alone}
use Rattle.playing.proofs.Facts.{few_alone}
use Rattle.playing.proofs.Facts.{not_first}
use Rattle.explore.proofs.StoppedCalls.{answered, passed}
use Rattle.explore.proofs.lone_calls.go_alone.Goals as goal

pub returns-in_ok-push-in-Ok-clause-found : goal.returns-in_ok-push-in-Ok-clause-found
returns-in_ok-push-in-Ok-clause-found c =
    let made : IsByAlone c.args.client c.args.world.now (Ok (c.in-Ok.reply, c.in-Ok.steps)) c.run_alone.new.self =
    subst (λ (r : Result (Reply × ℕ) Refusal). IsByAlone c.args.client c.args.world.now r c.run_alone.new.self)
    c.in-Ok.is c.run_alone.ensures.alone in
    answered c.in-Ok.steps most_alone c.args.point c.args.world.now.now c.args.client c.in-Ok.reply c.args.found.now.items
    c.push.new.items.items made.answer (few_alone c.in-Ok.steps made.steps) c.in_ok-push-in-Ok.ensures.items

pub returns-in_ok-pass_over-in-Err-clause-found : goal.returns-in_ok-pass_over-in-Err-clause-found
returns-in_ok-pass_over-in-Err-clause-found c =
    let w : State = c.args.world.now.now in
    let made : IsByAlone c.args.client c.args.world.now (Err c.in-Err.refusal) c.run_alone.new.self =
    subst (λ (r : Result (Reply × ℕ) Refusal). IsByAlone c.args.client c.args.world.now r c.run_alone.new.self)
    c.in-Err.is c.run_alone.ensures.alone in
    let waits = not_first made.errors c.in_ok-pass_over-in-Err.ensures.another in
    let is : step_result false w c.args.client ≡ Err c.in-Err.refusal = ap (step_result_with false w) waits in
    passed most_alone c.args.point w c.args.client c.in-Err.refusal c.args.found.now.items is
