use Rattle.std.proofs.Common.{◌≡◌, ◌<◌, ℕ, false, [], ◌∷◌, ◌++◌, Ok, length, slice_index, slice_get, sym, ap, subst, ◌∙◌}
use Rattle.std.proofs.lemmas.Result.{on_ok_weaker}
use Rattle.std.specs.Prelude.{List, Result, Err}
use Rattle.words.specs.declared.refusal.Refusal.{Refusal}
use Rattle.words.specs.declared.call.Reply.{Reply}
use Rattle.interleave.specs.Calls.{waiting_result}
use Rattle.interleave.specs.Rules.{IsByAlone}
use Rattle.interleave.specs.State.{is_down, after_alone, step_result, step_result_with}
use Rattle.playing.specs.Steps.{count_after, call_counted}
use Rattle.playing.specs.Play.{Play, most_alone, after_steps}
use Rattle.playing.specs.Transcript.{step_lines}
use Rattle.playing.specs.declared.lines.Line.{Line}
use Rattle.playing.specs.declared.lines.Line.TheVariants.{Return}
use Rattle.playing.proofs.Plays.{always_ok, where_both, not_first}
use Rattle.playing.proofs.GoingAlone.{goes_alone, few_alone, refused_leads, refused_gives}
use Rattle.playing.proofs.player.Player.end.Goals as goal

pub returns-in-Ok-clause-play : goal.returns-in-Ok-clause-play
returns-in-Ok-clause-play c =
    let play : Play = record { world = c.self.inside.world.now; steps = c.self.inside.steps } in
    let made : IsByAlone c.args.client c.self.inside.world (Ok (c.in-Ok.reply, c.in-Ok.alone)) c.run_alone.new.self =
    subst (λ (r : Result (Reply × ℕ) Refusal). IsByAlone c.args.client c.self.inside.world r c.run_alone.new.self)
    c.in-Ok.is c.run_alone.ensures.alone in
    let there : c.args.client.0 < length play.steps.calls = c.go_on-steps.ensures.kept in
    let few = few_alone c.in-Ok.alone made.steps in
    let same = goes_alone c.args.client c.in-Ok.alone most_alone play c.in-Ok.reply few there made.answer in
    let steps : c.go_on-steps.new.self ≡ call_counted c.in-Ok.alone c.args.client play.steps =
    c.go_on-steps.ensures.steps ∙ ap (λ n. call_counted n c.args.client play.steps) c.from.ensures in
    always_ok c.add.result (
    ap (λ w. record { world = w; steps = c.go_on-steps.new.self }) made.world
    ∙ ap (λ s. record { world = after_alone c.in-Ok.alone play.world c.args.client; steps = s }) steps
    ∙ sym same.leads
    ∙ ap (after_steps c.args.client most_alone) c.self.view_is)

pub returns-in-Ok-clause-lines : goal.returns-in-Ok-clause-lines
returns-in-Ok-clause-lines c =
    let play : Play = record { world = c.self.inside.world.now; steps = c.self.inside.steps } in
    let made : IsByAlone c.args.client c.self.inside.world (Ok (c.in-Ok.reply, c.in-Ok.alone)) c.run_alone.new.self =
    subst (λ (r : Result (Reply × ℕ) Refusal). IsByAlone c.args.client c.self.inside.world r c.run_alone.new.self)
    c.in-Ok.is c.run_alone.ensures.alone in
    let before : List Line = c.args.lines.now.items in
    let there : c.args.client.0 < length play.steps.calls = c.go_on-steps.ensures.kept in
    let few = few_alone c.in-Ok.alone made.steps in
    let same = goes_alone c.args.client c.in-Ok.alone most_alone play c.in-Ok.reply few there made.answer in
    let count : c.go_on-steps.result ≡ count_after c.in-Ok.alone (slice_index play.steps.calls c.args.client.0) =
    c.go_on-steps.ensures.count ∙ ap (λ n. count_after n (slice_index play.steps.calls c.args.client.0)) c.from.ensures in
    on_ok_weaker c.add.result (λ told.
    told
    ∙ ap (λ n. before ++ Return c.args.client c.in-Ok.reply n ∷ []) count
    ∙ ap (λ ls. before ++ ls)
    (sym same.gives ∙ ap (step_lines c.args.client most_alone) c.self.view_is)) c.add.ensures.lines

pub returns-in-Err-clause-play : goal.returns-in-Err-clause-play
returns-in-Err-clause-play c =
    let play : Play = record { world = c.self.inside.world.now; steps = c.self.inside.steps } in
    let made : IsByAlone c.args.client c.self.inside.world (Err c.in-Err.refusal) c.run_alone.new.self =
    subst (λ (r : Result (Reply × ℕ) Refusal). IsByAlone c.args.client c.self.inside.world r c.run_alone.new.self)
    c.in-Err.is c.run_alone.ensures.alone in
    on_ok_weaker c.add_refused.result (λ other.
    let call = slice_get play.world.calls c.args.client.0 in
    let waits : waiting_result (is_down play.world) call ≡ Err c.in-Err.refusal =
    not_first made.errors other in
    let refused : step_result false play.world c.args.client ≡ Err c.in-Err.refusal =
    ap (λ (r : Result _ Refusal). step_result_with false play.world r) waits in
    ap (λ w. record { world = w; steps = play.steps }) made.same
    ∙ sym (refused_leads c.args.client play c.in-Err.refusal refused)
    ∙ ap (after_steps c.args.client most_alone) c.self.view_is) c.add_refused.ensures.another

pub returns-in-Err-clause-lines : goal.returns-in-Err-clause-lines
returns-in-Err-clause-lines c =
    let play : Play = record { world = c.self.inside.world.now; steps = c.self.inside.steps } in
    let made : IsByAlone c.args.client c.self.inside.world (Err c.in-Err.refusal) c.run_alone.new.self =
    subst (λ (r : Result (Reply × ℕ) Refusal). IsByAlone c.args.client c.self.inside.world r c.run_alone.new.self)
    c.in-Err.is c.run_alone.ensures.alone in
    let before : List Line = c.args.lines.now.items in
    where_both c.add_refused.result c.add_refused.ensures.another c.add_refused.ensures.lines (λ other lines.
    let call = slice_get play.world.calls c.args.client.0 in
    let waits : waiting_result (is_down play.world) call ≡ Err c.in-Err.refusal =
    not_first made.errors other in
    let refused : step_result false play.world c.args.client ≡ Err c.in-Err.refusal =
    ap (λ (r : Result _ Refusal). step_result_with false play.world r) waits in
    lines
    ∙ ap (λ ls. before ++ ls) (
    sym (refused_gives c.args.client play c.in-Err.refusal refused)
    ∙ ap (step_lines c.args.client most_alone) c.self.view_is))
