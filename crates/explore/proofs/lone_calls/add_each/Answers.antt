use Rattle.std.proofs.Common.{◌≡◌, ◌++◌, ℕ, length, ap, ◌∙◌, arith}
use Rattle.interleave.specs.State.{State, after_acts, new_world}
use Rattle.explore.specs.Stopped.{lone_answer}
use Rattle.explore.specs.declared.answers.Alone.{Alone}
use Rattle.std.specs.Prelude.{List}
use Rattle.explore.proofs.StoppedCalls.{next_found, all_found}
use Rattle.explore.proofs.lone_calls.add_each.Goals as goal

pub loop-number-preserved : goal.loop-number-preserved
loop-number-preserved c =
    let many = length c.args.acts.now in
    let w : State = after_acts (new_world c.args.layout) c.args.acts.now in
    let f : ℕ → List Alone = λ number. lone_answer many w (record { 0 = number }) in
    let old = c.loop-number.found.items in
    let number : ℕ = c.loop-number.number in
    let grown : c.add_client.new.found.items ≡ old ++ f number =
    c.in_ok-add_client.ensures.found ∙ ap (λ v. old ++ lone_answer many v (record { 0 = number })) c.loop-number.invariant.world in
    record {
      world = c.in_ok-add_client.ensures.world ∙ c.loop-number.invariant.world;
      found = next_found f old c.add_client.new.found.items number _ c.loop-number-test.true grown ∙ c.loop-number.invariant.found;
    }

pub returns-clause-found : goal.returns-clause-found
returns-clause-found c =
    let w : State = after_acts (new_world c.args.layout) c.args.acts.now in
    let f : ℕ → List Alone = λ number. lone_answer (length c.args.acts.now) w (record { 0 = number }) in
    all_found f c.loop-number.found.items c.loop-number.number c.clients-number-end.result (omega (arith, c.loop-number-test.false))
    ∙ c.loop-number.invariant.found
