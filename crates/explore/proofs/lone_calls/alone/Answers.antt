use Rattle.std.proofs.Common.{◌≡◌, ◌≤◌, ◌+◌, length, sym, subst}
use Rattle.std.proofs.lemmas.Result.{IfOk-weaker}
use Rattle.std.specs.Prelude.{All}
use Rattle.std.specs.List.{flat_map, range_with_len}
use Rattle.words.specs.declared.limits.TheConstants.{MAX_STEPS_ALONE}
use Rattle.explore.specs.Stopped.{alone_at}
use Rattle.explore.specs.declared.answers.Alone.{Alone}
use Rattle.explore.proofs.StoppedCalls.{few_at}
use Rattle.explore.proofs.lone_calls.alone.Goals as goal

pub returns-clause-few : goal.returns-clause-few
returns-clause-few c =
    let s = c.in_ok-layout.layout in
    let acts = c.deref.result.now in
    IfOk-weaker c.alone_on.result
    (λ found. found.items ≡ flat_map (alone_at s acts) (range_with_len 0 (length acts + 1)))
    (λ found. All (λ (alone : Alone). alone.steps ≤ MAX_STEPS_ALONE) found.items) (λ found is.
    subst (All (λ (alone : Alone). alone.steps ≤ MAX_STEPS_ALONE)) (sym is) (few_at s acts (range_with_len 0 (length acts + 1))))
    c.alone_on.ensures.found
