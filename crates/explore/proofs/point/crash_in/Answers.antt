use Rattle.std.proofs.Common.{◌≡◌, ℕ, List, length, false, ap, ◌∙◌}
use Rattle.std.proofs.lemmas.Result.{IfOk-weaker}
use Rattle.std.specs.Prelude.{Bool, Result}
use Rattle.words.specs.declared.refusal.Refusal.{Refusal}
use Rattle.protocol.specs.declared.acts.Act.{Act}
use Rattle.interleave.specs.Calls.{is_no_memory}
use Rattle.interleave.specs.State.{after_crash, most_to_ready}
use Rattle.arena.specs.Shape.{Shape}
use Rattle.explore.specs.Points.{found_of, found_in, found_after}
use Rattle.explore.proofs.Crashes.{comes_to}
use Rattle.explore.proofs.point.crash_in.Goals as goal

pub returns-clause-found : goal.returns-clause-found
returns-clause-found c =
    let memory : is_no_memory c.crash.result ≡ false =
    ap (λ (r : Result (Unit {0}) Refusal). is_no_memory r) c.in_ok-crash.was in
    let crashed = c.crash.ensures.by_rule.leaves ∙ ap (λ (full : Bool). after_crash full c.evict_words.new.world.now) memory in
    let many = c.most_to_ready-most.ensures ∙ ap most_to_ready c.layout.ensures in
    let s : Shape = c.args.world.now.now.shape in
    let acts : List (Act ℕ) = c.args.acts.now in
    let comes : found_in c.repeat.new.world.now c.in_ok-steps.steps ≡ found_after s acts c.args.evictions (length acts) =
    comes_to s acts c.args.evictions (length acts) c.args.world.now.now
    c.attempt_all.new.world.now c.evict_words.new.world.now c.crash.new.self.now c.repeat.new.world.now
    c.most_to_ready-most.result c.in_ok-steps.steps c.requires c.in_ok-attempt_all.ensures.world
    c.evict_words.ensures crashed many c.in_ok-steps.ensures.world c.in_ok-steps.ensures.accepted in
    IfOk-weaker c.found.result (λ point. found_of point ≡ found_in c.repeat.new.world.now c.in_ok-steps.steps)
    (λ point. found_of point ≡ found_after s acts c.args.evictions (length acts)) (λ point is. is ∙ comes)
    c.found.ensures.found
