use Rattle.std.proofs.Common.{◌≡◌, ◌≤◌, ◌-◌, ℕ, List, map, take, length, sym, ap, ◌∙◌, arith}
use Rattle.std.specs.List.{range_with_len}
use Rattle.std.proofs.lemmas.List.{length-replicate}
use Rattle.arena.specs.Layout.{size_of}
use Rattle.protocol.specs.declared.acts.Act.{Act}
use Rattle.interleave.specs.State.{State, after_acts, new_world}
use Rattle.explore.specs.Points.{Found, found_of, found_at, found_stopped}
use Rattle.explore.specs.declared.evictions.Evictions.TheVariants.{None as no_word}
use Rattle.explore.proofs.Crashes.{stops_at}
use Rattle.explore.proofs.Sizes.{after_acts_size}
use Rattle.explore.proofs.Sweeps.{next_found}
use Rattle.explore.proofs.walk.stops_in.Goals as goal

pub loop-point-init : goal.loop-point-init
loop-point-init c =
    let s = c.args.world.now.now.shape in
    let f : ℕ → Found = found_at s c.args.acts.now no_word in
    let none : 0 ≡ c.args.from - c.args.from = omega arith in
    record {
      world = c.in_ok-attempt_all.ensures.world ∙ ap (λ (u : State). after_acts u (take c.args.from c.args.acts.now)) c.requires.world;
      size = c.requires.size;
      made = ap (map found_of) c.new-points.ensures.items ∙ ap (λ n. map f (range_with_len c.args.from n)) none;
    }

pub pass_point-requires-clause-size : goal.pass_point-requires-clause-size
pass_point-requires-clause-size c =
    let s = c.args.world.now.now.shape in
    c.loop-point.invariant.size
    ∙ sym (ap (λ (u : State). length u.words.kept) c.loop-point.invariant.world
    ∙ after_acts_size (new_world s) (take c.loop-point.point c.args.acts.now) ∙ length-replicate (size_of s) 0)

pub loop-point-preserved : goal.loop-point-preserved
loop-point-preserved c =
    let s = c.args.world.now.now.shape in
    let acts : List (Act ℕ) = c.args.acts.now in
    let f : ℕ → Found = found_at s acts no_word in
    let point : ℕ = c.loop-point.point in
    let up : c.args.from ≤ point = omega (arith, c.loop-point.auto.point) in
    let is = stops_at s (take point acts) point c.loop-point.world.now c.loop-point.invariant.world in
    record {
      world = c.in_ok-pass_point.ensures.world (new_world s) c.loop-point.invariant.world;
      size = c.pass_point.ensures.size ∙ c.loop-point.invariant.size;
      made =
          next_found f (map found_of c.loop-point.points.items) (map found_of c.pass_point.new.points.items)
          (found_stopped c.loop-point.world.now) c.args.from point up c.loop-point.invariant.made is c.in_ok-pass_point.ensures.points;
    }

pub returns-clause-points : goal.returns-clause-points
returns-clause-points c =
    let f : ℕ → Found = found_at c.args.world.now.now.shape c.args.acts.now no_word in
    let last : c.loop-point.point ≡ c.args.to = omega (arith, c.loop-point-test.false, c.loop-point.auto.point-end) in
    c.loop-point.invariant.made ∙ ap (λ n. map f (range_with_len c.args.from (n - c.args.from))) last
