use Rattle.std.proofs.Common.{ℕ, ◌<◌, List, length, subst, sym, ap, ◌∙◌}
use Rattle.journal.specs.Reading.{Replay, values_set}
use Rattle.journal.proofs.Frames.{behind_shorter}
use Rattle.journal.proofs.Replays.{replay_ends, replay_stepped}
use Rattle.journal.proofs.replay.replay_frames.Goals as goal

pub loop-frame-smaller : goal.loop-frame-smaller
loop-frame-smaller c =
    subst (λ (xs : List ℕ). length xs < length c.loop-frame.rest.now) (sym c.in-Some.ensures.rest)
    (behind_shorter c.args.key.now c.loop-frame.before (length c.loop-frame.words) c.loop-frame.rest.now (sym c.in-Some.ensures.goes_on))

pub loop-frame-preserved : goal.loop-frame-preserved
loop-frame-preserved c =
    replay_stepped c.args.key.now c.loop-frame.before c.loop-frame.words c.loop-frame.rest.now c.in-Some.frame.sum.now c.set_values.new.words c.in-Some.frame.rest.now
    (sym c.in-Some.ensures.goes_on) (c.set_values.ensures ∙ ap (values_set c.loop-frame.words) c.in-Some.ensures.changes) c.in-Some.ensures.sum c.in-Some.ensures.rest
    ∙ c.loop-frame.invariant

pub returns-clause-words : goal.returns-clause-words
returns-clause-words c =
    ap (λ (r : Replay). r.words)
    (sym (replay_ends c.args.key.now c.loop-frame.before c.loop-frame.words c.loop-frame.rest.now (sym c.in_default.ensures.goes_on)) ∙ c.loop-frame.invariant)

pub returns-clause-cut : goal.returns-clause-cut
returns-clause-cut c =
    ap (λ (r : Replay). length r.tail)
    (sym (replay_ends c.args.key.now c.loop-frame.before c.loop-frame.words c.loop-frame.rest.now (sym c.in_default.ensures.goes_on)) ∙ c.loop-frame.invariant)
