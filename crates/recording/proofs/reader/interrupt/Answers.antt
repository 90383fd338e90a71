use Rattle.std.proofs.Common.{◌≡◌, ◌<◌, sym, ◌∙◌, ap, arith, length, get_or, set}
use Rattle.std.proofs.lemmas.List.Edits.{map_over_more}
use Rattle.std.proofs.lemmas.Option.{get_or_from_slice_get, slice_get-get_or}
use Rattle.recording.specs.declared.state.State.TheVariants.{Idle}
use Rattle.recording.specs.Reading.{crashed}
use Rattle.recording.proofs.reader.interrupt.Goals as goal

pub loop-state-preserved : goal.loop-state-preserved
loop-state-preserved c =
    let xs = c.args.states.now in
    let ys = c.loop-state.states in
    let i = c.loop-state.state-index in
    let x = get_or ys i Idle in
    let lt : i < length xs = c.loop-state-test.true in
    let inside : i < length ys = omega (arith, lt, c.loop-state.auto.states) in
    let read : x ≡ get_or ys i x = sym (get_or_from_slice_get ys i x x (slice_get-get_or ys i Idle inside)) in
    ap (set ys i) c.crashed.ensures ∙ map_over_more crashed xs ys i x lt c.loop-state.invariant read
