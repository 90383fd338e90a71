use Rattle.std.proofs.Common.{◌<◌, List, Option, Some, slice_index_or, slice_set, length, [], subst, arith}
use Rattle.words.specs.declared.told.Verdict.{Verdict}
use Rattle.session.specs.Keeping.{IsKeptNow}
use Rattle.session.proofs.answers.Places.{kept_now}
use Rattle.session.proofs.kept.Kept.keep.Goals as goal

pub returns : goal.returns
returns c =
    let rows : List (List (Option Verdict)) = c.self.inside.rows in
    let few : c.args.client.0 < length (slice_index_or rows c.args.slot.0 []) =
    omega (arith, c.requires.client, c.self.invariant c.args.slot.0 c.requires.slot) in
    subst (λ (was : List (List (Option Verdict))). IsKeptNow was
    (slice_set rows c.args.slot.0 (slice_set (slice_index_or rows c.args.slot.0 []) c.args.client.0 (Some c.args.verdict)))
    c.args.slot.0 c.args.client.0 (Some c.args.verdict)) c.self.view_is
    (kept_now rows c.args.slot.0 c.args.client.0 (Some c.args.verdict) (omega (arith, c.requires.slot)) few)
