use Rattle.std.proofs.Common.{◌≡◌, ◌<◌, ℕ, List, Option, length, take, get_or, sym, ap, ◌∙◌}
use Rattle.std.proofs.lemmas.List.Sums.{fold_more}
use Rattle.etcd_log.specs.declared.plain.Change.{Change}
use Rattle.etcd_log.specs.Plain.{changed, no_piece, pieces_of}
use Rattle.etcd_log.proofs.plain.found_in.Goals as goal

pub loop-change-preserved : goal.loop-change-preserved
loop-change-preserved c =
    let less : c.loop-change.change-index < length c.args.changes.now = c.loop-change-test.true in
    let item : Change = c.change-item.result in
    c.found_after-found.ensures (pieces_of (take c.loop-change.change-index c.args.changes.now)) c.loop-change.invariant
    ∙ ap (λ (x : Change). changed (pieces_of (take c.loop-change.change-index c.args.changes.now)) x c.args.generation c.args.number) c.change-item.is
    ∙ ap (λ (f : ℕ → ℕ → Option (List ℕ)). f c.args.generation c.args.number) (sym (fold_more changed no_piece c.args.changes.now c.loop-change.change-index item less))
