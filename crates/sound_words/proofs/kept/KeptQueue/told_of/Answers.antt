use Rattle.std.proofs.Common.{sym, ◌∙◌}
use Rattle.sound_words.specs.Kept.{kept_of}
use Rattle.sound_words.proofs.Tellings.{told_verdict_of, told_row_of}
use Rattle.sound_words.proofs.kept.KeptQueue.told_of.Goals as goal

pub returns-in-Log-default : goal.returns-in-Log-default
returns-in-Log-default g c =
    told_verdict_of c.args.self.now.shape (kept_of c.args.self.now) _ _ _ _
    c.requires.client c.kept_at-announced.ensures.value c.in-Log-default.is-1.1 (sym c.kind.ensures ∙ c.in-Log-default.is-0) c.kept_at.ensures.value c.outcome.ensures

pub returns-in-Durable-default : goal.returns-in-Durable-default
returns-in-Durable-default g c =
    told_row_of c.args.self.now.shape (kept_of c.args.self.now) _ _ _
    c.requires.client c.kept_at-announced.ensures.value c.in-Durable-default.is-1.1 (sym c.kind.ensures ∙ c.in-Durable-default.is-0) c.row.ensures
