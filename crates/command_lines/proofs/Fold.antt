-- What a list of descriptions brings, one description at a time.
use Rattle.std.proofs.Common.{◌≡◌, ℕ, ◌+◌, ◌<◌, List, length, get_or, drop, add-one, drop-cons, refl}
use Rattle.clap.specs.Words.{App, Rule, with_rule, with_subcommand}
use Rattle.command_lines.specs.Described.{described_app, described_rule, with_apps, with_rules}
use Rattle.command_lines.specs.declared.commands.Described.{Described}
use Rattle.command_lines.specs.declared.commands.DescribedCommand.{DescribedCommand}

-- what a command takes next
pub rules_step : (a b : App) (r : Rule) (taken : List Described) (k : ℕ) (d : Described) → k < length taken → r ≡ described_rule (get_or taken k d)
    → b ≡ with_rule a r → with_rules b (drop (k + 1) taken) ≡ with_rules a (drop k taken)
rules_step a b r taken k d lt e h = rw (h, e, add-one k, drop-cons taken k d lt) refl

-- the next command below a command
pub apps_step : (a b sub : App) (below : List DescribedCommand) (k : ℕ) (d : DescribedCommand) → k < length below → sub ≡ described_app (get_or below k d)
    → b ≡ with_subcommand a sub.top → with_apps b (drop (k + 1) below) ≡ with_apps a (drop k below)
apps_step a b sub below k d lt e h = rw (h, e, add-one k, drop-cons below k d lt) refl
