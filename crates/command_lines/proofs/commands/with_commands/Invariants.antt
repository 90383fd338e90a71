use Rattle.std.proofs.Common.{◌≡◌, drop}
use Rattle.clap.specs.Words.{app_of}
use Rattle.command_lines.specs.Described.{with_apps}
use Rattle.command_lines.proofs.commands.with_commands.Given as goal

-- the commands that are left bring what all of them do
abbrev pub invariant-loop-subcommand : goal.invariant-loop-subcommand
invariant-loop-subcommand l =
    with_apps (app_of l.command) (drop l.subcommand-index l.below) ≡ with_apps (app_of l.fn.command) l.below
