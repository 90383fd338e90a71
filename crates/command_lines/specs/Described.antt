-- What a command takes, and commands below a command, as clap sees them.
use Rattle.std.specs.Prelude.{List, fold, true}
use Rattle.clap.specs.Words.{App, Rule, Text, new_app, with_rule, with_subcommand}
use Rattle.clap.specs.Simple.{on_top}
use Rattle.command_lines.specs.Commands.{flag_rule, option_rule}
use Rattle.command_lines.specs.PqxCommands.{word_rule}
use Rattle.command_lines.specs.declared.commands.Described.{Described}
use Rattle.command_lines.specs.declared.commands.Form.{Form}
use Rattle.command_lines.specs.declared.commands.Form.TheVariants.{Option, Flag, Word}
use Rattle.command_lines.specs.declared.commands.DescribedCommand.{DescribedCommand}

-- what a command takes as clap has it
abbrev pub rule_by : Text → Form → Rule
rule_by name (Option value) = option_rule name
rule_by name Flag = flag_rule name
rule_by name (Word value) = word_rule name

abbrev pub described_rule : Described → Rule
described_rule d = rule_by d.name.now d.form

-- a program of this name that wants a command, and tells its version
abbrev pub program_app : Text → App
program_app name = on_top (λ s. record s { has_version = true; subcommand_required = true }) (new_app name)

-- a command that takes these more
abbrev pub with_rules : App → List Described → App
with_rules a taken = fold (λ all d. with_rule all (described_rule d)) a taken

-- a command as clap has it
abbrev pub described_app : DescribedCommand → App
described_app s = with_rules (new_app s.name.now) s.takes.now

-- a command with these below it more
abbrev pub with_apps : App → List DescribedCommand → App
with_apps a below = fold (λ all s. with_subcommand all (described_app s).top) a below
