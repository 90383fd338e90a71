-- The commands of `pqx`, and the options that they take, as clap sees them.
use Rattle.std.specs.Prelude.{true, codes}
use Rattle.clap.specs.Words.{App, Rule, Text, new_app, new_rule, with_rule, with_subcommand}
use Rattle.clap.specs.Simple.{on_top}
use Rattle.command_lines.specs.Commands.{flag_rule, option_rule}

-- a command with the options of a part of a report
abbrev pub with_part_rules : App → App
with_part_rules a = with_rule (with_rule a (option_rule (codes "from"))) (option_rule (codes "count"))

abbrev pub points_app : App
points_app = with_rule (with_part_rules (with_rule (with_rule (new_app (codes "points"))
    (option_rule (codes "evict")))
    (option_rule (codes "draw"))))
    (option_rule (codes "page"))

abbrev pub run_app : App
run_app = with_rule (new_app (codes "run")) (option_rule (codes "page"))

abbrev pub check_app : App
check_app = with_rule (with_rule (new_app (codes "check"))
    (flag_rule (codes "order")))
    (option_rule (codes "page"))

-- a word that stands for itself, and has to be there
abbrev pub word_rule : Text → Rule
word_rule name = record (new_rule name) { value_names = 1; required = true }

abbrev pub broker_app : App
broker_app = with_rule (with_rule (with_rule (new_app (codes "broker"))
    (word_rule (codes "task")))
    (option_rule (codes "evict")))
    (option_rule (codes "draw"))

-- `pqx` itself, which wants a command, and tells its version
abbrev pub top_app : App
top_app = on_top (λ s. record s { has_version = true; subcommand_required = true }) (new_app (codes "pqx"))

-- with the commands that follow scripts
abbrev pub scripts_app : App
scripts_app = with_subcommand (with_subcommand (with_subcommand top_app
    run_app.top)
    points_app.top)
    (new_app (codes "alone")).top

abbrev pub pqx_app : App
pqx_app = with_subcommand (with_subcommand scripts_app broker_app.top) check_app.top
