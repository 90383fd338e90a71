-- The commands of `pqd`, and the options that each takes, as clap sees them.
use Rattle.std.specs.Prelude.{◌≡◌, Some, false, true, codes}
use Rattle.clap.specs.Words.{App, Rule, Text, new_app, new_rule, with_rule, with_subcommand}
use Rattle.clap.specs.Simple.{on_top}
use Rattle.clap.specs.declared.builder.action.ArgAction.TheVariants.{Set, SetTrue}
use Rattle.clap.specs.declared.builder.command.Command.{Command}
use Rattle.clap.specs.declared.builder.command.Command.TheViews.{out-Command}

-- `--name VALUE`
abbrev pub option_rule : Text → Rule
option_rule name = record (new_rule name) { long = Some name; action = Some Set; value_names = 1 }

-- `--name`, which takes no value
abbrev pub flag_rule : Text → Rule
flag_rule name = record (new_rule name) { long = Some name; action = Some SetTrue }

-- neither a command nor a subcommand of it has an argument that holds for the commands below, too
abbrev pub HasNoGlobals : Command → Type 0
HasNoGlobals command = (out-Command command).has_globals ≡ false

-- a command with the options of a broker and its queues
abbrev pub with_queue_rules : App → App
with_queue_rules a = with_rule (with_rule (with_rule (with_rule a
    (option_rule (codes "clients")))
    (option_rule (codes "records")))
    (option_rule (codes "image")))
    (flag_rule (codes "renew"))

-- a command with the options of a journal
abbrev pub with_journal_rules : App → App
with_journal_rules a = with_rule (with_rule (with_rule (with_rule (with_rule a
    (option_rule (codes "journal")))
    (option_rule (codes "sync")))
    (flag_rule (codes "standby")))
    (flag_rule (codes "take-over")))
    (option_rule (codes "patience"))

abbrev pub pipe_app : App
pipe_app = with_journal_rules (with_queue_rules (new_app (codes "pipe")))

-- a command with the options of a server
abbrev pub with_listening_rules : App → App
with_listening_rules a = with_rule (with_rule (with_rule (with_rule (with_rule (with_rule (with_rule (with_rule a
    (option_rule (codes "announce")))
    (option_rule (codes "listen")))
    (option_rule (codes "port")))
    (option_rule (codes "metrics")))
    (option_rule (codes "workers")))
    (option_rule (codes "connections")))
    (option_rule (codes "idle")))
    (option_rule (codes "secret"))

abbrev pub serve_app : App
serve_app = with_listening_rules (with_journal_rules (with_queue_rules (new_app (codes "serve"))))

abbrev pub stats_app : App
stats_app = with_rule (with_rule (new_app (codes "stats"))
    (option_rule (codes "port")))
    (flag_rule (codes "watch"))

-- `pqd` itself, which wants a command, tells its version, and has no command that is called help
abbrev pub top_app : App
top_app = on_top
    (λ s. record s { has_version = true; subcommand_required = true; disable_help_subcommand = true })
    (new_app (codes "pqd"))

abbrev pub pqd_app : App
pqd_app = with_subcommand (with_subcommand (with_subcommand top_app pipe_app.top) serve_app.top) stats_app.top
