use Rattle.std.proofs.Common.{◌≡◌, drop}
use Rattle.clap.specs.Words.{app_of}
use Rattle.command_lines.specs.Commands.{HasNoGlobals}
use Rattle.command_lines.specs.Described.{with_rules}
use Rattle.command_lines.proofs.commands.with_taken.Given as goal

-- what is left brings what all of it does
abbrev pub invariant-loop-described : goal.invariant-loop-described
invariant-loop-described l =
    record {
      app : with_rules (app_of l.command) (drop l.described-index l.taken) ≡ with_rules (app_of l.fn.command) l.taken;
      local : HasNoGlobals l.fn.command → HasNoGlobals l.command;
    }
