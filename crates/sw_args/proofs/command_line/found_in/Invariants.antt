use Rattle.std.proofs.Common.{◌-◌, take}
use Rattle.sw_args.specs.CommandLine.{IsOf, top_app}
use Rattle.sw_args.specs.Parts.{subcommand_apps, with_subcommands}
use Rattle.sw_args.proofs.command_line.found_in.Given as goal

abbrev pub decreases-loop-row : goal.decreases-loop-row
decreases-loop-row l = 15 - l.place

abbrev pub invariant-loop-row : goal.invariant-loop-row
invariant-loop-row l = IsOf (with_subcommands top_app (take l.place subcommand_apps)) l.command
