use Rattle.std.proofs.Common.{take}
use Rattle.clap.specs.Words.{new_app}
use Rattle.sw_args.specs.CommandLine.{IsMade}
use Rattle.sw_args.specs.Parts.{with_parts}
use Rattle.sw_args.proofs.parts.subcommand_of.Given as goal

abbrev pub invariant-loop-part : goal.invariant-loop-part
invariant-loop-part l = IsMade (with_parts (new_app l.subcommand.name.now) (take l.part-index l.subcommand.parts.now)) l.command
