use Rattle.std.proofs.Common.{◌≡◌, take}
use Rattle.sw_config.specs.Entries.{empty}
use Rattle.sw_mend.specs.Changes.{by_number, switch_after_all}
use Rattle.sw_mend.proofs.parts.add_switches.Given as goal

abbrev pub invariant-loop-switch : goal.invariant-loop-switch
invariant-loop-switch l = l.builder ≡ record empty { nodes = l.initial.builder.nodes; switches = by_number (switch_after_all l.changes) 0 (take l.switch l.network.switches) }
