use Rattle.std.proofs.Common.{length, ap, ◌∙◌}
use Rattle.sw_config.specs.Entries.{Declaration}
use Rattle.sw_mend.proofs.Fresh.{as_many}
use Rattle.sw_mend.proofs.rebuilt.add_parts.Goals as goal

pub add_links-requires-clause-switches : goal.add_links-requires-clause-switches
add_links-requires-clause-switches c =
    ap (λ (d : Declaration). length d.switches) c.in_ok-add_switches.ensures ∙ as_many c.args.changes.now 0 c.args.network.now.switches
