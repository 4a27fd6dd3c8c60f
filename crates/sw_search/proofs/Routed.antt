-- Each flow is well routed, where that is known of the flows of all numbers.
use Rattle.std.proofs.Common.{get_or, length, arith}
use Rattle.std.proofs.lemmas.Option.{slice_get-get_or}
use Rattle.sw_config.specs.Entries.{Declaration, all_flows}
use Rattle.sw_cycle.specs.Named.{AreRouted}
use Rattle.sw_search.specs.Verdicts.{AllWellRouted}

pub all_routed : (d : Declaration) → AreRouted d 0 (length (all_flows d)) → AllWellRouted d
all_routed d routed i other lt = routed i (get_or (all_flows d) i other) (omega arith) lt (slice_get-get_or (all_flows d) i other lt)
