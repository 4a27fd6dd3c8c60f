use Rattle.sw_arb.specs.PortCounts.{ports_below-lt, ports_below-distinct}
use Rattle.sw_arb.proofs.least_recent.LeastRecent.new.Goals as goal

pub invariant_of-result : goal.invariant_of-result
invariant_of-result c =
    let ranks = c.rising_ranks.ensures in
    record {
      below = λ port is_port has. rw (ranks port is_port) (ports_below-lt c.args.ports port has);
      distinct = λ p q is_p is_q has_p has_q e. ports_below-distinct c.args.ports p q has_p has_q (rw (ranks p is_p, ranks q is_q) at e);
    }
