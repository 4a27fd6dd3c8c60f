use Rattle.sw_graph.specs.Rows.{Leads}
use Rattle.sw_graph.proofs.Carried.{components_carry_over}
use Rattle.sw_search.specs.Verdicts.{depends}
use Rattle.sw_search.proofs.tangling.tangles.Goals as goal

pub tangles_of-requires-clause-components : goal.tangles_of-requires-clause-components
tangles_of-requires-clause-components g c =
    rw c.deref-2.ensures.value (components_carry_over (Leads c.in_ok-rows.rows.items) (depends c.args.network.now) c.in_ok-rows.ensures.exact c.in_ok-found.found.items (rw c.deref.ensures.value at c.in_ok-found.ensures))
