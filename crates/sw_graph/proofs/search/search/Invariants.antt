use Rattle.std.proofs.Common.{◌≡◌, ◌≤◌, ◌-◌, length}
use Rattle.sw_graph.specs.Rows.{Leads}
use Rattle.sw_graph.proofs.Searching.{Searching}
use Rattle.sw_graph.proofs.search.search.Given as goal

abbrev pub invariant-loop-count : goal.invariant-loop-count
invariant-loop-count l = record {
  size : length l.steps ≡ length l.rows;
  few : l.count ≤ l.most;
  searching : Searching (Leads l.rows) l.start l.count l.steps l.level.items;
}

abbrev pub decreases-loop-count : goal.decreases-loop-count
decreases-loop-count l = l.most - l.count
