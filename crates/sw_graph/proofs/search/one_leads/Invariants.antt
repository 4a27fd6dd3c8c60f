use Rattle.std.proofs.Common.{◌≡◌, false, take}
use Rattle.std.specs.List.{list_any}
use Rattle.sw_graph.specs.Rows.{row}
use Rattle.sw_graph.specs.Walks.{holds}
use Rattle.sw_graph.proofs.search.one_leads.Given as goal

abbrev pub invariant-loop-c : goal.invariant-loop-c
invariant-loop-c l = list_any (λ c. holds (row l.rows c) l.d) (take l.c-index l.from) ≡ false
