use Rattle.std.proofs.Common.{◌++◌, take}
use Rattle.std.specs.List.{flat_map}
use Rattle.sw_graph.specs.Rows.{row}
use Rattle.sw_graph.specs.Searches.{AreAdded}
use Rattle.sw_graph.proofs.search.add_next.Given as goal

abbrev pub invariant-loop-c : goal.invariant-loop-c
invariant-loop-c l = AreAdded (flat_map (row l.rows) (take l.c-index l.from)) l.count l.fn.steps l.steps l.fn.level.items l.level.items

abbrev pub invariant-loop-d : goal.invariant-loop-d
invariant-loop-d l = AreAdded (flat_map (row l.rows) (take l.c-index l.from) ++ take l.d-index l.d-items) l.count l.fn.steps l.steps l.fn.level.items l.level.items
