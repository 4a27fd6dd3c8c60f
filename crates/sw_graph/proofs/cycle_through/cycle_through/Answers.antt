use Rattle.std.proofs.Common.{length, ap, ◌∙◌, arith}
use Rattle.sw_graph.proofs.Listed.{reversed_graph}
use Rattle.sw_graph.proofs.Going.{turned_known}
use Rattle.sw_graph.proofs.RelationSteps.{whole}
use Rattle.sw_graph.proofs.cycle_through.cycle_through.Goals as goal

pub search-requires-clause-graph : goal.search-requires-clause-graph
search-requires-clause-graph c = reversed_graph c.args.successors.now c.args.predecessors.now c.requires.graph c.requires.reversed

pub search-requires-clause-inside : goal.search-requires-clause-inside
search-requires-clause-inside c = let e = c.requires.reversed.size in let lt = c.requires.inside in omega arith

pub search-requires-clause-steps : goal.search-requires-clause-steps
search-requires-clause-steps c = c.deref_mut.ensures.value ∙ c.in_ok-steps.ensures

pub way_round-requires-clause-known : goal.way_round-requires-clause-known
way_round-requires-clause-known c =
    let steps = c.in_ok-steps.steps in
    let e = whole steps.len c.search.new.steps steps.items steps.ok.0 (c.search.auto.steps ∙ ap length c.deref_mut.ensures.value) in
    rw (c.deref.ensures.value, e) (turned_known c.args.successors.now c.args.predecessors.now c.requires.reversed c.args.start c.args.count c.args.count _ _ c.requires.fewest (omega arith) c.in_ok-search.ensures)
