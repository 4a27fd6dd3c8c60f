use Rattle.sw_graph.proofs.Listed.{row_within}
use Rattle.sw_graph.proofs.rows.reached_over.Goals as goal

pub reached-requires-clause-inside : goal.reached-requires-clause-inside
reached-requires-clause-inside c = λ n below. row_within c.args.rows.now n c.requires.graph below

pub returns-clause-listing : goal.returns-clause-listing
returns-clause-listing c = rw c.from.ensures at c.reached.ensures.listing
