use Rattle.std.proofs.Common.{length}
use Rattle.sw_graph.specs.Answers.{Answers}
use Rattle.sw_graph.specs.Rows.{Leads, Precedes}
use Rattle.sw_graph.proofs.Cycles.{on_ok_of}
use Rattle.sw_graph.proofs.Listed.{reversed_graph}
use Rattle.sw_graph.proofs.Transfers.{reversed_answers}
use Rattle.sw_graph.proofs.ordering.order.Goals as goal

pub answer-requires-clause-graph : goal.answer-requires-clause-graph
answer-requires-clause-graph g c κs within = rw c.deref.ensures.value (reversed_graph c.args.successors.now c.in_ok-predecessors.predecessors.items c.requires.graph c.in_ok-predecessors.ensures)

pub returns : goal.returns
returns g c =
    let rows = c.in_ok-predecessors.predecessors.items in
    let e = rw c.deref.ensures.value at c.answer.ensures in
    on_ok_of (Answers (Precedes rows) (length rows)) (Answers (Leads c.args.successors.now) (length c.args.successors.now)) c.answer.result (reversed_answers c.args.successors.now rows c.in_ok-predecessors.ensures) e
