use Rattle.sw_cycle.proofs.dependency_rows.routed_dependencies.Goals as goal

pub joined-requires : goal.joined-requires
joined-requires g c = rw c.deref.ensures.value c.in_ok-named_by_chunks.ensures

pub rows_from-requires : goal.rows_from-requires
rows_from-requires g c = rw c.deref-2.ensures.value c.in_ok-named.ensures.named

pub returns-in-Ok-clause-size : goal.returns-in-Ok-clause-size
returns-in-Ok-clause-size g c = c.in-Ok.ensures.size

pub returns-in-Ok-clause-exact : goal.returns-in-Ok-clause-exact
returns-in-Ok-clause-exact g c = c.in-Ok.ensures.exact

pub returns-in-Ok-clause-graph : goal.returns-in-Ok-clause-graph
returns-in-Ok-clause-graph g c = c.in-Ok.ensures.graph

pub returns-in-Ok-clause-once : goal.returns-in-Ok-clause-once
returns-in-Ok-clause-once g c = c.in-Ok.ensures.once

pub returns-in-Ok-clause-routed : goal.returns-in-Ok-clause-routed
returns-in-Ok-clause-routed g c = c.in_ok-named.ensures.routed
