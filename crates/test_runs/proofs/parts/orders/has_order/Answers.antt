use Rattle.std.proofs.Common.{List, subst, sym, ℕ}
use Rattle.std.specs.Prelude.{Vec}
use Rattle.std.specs.declared.alloc.Global.{Global}
use Rattle.sw_graph.specs.Rows.{IsGraph}
use Rattle.test_runs.proofs.Rows.{empty_graph}
use Rattle.test_runs.proofs.parts.orders.has_order.Goals as goal

pub add_steps-requires : goal.add_steps-requires
add_steps-requires c s = subst (λ (rows : List (Vec ℕ Global)). IsGraph rows) (sym s.deref_mut.ensures.value) (empty_graph s.in-Ok.rows.items s.in-Ok.ensures.empty)
