use Rattle.std.proofs.Common.{List, subst, sym}
use Rattle.sw_graph.specs.Components.{AreComponents}
use Rattle.sw_graph.specs.Rows.{Leads}
use Rattle.sw_graph.specs.declared.component.Component.{Component}
use Rattle.sw_circles.proofs.NoComponents.{no_components}
use Rattle.sw_circles.proofs.circling.components_of.Goals as goal

pub returns-then-branch : goal.returns-then-branch
returns-then-branch c =
    let rows = c.args.rows.now in
    subst (λ (l : List Component). AreComponents (Leads rows) l) (sym c.new.ensures.items) (no_components rows (c.in_ok-has_no_cycle_with.ensures.0 c.if-branch.true))
