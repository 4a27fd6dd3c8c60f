use Rattle.std.proofs.Common.{Option, Vec, Global, ap, append-nil, sym, ◌∙◌, ◌++◌}
use Rattle.std.specs.Option.{option_to_list}
use Rattle.sw_circles.specs.declared.of_network.Circling.{Circling}
use Rattle.sw_circles.specs.Circlings.{CirclingView}
use Rattle.sw_circles.proofs.Listed.{one_more}
use Rattle.sw_circles.proofs.of_network.circling_flows.Goals as goal
use Rattle.sw_circles.proofs.of_network.circling_flows.Goals.{in-Some+in_ok-push, in_default}

pub loop-flow-preserved : goal.loop-flow-preserved
loop-flow-preserved c =
    let d = c.args.network.now in
    let flow = c.loop-flow.flow in
    let before = c.loop-flow.invariant in
    elim c.match-branch-2.branch [
      | in-Some+in_ok-push w ↦
          one_more d flow before.0 c.loop-flow.told.items c.match-branch-2.told.items c.in_ok-circling.field-0 before.1 before.2 c.in_ok-circling.ensures
          (ap (λ (v : Vec Circling Global). v.items) w.told-is ∙ w.in_ok-push.ensures.items ∙ ap (λ (o : Option CirclingView). c.loop-flow.told.items ++ option_to_list o) (sym w.in-Some.is))
      | in_default w ↦
          one_more d flow before.0 c.loop-flow.told.items c.match-branch-2.told.items c.in_ok-circling.field-0 before.1 before.2 c.in_ok-circling.ensures
          (ap (λ (v : Vec Circling Global). v.items) w.told-is ∙ sym (append-nil c.loop-flow.told.items) ∙ ap (λ (o : Option CirclingView). c.loop-flow.told.items ++ option_to_list o) (sym w.in_default.is))
    ]
