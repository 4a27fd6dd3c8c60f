use Rattle.std.proofs.Common.{◌≡◌, ◌+◌, Bool, cond, ap, sym, ◌∙◌}
use Rattle.sw_flow.specs.Places.{deleted_behind}
use Rattle.sw_flow.proofs.Walked.{walked_at_switch}
use Rattle.sw_flow.proofs.walk.followers_in.Goals as goal
use Rattle.sw_flow.proofs.walk.followers_in.Goals.{then-look, else-look}

pub returns : goal.returns
returns c =
    let k = c.args.place.deleted in
    let counted : c.if-look.result ≡ deleted_behind c.look-look.result k = elim c.if-look.branch [
      | then-look w ↦ w.result-is ∙ sym (ap (λ (b : Bool). cond b (k + 1) k) w.if-look.true)
      | else-look w ↦ w.result-is ∙ sym (ap (λ (b : Bool). cond b (k + 1) k) w.if-look.false)
    ] in
    walked_at_switch c.args.network.now c.args.flow.now c.topology-topology.result.now c.args.place.channel k c.in-Switch.switch c.in-Switch.field-1 c.in-Some.byte.now c.address.result.now c.look-look.result c.topology-topology.ensures.wiring c.in-Switch.ensures.place c.address.ensures
    c.in-Some.ensures.lookup.3.0 c.in-Some.ensures.lookup.1 c.look-look.ensures c.ports.result c.if-look.result c.ports.ensures.all counted
