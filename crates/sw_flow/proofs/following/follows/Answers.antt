use Rattle.std.proofs.Common.{◌≡◌, ◌+◌, Bool, cond, ap, sym, ◌∙◌}
use Rattle.std.specs.Prelude.{◌↔◌}
use Rattle.std.proofs.lemmas.Bool.{eqb-true}
use Rattle.sw_config.specs.Looks.{NamesOutput}
use Rattle.sw_flow.specs.Places.{deleted_behind, Follows}
use Rattle.sw_flow.proofs.Walked.{steps_to}
use Rattle.sw_flow.proofs.following.follows.Goals as goal
use Rattle.sw_flow.proofs.following.follows.Goals.{then-look, else-look}

pub returns-then-to-behind : goal.returns-then-to-behind
returns-then-to-behind c =
    let k = c.args.from.deleted in
    let counted : c.if-look.behind ≡ deleted_behind c.look-look.result k = elim c.if-look.branch [
      | then-look w ↦ w.behind-is ∙ sym (ap (λ (b : Bool). cond b (k + 1) k) w.if-look.true)
      | else-look w ↦ w.behind-is ∙ sym (ap (λ (b : Bool). cond b (k + 1) k) w.if-look.false)
    ] in
    let steps : Follows c.args.network.now c.args.flow.now c.args.from.channel k c.args.to.channel c.args.to.deleted ↔ ((c.args.to.deleted ≡ c.if-look.behind) × NamesOutput c.topology-topology.result.now.ends c.in-Switch.switch c.look-look.result c.args.to.channel) =
    steps_to c.args.network.now c.args.flow.now c.topology-topology.result.now c.args.from.channel k c.in-Switch.switch c.in-Switch.field-1 c.in-Some.byte.now c.address.result.now c.look-look.result c.topology-topology.ensures.wiring c.in-Switch.ensures.place c.address.ensures
    c.in-Some.ensures.lookup.3.0 c.in-Some.ensures.lookup.1 c.look-look.ensures c.args.to.channel c.args.to.deleted c.if-look.behind counted in
    (λ yes. steps.1 (c.if-to-behind.true, c.names_output.ensures.0 yes), λ h. c.names_output.ensures.1 (steps.0 h).1)

pub returns-else-to-behind : goal.returns-else-to-behind
returns-else-to-behind c =
    let k = c.args.from.deleted in
    let counted : c.if-look.behind ≡ deleted_behind c.look-look.result k = elim c.if-look.branch [
      | then-look w ↦ w.behind-is ∙ sym (ap (λ (b : Bool). cond b (k + 1) k) w.if-look.true)
      | else-look w ↦ w.behind-is ∙ sym (ap (λ (b : Bool). cond b (k + 1) k) w.if-look.false)
    ] in
    let steps : Follows c.args.network.now c.args.flow.now c.args.from.channel k c.args.to.channel c.args.to.deleted ↔ ((c.args.to.deleted ≡ c.if-look.behind) × NamesOutput c.topology-topology.result.now.ends c.in-Switch.switch c.look-look.result c.args.to.channel) =
    steps_to c.args.network.now c.args.flow.now c.topology-topology.result.now c.args.from.channel k c.in-Switch.switch c.in-Switch.field-1 c.in-Some.byte.now c.address.result.now c.look-look.result c.topology-topology.ensures.wiring c.in-Switch.ensures.place c.address.ensures
    c.in-Some.ensures.lookup.3.0 c.in-Some.ensures.lookup.1 c.look-look.ensures c.args.to.channel c.args.to.deleted c.if-look.behind counted in
    (λ yes. absurd (c.if-to-behind.false (eqb-true c.args.to.deleted c.if-look.behind yes)), λ h. absurd (c.if-to-behind.false (steps.0 h).0))
