use Rattle.std.proofs.Common.{◌≡◌, ℕ, Some, IsBitSet, sym, ap, ◌∙◌, subst}
use Rattle.std.proofs.lemmas.Bool.{eqb-true}
use Rattle.sw_config.specs.PlaceEnd.TheVariants.{Node, Switch}
use Rattle.sw_flow.proofs.Walked.{no_port, same_port, same_switch, untrue}
use Rattle.sw_flow.proofs.following.names_output.Goals as goal

pub returns-in-Node : goal.returns-in-Node
returns-in-Node c = (
  λ bad. absurd (untrue bad),
  λ named.
      let at = (c.outputs_are_the_named_channels.ensures c.args.topology.now c.requires c.args.switch c.args.look.now c.args.channel).0 named in
      let two : Some (Node c.in-Node.field-0) ≡ Some (Switch c.args.switch at.0) = sym c.in-Node.ensures.place ∙ at.3 in
      absurd (no_port c.in-Node.field-0 c.args.switch at.0 two),
)

pub returns-then-at-switch : goal.returns-then-at-switch
returns-then-at-switch c = (
  λ yes.
      let here : Some (Switch c.in-Switch.at c.in-Switch.port) ≡ Some (Switch c.args.switch c.in-Switch.port) = ap (λ (s : ℕ). Some (Switch s c.in-Switch.port)) c.if-at-switch.true in
      (c.outputs_are_the_named_channels.ensures c.args.topology.now c.requires c.args.switch c.args.look.now c.args.channel).1 (c.in-Switch.port, c.in-Switch.ensures.inside.1, c.contains.ensures.0 yes, c.in-Switch.ensures.place ∙ here),
  λ named.
      let at = (c.outputs_are_the_named_channels.ensures c.args.topology.now c.requires c.args.switch c.args.look.now c.args.channel).0 named in
      let two : Some (Switch c.in-Switch.at c.in-Switch.port) ≡ Some (Switch c.args.switch at.0) = sym c.in-Switch.ensures.place ∙ at.3 in
      let same : at.0 ≡ c.in-Switch.port = sym (same_port c.in-Switch.at c.in-Switch.port c.args.switch at.0 two) in
      c.contains.ensures.1 (subst (λ (p : ℕ). IsBitSet c.args.look.now.ports p) same at.2),
)

pub returns-else-at-switch : goal.returns-else-at-switch
returns-else-at-switch c = (
  λ yes. absurd (c.if-at-switch.false (eqb-true c.in-Switch.at c.args.switch yes)),
  λ named.
      let at = (c.outputs_are_the_named_channels.ensures c.args.topology.now c.requires c.args.switch c.args.look.now c.args.channel).0 named in
      let two : Some (Switch c.in-Switch.at c.in-Switch.port) ≡ Some (Switch c.args.switch at.0) = sym c.in-Switch.ensures.place ∙ at.3 in
      let same : c.in-Switch.at ≡ c.args.switch = same_switch c.in-Switch.at c.in-Switch.port c.args.switch at.0 two in
      absurd (c.if-at-switch.false same),
)
