use Rattle.std.proofs.Common.{◌≡◌, ◌∙◌, ◌+◌, None, Some, arith, eq-eqb, subst, sym}
use Rattle.std.specs.Prelude.{slice_get}
use Rattle.std.proofs.lemmas.Bool.{ne_eqb}
use Rattle.sw_config.specs.Entries.{reply_flows}
use Rattle.sw_topo.proofs.Lists.{in_front}
use Rattle.sw_linter.specs.Lints.{address_to}
use Rattle.sw_linter.proofs.Strangers.{IsSeen, all_flows_seen, found_flow, next_flow, other_flow}
use Rattle.sw_linter.proofs.addresses.is_stranger.Goals.{in-Some-address_to+else-own-address, in_default-address_to}
use Rattle.sw_linter.proofs.addresses.is_stranger.Goals as goal

pub returns-then-own-address : goal.returns-then-own-address
returns-then-own-address c =
    let d = c.args.network.now in
    let i = c.loop-number.number in
    let f = c.flow.result.now in
    let here : slice_get d.flows i ≡ Some f = in_front d.flows (reply_flows d.flows) i f (omega (arith, c.loop-number-test.true, c.declared_flows-number-end.ensures.count)) c.flow.ensures.flow in
    let is : address_to c.args.node f ≡ Some c.in-Some-address_to.own = sym c.address_to.ensures ∙ c.in-Some-address_to.is in
    found_flow d c.args.node c.args.address i f c.in-Some-address_to.own here is (eq-eqb c.in-Some-address_to.own c.args.address c.if-own-address.true)

pub loop-number-preserved : goal.loop-number-preserved
loop-number-preserved c =
    let d = c.args.network.now in
    let i = c.loop-number.number in
    let f = c.flow.result.now in
    let here : slice_get d.flows i ≡ Some f = in_front d.flows (reply_flows d.flows) i f (omega (arith, c.loop-number-test.true, c.declared_flows-number-end.ensures.count)) c.flow.ensures.flow in
    elim c.match-address_to.branch [
      | in-Some-address_to+else-own-address w ↦
          let is : address_to c.args.node f ≡ Some w.in-Some-address_to.own = sym c.address_to.ensures ∙ w.in-Some-address_to.is in
          subst (IsSeen d c.args.node c.args.address (i + 1)) (sym w.is_known-is)
          (next_flow d c.args.node c.args.address i f w.in-Some-address_to.own c.loop-number.is_known here is (ne_eqb w.in-Some-address_to.own c.args.address w.if-own-address.false) c.loop-number.invariant)
      | in_default-address_to w ↦
          let is : address_to c.args.node f ≡ None = sym c.address_to.ensures ∙ w.in_default-address_to.is in
          subst (IsSeen d c.args.node c.args.address (i + 1)) (sym w.is_known-is)
          (other_flow d c.args.node c.args.address i f c.loop-number.is_known here is c.loop-number.invariant)
    ]

pub returns : goal.returns
returns c =
    all_flows_seen c.args.network.now c.args.node c.args.address c.loop-number.number c.loop-number.is_known (omega (arith, c.loop-number-test.false, c.declared_flows-number-end.ensures.count)) c.loop-number.invariant
