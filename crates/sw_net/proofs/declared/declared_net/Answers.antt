use Rattle.std.proofs.Common.{IsBitSet, IsSome, Some, [], arith, length, rules, subst, sym, take, ℕ, ◌++◌, ◌<◌, ◌^◌, ◌↔◌, ◌∙◌, ◌∷◌, ◌≡◌}
use Rattle.std.specs.Prelude.{Ok, slice_get}
use Rattle.sw_config.specs.Entries.{look_at}
use Rattle.sw_flow.specs.Places.{ends_of}
use Rattle.sw_net.proofs.New.{if_ok, made_too}
use Rattle.sw_net.proofs.Outputs.{all_taken, node_next, switch_next}
use Rattle.sw_net.proofs.Policies.{are_arbiters, declared_policies}
use Rattle.sw_net.specs.Net.{arbiters_of}
use Rattle.sw_net.specs.New.{IsLinkedSet}
use Rattle.sw_net.specs.Outputs.{AreByOutput}
use Rattle.sw_net.specs.Policies.{IsNewFor}
use Rattle.sw_net.specs.Switches.{switch_look}
use Rattle.sw_net.specs.declared.declared.SwitchRoutes.{SwitchRoutes}
use Rattle.sw_topo.specs.Wiring.{Wiring, out_of}
use Rattle.sw_topo.specs.declared.place.PlaceEnd.TheVariants.{Node, Switch}
use Rattle.sw_net.proofs.declared.declared_net.Goals as goal

pub loop-w-preserved : goal.loop-w-preserved
loop-w-preserved c =
    let switches = c.args.network.now.switches in
    let x : SwitchRoutes = record { routing = c.routing-routing.result } in
    made_too (λ w r. (byte : ℕ) → switch_look r byte ≡ look_at switches w byte) c.loop-w.routes.items c.push_made.new.all.items (Ok x) c.loop-w.w c.loop-w.invariant.0 c.routing-routing.ensures c.in_ok-push_made.ensures c.loop-w.invariant.1

pub loop-number-init : goal.loop-number-init
loop-number-init c = subst (AreByOutput (λ w _ a. IsNewFor c.args.network.now w a) (take 0 (ends_of c.args.network.now))) (sym c.new-arbiters.ensures.items) tt

pub start_of-requires : goal.start_of-requires
start_of-requires c =
    let is = c.new.ensures in
    let within = c.loop-number-test.true in
    let count : c.channels-number-end.result ≡ length (ends_of c.args.network.now) = c.channels-number-end.ensures.ends in
    subst (λ (k : Wiring). c.new.result < length k.ends) (sym c.topology.ensures.wiring) (omega arith)

pub loop-number-preserved-in-Node : goal.loop-number-preserved-in-Node
loop-number-preserved-in-Node c =
    let d = c.args.network.now in
    let starts = subst (λ i. slice_get (ends_of d) i ≡ Some (Node c.in-Node.field-0)) c.new.ensures (subst (λ (k : Wiring). slice_get k.ends c.new.result ≡ Some (Node c.in-Node.field-0)) c.topology.ensures.wiring (c.in-Node.ensures.place)) in
    node_next (λ w _ a. IsNewFor d w a) (ends_of d) c.loop-number.number c.in-Node.field-0 c.loop-number.arbiters.items starts c.loop-number.invariant

pub loop-number-preserved : goal.loop-number-preserved
loop-number-preserved c =
    let d = c.args.network.now in
    let w = c.in-Switch.w in
    let policy = c.new-in-Switch.result in
    let starts = subst (λ i. slice_get (ends_of d) i ≡ Some (Switch w c.in-Switch.field-1)) c.new.ensures (subst (λ (k : Wiring). slice_get k.ends c.new.result ≡ Some (Switch w c.in-Switch.field-1)) c.topology.ensures.wiring (c.in-Switch.ensures.place)) in
    let small : c.linked-linked.result < 2 ^ 32 = search rules in
    let linked = subst (λ (k : Wiring). (p : ℕ) → IsBitSet c.linked-linked.result p ↔ IsSome (out_of k.ends w p)) c.topology-in-Switch.ensures.wiring c.linked-linked.ensures in
    let set : IsLinkedSet d w c.linked-linked.result = record { within = small; linked = λ p lt. linked p } in
    let made : IsNewFor d w policy = record { kind = c.arbitration.result; declared = c.arbitration.ensures; ports = c.linked-linked.result; linked = set; new = c.new-in-Switch.ensures } in
    let pushed : c.push.new.self.items ≡ c.loop-number.arbiters.items ++ policy ∷ [] = search rules in
    switch_next (λ w _ a. IsNewFor d w a) (ends_of d) c.loop-number.number w c.in-Switch.field-1 policy c.loop-number.arbiters.items c.push.new.self.items starts pushed made c.loop-number.invariant

pub new-requires-2-clause-routes : goal.new-requires-2-clause-routes
new-requires-2-clause-routes c =
    let low = c.loop-w.auto.w-end in
    let high = c.loop-w-test.false in
    let count : c.switches-w-end.result ≡ length c.args.network.now.switches = c.switches-w-end.ensures.count in
    let all : c.loop-w.w ≡ length c.args.network.now.switches = omega arith in
    record { all = c.loop-w.invariant.0 ∙ all; answers = c.loop-w.invariant.1 }

pub new-requires-2-clause-arbiters : goal.new-requires-2-clause-arbiters
new-requires-2-clause-arbiters c =
    let d = c.args.network.now in
    let low = c.loop-number.auto.number-end in
    let high = c.loop-number-test.false in
    let count : c.channels-number-end.result ≡ length (ends_of d) = c.channels-number-end.ensures.ends in
    let all : c.loop-number.number ≡ length (ends_of d) = omega arith in
    are_arbiters d c.loop-number.arbiters.items (all_taken (λ w _ a. IsNewFor d w a) (ends_of d) c.loop-number.number c.loop-number.arbiters.items all c.loop-number.invariant)

pub returns-clause-policies : goal.returns-clause-policies
returns-clause-policies c =
    let d = c.args.network.now in
    let low = c.loop-number.auto.number-end in
    let high = c.loop-number-test.false in
    let count : c.channels-number-end.result ≡ length (ends_of d) = c.channels-number-end.ensures.ends in
    let all : c.loop-number.number ≡ length (ends_of d) = omega arith in
    if_ok c.new-2.result (λ net stand. declared_policies d c.loop-number.arbiters.items (arbiters_of net.switches) stand (all_taken (λ w _ a. IsNewFor d w a) (ends_of d) c.loop-number.number c.loop-number.arbiters.items all c.loop-number.invariant)) c.new-2.ensures.arbiters
