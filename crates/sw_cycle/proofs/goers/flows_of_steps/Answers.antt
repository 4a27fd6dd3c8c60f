use Rattle.std.proofs.Common.{◌≡◌, ◌<◌, ◌∙◌, ℕ, length, ap, subst, arith}
use Rattle.sw_cycle.proofs.Taken.{begun, ended}
use Rattle.sw_cycle.proofs.goers.flows_of_steps.Goals as goal
use Rattle.sw_topo.proofs.Lists.{whole}

pub loop-number-init : goal.loop-number-init
loop-number-init c = begun c.args.network.now c.args.channels.now c.in_ok-flows.flows.items c.in_ok-flows.ensures.size c.in_ok-flows.ensures.empty

pub loop-number-preserved : goal.loop-number-preserved
loop-number-preserved c =
    let flows = c.loop-number.flows in
    let new = c.take_numbered.new.flows in
    let size : length new ≡ length flows.items = c.take_numbered.auto.flows ∙ ap length c.deref_mut.ensures.value in
    rw (whole flows.len new flows.items flows.ok.0 size) c.in_ok-take_numbered.ensures

pub take_numbered-requires-clause-lists : goal.take_numbered-requires-clause-lists
take_numbered-requires-clause-lists c = c.requires

pub take_numbered-requires-clause-inside : goal.take_numbered-requires-clause-inside
take_numbered-requires-clause-inside c = subst (λ (n : ℕ). c.loop-number.number < n) c.flows-number-end.ensures.count c.loop-number-test.true

pub take_numbered-requires-clause-below : goal.take_numbered-requires-clause-below
take_numbered-requires-clause-below c = rw c.deref_mut.ensures.value c.loop-number.invariant

pub returns : goal.returns
returns c =
    ended c.args.network.now c.args.channels.now c.loop-number.number c.loop-number.flows.items (omega (arith, c.loop-number-test.false, c.flows-number-end.ensures.count)) c.loop-number.invariant
