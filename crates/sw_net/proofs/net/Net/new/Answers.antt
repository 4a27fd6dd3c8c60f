use Rattle.std.proofs.Common.{ap, length, refl, subst, sym, ◌∙◌}
use Rattle.sw_cell.proofs.Network.{channels_are}
use Rattle.sw_net.proofs.New as new
use Rattle.sw_flow.specs.Places.{ends_of}
use Rattle.sw_net.proofs.net.Net.new.Goals as goal
use Rattle.sw_net.specs.Outputs.{AreByOutput, StandsAt}
use Rattle.sw_topo.specs.Wiring.{Wiring}
use Rattle.sw_link.specs.Between.{empty_between}

pub invariant_of-result : goal.invariant_of-result
invariant_of-result g c =
    let d = c.args.network.now in
    let nodes = c.in_ok-nodes in
    let switches = c.in_ok-switches in
    let count = c.channels.ensures.channels ∙ ap (λ (k : Wiring). length k.ends) c.topology.ensures.wiring ∙ sym (channels_are d) in
    new.new_net g.R.Routing.answer g.A.Arbiter.ports d c.topology.ensures.valid nodes.nodes.items switches.switches.items c.in_ok-wires.wires
    (c.in_ok-wires.ensures ∙ ap empty_between count) nodes.ensures.each switches.ensures.each nodes.ensures.all switches.ensures.all

pub returns-clause-new : goal.returns-clause-new
returns-clause-new g c =
    let d = c.args.network.now in
    let count = c.channels.ensures.channels ∙ ap (λ (k : Wiring). length k.ends) c.topology.ensures.wiring ∙ sym (channels_are d) in
    record {
      network = refl;
      empty = new.new_state g.R.Routing.answer g.A.Arbiter.ports d c.topology.ensures.valid c.in_ok-nodes.nodes.items c.in_ok-switches.switches.items c.in_ok-wires.wires
          (c.in_ok-wires.ensures ∙ ap empty_between count) c.in_ok-nodes.ensures.each c.in_ok-switches.ensures.each;
    }

pub returns-clause-arbiters : goal.returns-clause-arbiters
returns-clause-arbiters g c = subst (λ k. AreByOutput (StandsAt k) (ends_of c.args.network.now) c.args.arbiters.items) (sym c.in_ok-switches.ensures.rows) c.in_ok-rows.ensures.stand
