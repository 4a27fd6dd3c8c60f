use Rattle.std.proofs.Common.{◌∙◌, ap, sym}
use Rattle.sw_topo.specs.Wiring.{Wiring}
use Rattle.sw_mend.specs.Splits.{free_port_below, link_beside}
use Rattle.sw_mend.proofs.OwnLinks.{beside_at}
use Rattle.sw_mend.proofs.links.link_beside.Goals as goal

pub returns-in_ok-port-in-Switch-clause-link : goal.returns-in_ok-port-in-Switch-clause-link
returns-in_ok-port-in-Switch-clause-link c =
    let found = c.in_ok-port-in-Switch.ensures ∙ ap (λ (w : Wiring). free_port_below 32 w.ends c.in-Switch.switch) c.topology.ensures.wiring in
    beside_at c.args.network.now c.args.node c.args.channel c.in-Switch.switch c.in-Switch.beside _ _ _ found (rw c.partner.ensures at c.capacity.ensures.capacity) c.capacity-in-Switch.ensures.capacity
    ∙ ap (link_beside c.args.network.now c.args.node c.args.channel) (sym c.in-Switch.is)

pub returns-in_ok-port-in-Switch-clause-inside : goal.returns-in_ok-port-in-Switch-clause-inside
returns-in_ok-port-in-Switch-clause-inside c = record {
  node = c.requires.node;
  switch = (rw c.in-Switch.is at c.requires.end).0;
  low_near = c.capacity.ensures.low;
  high_near = c.capacity.ensures.high;
  low_far = c.capacity-in-Switch.ensures.low;
  high_far = c.capacity-in-Switch.ensures.high;
}
