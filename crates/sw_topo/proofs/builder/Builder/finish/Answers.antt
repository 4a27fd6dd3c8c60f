use Rattle.std.proofs.Common.{None, Some, sym, ◌∙◌, ◌≡◌}
use Rattle.sw_topo.specs.Wiring.{Wiring}
use Rattle.sw_topo.specs.Checked.{fault_of}
use Rattle.sw_topo.proofs.Faultless.{kept, few_ends, checked_faultless, checked_faulty}
use Rattle.sw_topo.proofs.builder.Builder.finish.Goals as goal

pub node_table-requires-clause-once : goal.node_table-requires-clause-once
node_table-requires-clause-once c =
    let w : Wiring = record { nodes = c.self.inside.nodes; switches = c.self.inside.switches; ends = c.self.inside.ends.items } in
    let faultless : fault_of w ≡ None = sym (rw c.deref.ensures.value at c.first_fault.ensures) ∙ c.in_default.is in
    rw c.deref-2.ensures.value (kept w faultless).once

pub first_fault-requires : goal.first_fault-requires
first_fault-requires c = rw c.deref.ensures.value c.self.invariant.paired

pub returns-in-Some-clause-checked : goal.returns-in-Some-clause-checked
returns-in-Some-clause-checked c =
    let w : Wiring = record { nodes = c.self.inside.nodes; switches = c.self.inside.switches; ends = c.self.inside.ends.items } in
    let faulty : fault_of w ≡ Some c.in-Some.fault = sym (rw c.deref.ensures.value at c.first_fault.ensures) ∙ c.in-Some.is in
    rw (← c.self.view_is) (checked_faulty w c.in-Some.fault faulty)

pub node_table-requires-clause-few : goal.node_table-requires-clause-few
node_table-requires-clause-few c =
    let w : Wiring = record { nodes = c.self.inside.nodes; switches = c.self.inside.switches; ends = c.self.inside.ends.items } in
    let faultless : fault_of w ≡ None = sym (rw c.deref.ensures.value at c.first_fault.ensures) ∙ c.in_default.is in
    rw c.deref-2.ensures.value (few_ends w faultless c.self.invariant.paired)

pub port_table-requires-clause-few : goal.port_table-requires-clause-few
port_table-requires-clause-few c =
    let w : Wiring = record { nodes = c.self.inside.nodes; switches = c.self.inside.switches; ends = c.self.inside.ends.items } in
    let faultless : fault_of w ≡ None = sym (rw c.deref.ensures.value at c.first_fault.ensures) ∙ c.in_default.is in
    rw c.deref-3.ensures.value (few_ends w faultless c.self.invariant.paired)

pub port_table-requires-clause-inside : goal.port_table-requires-clause-inside
port_table-requires-clause-inside c = rw c.deref-3.ensures.value (c.self.inside.nodes, c.self.invariant.inside)

pub invariant_of-result : goal.invariant_of-result
invariant_of-result c =
    let w : Wiring = record { nodes = c.self.inside.nodes; switches = c.self.inside.switches; ends = c.self.inside.ends.items } in
    let faultless : fault_of w ≡ None = sym (rw c.deref.ensures.value at c.first_fault.ensures) ∙ c.in_default.is in
    record {
      sound = record { wiring = c.self.invariant; faultless = faultless };
      node_table = rw c.deref-2.ensures.value at c.in_ok-by_node.ensures;
      port_table = rw c.deref-3.ensures.value at c.in_ok-by_port.ensures;
    }

pub returns-clause-checked : goal.returns-clause-checked
returns-clause-checked c =
    let w : Wiring = record { nodes = c.self.inside.nodes; switches = c.self.inside.switches; ends = c.self.inside.ends.items } in
    let faultless : fault_of w ≡ None = sym (rw c.deref.ensures.value at c.first_fault.ensures) ∙ c.in_default.is in
    rw (← c.self.view_is) (checked_faultless w faultless)

pub returns-clause-same : goal.returns-clause-same
returns-clause-same c = c.self.view_is
