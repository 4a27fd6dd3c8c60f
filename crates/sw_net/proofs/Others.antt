-- A step at one cell keeps the parts of all others.
use Rattle.std.proofs.Common.{ℕ, refl, ◌<◌, ◌∙◌}
use Rattle.sw_cell.proofs.Switches.{ends_at, starts_within, within}
use Rattle.sw_cell.specs.Parts.{IsNodePart}
use Rattle.sw_cell.specs.SwitchParts.{IsSwitchPart}
use Rattle.sw_machine.specs.Network.{AtNode, AtSwitch, IsNetwork, Network}
use Rattle.sw_machine.specs.Parts.{SamePart}
use Rattle.sw_machine.specs.State.{State}
use Rattle.sw_machine.specs.Model.{network_of}
use Rattle.sw_config.specs.Entries.{Declaration}
use Rattle.sw_config.specs.Valid.{IsValid}
use Rattle.sw_node.specs.Node.{Node}
use Rattle.sw_switch.specs.Cell.{Cell}
use Rattle.sw_cell.proofs.Granting.{starts_at}

pub node_stays : (net : Network) → IsNetwork net → (n : ℕ) → n < net.nodes → (node : Node) (s t : State) → SamePart net (AtNode n) s t → IsNodePart net n node s → IsNodePart net n node t
node_stays net ok n lt node s t same p =
    let o = ok.out_starts n lt in
    let i = ok.into_ends n lt in
    let e = same.ends (net.into n) i.0 i.1 in
    let m = same.node n refl in
    record {
      credit = same.starts (net.out n) o.0 o.1 ∙ p.credit;
      buffer = e.buffer ∙ p.buffer;
      outstanding = e.outstanding ∙ p.outstanding;
      to_send = m.to_send ∙ p.to_send;
      pending = m.pending ∙ p.pending;
      owed = m.owed ∙ p.owed;
      taken = m.taken ∙ p.taken;
      memory = m.memory ∙ p.memory;
    }

pub switch_stays : {R A : Type 0} (d : Declaration) → IsValid d → (w : ℕ) (cell : Cell R A) (s t : State) → SamePart (network_of d) (AtSwitch w) s t → IsSwitchPart d w cell s → IsSwitchPart d w cell t
switch_stays d valid w cell s t same p = record {
  credit = λ c port at. same.starts c (starts_within d c w port at) (starts_at d c w port at) ∙ p.credit c port at;
  ports = λ c port at.
      let e = same.ends c (within d valid c w port at) (ends_at d c w port at) in
      let q = p.ports c port at in
      record { buffer = e.buffer ∙ q.buffer; outstanding = e.outstanding ∙ q.outstanding; input = e.input ∙ q.input };
}
