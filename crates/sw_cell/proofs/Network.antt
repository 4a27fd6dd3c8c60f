-- The machine's network of a declared network, as the code finds its parts.
use Rattle.std.proofs.Common.{◌≡◌, ◌<◌, ◌∙◌, arith, ℕ, List, length, Some, refl, ap, sym}
use Rattle.std.specs.Prelude.{option_map, slice_get, unwrap_or}
use Rattle.sw_cell.proofs.Nodes.{AnswersAs, wires_long}
use Rattle.sw_cell.specs.Makes.{HasNodeState}
use Rattle.sw_cell.specs.Parts.{IsNodeFor}
use Rattle.sw_char.specs.declared.nchar.End.{End}
use Rattle.sw_flow.specs.Places.{ends_of}
use Rattle.sw_link.specs.Between.{Between}
use Rattle.sw_machine.proofs.DeclaredNetworks.{are_networks}
use Rattle.sw_machine.specs.Model.{flow_of, network_of, reply_number}
use Rattle.sw_machine.specs.Network.{IsNetwork}
use Rattle.sw_machine.specs.Targets.{answer_of, memory_after, slots_of}
use Rattle.sw_config.specs.Entries.{Declaration, FlowEntry, all_flows, wiring_of}
use Rattle.sw_node.specs.Node.{Node, config_of, slots}
use Rattle.sw_topo.specs.Wiring.{Wiring, out, partner}

pub channels_are : (d : Declaration) → (network_of d).channels ≡ length (ends_of d)
unfolding network_of
channels_are d = refl

pub nodes_are : (d : Declaration) → (network_of d).nodes ≡ length d.nodes
unfolding network_of
nodes_are d = refl

pub out_is : (d : Declaration) (n c : ℕ) → out (ends_of d) n ≡ Some c → (network_of d).out n ≡ c
unfolding network_of
out_is d n c e = ap (λ o. unwrap_or o 0) e

pub into_is : (d : Declaration) (n c : ℕ) → option_map partner (out (ends_of d) n) ≡ Some c → (network_of d).into n ≡ c
unfolding network_of
into_is d n c e = ap (λ o. unwrap_or o 0) e

pub address_is : (d : Declaration) (f : ℕ) (entry : FlowEntry) → slice_get (all_flows d) f ≡ Some entry → ((network_of d).flow f).address ≡ entry.address
unfolding network_of
address_is d f entry e = ap (λ o. (flow_of (reply_number d f) o).address) e

module _ (d : Declaration) (n : ℕ) (node : Node) (for : IsNodeFor d n node) where
  pub slots_are : (network_of d).slots n ≡ slots node
  unfolding network_of
  slots_are = ap slots_of (sym for.target)

  pub answers_are : (memory bytes : List ℕ) (end : End) → (network_of d).answer n memory bytes end ≡ answer_of (config_of node.target) memory bytes end
  unfolding network_of
  answers_are memory bytes end = ap (λ o. answer_of o memory bytes end) (sym for.target)

  pub memories_are : (memory bytes : List ℕ) (end : End) → (network_of d).memory_after n memory bytes end ≡ memory_after (config_of node.target) memory bytes end
  unfolding network_of
  memories_are memory bytes end = ap (λ o. memory_after o memory bytes end) (sym for.target)

  pub answers_as : AnswersAs (network_of d) n node
  answers_as = record { slots_are = slots_are; answers_are = answers_are; memories_are = memories_are }

  pub in_network : n < (network_of d).nodes
  in_network = let e = nodes_are d in let lt = for.in_net in omega arith

-- what the steps of a node ask of it
pub record NodeFacts (d : Declaration) (n : ℕ) (node : Node) : Type 0 where
  pub ok : IsNetwork (network_of d)
  pub inside : n < (network_of d).nodes
  pub capacity : (network_of d).capacity ((network_of d).into n) ≡ node.received.capacity
  pub answers : AnswersAs (network_of d) n node

module _ {d : Declaration} {n : ℕ} {node : Node} (for : IsNodeFor d n node) where
  pub facts_of : NodeFacts d n node
  facts_of = record { ok = are_networks d for.valid; inside = in_network d n node for; capacity = sym for.capacity; answers = answers_as d n node for }

  -- what the code finds in the wiring: the node's channels, and that each channel has a wire
  module _ {w : Wiring} (is : w ≡ wiring_of d) {c : ℕ} where
    pub out_found : out w.ends n ≡ Some c → (network_of d).out n ≡ c
    out_found e = out_is d n c (ap (λ (x : Wiring). out x.ends n) (sym is) ∙ e)

    pub into_found : option_map partner (out w.ends n) ≡ Some c → (network_of d).into n ≡ c
    into_found e = into_is d n c (ap (λ (x : Wiring). option_map partner (out x.ends n)) (sym is) ∙ e)

    pub has_wire : {b : Between} → HasNodeState (network_of d) n node b → c < length w.ends → c < length b.wires
    has_wire {b = b} reached lt =
        let long = wires_long (network_of d) (are_networks d for.valid) n (in_network d n node for) node b reached in
        let all = channels_are d in
        let e = ap (λ (x : Wiring). length x.ends) is in
        omega arith
