-- A node split into two: its target gets a node and a link of its own.
use Rattle.std.specs.Prelude.{◌≡◌, ℕ, ◌-◌, ◌<◌, ◌≤◌, ◌==◌, Bool, not, ◌&&◌, is_some, nat_lt, List, [], ◌∷◌, ◌++◌, codes, map, length, slice_get, slice_index_or, slice_set, Option, Some, None, option_and_then, option_map, if◌then◌else◌}
use Rattle.std.specs.Option.{option_map_or, option_to_list}
use Rattle.sw_topo.specs.Checked.{first_below}
use Rattle.sw_topo.specs.Wiring.{out, out_of, partner}
use Rattle.sw_topo.specs.declared.place.PlaceEnd.{PlaceEnd}
use Rattle.sw_topo.specs.declared.place.PlaceEnd.TheVariants.{Node, Switch}
use Rattle.sw_config.specs.Entries.{NodeEntry, LinkEntry, FlowEntry, Declaration, capacities, is_answered_at, is_answering, link_ends, wiring_of}
use Rattle.sw_config.specs.Valid.{IsValid}
use Rattle.sw_topo.specs.Checked.{IsSound}
use Rattle.sw_mend.specs.declared.change.TargetLink.{TargetLink}
use Rattle.sw_mend.specs.Changes.{by_number, made_at}

-- ---- what it leaves of a network

-- the node of its own: it answers as the other does, has another name, and sends no commands, so it has no limit on them
abbrev pub target_part : ℕ → NodeEntry → List NodeEntry
target_part number n = record n { name = n.name ++ codes "-target"; outstanding = None } ∷ []

-- its link to the switch, with the same receive buffers as the other's
abbrev pub own_link : ℕ → TargetLink → LinkEntry
own_link node link = record { a = Node node; b = Switch link.switch link.port; buffer_a = link.near; buffer_b = link.far }

-- the place of the last address byte that is deleted on the flow's way, if one is
abbrev pub last_deleted : FlowEntry → Option ℕ
last_deleted f = if nat_lt f.left (length f.address) then Some (length f.address - f.left - 1) else None

-- the byte at that place names port q where it named port p
abbrev pub renamed : ℕ → ℕ → List ℕ → ℕ → List ℕ
renamed p q bytes place = if slice_index_or bytes place 0 == p then slice_set bytes place q else bytes

-- the flow goes to its target's own node: the last byte that is deleted names the port of the own link
abbrev pub flow_moved : ℕ → TargetLink → FlowEntry → FlowEntry
flow_moved node link f =
    record f { to = node; address = option_map_or (renamed link.beside link.port f.address) (last_deleted f) f.address }

-- a flow whose packets are commands that the node answers goes to the own node, and each other flow as before
abbrev pub flow_split : ℕ → TargetLink → FlowEntry → FlowEntry
flow_split node link f = if is_answered_at link.node f then flow_moved node link f else f

-- The own node comes behind the other nodes, and its link behind the other links. All else stays, the node that it was split from too: flows
-- without replies still go there, and replies come by the same path, since both are at one switch.
abbrev pub split : Declaration → TargetLink → Declaration
split d link = record d {
  nodes = d.nodes ++ made_at target_part d.nodes link.node;
  links = d.links ++ own_link (length d.nodes) link ∷ [];
  flows = map (flow_split (length d.nodes) link) d.flows;
}

-- ---- the links that are tried

-- the port has no link; port 0 is the switch's own
abbrev pub is_free_port : List PlaceEnd → ℕ → ℕ → Bool
is_free_port ends switch port = not (port == 0) && not (is_some (out_of ends switch port))

-- the least such port below that number
unfoldable pub free_port_below : ℕ → List PlaceEnd → ℕ → Option ℕ
free_port_below bound ends switch = first_below (is_free_port ends switch) bound

-- how many characters the receive buffer holds where the channel ends
abbrev pub buffer_of : List LinkEntry → ℕ → ℕ
buffer_of links channel = slice_index_or (capacities links) channel 0

-- a link beside that of the node, whose channel out leads to such an end: to the least free port of the switch, 1 to 31
abbrev pub link_beside : Declaration → ℕ → ℕ → PlaceEnd → Option TargetLink
link_beside d node channel (Node other) = None
link_beside d node channel (Switch s p) =
    option_map (λ port. record {
      node = node;
      switch = s;
      beside = p;
      port = port;
      near = buffer_of d.links (partner channel);
      far = buffer_of d.links channel;
    }) (free_port_below 32 (link_ends d.links) s)

-- beside that of the node, wherever its channel out leads
abbrev pub target_link : Declaration → ℕ → Option TargetLink
target_link d node =
    option_and_then (λ channel. option_and_then (link_beside d node channel) (slice_get (link_ends d.links) (partner channel)))
    (out (link_ends d.links) node)

-- of a target that answers commands
abbrev pub own_links : Declaration → ℕ → NodeEntry → List TargetLink
own_links d number n =
    if is_some n.target && is_answering d number then option_to_list (target_link d number) else []

-- in the order of the nodes
abbrev pub splits : Declaration → List TargetLink
splits d = by_number (own_links d) 0 d.nodes

-- ---- what the functions say

-- the link is of one of the nodes, to one of the switches, and its receive buffers hold 8 to 4096 characters
pub record IsTargetLink (d : Declaration) (link : TargetLink) : Type 0 where
  pub node : link.node < length d.nodes
  pub switch : link.switch < length d.switches
  pub low_near : 8 ≤ link.near
  pub high_near : link.near ≤ 4096
  pub low_far : 8 ≤ link.far
  pub high_far : link.far ≤ 4096

-- the network as it was declared, or none, where its wiring has a fault
abbrev pub IsWired : Declaration → Option Declaration → Type 0
IsWired d (Some network) = network ≡ d
IsWired d None = IsSound (wiring_of d) → ⊥

-- the network that a split leaves, or none, where it leaves no valid one
abbrev pub IsSplit : Declaration → TargetLink → Option Declaration → Type 0
IsSplit d link (Some network) = network ≡ split d link
IsSplit d link None = IsValid (split d link) → ⊥
