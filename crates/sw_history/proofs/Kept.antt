-- What a history keeps.
use Rattle.std.proofs.Common.{◌≡◌, ◌<◌, ◌≤◌, ◌∙◌, [], ℕ, List, Some, arith, length, refl, sym, ap}
use Rattle.std.specs.Prelude.{replicate, slice_get}
use Rattle.std.proofs.lemmas.List.{length-replicate}
use Rattle.sw_char.specs.declared.nchar.End.{End}
use Rattle.sw_history.proofs.Follows.{follows_where_possible}
use Rattle.sw_history.specs.History.{HistoryView, IsKept, IsNext, LeadsTo}
use Rattle.sw_load.specs.History.{next_packet, packets_of}
use Rattle.sw_load.specs.Laws.{AreDeclared}
use Rattle.sw_load.specs.Load.{LoadEntry}
use Rattle.sw_machine.specs.State.{State, empty}
use Rattle.sw_machine.specs.Steps.{Begin}
use Rattle.sw_machine.specs.Model.{network_of}
use Rattle.sw_net.specs.Net.{IsNetState, NetView}
use Rattle.sw_net.specs.Unanswered.{nothing_counted}
use Rattle.sw_load.proofs.Sends.{flow_from}
use Rattle.sw_config.specs.Entries.{Declaration, FlowEntry, all_flows}
use Rattle.sw_history.proofs.Zero.{all_zero, new_history, none_counted}

pub new_is_kept : {R A : Type 0} (net : NetView R A) (load : List LoadEntry) (room nodes : ℕ) → IsNetState net (empty (network_of net.declared)) → AreDeclared net.declared load → nodes ≡ length net.declared.nodes
    → IsKept net (record { declared = net.declared; load = load; steps = []; room = room }) (replicate nodes 0) (nothing_counted nodes)
new_is_kept net load room nodes state packets all = record {
  network = refl;
  packets = packets;
  all_nodes = length-replicate nodes 0 ∙ all;
  counted = λ n count h. all_zero nodes n count h;
  state = empty (network_of net.declared);
  leads = new_history net.declared load;
  in_net = state;
  unanswered = none_counted net.declared nodes all;
}

declared_flow : (d : Declaration) (flow : ℕ) → flow < (network_of d).declared_flows → flow < length d.flows
unfolding network_of
declared_flow d flow lt = lt

-- a packet that may be begun is of a declared flow, and its node's next
pub next_begins : (h : HistoryView) (s : State) → LeadsTo h s → (flow : ℕ) (cargo : List ℕ) (end : End) → IsNext h (Begin flow cargo end)
    → (flow < length h.declared.flows) × (next_packet (network_of h.declared) (packets_of h.load) h.steps ((network_of h.declared).flow flow).from ≡ Some (record { flow = flow; cargo = cargo; end = end }))
next_begins h s leads flow cargo end next =
    let is = (follows_where_possible (network_of h.declared) (packets_of h.load) h.steps s leads (Begin flow cargo end)).0 next in
    (declared_flow h.declared flow is.0.1.declared.declared, is.1)

pub sender_from : (d other : Declaration) (flow from : ℕ) (e : FlowEntry) → other ≡ d → slice_get (all_flows other) flow ≡ Some e → from ≡ e.from → from ≡ ((network_of d).flow flow).from
sender_from d other flow from e same at is = is ∙ sym (flow_from d flow e (ap (λ (k : Declaration). slice_get (all_flows k) flow) (sym same) ∙ at))

-- a packet that is not the next of its node may not be begun
pub not_next : (h : HistoryView) (s : State) → LeadsTo h s → (flow : ℕ) (cargo : List ℕ) (end : End) (node : ℕ) → node ≡ ((network_of h.declared).flow flow).from
    → (next_packet (network_of h.declared) (packets_of h.load) h.steps node ≡ Some (record { flow = flow; cargo = cargo; end = end }) → ⊥) → IsNext h (Begin flow cargo end) → ⊥
not_next h s leads flow cargo end node from other next =
    other (ap (next_packet (network_of h.declared) (packets_of h.load) h.steps) from ∙ (next_begins h s leads flow cargo end next).1)

-- a packet of a flow that is not declared may not be begun
pub undeclared : (h : HistoryView) (s : State) → LeadsTo h s → (d : Declaration) (flow count : ℕ) (cargo : List ℕ) (end : End) → d ≡ h.declared → count ≡ length d.flows → count ≤ flow → IsNext h (Begin flow cargo end) → ⊥
undeclared h s leads d flow count cargo end same is large next =
    let small = (next_begins h s leads flow cargo end next).0 in
    let all = ap (λ (k : Declaration). length k.flows) same in
    absurd (omega arith)
