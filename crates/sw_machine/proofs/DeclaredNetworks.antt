-- Declared networks are networks of the machine.
use Rattle.std.proofs.Common.{◌≡◌, ℕ, ◌+◌, ◌-◌, ◌<◌, ◌≤◌, false, true, List, length, length-append, Option, Some, None, refl, ap, ◌∙◌, ⊎_elim, arith, All}
use Rattle.std.specs.Prelude.{IfSome, slice_get}
use Rattle.std.specs.Option.{option_map_or}
use Rattle.std.proofs.lemmas.Bool.{cases_lt}
use Rattle.sw_char.specs.declared.nchar.End.{End}
use Rattle.sw_rmap.specs.declared.config.TargetConfig.{TargetConfig}
use Rattle.sw_rmap.specs.Config.{IsTargetConfig}
use Rattle.sw_flow.specs.Entries.{FlowEntry, NodeEntry, Declaration, target_of, wiring_of, look_at, reply_flows, all_flows}
use Rattle.sw_flow.specs.Limits.{is_limited}
use Rattle.sw_flow.specs.Valid.{IsNode}
use Rattle.sw_flow.proofs.Flows.{All-at}
use Rattle.sw_flow.proofs.FlowLaws.{are_replies}
use Rattle.sw_machine.specs.Network.{AnswersFit, IsReplyFlow, Protocol, left_bytes}
use Rattle.sw_rmap.specs.Owing.{PendingReply}
use Rattle.sw_rmap.specs.Targets.{answer_of, slots_of}
use Rattle.sw_machine.specs.Model.{network_by, network_of}
use Rattle.sw_machine.specs.Rmap.{answered_to, rmap}
use Rattle.sw_machine.specs.ModelLaws.{DeclaredNetworksAreNetworks, NetworksByProtocolsAreNetworks}
use Rattle.sw_machine.proofs.Answering as replies
use Rattle.sw_machine.proofs.Flows as flows
use Rattle.sw_machine.proofs.Topology as topology
use Rattle.sw_machine.proofs.Flows.{flow_at, some_at}

some_slot : (o : Option TargetConfig) → IfSome o IsTargetConfig → 0 < slots_of o
some_slot None is = omega arith
some_slot (Some t) is = let low = is.low_slots in omega arith

slot : (nodes : List NodeEntry) (n : ℕ) → All IsNode nodes → n < length nodes → 0 < slots_of (target_of nodes n)
slot nodes n all lt =
    let here = some_at nodes n lt in
    rw here.1 (some_slot here.0.target (All-at IsNode nodes n here.0 here.1 all).target)

reply_flow : (protocol : Protocol) (d : Declaration) (i j : ℕ) → (flow_at d i).reply ≡ Some j → IsReplyFlow (network_by protocol d) i j
reply_flow protocol d i j has =
    let is = flows.reply_flow_is d i j has in
    record { in_flows = is.in_flows; after_declared = is.after_declared; from = is.from; to = is.to; left = is.left; unanswered = is.unanswered }

replies_end : (d : Declaration) (i j n : ℕ) (memory bytes : List ℕ) (r : PendingReply) (end : End) → (flow_at d i).reply ≡ Some j → answer_of (target_of d.nodes n) memory bytes end ≡ Some r
    → r.address ≡ (flow_at d j).address → answered_to (target_of d.nodes (flow_at d j).to) (left_bytes (network_by (rmap d) d) j r.cargo) ≡ None
replies_end d i j n memory bytes r end has e to =
    let is = flows.reply_flow_is d i j has in
    let o = target_of d.nodes (flow_at d j).to in
    ap (answered_to o) (flows.reply_left is.path is.initiator r.cargo (flow_at d j).address (flow_at d j).left is.address is.left)
    ∙ replies.replies_end o (target_of d.nodes n) memory bytes end r is.path is.initiator e (to ∙ is.address)

more_flows : (d : Declaration) → length d.flows ≤ length (all_flows d)
more_flows d = omega (arith, length-append d.flows (reply_flows d.flows))

-- a flow of replies is not limited
limited_flow : (d : Declaration) (i : ℕ) → option_map_or (is_limited d.nodes) (slice_get (all_flows d) i) false ≡ true → i < length d.flows
limited_flow d i is = ⊎_elim (λ lt. lt) (λ ge. absurd (later (slice_get (all_flows d) i) refl is ge)) (cases_lt i (length d.flows))
  where
    later : (o : Option FlowEntry) → slice_get (all_flows d) i ≡ o → option_map_or (is_limited d.nodes) o false ≡ true → length d.flows ≤ i → ⊥
    later None here is ge = cc
    later (Some f) here is ge =
        let number : length d.flows + (i - length d.flows) ≡ i = omega arith in
        let reply = are_replies d (i - length d.flows) f (ap (λ (x : ℕ). slice_get (all_flows d) x) number ∙ here) in
        let none : is_limited d.nodes f ≡ false = rw reply.same refl in
        cc

-- whatever protocol the nodes speak, as long as what they answer fits
pub are_networks_by : NetworksByProtocolsAreNetworks
are_networks_by protocol d valid answers =
    let w = wiring_of d in
    record {
      room = λ c lt. topology.room d.links c valid.links lt;
      reversed = λ c lt. (topology.partner_within w valid.sound c lt, refl);
      starts_at_node = topology.starts_at_node w valid.sound;
      ends_at_node = topology.ends_at_node w valid.sound;
      out_starts = topology.out_starts w valid.sound;
      into_ends = topology.into_ends w valid.sound;
      look_starts = λ s h c. topology.look_starts w valid.sound s (look_at d.switches s h) c;
      flows_declared = more_flows d;
      flow_ends = flows.flow_ends d valid;
      reply_flow = λ i j lt. reply_flow protocol d i j;
      no_flow = flows.no_flow d;
      limited_flow = limited_flow d;
      slot = λ n. slot d.nodes n valid.nodes;
      answers = answers;
    }

rmap_fits : (d : Declaration) → AnswersFit (network_by (rmap d) d)
rmap_fits d = record {
  reply_goes = λ n memory bytes end lt. replies.reply_goes (target_of d.nodes n) memory bytes end;
  reply_length = λ n memory bytes r end lt. replies.reply_length (target_of d.nodes n) memory bytes r end;
  replies_end = λ i j n memory bytes r end lt inside has. replies_end d i j n memory bytes r end has;
}

pub are_networks : DeclaredNetworksAreNetworks
unfolding network_of
are_networks d valid = are_networks_by (rmap d) d valid (rmap_fits d)
