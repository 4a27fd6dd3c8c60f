-- What is undelivered of a declared network fits 64 bits.
use Rattle.std.proofs.Common.{List, None, Option, Some, [], ap, arith, drop, length, length-append, map, refl, subst, suc, sym, take, zero, ℕ, ◌++◌, ◌+◌, ◌<◌, ◌^◌, ◌∙◌, ◌∷◌, ◌≡◌, ◌≤◌}
use Rattle.std.proofs.lemmas.List.{length-map, length-take}
use Rattle.std.proofs.lemmas.List.Elements.{All-head, All-tail}
use Rattle.std.proofs.lemmas.Option.{cond_some}
use Rattle.std.specs.Option.{option_and_then, option_map}
use Rattle.std.specs.Prelude.{All, IfSome, slice_index}
use Rattle.sw_char.specs.declared.nchar.End.{End}
use Rattle.sw_char.specs.declared.nchar.NChar.TheVariants.{Data, Eop}
use Rattle.sw_machine.proofs.Credit.{reached_numbers}
use Rattle.sw_machine.proofs.Owed.{owes}
use Rattle.sw_machine.specs.Network.{IsDeclared, form}
use Rattle.sw_machine.specs.Owing.{length_pending, PendingReply, reply_packet}
use Rattle.sw_machine.specs.Targets.{answer_of, longest_reply, slots_of}
use Rattle.sw_machine.specs.Packets.{marker_of}
use Rattle.sw_machine.specs.Runs.{IsReached, undelivered}
use Rattle.sw_machine.specs.State.{State}
use Rattle.sw_machine.proofs.Answering.{reply_length}
use Rattle.sw_machine.proofs.Flows.{some_at}
use Rattle.sw_machine.proofs.Headers.{length-path-le}
use Rattle.sw_machine.proofs.DeclaredNetworks.{are_networks}
use Rattle.sw_machine.specs.Model.{network_of}
use Rattle.sw_machine.specs.Rmap.{answered_to}
use Rattle.sw_config.proofs.FlowLaws.{valid_flows}
use Rattle.sw_config.proofs.Flows.{All-at}
use Rattle.sw_config.specs.Entries.{Declaration, LinkEntry, NodeEntry, all_flows, capacities, link_ends, target_of}
use Rattle.sw_config.specs.Valid.{IsFlow, IsLink, IsNode, IsValid}
use Rattle.sw_rmap.proofs.Reading.{is_read}
use Rattle.sw_rmap.specs.CommandView.{CommandView}
use Rattle.sw_rmap.specs.Commands.{fields_of, instruction_of, read}
use Rattle.sw_rmap.specs.Config.{IsTargetConfig}
use Rattle.sw_rmap.specs.Instruction.{reply_address_len}
use Rattle.sw_rmap.specs.Replies.{is_answered, path_of, reply_to, way_back}
use Rattle.sw_rmap.specs.declared.config.TargetConfig.{TargetConfig}
use Rattle.sw_net.proofs.Sizes.{BeginsFew, few_wait, replies_few, sends_few, total_at_nodes, total_in_channels}

-- ---- where replies go

address_few : (bytes : List ℕ) (c : CommandView) → read bytes ≡ Some c → length c.reply_address ≤ 12
unfolding fields_of
address_few bytes c h =
    let is = is_read bytes c h in
    let i = instruction_of bytes in
    let few : length (take (reply_address_len i) (drop 4 bytes)) ≤ 12 = let size = length-take (reply_address_len i) (drop 4 bytes) in omega arith in
    subst (λ (v : CommandView). length v.reply_address ≤ 12) is.fields few

way_few : (bytes : List ℕ) (o : Option CommandView) (way : List ℕ) → read bytes ≡ o → option_and_then way_back o ≡ Some way → length way ≤ 13
way_few bytes None way is h = absurd cc
way_few bytes (Some c) way is h =
    let goes = cond_some (is_answered c) (path_of c ++ c.initiator ∷ []) way h in
    let few = address_few bytes c is in
    let path = length-path-le c.reply_address in
    let sum = length-append (path_of c) (c.initiator ∷ []) in
    let same = ap length goes.1 in
    omega arith

answered_few : (o : Option TargetConfig) (bytes way : List ℕ) → answered_to o bytes ≡ Some way → length way ≤ 13
unfolding reply_to
answered_few None bytes way h = absurd cc
answered_few (Some t) bytes way h = way_few bytes (read bytes) way refl h

-- ---- what a declared network begins

target_few : (o : Option TargetConfig) → IfSome o IsTargetConfig → (longest_reply o ≤ 65548) × (slots_of o ≤ 64)
target_few None is = (omega arith, omega arith)
target_few (Some t) is = let size = is.high_size in let slots = is.high_slots in (omega arith, omega arith)

node_few : (nodes : List NodeEntry) (n : ℕ) → All IsNode nodes → n < length nodes → (longest_reply (target_of nodes n) ≤ 65548) × (slots_of (target_of nodes n) ≤ 64)
node_few nodes n all lt =
    let here = some_at nodes n lt in
    rw here.1 (target_few here.0.target (All-at IsNode nodes n here.0 here.1 all).target)

packet_few : (r : PendingReply) → length r.address ≤ 13 → length r.cargo ≤ 65548 → length (reply_packet r) ≤ 67108864
packet_few r address cargo =
    let bytes = length-append r.address r.cargo in
    let chars = length-map (r.address ++ r.cargo) Data in
    let sum = length-append (map Data (r.address ++ r.cargo)) (Eop ∷ []) in
    omega arith

module _ (d : Declaration) (valid : IsValid d) where
  reply_few : (n : ℕ) (memory bytes : List ℕ) (end : End) (r : PendingReply) → n < (network_of d).nodes → (network_of d).answer n memory bytes end ≡ Some r → length (reply_packet r) ≤ 67108864
  unfolding network_of
  reply_few n memory bytes end r lt is =
      let o = target_of d.nodes n in
      let goes : option_map (λ (p : PendingReply). p.address) (answer_of o memory bytes end) ≡ answered_to o bytes = (are_networks d valid).answers.reply_goes n memory bytes end lt in
      let way : answered_to o bytes ≡ Some r.address = sym goes ∙ ap (option_map (λ (p : PendingReply). p.address)) is in
      let cargo = reply_length o memory bytes r end is in
      let longest = (node_few d.nodes n valid.nodes lt).0 in
      packet_few r (answered_few o bytes r.address way) (omega arith)

  flow_few : (f : ℕ) → f < length (all_flows d) → length ((network_of d).flow f).address ≤ 32
  unfolding network_of
  flow_few f lt =
      let here = some_at (all_flows d) f lt in
      let is = All-at (IsFlow d.nodes) (all_flows d) f here.0 here.1 (valid_flows d valid).0 in
      rw here.1 is.address

  is_flow : (f : ℕ) → f < (network_of d).declared_flows → f < length (all_flows d)
  unfolding network_of
  is_flow f lt = let more = (are_networks d valid).flows_declared in omega arith

  form_few : (f : ℕ) (cargo : List ℕ) (end : End) → IsDeclared (network_of d) f cargo → length (form (network_of d) f 0 cargo end) ≤ 67108864
  form_few f cargo end declared =
      let address = ((network_of d).flow f).address in
      let few = flow_few f (is_flow f declared.declared) in
      let within = declared.within in
      let whole = length-append (map Data (drop 0 address)) (map Data cargo ++ marker_of end ∷ []) in
      let behind = length-append (map Data cargo) (marker_of end ∷ []) in
      let bytes = length-map (drop 0 address) Data in
      let cargo_len = length-map cargo Data in
      let none = drop_none address in
      omega arith
    where
      drop_none : (l : List ℕ) → length (drop 0 l) ≡ length l
      drop_none [] = refl
      drop_none (x ∷ l) = refl

  begins_few : BeginsFew (network_of d) 67108864
  begins_few = record { begun = form_few; answered = reply_few }

  -- ---- and so what is undelivered

  slots_few : (n : ℕ) → n < (network_of d).nodes → (network_of d).slots n ≤ 64
  unfolding network_of
  slots_few n lt = (node_few d.nodes n valid.nodes lt).1

  capacity_few : (links : List LinkEntry) (c : ℕ) → All IsLink links → c < length (link_ends links) → slice_index (capacities links) c ≤ 4096
  capacity_few [] c all lt = absurd (omega arith)
  capacity_few (l ∷ ls) zero all lt = (All-head IsLink l ls all).high_b
  capacity_few (l ∷ ls) (suc zero) all lt = (All-head IsLink l ls all).high_a
  capacity_few (l ∷ ls) (suc (suc c)) all lt = capacity_few ls c (All-tail IsLink l ls all) (omega arith)

  room_few : (c : ℕ) → c < (network_of d).channels → (network_of d).capacity c ≤ 4096
  unfolding network_of
  room_few c lt = capacity_few d.links c valid.links lt

  pub few_undelivered : (s : State) → IsReached (network_of d) s → (network_of d).channels ≤ 2048 → (network_of d).nodes ≤ 1024 → undelivered (network_of d) s < 2 ^ 64
  few_undelivered s (steps, run) channels nodes =
      let net = network_of d in
      let at_channels : (c : ℕ) → c < net.channels → length (s.buffer c) + length (s.wire c) ≤ 8192 = λ c lt.
      let e = (reached_numbers net (are_networks d valid) s (steps, run)).at c lt in
      let few = e.few in let fits = e.fits in let equation = e.equation in let room = room_few c lt in
      omega arith
      in
      let at_nodes : (n : ℕ) → n < net.nodes → length (s.to_send n) + length_pending (s.pending n) ≤ 4362076160 = λ n lt.
      let small = sends_few net 67108864 begins_few steps s run n in
      let sending = small.sending in
      let waiting = replies_few (s.pending n) small.waiting in
      let count = few_wait net n steps s (owes net n steps s run) in
      let slots = slots_few n lt in
      omega arith
      in
      let one = total_in_channels (λ c. length (s.buffer c) + length (s.wire c)) net.channels at_channels in
      let other = total_at_nodes (λ n. length (s.to_send n) + length_pending (s.pending n)) net.nodes at_nodes in
      omega arith
