-- The machine's channels of a declared network, and the nodes and switches that they join.
use Rattle.std.proofs.Common.{◌≡◌, ℕ, zero, suc, ◌<◌, ◌≤◌, List, [], ◌∷◌, length, Some, refl, sym, ap, ◌∙◌, arith, All, Contains}
use Rattle.std.specs.Prelude.{slice_get, slice_index, option_map, unwrap_or}
use Rattle.std.proofs.lemmas.Option.{slice_get_within}
use Rattle.std.proofs.lemmas.List.Elements.{All-head, All-tail}
use Rattle.sw_flow.specs.PlaceEnd.{PlaceEnd}
use Rattle.sw_flow.specs.PlaceEnd.TheVariants.{Node, Switch}
use Rattle.sw_flow.specs.Wiring.{Wiring, out, partner}
use Rattle.sw_flow.specs.Checked.{IsIn, IsSound}
use Rattle.sw_flow.specs.TopologyLaws.{StartsAt}
use Rattle.sw_flow.proofs.Ends.{node_only, partner_back, port_starts}
use Rattle.sw_flow.specs.Look.{Look}
use Rattle.sw_flow.specs.Entries.{LinkEntry, link_ends, capacities}
use Rattle.sw_flow.specs.Valid.{IsLink}
use Rattle.sw_flow.proofs.Flows.{All-at}
use Rattle.sw_flow.specs.Numbers.{outputs}
use Rattle.sw_flow.proofs.Outputs.{outputs_are}
use Rattle.sw_machine.specs.Network.{AtNode, AtSwitch}
use Rattle.sw_machine.specs.Model.{cell_of}
use Rattle.sw_machine.proofs.Flows.{some_at}

pub room : (links : List LinkEntry) (c : ℕ) → All IsLink links → c < length (link_ends links) → 8 ≤ slice_index (capacities links) c
room [] c all lt = absurd (omega arith)
room (l ∷ ls) zero all lt = (All-head IsLink l ls all).low_b
room (l ∷ ls) (suc zero) all lt = (All-head IsLink l ls all).low_a
room (l ∷ ls) (suc (suc c)) all lt = room ls c (All-tail IsLink l ls all) (omega arith)

pub cell_node : (e : PlaceEnd) (n : ℕ) → cell_of (Some e) ≡ AtNode n → e ≡ Node n
cell_node (Node m) n h = let same : m ≡ n = cc in ap Node same
cell_node (Switch s p) n h = absurd cc

module _ (w : Wiring) (sound : IsSound w) where
  pub partner_within : (c : ℕ) → c < length w.ends → partner c < length w.ends
  partner_within c lt = let even = sound.wiring.paired in grind arith

  node_in : (c n : ℕ) → StartsAt w c (Node n) → n < w.nodes
  node_in c n starts = All-at (IsIn w.nodes w.switches) w.ends c (Node n) starts sound.wiring.inside

  -- a channel that starts at a node is the one that does
  first_at : (c n : ℕ) → StartsAt w c (Node n) → out w.ends n ≡ Some c
  first_at c n starts =
      let only = node_only w sound n (node_in c n starts) in
      only.1.first ∙ ap Some (sym (only.1.starts.alone c starts))

  pub starts_at_node : (c n : ℕ) → c < length w.ends → cell_of (slice_get w.ends c) ≡ AtNode n → (n < w.nodes) × (unwrap_or (out w.ends n) 0 ≡ c)
  starts_at_node c n lt h =
      let here = some_at w.ends c lt in
      let starts : StartsAt w c (Node n) = here.1 ∙ ap Some (cell_node here.0 n (rw here.1 at h)) in
      (node_in c n starts, rw (first_at c n starts) refl)

  pub ends_at_node : (c n : ℕ) → c < length w.ends → cell_of (slice_get w.ends (partner c)) ≡ AtNode n → (n < w.nodes) × (unwrap_or (option_map partner (out w.ends n)) 0 ≡ c)
  ends_at_node c n lt h =
      let here = some_at w.ends (partner c) (partner_within c lt) in
      let starts : StartsAt w (partner c) (Node n) = here.1 ∙ ap Some (cell_node here.0 n (rw here.1 at h)) in
      (node_in (partner c) n starts, rw (first_at (partner c) n starts) (partner_back c))

  pub out_starts : (n : ℕ) → n < w.nodes → (unwrap_or (out w.ends n) 0 < length w.ends) × (cell_of (slice_get w.ends (unwrap_or (out w.ends n) 0)) ≡ AtNode n)
  out_starts n lt =
      let only = node_only w sound n lt in
      let starts = only.1.starts.here in
      rw only.1.first (slice_get_within w.ends only.0 (Node n) starts, ap cell_of starts)

  pub into_ends : (n : ℕ) → n < w.nodes
      → (unwrap_or (option_map partner (out w.ends n)) 0 < length w.ends) × (cell_of (slice_get w.ends (partner (unwrap_or (option_map partner (out w.ends n)) 0))) ≡ AtNode n)
  into_ends n lt =
      let only = node_only w sound n lt in
      rw only.1.first (partner_within only.0 (slice_get_within w.ends only.0 (Node n) only.1.starts.here), ap cell_of only.1.ends.here)

  pub look_starts : (s : ℕ) (look : Look) (c : ℕ) → Contains (outputs w.ends s look) c → (c < length w.ends) × (cell_of (slice_get w.ends c) ≡ AtSwitch s)
  look_starts s look c h =
      let named = (outputs_are w.ends s look c).0 h in
      let starts = port_starts w s named.port c named.linked in
      (slice_get_within w.ends c (Switch s named.port) starts, ap cell_of starts)
