-- Nodes, switches and flows of a network that is built anew, one more.
use Rattle.std.proofs.Common.{◌≡◌, ◌≢◌, ℕ, zero, suc, ◌+◌, ◌<◌, ◌≤◌, Bool, false, List, [], ◌∷◌, ◌++◌, length, map, take, get_or, Some, Option, option_map, AllPairs, inl, inr, refl, sym, ap, ◌∙◌, arith, append-nil}
use Rattle.std.specs.Prelude.{slice_get, option_and_then, None, if◌then◌else◌}
use Rattle.std.specs.List.{list_any}
use Rattle.std.specs.Option.{option_map_or}
use Rattle.std.specs.Str.{bytes_eq}
use Rattle.std.proofs.lemmas.List.{take_more, take-append-le, take-map, length-map}
use Rattle.std.proofs.Math.Seq.{take-append-add}
use Rattle.std.proofs.lemmas.Option.{get_or_from_slice_get, same_Some, slice_get-map, slice_get_cases}
use Rattle.sw_arb.specs.declared.arbitration.Arbitration.{Arbitration}
use Rattle.sw_rmap.specs.declared.config.TargetConfig.{TargetConfig}
use Rattle.sw_route.specs.declared.look.Route.{Route}
use Rattle.sw_config.specs.Entries.{NodeEntry, SwitchEntry, FlowEntry, Declaration, empty, part_names, routes_of, target_of}
use Rattle.sw_config.specs.Limits.{outstanding_of}
use Rattle.sw_mend.specs.Changes.{by_number, flow_after_all, route_after_all, switch_after_all}
use Rattle.sw_mend.specs.declared.change.Change.{Change}
use Rattle.sw_mend.proofs.AfterAll.{flow_added, flow_gone, flow_lost, reply_lost}
use Rattle.sw_mend.proofs.Numbered.{one_more}
use Rattle.sw_mend.proofs.Fresh.{fresh, same_names}
use Rattle.sw_topo.proofs.Lists.{at_front}

pub at_back : {A : Type 0} (xs ys : List A) (i k : ℕ) (x : A) → k ≡ length xs + i → slice_get ys i ≡ Some x → slice_get (xs ++ ys) k ≡ Some x
at_back [] ys i k x is here = let same : k ≡ i = omega arith in rw same here
at_back (z ∷ xs) ys i zero x is here = absurd (omega arith)
at_back (z ∷ xs) ys i (suc k) x is here = at_back xs ys i k x (omega arith) here

-- ---- one more

pub node_more : (nodes : List NodeEntry) (i : ℕ) (name : List ℕ) (target : Option TargetConfig) (outstanding : Option ℕ) → i < length nodes
    → option_map (λ (e : NodeEntry). e.name) (slice_get nodes i) ≡ Some name → target ≡ target_of nodes i → outstanding ≡ outstanding_of nodes i
    → take (i + 1) nodes ≡ take i nodes ++ record { name = name; target = target; outstanding = outstanding } ∷ []
node_more nodes i name target outstanding lt named answers limited =
    elim (slice_get_cases nodes i).1 [
      | inl found ↦
          let n : NodeEntry = found.0 in
          let here : slice_get nodes i ≡ Some n = found.2 in
          let is_name : n.name ≡ name = same_Some n.name name (sym (ap (option_map (λ (e : NodeEntry). e.name)) here) ∙ named) in
          let is_target : n.target ≡ target = sym (answers ∙ ap (option_and_then (λ (e : NodeEntry). e.target)) here) in
          let is_outstanding : n.outstanding ≡ outstanding = sym (limited ∙ ap (option_and_then (λ (e : NodeEntry). e.outstanding)) here) in
          let same : get_or nodes i n ≡ record { name = name; target = target; outstanding = outstanding } =
          get_or_from_slice_get nodes i n n here ∙ (λ k. record { name = is_name k; target = is_target k; outstanding = is_outstanding k }) in
          take_more nodes i n lt ∙ ap (λ z. take i nodes ++ z ∷ []) same
      | inr past ↦ absurd (omega (arith, past.0, lt))
    ]

pub switch_more : (changes : List Change) (switches : List SwitchEntry) (i : ℕ) (name : List ℕ) (arbitration : Arbitration) (routes table : List Route) → i < length switches
    → option_map (λ (e : SwitchEntry). e.name) (slice_get switches i) ≡ Some name
    → option_map (λ (e : SwitchEntry). e.arbitration) (slice_get switches i) ≡ Some arbitration
    → routes ≡ routes_of switches i → table ≡ by_number (route_after_all changes i) 0 routes
    → by_number (switch_after_all changes) 0 (take (i + 1) switches)
    ≡ by_number (switch_after_all changes) 0 (take i switches) ++ record { name = name; arbitration = arbitration; routes = table } ∷ []
switch_more changes switches i name arbitration routes table lt named arbitrates has left =
    elim (slice_get_cases switches i).1 [
      | inl found ↦
          let s : SwitchEntry = found.0 in
          let here : slice_get switches i ≡ Some s = found.2 in
          let is_name : s.name ≡ name = same_Some s.name name (sym (ap (option_map (λ (e : SwitchEntry). e.name)) here) ∙ named) in
          let is_arbitration : s.arbitration ≡ arbitration =
          same_Some s.arbitration arbitration (sym (ap (option_map (λ (e : SwitchEntry). e.arbitration)) here) ∙ arbitrates) in
          let is_routes : routes ≡ s.routes = has ∙ ap (λ o. option_map_or (λ (e : SwitchEntry). e.routes) o []) here in
          let is_table : by_number (route_after_all changes i) 0 s.routes ≡ table = sym (left ∙ ap (by_number (route_after_all changes i) 0) is_routes) in
          let same : switch_after_all changes i s ≡ record { name = name; arbitration = arbitration; routes = table } ∷ [] =
          λ k. record { name = is_name k; arbitration = is_arbitration k; routes = is_table k } ∷ [] in
          one_more (switch_after_all changes) i switches s here ∙ ap (λ l. by_number (switch_after_all changes) 0 (take i switches) ++ l) same
      | inr past ↦ absurd (omega (arith, past.0, lt))
    ]

-- of a network that is built anew
pub flow_more : (changes : List Change) (flows : List FlowEntry) (i : ℕ) (f : FlowEntry) (old after : Declaration) → slice_get flows i ≡ Some f
    → old.flows ≡ by_number (flow_after_all changes) 0 (take i flows) → after ≡ record old { flows = old.flows ++ flow_after_all changes i f }
    → after ≡ record old { flows = by_number (flow_after_all changes) 0 (take (i + 1) flows) }
flow_more changes flows i f old after here before more =
    let eq : old.flows ++ flow_after_all changes i f ≡ by_number (flow_after_all changes) 0 (take (i + 1) flows) =
    ap (λ l. l ++ flow_after_all changes i f) before ∙ sym (one_more (flow_after_all changes) i flows f here) in
    more ∙ ap (λ (l : List FlowEntry). record old { flows = l }) eq

-- the declaration after a flow that is gone, and after one that is kept
pub flow_passed : (changes : List Change) (flows : List FlowEntry) (i : ℕ) (f : FlowEntry) (first old : Declaration) (told : Option Bool) → slice_get flows i ≡ Some f
    → told ≡ (if flow_lost changes i f then None else Some (reply_lost changes i f)) → told ≡ None
    → old ≡ record first { flows = by_number (flow_after_all changes) 0 (take i flows) } → old ≡ record first { flows = by_number (flow_after_all changes) 0 (take (i + 1) flows) }
flow_passed changes flows i f first old told here is none before =
    flow_more changes flows i f old old here (ap (λ (e : Declaration). e.flows) before) (ap (λ (l : List FlowEntry). record old { flows = l }) (flow_gone changes i f old.flows told is none))
    ∙ ap (λ (e : Declaration). record e { flows = by_number (flow_after_all changes) 0 (take (i + 1) flows) }) before

pub flow_built : (changes : List Change) (flows : List FlowEntry) (i : ℕ) (f kept : FlowEntry) (first old new : Declaration) (told : Option Bool) (silent : Bool)
    → slice_get flows i ≡ Some f → told ≡ (if flow_lost changes i f then None else Some (reply_lost changes i f)) → told ≡ Some silent
    → kept ≡ record f { reply = if silent then None else f.reply } → old ≡ record first { flows = by_number (flow_after_all changes) 0 (take i flows) }
    → new ≡ record old { flows = old.flows ++ kept ∷ [] } → new ≡ record first { flows = by_number (flow_after_all changes) 0 (take (i + 1) flows) }
flow_built changes flows i f kept first old new told silent here is some same before more =
    flow_more changes flows i f old new here (ap (λ (e : Declaration). e.flows) before)
    (more ∙ ap (λ (l : List FlowEntry). record old { flows = l }) (flow_added changes i f kept old.flows told silent is some same))
    ∙ ap (λ (e : Declaration). record e { flows = by_number (flow_after_all changes) 0 (take (i + 1) flows) }) before

-- ---- new names

names : List NodeEntry → List (List ℕ)
names nodes = map (λ (n : NodeEntry). n.name) nodes

switch_names : List SwitchEntry → List (List ℕ)
switch_names switches = map (λ (s : SwitchEntry). s.name) switches

pub fresh_node : (d now : Declaration) (i : ℕ) (name : List ℕ) → AllPairs (λ x y. x ≢ y) (part_names d) → i < length d.nodes
    → option_map (λ (e : NodeEntry). e.name) (slice_get d.nodes i) ≡ Some name → now ≡ record empty { nodes = take i d.nodes }
    → list_any (bytes_eq name) (part_names now) ≡ false
unfolding names switch_names
fresh_node d now i name apart lt named is =
    let at : slice_get (part_names d) i ≡ Some name = at_front (names d.nodes) (switch_names d.switches) i name (slice_get-map (λ (n : NodeEntry). n.name) d.nodes i ∙ named) in
    let size : i ≤ length (names d.nodes) = omega (arith, length-map d.nodes (λ (n : NodeEntry). n.name)) in
    let cut : take i (part_names d) ≡ names (take i d.nodes) =
    take-append-le i (names d.nodes) (switch_names d.switches) size ∙ take-map (λ (n : NodeEntry). n.name) i d.nodes in
    ap (λ (e : Declaration). list_any (bytes_eq name) (part_names e)) is ∙ ap (list_any (bytes_eq name)) (append-nil (names (take i d.nodes)) ∙ sym cut)
    ∙ fresh (part_names d) i name apart at

pub fresh_switch : (changes : List Change) (d now : Declaration) (i : ℕ) (name : List ℕ) → AllPairs (λ x y. x ≢ y) (part_names d) → i < length d.switches
    → option_map (λ (e : SwitchEntry). e.name) (slice_get d.switches i) ≡ Some name
    → now ≡ record empty { nodes = d.nodes; switches = by_number (switch_after_all changes) 0 (take i d.switches) }
    → list_any (bytes_eq name) (part_names now) ≡ false
unfolding names switch_names
fresh_switch changes d now i name apart lt named is =
    let k : ℕ = length (names d.nodes) + i in
    let at : slice_get (part_names d) k ≡ Some name =
    at_back (names d.nodes) (switch_names d.switches) i k name refl (slice_get-map (λ (s : SwitchEntry). s.name) d.switches i ∙ named) in
    let cut : take k (part_names d) ≡ names d.nodes ++ switch_names (take i d.switches) =
    take-append-add (names d.nodes) (switch_names d.switches) i ∙ ap (λ l. names d.nodes ++ l) (take-map (λ (s : SwitchEntry). s.name) i d.switches) in
    let there : part_names now ≡ take k (part_names d) =
    ap part_names is ∙ ap (λ l. names d.nodes ++ l) (same_names changes 0 (take i d.switches)) ∙ sym cut in
    ap (list_any (bytes_eq name)) there ∙ fresh (part_names d) k name apart at

-- ---- the declaration after one more

pub node_built : (nodes : List NodeEntry) (i : ℕ) (name : List ℕ) (target : Option TargetConfig) (outstanding : Option ℕ) (old new : Declaration) → i < length nodes
    → option_map (λ (e : NodeEntry). e.name) (slice_get nodes i) ≡ Some name → target ≡ target_of nodes i → outstanding ≡ outstanding_of nodes i → old ≡ record empty { nodes = take i nodes }
    → new ≡ record old { nodes = old.nodes ++ record { name = name; target = target; outstanding = outstanding } ∷ [] } → new ≡ record empty { nodes = take (i + 1) nodes }
node_built nodes i name target outstanding old new lt named answers limited before more =
    more ∙ ap (λ (e : Declaration). record e { nodes = e.nodes ++ record { name = name; target = target; outstanding = outstanding } ∷ [] }) before
    ∙ ap (λ (l : List NodeEntry). record empty { nodes = l }) (sym (node_more nodes i name target outstanding lt named answers limited))

pub switch_built : (changes : List Change) (nodes : List NodeEntry) (switches : List SwitchEntry) (i : ℕ) (name : List ℕ) (arbitration : Arbitration) (routes table : List Route)
    (old new : Declaration) → i < length switches
    → option_map (λ (e : SwitchEntry). e.name) (slice_get switches i) ≡ Some name
    → option_map (λ (e : SwitchEntry). e.arbitration) (slice_get switches i) ≡ Some arbitration
    → routes ≡ routes_of switches i → table ≡ by_number (route_after_all changes i) 0 routes
    → old ≡ record empty { nodes = nodes; switches = by_number (switch_after_all changes) 0 (take i switches) }
    → new ≡ record old { switches = old.switches ++ record { name = name; arbitration = arbitration; routes = table } ∷ [] }
    → new ≡ record empty { nodes = nodes; switches = by_number (switch_after_all changes) 0 (take (i + 1) switches) }
switch_built changes nodes switches i name arbitration routes table old new lt named arbitrates has left before more =
    more ∙ ap (λ (e : Declaration). record e { switches = e.switches ++ record { name = name; arbitration = arbitration; routes = table } ∷ [] }) before
    ∙ ap (λ (l : List SwitchEntry). record empty { nodes = nodes; switches = l }) (sym (switch_more changes switches i name arbitration routes table lt named arbitrates has left))
