-- A step of one cell, on the whole network.
use mathlib.Core.Logic.{∥∥₁_map}
use Rattle.std.proofs.Common.{ℕ, Bool, Err, List, Some, [], ◌∷◌, ap, arith, false, get_or, length, length-set, refl, set, subst, suc, sym, true, zero, ◌<◌, ◌≡◌, ◌≢◌, ◌∙◌, ⊎_elim}
use Rattle.std.proofs.lemmas.Bool.{cases_eq}
use Rattle.std.proofs.lemmas.Option.{same_Some, slice_get-get_or, slice_get_within}
use Rattle.std.specs.Prelude.{Ok, OnErr, Result, slice_get}
use Rattle.sw_cell.specs.Answers.{Answers, done}
use Rattle.sw_cell.specs.Places.{HasNamed, IsAt, IsDoneAt, IsUndeclared}
use Rattle.sw_cell.specs.declared.cell.CellId.TheVariants as place
use Rattle.sw_cell.specs.declared.fault.NetFault.{NetFault}
use Rattle.sw_cell.specs.declared.fault.NetFault.TheVariants.{Memory, NotEnabled, NotInFlow}
use Rattle.sw_cell.proofs.Network.{nodes_are}
use Rattle.sw_cell.specs.Makes.{HasNodeState, NodeMakes}
use Rattle.sw_cell.specs.Parts.{IsNodeFor, IsNodePart, IsNodeState}
use Rattle.sw_cell.specs.SwitchParts.{HasSwitchState, IsSwitchFor, IsSwitchPart, IsSwitchState, SwitchMakes}
use Rattle.sw_machine.proofs.Parts.{changes}
use Rattle.sw_machine.proofs.Wormhole.{held_once}
use Rattle.sw_machine.specs.Network.{AtNode, AtSwitch, Cell as Place}
use Rattle.sw_machine.specs.Parts.{SamePart, cell_of}
use Rattle.sw_machine.specs.Runs.{IsReached}
use Rattle.sw_machine.specs.State.{State}
use Rattle.sw_machine.specs.Steps.{Accept, Arrive, Begin, Drop, Emit, Fct, FctIn, Forward, Grant, Leads, Reply, Spill, Step}
use Rattle.sw_machine.proofs.DeclaredNetworks.{are_networks}
use Rattle.sw_machine.specs.Model.{network_of}
use Rattle.sw_net.proofs.Others.{node_stays, switch_stays}
use Rattle.sw_net.specs.Net.{IsNet, IsNetState, NetAnswers, NetView, net_of}
use Rattle.sw_config.specs.Entries.{Declaration}
use Rattle.sw_node.specs.Node.{Node}
use Rattle.sw_route.specs.declared.look.Look.{Look}
use Rattle.sw_switch.specs.Cell.{Cell}
use Rattle.sw_link.specs.Between.{Between}

-- ---- lists

module _ {X : Type 0} where
  pub get_set_same : (l : List X) (n : ℕ) (x : X) → n < length l → slice_get (set l n x) n ≡ Some x
  get_set_same [] n x lt = absurd (omega arith)
  get_set_same (y ∷ l) zero x lt = refl
  get_set_same (y ∷ l) (suc n) x lt = get_set_same l n x (omega arith)

  pub get_set_other : (l : List X) (n m : ℕ) (x : X) → (m ≡ n → ⊥) → slice_get (set l n x) m ≡ slice_get l m
  get_set_other [] n m x ne = refl
  get_set_other (y ∷ l) zero zero x ne = absurd (ne refl)
  get_set_other (y ∷ l) zero (suc m) x ne = refl
  get_set_other (y ∷ l) (suc n) zero x ne = refl
  get_set_other (y ∷ l) (suc n) (suc m) x ne = get_set_other l n m x (λ e. ne (ap suc e))

  pub set_same : (l : List X) (n : ℕ) (x : X) → slice_get l n ≡ Some x → set l n x ≡ l
  set_same [] n x e = refl
  set_same (y ∷ l) zero x e = ap (λ z. z ∷ l) (sym (same_Some y x e))
  set_same (y ∷ l) (suc n) x e = ap (λ k. y ∷ k) (set_same l n x e)

  -- what holds of each element holds of each after one was changed
  pub each_set : (P : ℕ → X → Type 0) (l : List X) (n : ℕ) (x : X) → n < length l → P n x → ((m : ℕ) (y : X) → (m ≡ n → ⊥) → slice_get l m ≡ Some y → P m y) → (m : ℕ) (y : X) → slice_get (set l n x) m ≡ Some y → P m y
  each_set P l n x lt here others m y at = ⊎_elim
      (λ e.
      let same : x ≡ y = same_Some x y (sym (get_set_same l n x lt) ∙ subst (λ k. slice_get (set l n x) k ≡ Some y) e at) in
      subst (λ k. P k y) (sym e) (subst (λ z. P n z) same here))
      (λ ne. others m y ne (sym (get_set_other l n m x ne) ∙ at))
      (cases_eq m n)

-- ---- answers

pub is_declared : (d : Declaration) (step : Step) → HasNamed (network_of d) step → IsUndeclared (network_of d) step → ⊥
is_declared d (Fct c) named not = not
is_declared d (FctIn c) named not = not
is_declared d (Arrive c) named not = not
is_declared d (Grant o c) named not = not
is_declared d (Drop c) named not = not
is_declared d (Forward c) named not = not
is_declared d (Spill c) named not = not
is_declared d (Begin f cargo end) named not = not named
is_declared d (Emit n) named not = not
is_declared d (Accept n) named not = not
is_declared d (Reply n) named not = not

abbrev NodeAnswers : Declaration → ℕ → Node → Between → Step → Result Unit NetFault → Node → Between → Type 0
NodeAnswers d n node b step result after c = Answers (network_of d) (IsNodeState (network_of d) n node b) step result (IsNodeState (network_of d) n after c)

-- what came of a step of node n, where there was memory
module _ (d : Declaration) (n : ℕ) (node : Node) (b : Between) (step : Step) (after : Node) (c : Between) where
  pub node_done : (made : Bool) → HasNamed (network_of d) step → NodeMakes (network_of d) n node b step made after c → NodeAnswers d n node b step (done made) after c
  node_done true named made = made
  node_done false named made = (is_declared d step named, made.0)

  pub node_done_cell : (made : Bool) → NodeMakes (network_of d) n node b step made after c → OnErr (done made) (after ≡ node)
  node_done_cell true made = tt
  node_done_cell false made = made.1

  pub node_done_between : (made : Bool) → NodeMakes (network_of d) n node b step made after c → OnErr (done made) (c ≡ b)
  node_done_between true made = tt
  node_done_between false made = made.2

module _ {R A : Type 0} (answer : R → ℕ → Look) (ports : A → ℕ) (d : Declaration) (nodes : List Node) (switches : List (Cell R A)) (b : Between) (is : IsNet answer ports (net_of d nodes switches b)) (step : Step) where
  stays : (s t : State) → IsReached (network_of d) s → Leads (network_of d) s step t → (place : Place) → place ≢ cell_of (network_of d) step → SamePart (network_of d) place s t
  stays s t r h place ne = let ok = are_networks d is.valid in changes (network_of d) ok s (held_once (network_of d) ok s r) step t h place ne

  in_net : (n : ℕ) (node : Node) → slice_get nodes n ≡ Some node → n < (network_of d).nodes
  in_net n node at = let lt = slice_get_within nodes n node at in let e = nodes_are d in let all = is.all_nodes in omega arith

  -- ---- a step of node n

  module _ (n : ℕ) (node : Node) (at : slice_get nodes n ≡ Some node) where
    pub node_state : (s : State) → IsNetState (net_of d nodes switches b) s → IsNodeState (network_of d) n node b s
    node_state s k = record { reached = k.reached; part = k.nodes n node at; between = k.between }

    pub has_node : HasNodeState (network_of d) n node b
    has_node = ∥∥₁_map is.reached (λ k. (k.0, node_state k.0 k.1))

    pub same_node : (after : Node) (c : Between) → after ≡ node → c ≡ b → net_of d (set nodes n after) switches c ≡ net_of d nodes switches b
    same_node after c e f = ap (λ k. net_of d (set nodes n k) switches c) e ∙ ap (λ l. net_of d l switches c) (set_same nodes n node at) ∙ ap (net_of d nodes switches) f

    module _ (here : cell_of (network_of d) step ≡ AtNode n) where
      pub node_leads : (after : Node) (c : Between) → NodeMakes (network_of d) n node b step true after c → (s : State) → IsNetState (net_of d nodes switches b) s
          → (t : State) × Leads (network_of d) s step t × IsNetState (net_of d (set nodes n after) switches c) t
      node_leads after c made s k =
          let net = network_of d in
          let r = made s (node_state s k) in
          let t = r.0 in
          let other = λ (m : ℕ) (ne : m ≡ n → ⊥) (e : AtNode m ≡ cell_of net step). (let f : AtNode m ≡ AtNode n = e ∙ here in ne (cc)) in
          let switch = λ (w : ℕ) (e : AtSwitch w ≡ cell_of net step). (let f : AtSwitch w ≡ AtNode n = e ∙ here in let bad : ⊥ = cc in bad) in (
            t,
            r.1,
            record {
              reached = (r.2).reached;
              nodes = each_set (λ m x. IsNodePart net m x t) nodes n after (slice_get_within nodes n node at) (r.2).part
                  (λ m x ne at_m. node_stays net (are_networks d is.valid) m (in_net m x at_m) x s t (stays s t k.reached r.1 (AtNode m) (other m ne)) (k.nodes m x at_m));
              switches = λ w cell at_w. switch_stays d is.valid w cell s t (stays s t k.reached r.1 (AtSwitch w) (switch w)) (k.switches w cell at_w);
              between = (r.2).between;
            },
          )

      pub node_net : (result : Result Unit NetFault) (after : Node) (c : Between) → IsNodeFor d n after → NodeAnswers d n node b step result after c → OnErr result (after ≡ node) → OnErr result (c ≡ b)
          → IsNet answer ports (net_of d (set nodes n after) switches c)
      node_net (Ok done) after c for made cell between = record {
        valid = is.valid;
        all_nodes = length-set nodes n after ∙ is.all_nodes;
        all_switches = is.all_switches;
        nodes = each_set (IsNodeFor d) nodes n after (slice_get_within nodes n node at) for (λ m x ne at_m. is.nodes m x at_m);
        switches = is.switches;
        reached = ∥∥₁_map is.reached (λ k. let r = node_leads after c made k.0 k.1 in (r.0, r.2));
      }
      node_net (Err fault) after c for made cell between = subst (IsNet answer ports) (sym (same_node after c cell between)) is

      pub node_answers : (result : Result Unit NetFault) (after : Node) (c : Between) → NodeAnswers d n node b step result after c
          → Answers (network_of d) (IsNetState (net_of d nodes switches b)) step result (IsNetState (net_of d (set nodes n after) switches c))
      node_answers (Ok done) after c made = λ s k. node_leads after c made s k
      node_answers (Err NotInFlow) after c made = made
      node_answers (Err NotEnabled) after c made = (made.0, λ s k p. made.1 s (node_state s k) p)
      node_answers (Err Memory) after c made = (made.0, λ s k. made.1 s (node_state s k))

    pub node_refused : (result : Result Unit NetFault) (after : Node) (c : Between) → OnErr result (after ≡ node) → OnErr result (c ≡ b) → OnErr result (net_of d (set nodes n after) switches c ≡ net_of d nodes switches b)
    node_refused (Ok done) after c cell between = tt
    node_refused (Err fault) after c cell between = same_node after c cell between

  -- ---- a step of switch w

  module _ (w : ℕ) (cell : Cell R A) (at : slice_get switches w ≡ Some cell) where
    pub switch_state : (s : State) → IsNetState (net_of d nodes switches b) s → IsSwitchState d w cell b s
    switch_state s k = record { reached = k.reached; part = k.switches w cell at; between = k.between }

    pub has_switch : HasSwitchState d w cell b
    has_switch = ∥∥₁_map is.reached (λ k. (k.0, switch_state k.0 k.1))

    pub same_switch : (after : Cell R A) (c : Between) → after ≡ cell → c ≡ b → net_of d nodes (set switches w after) c ≡ net_of d nodes switches b
    same_switch after c e f = ap (λ k. net_of d nodes (set switches w k) c) e ∙ ap (λ l. net_of d nodes l c) (set_same switches w cell at) ∙ ap (net_of d nodes switches) f

    module _ (here : cell_of (network_of d) step ≡ AtSwitch w) where
      pub switch_leads : (after : Cell R A) (c : Between) → SwitchMakes d w cell b step true after c → (s : State) → IsNetState (net_of d nodes switches b) s
          → (t : State) × Leads (network_of d) s step t × IsNetState (net_of d nodes (set switches w after) c) t
      switch_leads after c made s k =
          let net = network_of d in
          let r = made s (switch_state s k) in
          let t = r.0 in
          let other = λ (m : ℕ) (ne : m ≡ w → ⊥) (e : AtSwitch m ≡ cell_of net step). (let f : AtSwitch m ≡ AtSwitch w = e ∙ here in ne (cc)) in
          let node = λ (n : ℕ) (e : AtNode n ≡ cell_of net step). (let f : AtNode n ≡ AtSwitch w = e ∙ here in let bad : ⊥ = cc in bad) in (
            t,
            r.1,
            record {
              reached = (r.2).reached;
              nodes = λ m x at_m. node_stays net (are_networks d is.valid) m (in_net m x at_m) x s t (stays s t k.reached r.1 (AtNode m) (node m)) (k.nodes m x at_m);
              switches = each_set (λ m x. IsSwitchPart d m x t) switches w after (slice_get_within switches w cell at) (r.2).part
                  (λ m x ne at_m. switch_stays d is.valid m x s t (stays s t k.reached r.1 (AtSwitch m) (other m ne)) (k.switches m x at_m));
              between = (r.2).between;
            },
          )

      pub switch_net : (made : Bool) (after : Cell R A) (c : Between) → IsSwitchFor answer ports d w after → SwitchMakes d w cell b step made after c → IsNet answer ports (net_of d nodes (set switches w after) c)
      switch_net true after c for made = record {
        valid = is.valid;
        all_nodes = is.all_nodes;
        all_switches = length-set switches w after ∙ is.all_switches;
        nodes = is.nodes;
        switches = each_set (IsSwitchFor answer ports d) switches w after (slice_get_within switches w cell at) for (λ m x ne at_m. is.switches m x at_m);
        reached = ∥∥₁_map is.reached (λ k. let r = switch_leads after c made k.0 k.1 in (r.0, r.2));
      }
      switch_net false after c for made = subst (IsNet answer ports) (sym (same_switch after c made.1 made.2)) is

      pub switch_answers : (made : Bool) (after : Cell R A) (c : Between) → HasNamed (network_of d) step → SwitchMakes d w cell b step made after c
          → Answers (network_of d) (IsNetState (net_of d nodes switches b)) step (done made) (IsNetState (net_of d nodes (set switches w after) c))
      switch_answers true after c named made = λ s k. switch_leads after c made s k
      switch_answers false after c named made = (is_declared d step named, λ s k p. made.0 s (switch_state s k) p)

    pub switch_refused : (made : Bool) (after : Cell R A) (c : Between) → SwitchMakes d w cell b step made after c → OnErr (done made) (net_of d nodes (set switches w after) c ≡ net_of d nodes switches b)
    switch_refused true after c made = tt
    switch_refused false after c made = same_switch after c made.1 made.2

-- ---- the cell that the code finds

module _ {R A : Type 0} (answer : R → ℕ → Look) (ports : A → ℕ) (v w : NetView R A) (same : v ≡ w) (is : IsNet answer ports v) where
  pub node_within : (n : ℕ) → n < length w.declared.nodes → n < length v.nodes
  node_within n lt = let count = ap (λ (k : NetView R A). length k.declared.nodes) same in let all = is.all_nodes in omega arith

  pub switch_within : (n : ℕ) → n < length w.declared.switches → n < length v.switches
  switch_within n lt = let count = ap (λ (k : NetView R A). length k.declared.switches) same in let all = is.all_switches in omega arith

  pub node_read : (n : ℕ) (x : Node) → n < length w.declared.nodes → x ≡ get_or v.nodes n x → slice_get w.nodes n ≡ Some x
  node_read n x lt e = subst (λ (k : NetView R A). slice_get k.nodes n ≡ Some x) same (slice_get-get_or v.nodes n x (node_within n lt) ∙ ap Some (sym e))

  pub switch_read : (n : ℕ) (x : Cell R A) → n < length w.declared.switches → x ≡ get_or v.switches n x → slice_get w.switches n ≡ Some x
  switch_read n x lt e = subst (λ (k : NetView R A). slice_get k.switches n ≡ Some x) same (slice_get-get_or v.switches n x (switch_within n lt) ∙ ap Some (sym e))

module _ {R A : Type 0} (answer : R → ℕ → Look) (ports : A → ℕ) (v w : NetView R A) (same : v ≡ w) (is : IsNet answer ports v) (step : Step) where
  pub node_is_at : (n : ℕ) → IsAt w.declared step (place.Node n) → IsAt v.declared step (place.Node n)
  node_is_at n h = subst (λ (k : NetView R A). IsAt k.declared step (place.Node n)) (sym same) h

  pub node_found : (n : ℕ) (x : Node) → IsAt w.declared step (place.Node n) → x ≡ get_or v.nodes n x → slice_get v.nodes n ≡ Some x
  node_found n x h e = let inside = (node_is_at n h).inside in let all = is.all_nodes in slice_get-get_or v.nodes n x (omega arith) ∙ ap Some (sym e)

  pub switch_is_at : (n : ℕ) → IsAt w.declared step (place.Switch n) → IsAt v.declared step (place.Switch n)
  switch_is_at n h = subst (λ (k : NetView R A). IsAt k.declared step (place.Switch n)) (sym same) h

  pub switch_found : (n : ℕ) (x : Cell R A) → IsAt w.declared step (place.Switch n) → x ≡ get_or v.switches n x → slice_get v.switches n ≡ Some x
  switch_found n x h e = let inside = (switch_is_at n h).inside in let all = is.all_switches in slice_get-get_or v.switches n x (omega arith) ∙ ap Some (sym e)

-- a step that is nowhere possible
pub nowhere : {R A : Type 0} (v : NetView R A) (after : NetView R A) (step : Step) (fault : NetFault) → IsDoneAt v.declared step (Err fault) → NetAnswers v step (Err fault) after
nowhere v after step NotInFlow h = h
nowhere v after step NotEnabled h = (h.0, λ s is p. h.1 s p)
nowhere v after step Memory h = absurd h
