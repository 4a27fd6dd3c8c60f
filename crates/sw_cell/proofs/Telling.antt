-- Whether a step is possible, by what the code tests.
use Rattle.std.proofs.Common.{◌≡◌, ◌↔◌, ℕ, ◌<◌, Bool, true, false, List, length, Some, None, [], ◌∷◌, IsTrue, refl, ap, subst, sym, ◌∙◌, arith}
use Rattle.std.proofs.lemmas.Bool.{false≢true, lt-ltb, ltb-true}
use Rattle.std.specs.Prelude.{nat_lt, slice_get}
use Rattle.sw_cell.proofs.Dropping as dropping
use Rattle.sw_cell.proofs.Granting as granting
use Rattle.sw_cell.proofs.Nodes as nodes
use Rattle.sw_cell.proofs.Nodes.{AnswersAs}
use Rattle.sw_cell.proofs.Passing as passing
use Rattle.sw_cell.proofs.Passing.{some_first}
use Rattle.sw_cell.proofs.Switches as switches
use Rattle.sw_cell.specs.Makes.{NodeMakes}
use Rattle.sw_cell.specs.Possible.{NodeTells, SwitchTells, step_at_port}
use Rattle.sw_cell.specs.declared.switch.PortStep.{PortStep}
use Rattle.sw_cell.specs.declared.switch.PortStep.TheVariants as at_port
use Rattle.sw_cell.specs.SwitchParts.{IsSwitchFor, IsSwitchState, SwitchMakes}
use Rattle.sw_char.specs.declared.nchar.End.{End}
use Rattle.sw_char.specs.declared.nchar.NChar.{NChar}
use Rattle.sw_flow.specs.Places.{end_of, ends_of}
use Rattle.sw_machine.specs.Network.{IsDeclared, IsNetwork, Network}
use Rattle.sw_machine.specs.State.{State}
use Rattle.sw_machine.specs.Steps.{Accept, Arrive, Begin, Drop, Emit, Fct, FctIn, Forward, Grant, IsPossible, Reply, Spill, Step}
use Rattle.sw_machine.specs.Model.{network_of}
use Rattle.sw_config.specs.Entries.{Declaration, wiring_of}
use Rattle.sw_node.specs.Conditions.{CanAccept, CanBegin, CanEmit, CanIssue, CanReply}
use Rattle.sw_node.specs.Node.{Node}
use Rattle.sw_route.specs.declared.look.Look.{Look}
use Rattle.sw_switch.specs.Cell.{Cell, end_at, input_at}
use Rattle.sw_switch.specs.Conditions as ports
use Rattle.sw_switch.specs.declared.input.Input.{Input as PortInput}
use Rattle.sw_switch.specs.declared.input.Input.TheVariants.{Held, Idle, Spilling}
use Rattle.sw_topo.proofs.Ends.{partner_back, port_starts}
use Rattle.sw_topo.specs.Wiring.{out_of, partner}
use Rattle.sw_topo.specs.declared.place.PlaceEnd.TheVariants.{Switch}
use Rattle.sw_link.specs.Between.{Between, fcts_at, wire_at}

-- a call that makes a step tells that it was possible
node_made : (net : Network) (n : ℕ) (node after : Node) (b c : Between) (step : Step) → NodeMakes net n node b step true after c → NodeTells net n node b step true
node_made net n node after b c step made s is = let t = made s is in (t.0, t.1)

switch_made : {R A : Type 0} (d : Declaration) (w : ℕ) (cell after : Cell R A) (b c : Between) (step : Step) → SwitchMakes d w cell b step true after c → SwitchTells d w cell b step true
switch_made d w cell after b c step made s is = let t = made s is in (t.0, t.1)

-- a test of a count tells whether there is any
pub any_tells : (count x : ℕ) → count ≡ x → IsTrue (nat_lt 0 count) ↔ (0 < x)
any_tells count x is = (λ yes. subst (λ k. 0 < k) is (ltb-true 0 count yes), λ some. lt-ltb 0 count (subst (λ k. 0 < k) (sym is) some))

-- the front of a list, if there is one
no_first : (l : List NChar) → (0 < length l → ⊥) → slice_get l 0 ≡ None
no_first [] never = refl
no_first (x ∷ l) never = absurd (never (omega arith))

module _ (net : Network) (ok : IsNetwork net) (n : ℕ) (in_net : n < net.nodes) (node : Node) (b : Between) where
  pub fct : (v : Bool) → net.capacity (net.into n) ≡ node.received.capacity → (IsTrue v ↔ CanIssue node) → NodeTells net n node b (Fct (net.into n)) v
  fct true capacity can = node_made net n node _ b _ (Fct (net.into n)) (nodes.fct_made net ok n in_net node b capacity (can.0 refl))
  fct false capacity can = (nodes.fct_not net ok n in_net node b capacity (λ h. false≢true (can.1 h))).0

  pub fct_in : (v : Bool) → (IsTrue v ↔ (0 < fcts_at b (net.out n))) → NodeTells net n node b (FctIn (net.out n)) v
  fct_in true some = node_made net n node _ b _ (FctIn (net.out n)) (nodes.fct_in_made net ok n in_net node b (some.0 refl))
  fct_in false some = (nodes.fct_in_not net ok n in_net node b (let never = λ (h : 0 < fcts_at b (net.out n)). false≢true (some.1 h) in omega arith)).0

  pub arrive : (v : Bool) → (IsTrue v ↔ (0 < length (wire_at b (net.into n)))) → NodeTells net n node b (Arrive (net.into n)) v
  arrive true some = let front = some_first (wire_at b (net.into n)) (some.0 refl) in node_made net n node _ b _ (Arrive (net.into n)) (nodes.arrive_made net ok n in_net node b front.0 front.1)
  arrive false some = (nodes.arrive_not net ok n in_net node b (no_first (wire_at b (net.into n)) (λ h. false≢true (some.1 h)))).0

  pub emit : (v : Bool) → (IsTrue v ↔ CanEmit node) → NodeTells net n node b (Emit n) v
  emit true can = let yes = can.0 refl in let front = some_first node.to_send yes.sending in node_made net n node _ b _ (Emit n) (nodes.emit_made net ok n in_net node b front.0 yes front.1)
  emit false can = (nodes.emit_not net ok n in_net node b (λ h. false≢true (can.1 h))).0

  pub accept : (v : Bool) → AnswersAs net n node → (IsTrue v ↔ CanAccept node) → NodeTells net n node b (Accept n) v
  accept true same can = node_made net n node _ b _ (Accept n) (nodes.accept_made net n in_net node b same (can.0 refl))
  accept false same can = (nodes.accept_not net n in_net node b same (λ h. false≢true (can.1 h))).0

  pub reply : (v : Bool) → (IsTrue v ↔ CanReply node) → NodeTells net n node b (Reply n) v
  reply true can = node_made net n node _ b _ (Reply n) (nodes.reply_made net n in_net node b (can.0 refl))
  reply false can = (nodes.reply_not net n in_net node b (λ h. false≢true (can.1 h))).0

module _ (net : Network) (n : ℕ) (in_net : n < net.nodes) (node : Node) (b : Between) where
  pub begin : (v : Bool) (f : ℕ) (cargo : List ℕ) (end : End) → IsDeclared net f cargo → (net.flow f).from ≡ n → (IsTrue v ↔ CanBegin node) → NodeTells net n node b (Begin f cargo end) v
  begin true f cargo end declared from can = node_made net n node _ b _ (Begin f cargo end) (nodes.begin_made net n in_net node b f cargo end declared from (can.0 refl))
  begin false f cargo end declared from can = (nodes.begin_not net n in_net node b f cargo end from (λ h. false≢true (can.1 h))).0

-- an input whose output has credit holds that output
held_of : {R A : Type 0} (cell : Cell R A) (i : PortInput) → ports.HasCredit cell i → (out : ℕ) × (i ≡ Held out)
held_of cell Idle some = absurd some
held_of cell (Held out) some = (out, refl)
held_of cell Spilling some = absurd some

module _ {R A : Type 0} (answer : R → ℕ → Look) (arbiter_ports : A → ℕ) (d : Declaration) (w : ℕ) (cell : Cell R A) (for : IsSwitchFor answer arbiter_ports d w cell) (b : Between) (c p : ℕ) where
  pub port_fct : (v : Bool) → end_of d c ≡ Some (Switch w p) → (IsTrue v ↔ ports.CanIssue cell p) → SwitchTells d w cell b (Fct c) v
  port_fct true at can = switch_made d w cell _ b _ (Fct c) (switches.fct_made answer arbiter_ports d w cell for b c p at (can.0 refl))
  port_fct false at can = (switches.fct_not answer arbiter_ports d w cell for b c p at (λ h. false≢true (can.1 h))).0

  pub port_fct_in : (v : Bool) → slice_get (ends_of d) c ≡ Some (Switch w p) → (IsTrue v ↔ (0 < fcts_at b c)) → SwitchTells d w cell b (FctIn c) v
  port_fct_in true at some = switch_made d w cell _ b _ (FctIn c) (switches.fct_in_made answer arbiter_ports d w cell for b c p at (some.0 refl))
  port_fct_in false at some = (switches.fct_in_not answer arbiter_ports d w cell for b c p at (let never = λ (h : 0 < fcts_at b c). false≢true (some.1 h) in omega arith)).0

  pub port_arrive : (v : Bool) → end_of d c ≡ Some (Switch w p) → (IsTrue v ↔ (0 < length (wire_at b c))) → SwitchTells d w cell b (Arrive c) v
  port_arrive true at some = let front = some_first (wire_at b c) (some.0 refl) in switch_made d w cell _ b _ (Arrive c) (switches.arrive_made answer arbiter_ports d w cell for b c p front.0 at front.1)
  port_arrive false at some = (switches.arrive_not answer arbiter_ports d w cell for b c p at (no_first (wire_at b c) (λ h. false≢true (some.1 h)))).0

  pub port_drop : (v : Bool) → end_of d c ≡ Some (Switch w p) → (IsTrue v ↔ ports.CanDrop answer cell p) → SwitchTells d w cell b (Drop c) v
  port_drop true at can = switch_made d w cell _ b _ (Drop c) (dropping.drop_made answer arbiter_ports d w cell for b c p at (can.0 refl))
  port_drop false at can = (dropping.drop_not answer arbiter_ports d w cell for b c p at (λ h. false≢true (can.1 h))).0

  pub port_forward : (v : Bool) → end_of d c ≡ Some (Switch w p) → (IsTrue v ↔ ports.CanForward cell p) → SwitchTells d w cell b (Forward c) v
  port_forward true at can =
      let yes = can.0 refl in
      let held = held_of cell (input_at cell p) yes.has_credit in
      let goes = passing.some_of (out_of (ends_of d) w held.0) (for.held p held.0 held.1).1 in
      let front = some_first (end_at cell p).buffer yes.not_empty in
      switch_made d w cell _ b _ (Forward c) (passing.forward_made answer arbiter_ports d w cell for b c p goes.0 held.0 front.0 at held.1 goes.1 yes front.1)
  port_forward false at can = (passing.forward_not answer arbiter_ports d w cell for b c p at (λ h. false≢true (can.1 h))).0

  pub port_spill : (v : Bool) → end_of d c ≡ Some (Switch w p) → (IsTrue v ↔ ports.CanSpill cell p) → SwitchTells d w cell b (Spill c) v
  port_spill true at can = switch_made d w cell _ b _ (Spill c) (passing.spill_made answer arbiter_ports d w cell for b c p at (can.0 refl))
  port_spill false at can = (passing.spill_not answer arbiter_ports d w cell for b c p at (λ h. false≢true (can.1 h))).0

  pub port_grant : (v : Bool) (o out : ℕ) → end_of d c ≡ Some (Switch w p) → slice_get (ends_of d) o ≡ Some (Switch w out) → (IsTrue v ↔ ports.CanGrant answer cell out p) → SwitchTells d w cell b (Grant o c) v
  port_grant true o out at at_o can = switch_made d w cell _ b _ (Grant o c) (granting.grant_made answer arbiter_ports d w cell for b c p o out at at_o (can.0 refl))
  port_grant false o out at at_o can = (granting.grant_not answer arbiter_ports d w cell for b c p o out at at_o (λ h. false≢true (can.1 h))).0

module _ {R A : Type 0} (answer : R → ℕ → Look) (arbiter_ports : A → ℕ) (d : Declaration) (w : ℕ) (cell : Cell R A) (for : IsSwitchFor answer arbiter_ports d w cell) where
  -- an output that is asked for can be granted
  pub some_grant : (o out : ℕ) → slice_get (ends_of d) o ≡ Some (Switch w out) → (p : ℕ) → ports.CanGrant answer cell out p → (b : Between) (s : State) → IsSwitchState d w cell b s → (c : ℕ) × IsPossible (network_of d) s (Grant o c)
  some_grant o out at_o p can b s is =
      let back = passing.some_of (out_of (ends_of d) w p) ((for.linked p).0 can.asks.linked) in
      let at : end_of d (partner back.0) ≡ Some (Switch w p) = ap (slice_get (ends_of d)) (partner_back back.0) ∙ port_starts (wiring_of d) w p back.0 back.1 in
      let t = granting.grant_made answer arbiter_ports d w cell for b (partner back.0) p o out at at_o can s is in
      (partner back.0, (t.0, t.1))

-- none of the six steps of a link end, apart from grants
pub none_of_six : {R A : Type 0} (d : Declaration) (w : ℕ) (cell : Cell R A) (b : Between) (e : ℕ)
    → SwitchTells d w cell b (Fct (partner e)) false → SwitchTells d w cell b (FctIn e) false → SwitchTells d w cell b (Arrive (partner e)) false
    → SwitchTells d w cell b (Drop (partner e)) false → SwitchTells d w cell b (Forward (partner e)) false → SwitchTells d w cell b (Spill (partner e)) false
    → (step : PortStep) → SwitchTells d w cell b (step_at_port e step) false
none_of_six d w cell b e fct fct_in arrive drops forward spill at_port.Fct = fct
none_of_six d w cell b e fct fct_in arrive drops forward spill at_port.FctIn = fct_in
none_of_six d w cell b e fct fct_in arrive drops forward spill at_port.Arrive = arrive
none_of_six d w cell b e fct fct_in arrive drops forward spill at_port.DropFront = drops
none_of_six d w cell b e fct fct_in arrive drops forward spill at_port.Forward = forward
none_of_six d w cell b e fct fct_in arrive drops forward spill at_port.Spill = spill
