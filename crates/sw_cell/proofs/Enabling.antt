-- Whether a link end can step, by what the code tests.
use Rattle.std.proofs.Common.{◌≡◌, ◌↔◌, ℕ, ◌<◌, Bool, true, false, length, None, IsTrue, inl, inr, refl, sym, ◌∙◌, ⊎_elim, arith}
use Rattle.sw_cell.proofs.Dropping as dropping
use Rattle.sw_cell.proofs.Granting as granting
use Rattle.sw_cell.proofs.LinkEnds as ends
use Rattle.sw_cell.proofs.Nodes as nodes
use Rattle.sw_cell.proofs.Nodes.{AnswersAs}
use Rattle.sw_cell.proofs.Passing as passing
use Rattle.sw_cell.proofs.Picking as picking
use Rattle.sw_cell.proofs.Switches as switches
use Rattle.sw_cell.proofs.Switches.{PortEnds}
use Rattle.sw_cell.proofs.Telling as telling
use Rattle.sw_cell.specs.Picks.{CannotGrant}
use Rattle.sw_cell.specs.Possible.{CanStepAt, NodeEnabled, PortEnabled, PortHas, step_at_node, step_at_port}
use Rattle.sw_cell.specs.SwitchParts.{IsSwitchFor}
use Rattle.sw_cell.specs.declared.node.NodeStep.{NodeStep}
use Rattle.sw_cell.specs.declared.node.NodeStep.TheVariants as at_node
use Rattle.sw_cell.specs.declared.switch.PortStep.{PortStep}
use Rattle.sw_cell.specs.declared.switch.PortStep.TheVariants as at_port
use Rattle.sw_machine.specs.Network.{AtSwitch, IsNetwork, Network, reverse_of}
use Rattle.sw_machine.specs.State.{State}
use Rattle.sw_machine.specs.Steps.{Accept, Arrive, Drop, Emit, Fct, FctIn, Forward, Grant, IsPossible, Reply, Spill}
use Rattle.sw_machine.proofs.DeclaredNetworks.{are_networks}
use Rattle.sw_machine.specs.Model.{network_of}
use Rattle.sw_config.specs.Entries.{Declaration}
use Rattle.sw_node.specs.Conditions.{CanAccept, CanEmit, CanIssue, CanReply, CanStep}
use Rattle.sw_node.specs.Node.{Node}
use Rattle.sw_route.specs.declared.look.Look.{Look}
use Rattle.sw_switch.specs.Cell.{Cell}
use Rattle.sw_switch.specs.Conditions as ports
use Rattle.sw_topo.proofs.Ends.{partner_back}
use Rattle.sw_topo.specs.Wiring.{partner}
use Rattle.sw_link.specs.Between.{Between, fcts_at, wire_at}

-- the link end of a node
pub into_back : (net : Network) → IsNetwork net → (n : ℕ) → n < net.nodes → reverse_of (net.into n) ≡ net.out n
into_back net ok n in_net =
    let at = ok.into_ends n in_net in
    let back = ok.reversed (net.into n) at.0 in
    sym (ok.starts_at_node (reverse_of (net.into n)) n back.0 (back.1 ∙ at.1)).1

-- a node's step that begins nothing belongs to its link end
pub node_step : (net : Network) → IsNetwork net → (s : State) (n : ℕ) → n < net.nodes → (step : NodeStep) → IsPossible net s (step_at_node net n step) → CanStepAt net s (net.out n)
node_step net ok s n in_net at_node.Fct p = record { step = Fct (net.into n); belongs = into_back net ok n in_net; no_begin = refl; possible = p }
node_step net ok s n in_net at_node.FctIn p = record { step = FctIn (net.out n); belongs = refl; no_begin = refl; possible = p }
node_step net ok s n in_net at_node.Arrive p = record { step = Arrive (net.into n); belongs = into_back net ok n in_net; no_begin = refl; possible = p }
node_step net ok s n in_net at_node.Emit p = record { step = Emit n; belongs = refl; no_begin = refl; possible = p }
node_step net ok s n in_net at_node.Accept p = record { step = Accept n; belongs = refl; no_begin = refl; possible = p }
node_step net ok s n in_net at_node.Reply p = record { step = Reply n; belongs = refl; no_begin = refl; possible = p }

-- a port's step belongs to its link end
pub port_step : (net : Network) (s : State) (e : ℕ) (step : PortStep) → IsPossible net s (step_at_port e step) → CanStepAt net s e
port_step net s e at_port.Fct p = record { step = Fct (partner e); belongs = partner_back e; no_begin = refl; possible = p }
port_step net s e at_port.FctIn p = record { step = FctIn e; belongs = refl; no_begin = refl; possible = p }
port_step net s e at_port.Arrive p = record { step = Arrive (partner e); belongs = partner_back e; no_begin = refl; possible = p }
port_step net s e at_port.DropFront p = record { step = Drop (partner e); belongs = partner_back e; no_begin = refl; possible = p }
port_step net s e at_port.Forward p = record { step = Forward (partner e); belongs = partner_back e; no_begin = refl; possible = p }
port_step net s e at_port.Spill p = record { step = Spill (partner e); belongs = partner_back e; no_begin = refl; possible = p }

-- so does a grant of its output
pub grant_step : (net : Network) (s : State) (e c : ℕ) → IsPossible net s (Grant e c) → CanStepAt net s e
grant_step net s e c p = record { step = Grant e c; belongs = refl; no_begin = refl; possible = p }

-- what a test tells where it passed
passed : {P : Type 0} → P → IsTrue true ↔ P
passed p = (λ e. p, λ h. refl)

module _ (net : Network) (ok : IsNetwork net) (n : ℕ) (in_net : n < net.nodes) (node : Node) (b : Between) (capacity : net.capacity (net.into n) ≡ node.received.capacity) (same : AnswersAs net n node) where
  pub cell_can : CanStep node → NodeEnabled net n node b true
  cell_can can s is = ⊎_elim
      (λ (h : CanIssue node). record { step = Fct (net.into n); belongs = into_back net ok n in_net; no_begin = refl; possible = telling.fct net ok n in_net node b true capacity (passed h) s is })
      (λ rest. ⊎_elim
      (λ (h : CanEmit node). record { step = Emit n; belongs = refl; no_begin = refl; possible = telling.emit net ok n in_net node b true (passed h) s is })
      (λ last. ⊎_elim
      (λ (h : CanAccept node). record { step = Accept n; belongs = refl; no_begin = refl; possible = telling.accept net ok n in_net node b true same (passed h) s is })
      (λ (h : CanReply node). record { step = Reply n; belongs = refl; no_begin = refl; possible = telling.reply net ok n in_net node b true (passed h) s is })
      last)
      rest)
      can

  pub fct_can : 0 < fcts_at b (net.out n) → NodeEnabled net n node b true
  fct_can some s is = record { step = FctIn (net.out n); belongs = refl; no_begin = refl; possible = telling.fct_in net ok n in_net node b true (passed some) s is }

  -- nothing else is possible where no character comes
  pub character_tells : (v : Bool) → (CanStep node → ⊥) → (0 < fcts_at b (net.out n) → ⊥) → (IsTrue v ↔ (0 < length (wire_at b (net.into n)))) → NodeEnabled net n node b v
  character_tells true never none some = λ s is. record { step = Arrive (net.into n); belongs = into_back net ok n in_net; no_begin = refl; possible = telling.arrive net ok n in_net node b true some s is }
  character_tells false never none some = λ s is. ends.none_at_node net ok s is.reached n in_net (record {
    fct = (nodes.fct_not net ok n in_net node b capacity (λ h. never (inl h))).0 s is;
    fct_in = (nodes.fct_in_not net ok n in_net node b (omega arith)).0 s is;
    arrive = telling.arrive net ok n in_net node b false some s is;
    emit = (nodes.emit_not net ok n in_net node b (λ h. never (inr (inl h)))).0 s is;
    accept = (nodes.accept_not net n in_net node b same (λ h. never (inr (inr (inl h))))).0 s is;
    reply = (nodes.reply_not net n in_net node b (λ h. never (inr (inr (inr h))))).0 s is;
  })

module _ {R A : Type 0} (answer : R → ℕ → Look) (arbiter_ports : A → ℕ) (d : Declaration) (w : ℕ) (cell : Cell R A) (for : IsSwitchFor answer arbiter_ports d w cell) (b : Between) (e p : ℕ) (at : PortEnds d w p e) where
  pub port_can : ports.CanStep answer cell p → PortEnabled d w cell b e true
  port_can can s is = ⊎_elim
      (λ (h : ports.CanIssue cell p). record { step = Fct (partner e); belongs = partner_back e; no_begin = refl; possible = telling.port_fct answer arbiter_ports d w cell for b (partner e) p true at.ends (passed h) s is })
      (λ more. ⊎_elim
      (λ (h : ports.CanDrop answer cell p). record { step = Drop (partner e); belongs = partner_back e; no_begin = refl; possible = telling.port_drop answer arbiter_ports d w cell for b (partner e) p true at.ends (passed h) s is })
      (λ rest. ⊎_elim
      (λ (h : ports.CanForward cell p). record { step = Forward (partner e); belongs = partner_back e; no_begin = refl; possible = telling.port_forward answer arbiter_ports d w cell for b (partner e) p true at.ends (passed h) s is })
      (λ last. ⊎_elim
      (λ (h : ports.CanSpill cell p). record { step = Spill (partner e); belongs = partner_back e; no_begin = refl; possible = telling.port_spill answer arbiter_ports d w cell for b (partner e) p true at.ends (passed h) s is })
      (λ (h : (input : ℕ) × ports.CanGrant answer cell p input).
      let g = telling.some_grant answer arbiter_ports d w cell for e p at.starts h.0 h.1 b s is in
      record { step = Grant e g.0; belongs = refl; no_begin = refl; possible = g.1 })
      last)
      rest)
      more)
      can

  pub port_fct_can : 0 < fcts_at b e → PortEnabled d w cell b e true
  port_fct_can some s is = record { step = FctIn e; belongs = refl; no_begin = refl; possible = telling.port_fct_in answer arbiter_ports d w cell for b e p true at.starts (passed some) s is }

  pub port_character_tells : (v : Bool) → (ports.CanStep answer cell p → ⊥) → (0 < fcts_at b e → ⊥) → (IsTrue v ↔ (0 < length (wire_at b (partner e)))) → PortEnabled d w cell b e v
  port_character_tells true never none some = λ s is. record { step = Arrive (partner e); belongs = partner_back e; no_begin = refl; possible = telling.port_arrive answer arbiter_ports d w cell for b (partner e) p true at.ends some s is }
  port_character_tells false never none some = λ s is. ends.none_at_port (network_of d) (are_networks d for.valid) s is.reached e w (granting.starts_at d e w p at.starts) (record {
    fct = (switches.fct_not answer arbiter_ports d w cell for b (partner e) p at.ends (λ h. never (inl h))).0 s is;
    fct_in = (switches.fct_in_not answer arbiter_ports d w cell for b e p at.starts (omega arith)).0 s is;
    arrive = telling.port_arrive answer arbiter_ports d w cell for b (partner e) p false at.ends some s is;
    drops = (dropping.drop_not answer arbiter_ports d w cell for b (partner e) p at.ends (λ h. never (inr (inl h)))).0 s is;
    forward = (passing.forward_not answer arbiter_ports d w cell for b (partner e) p at.ends (λ h. never (inr (inr (inl h))))).0 s is;
    spill = (passing.spill_not answer arbiter_ports d w cell for b (partner e) p at.ends (λ h. never (inr (inr (inr (inl h)))))).0 s is;
    grant = λ c. picking.none_picked answer arbiter_ports d w cell for e p at.starts (λ k h. never (inr (inr (inr (inr (k, h)))))) c b s is;
  })

-- where no step of a port is possible and no grant of its output, its link end cannot step
pub none_of_port : {R A : Type 0} (answer : R → ℕ → Look) (arbiter_ports : A → ℕ) (d : Declaration) (w : ℕ) (cell : Cell R A) → IsSwitchFor answer arbiter_ports d w cell → (b : Between) (e : ℕ)
    → (network_of d).start_of e ≡ AtSwitch w → PortHas d w cell b e None → CannotGrant d w cell e → PortEnabled d w cell b e false
none_of_port answer arbiter_ports d w cell for b e starts none granted = λ s is. ends.none_at_port (network_of d) (are_networks d for.valid) s is.reached e w starts (record {
  fct = none at_port.Fct s is;
  fct_in = none at_port.FctIn s is;
  arrive = none at_port.Arrive s is;
  drops = none at_port.DropFront s is;
  forward = none at_port.Forward s is;
  spill = none at_port.Spill s is;
  grant = λ c. granted c b s is;
})
