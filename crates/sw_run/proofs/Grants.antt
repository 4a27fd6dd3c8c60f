-- Grants by arbiters.
use Rattle.atomic_table.specs.Seated.{TableId}
use Rattle.std.proofs.Common.{Bool, Err, IsBitSet, IsSome, List, None, Ok, Option, Result, Some, ap, false, length, refl, subst, sym, true, ℕ, ◌<◌, ◌∙◌, ◌≡◌}
use Rattle.std.proofs.lemmas.Bool.{false≢true}
use Rattle.std.specs.Prelude.{IfSome, IsTrue, option_map, slice_get, ◌↔◌}
use Rattle.sw_arb.specs.declared.policy.Policy.{Policy}
use Rattle.sw_cell.proofs.Switches.{ends_at, one_end, port_small}
use Rattle.sw_cell.specs.Places.{machine_cell}
use Rattle.sw_cell.specs.declared.cell.CellId.{CellId}
use Rattle.sw_config.proofs.Flows.{All-at}
use Rattle.sw_config.specs.Entries.{Declaration, wiring_of}
use Rattle.sw_config.specs.Valid.{IsValid}
use Rattle.sw_flow.specs.Places.{end_of, ends_of}
use Rattle.sw_journal.specs.Choices.{IsNext, IsStepOf}
use Rattle.sw_journal.specs.Record.{CanCommit, CellView, Commits, JournalView, with_step}
use Rattle.sw_journal.specs.declared.fault.JournalFault.{JournalFault}
use Rattle.sw_journal.specs.declared.fault.JournalFault.TheVariants.{Full, Memory, NotEnabled}
use Rattle.sw_load.specs.Load.{LoadEntry}
use Rattle.sw_machine.specs.Network.{AtSwitch}
use Rattle.sw_machine.specs.Parts.{link_end_of}
use Rattle.sw_machine.specs.Steps as steps
use Rattle.sw_machine.specs.Model.{network_of}
use Rattle.sw_machine.specs.StepValues.{machine_move}
use Rattle.sw_machine.specs.declared.step.Move.{Move}
use Rattle.sw_machine.specs.declared.step.Move.TheVariants as codes
use Rattle.sw_journal.specs.NetAsking.{IsInput}
use Rattle.sw_journal.specs.Numbers.{Numbers}
use Rattle.sw_run.specs.Arbiters.{HasArbiters, PicksAt}
use Rattle.sw_run.specs.Grants.{Advances, AreAskers, Grants, HasMoved, IsDecided, IsOutputOf, IsPicked, Takes, is_grant, turn_of}
use Rattle.sw_run.specs.declared.turn.Turn.{Turn}
use Rattle.sw_run.specs.declared.turn.Turn.TheVariants.{Idle, Moved, Over, Sent}
use Rattle.sw_topo.proofs.Ends.{partner_back, port_found, port_starts}
use Rattle.sw_topo.specs.Checked.{IsIn}
use Rattle.sw_topo.specs.Wiring.{Wiring, out_of, partner}
use Rattle.sw_topo.specs.declared.place.Chan.{Chan}
use Rattle.sw_topo.specs.declared.place.PlaceEnd.{PlaceEnd}
use Rattle.sw_topo.specs.declared.place.PlaceEnd.TheVariants.{Node, Switch}
use Rattle.sw_flow.proofs.Walked.{no_port}

same_switch : (w v p q : ℕ) → Some (Switch w p) ≡ Some (Switch v q) → v ≡ w
same_switch w v p q e = cc

some_of_found : (o : Option ℕ) (c : ℕ) → o ≡ Some c → IsSome o
some_of_found o c e = rw e refl

module _ (j : JournalView) (valid : IsValid j.declared) (e w out asking : ℕ) (starts : slice_get (ends_of j.declared) e ≡ Some (Switch w out)) (ask : AreAskers j e asking) where
  -- an input that asks is one of the switch's
  at_port : (port c : ℕ) → IsInput j.declared e port c → end_of j.declared c ≡ Some (Switch w port)
  at_port port c is = is.ends ∙ ap (λ k. Some (Switch k port)) (same_switch w is.switch out is.output (sym starts ∙ is.starts))

  pub linked : (port : ℕ) → IsBitSet asking port → (port < 32) × IsSome (out_of (ends_of j.declared) w port)
  linked port asks =
      let is = ask.asks port asks in
      let at = at_port port is.0 is.1 in (
        port_small j.declared valid (partner is.0) w port at,
        some_of_found (out_of (ends_of j.declared) w port) (partner is.0) (port_found (wiring_of j.declared) valid.sound w port (partner is.0) at),
      )

  -- the channel that comes to the port
  pub comes_to : (port back : ℕ) → out_of (ends_of j.declared) w port ≡ Some back → end_of j.declared (partner back) ≡ Some (Switch w port)
  comes_to port back goes = ap (slice_get (ends_of j.declared)) (partner_back back) ∙ port_starts (wiring_of j.declared) w port back goes

  -- is the one to whose input the output may be granted
  next : (port back : ℕ) → IsBitSet asking port → out_of (ends_of j.declared) w port ≡ Some back → IsNext j (steps.Grant e (partner back))
  next port back asks goes =
      let is = ask.asks port asks in
      let one : is.0 ≡ partner back = one_end j.declared valid (partner back) is.0 w port (comes_to port back goes) (at_port port is.0 is.1) in
      subst (λ c. IsNext j (steps.Grant e c)) one is.2

  pub can_commit : (id : CellId) (port back : ℕ) → machine_cell id ≡ AtSwitch w → IsBitSet asking port → out_of (ends_of j.declared) w port ≡ Some back → CanCommit j id (steps.Grant e (partner back))
  can_commit id port back at asks goes = (ends_at j.declared (partner back) w port (comes_to port back goes) ∙ sym at, next port back asks goes)

  pub is_picked : (arbiters after : List Policy) (port back : ℕ) → out_of (ends_of j.declared) w port ≡ Some back → PicksAt arbiters out asking port after → IsPicked j arbiters e (partner back) after
  is_picked arbiters after port back goes picks =
      record { asking = asking; ask = ask; port = port; input = record { switch = w; output = out; starts = starts; ends = comes_to port back goes }; picks = picks }

-- where a link end stands, as the network's topology tells
pub starts_at : (t : Wiring) (n d : Declaration) (e c : ℕ) (place : PlaceEnd) → t ≡ wiring_of n → n ≡ d → c ≡ e → slice_get t.ends c ≡ Some place → slice_get (ends_of d) e ≡ Some place
starts_at t n d e c place wiring same one at =
    subst (λ k. slice_get (ends_of d) k ≡ Some place) one (subst (λ (x : Declaration). slice_get (ends_of x) c ≡ Some place) same (subst (λ (x : Wiring). slice_get x.ends c ≡ Some place) wiring at))

-- a switch that a link end stands at is one of the network's
pub switch_inside : (d : Declaration) → IsValid d → (c w p : ℕ) → slice_get (ends_of d) c ≡ Some (Switch w p) → w < length d.switches
switch_inside d valid c w p starts = (All-at (IsIn (length d.nodes) (length d.switches)) (ends_of d) c (Switch w p) starts valid.sound.wiring.inside).0

pub granted : (j k : JournalView) (id : CellId) (arbiters picked after : List Policy) (e c : ℕ) (turn : Turn) → Takes j id (steps.Grant e c) turn k → CanCommit j id (steps.Grant e c)
    → IsPicked j arbiters e c picked → after ≡ picked → (length j.history ≡ j.limit → ⊥) → Grants j id arbiters e turn k after
granted j k id arbiters picked after e c Moved takes can is same room = record { channel = c; next = can.1; made = takes.1; picked = subst (IsPicked j arbiters e c) (sym same) is }
granted j k id arbiters picked after e c (Sent at) takes can is same room = record { channel = c; next = can.1; made = takes.1; picked = subst (IsPicked j arbiters e c) (sym same) is }
granted j k id arbiters picked after e c Idle takes can is same room = absurd (takes.0 can)
granted j k id arbiters picked after e c Over takes can is same room = (takes, λ full. absurd (room full))

-- ---- where nothing is granted

no_bit : (port : ℕ) → IsBitSet 0 port → ⊥
no_bit port set = set refl

module _ (j : JournalView) (id : CellId) (arbiters : List Policy) (e : ℕ) where
  no_askers : ((w out : ℕ) → slice_get (ends_of j.declared) e ≡ Some (Switch w out) → machine_cell id ≡ AtSwitch w → ⊥) → IsOutputOf j.declared id e → AreAskers j e 0
  no_askers elsewhere output = record {
    asks = λ port set. absurd (no_bit port set);
    no_others = λ port c is unset. absurd (elsewhere is.switch is.output is.starts (output is.switch is.output is.starts));
  }

  -- the link end stands at a node
  pub grants_at_node : (n : ℕ) → slice_get (ends_of j.declared) e ≡ Some (Node n) → Grants j id arbiters e Idle j arbiters
  grants_at_node n starts = (no_askers (λ w out is at. absurd (no_port n w out (sym starts ∙ is))), refl, refl)

  -- the link end stands at another switch
  pub grants_elsewhere : (v p : ℕ) → slice_get (ends_of j.declared) e ≡ Some (Switch v p) → (machine_cell id ≡ AtSwitch v → ⊥) → Grants j id arbiters e Idle j arbiters
  grants_elsewhere v p starts other = (no_askers (λ w out is at. other (at ∙ ap AtSwitch (same_switch v w p out (sym starts ∙ is)))), refl, refl)

pub fails : {P : Type 0} (test : Bool) → test ≡ false → IsTrue test ↔ P → P → ⊥
fails test failed is p = false≢true (sym failed ∙ is.1 p)

pub holds : {P : Type 0} (test : Bool) → test ≡ true → IsTrue test ↔ P → P
holds test held is = is.0 held

pub grants_none : (j : JournalView) (id : CellId) (arbiters : List Policy) (e asking : ℕ) → asking ≡ 0 → AreAskers j e asking → Grants j id arbiters e Idle j arbiters
grants_none j id arbiters e asking none ask = (λ output. subst (AreAskers j e) none ask, refl, refl)

pub grants_full : (j : JournalView) (id : CellId) (arbiters : List Policy) (e : ℕ) → Grants j id arbiters e Over j arbiters
grants_full j id arbiters e = (refl, λ full. refl)

-- ---- what a commit answers

module _ (j k : JournalView) (cell after : CellView) (step : steps.Step) where
  pub takes : (made : Result Unit JournalFault) (sent : Option ℕ) (turn : Turn) → turn ≡ turn_of made sent → Commits j cell step made k after → Takes j cell.id step turn k
  takes made sent turn is c = subst (λ t. Takes j cell.id step t k) (sym is) (by_answer made sent c)
    where
      by_answer : (made : Result Unit JournalFault) (sent : Option ℕ) → Commits j cell step made k after → Takes j cell.id step (turn_of made sent) k
      by_answer (Ok done) None c = (c.0, c.2)
      by_answer (Ok done) (Some at) c = (c.0, c.2)
      by_answer (Err NotEnabled) sent c = (c.0, c.1)
      by_answer (Err Full) sent c = c.2
      by_answer (Err Memory) sent c = c.2

  pub same_id : (made : Result Unit JournalFault) → Commits j cell step made k after → after.id ≡ cell.id
  same_id (Ok done) c = c.3.id
  same_id (Err NotEnabled) c = ap (λ (v : CellView). v.id) c.2
  same_id (Err Full) c = ap (λ (v : CellView). v.id) c.3
  same_id (Err Memory) c = ap (λ (v : CellView). v.id) c.3

  pub same_name : (made : Result Unit JournalFault) → Commits j cell step made k after → after.name ≡ cell.name
  same_name (Ok done) c = c.3.name
  same_name (Err NotEnabled) c = ap (λ (v : CellView). v.name) c.2
  same_name (Err Full) c = ap (λ (v : CellView). v.name) c.3
  same_name (Err Memory) c = ap (λ (v : CellView). v.name) c.3

  pub keeps_arbiters : (made : Result Unit JournalFault) (d : Declaration) (arbiters : List Policy) → Commits j cell step made k after → HasArbiters d cell.id arbiters → HasArbiters d after.id arbiters
  keeps_arbiters made d arbiters c has = subst (λ id. HasArbiters d id arbiters) (sym (same_id made c)) has

  -- the journal is still that of the run
  abbrev IsOf : TableId → Declaration → List LoadEntry → ℕ → JournalView → Type 0
  IsOf name d load limit v = (v.name ≡ name) × (v.declared ≡ d) × (v.load ≡ load) × (v.limit ≡ limit)

  pub same_run : (made : Result Unit JournalFault) (name : TableId) (d : Declaration) (load : List LoadEntry) (limit : ℕ) → Commits j cell step made k after → IsOf name d load limit j → IsOf name d load limit k
  same_run (Ok done) name d load limit c is = subst (IsOf name d load limit) (sym c.2) is
  same_run (Err NotEnabled) name d load limit c is = subst (IsOf name d load limit) (sym c.1) is
  same_run (Err Full) name d load limit c is = subst (IsOf name d load limit) (sym c.2) is
  same_run (Err Memory) name d load limit c is = subst (IsOf name d load limit) (sym c.2) is

same_history : (j k : JournalView) → k ≡ j → k.history ≡ j.history
same_history j k e = ap (λ (v : JournalView). v.history) e

pub by_grant : (j k : JournalView) (id : CellId) (arbiters after : List Policy) (e : ℕ) (turn : Turn) → Grants j id arbiters e turn k after → Advances j arbiters e turn k after
by_grant j k id arbiters after e Moved g = record { step = steps.Grant e g.channel; of_end = record { belongs = refl; next = g.next }; made = g.made; decided = g.picked }
by_grant j k id arbiters after e (Sent at) g = record { step = steps.Grant e g.channel; of_end = record { belongs = refl; next = g.next }; made = g.made; decided = g.picked }
by_grant j k id arbiters after e Idle g = (same_history j k g.1, g.2)
by_grant j k id arbiters after e Over g = same_history j k g.0

no_grant : (j : JournalView) (arbiters after : List Policy) (step : steps.Step) → is_grant step ≡ false → after ≡ arbiters → IsDecided j arbiters step after
no_grant j arbiters after (steps.Fct c) plain same = same
no_grant j arbiters after (steps.FctIn c) plain same = same
no_grant j arbiters after (steps.Arrive c) plain same = same
no_grant j arbiters after (steps.Grant e c) plain same = absurd cc
no_grant j arbiters after (steps.Drop c) plain same = same
no_grant j arbiters after (steps.Forward c) plain same = same
no_grant j arbiters after (steps.Spill c) plain same = same
no_grant j arbiters after (steps.Begin flow cargo end) plain same = same
no_grant j arbiters after (steps.Emit n) plain same = same
no_grant j arbiters after (steps.Accept n) plain same = same
no_grant j arbiters after (steps.Reply n) plain same = same

module _ (j k : JournalView) (id : CellId) (arbiters after : List Policy) (e : ℕ) (step : steps.Step) (of_end : link_end_of (network_of j.declared) step ≡ e) (plain : is_grant step ≡ false) (same : after ≡ arbiters) where
  moved : CanCommit j id step → k ≡ with_step j step → HasMoved j arbiters e k after
  moved can made = record { step = step; of_end = record { belongs = of_end; next = can.1 }; made = made; decided = no_grant j arbiters after step plain same }

  pub by_step : (turn : Turn) → Takes j id step turn k → Advances j arbiters e turn k after
  by_step Moved takes = moved takes.0 takes.1
  by_step (Sent at) takes = moved takes.0 takes.1
  by_step Idle takes = (same_history j k takes.1, same)
  by_step Over takes = same_history j k takes

-- what the link end at a place does, told of each that stands there
pub at_place : (j k : JournalView) (arbiters after : List Policy) (o : Option (ℕ × Numbers)) (end : ℕ) (turn : Turn) → option_map (λ (p : ℕ × Numbers). p.0) o ≡ Some end
    → Advances j arbiters end turn k after → (e : ℕ) → IfSome o (λ p. p.0 ≡ e) → Advances j arbiters e turn k after
at_place j k arbiters after None end turn is advances e at = absurd cc
at_place j k arbiters after (Some p) end turn is advances e at =
    let one : p.0 ≡ end = cc in
    subst (λ n. Advances j arbiters n turn k after) (sym one ∙ at) advances

-- ---- what a link end does by the step that was chosen for it

pub plain_step : (step : Move) → ((output input : Chan) → step ≡ codes.Grant output input → ⊥) → is_grant (machine_move step) ≡ false
plain_step (codes.Grant output input) other = absurd (other output input refl)
plain_step step other = refl

module _ (j chosen k : JournalView) (id : CellId) (arbiters after : List Policy) (e : ℕ) (turn : Turn) (same : chosen ≡ j) where
  pub by_choice : (step : steps.Step) → IsStepOf j e step → is_grant step ≡ false → after ≡ arbiters → Takes chosen id step turn k → Advances j arbiters e turn k after
  by_choice step is plain kept takes = by_step j k id arbiters after e step is.belongs plain kept turn (subst (λ x. Takes x id step turn k) same takes)

  pub by_arbiter : Grants chosen id arbiters e turn k after → Advances j arbiters e turn k after
  by_arbiter grants = by_grant j k id arbiters after e turn (subst (λ x. Grants x id arbiters e turn k after) same grants)
