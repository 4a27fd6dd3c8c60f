-- The step of a switch that drops what goes nowhere.
use Rattle.std.proofs.Common.{◌≡◌, ℕ, ◌<◌, true, false, List, [], drop, Option, Some, None, bit_and, refl, ap, sym, subst, ◌∙◌, arith}
use Rattle.sw_cell.proofs.Passing.{input_here, input_other, kept_front, kept_input, rest_at, was_idle, some_of}
use Rattle.sw_cell.proofs.Puts.{front_is, front_of, reached_more}
use Rattle.sw_cell.proofs.Switches.{end_here, end_other, ends_at, port_small, ports_change, within}
use Rattle.sw_cell.specs.SwitchParts.{IsSwitchFor, IsSwitchState, SwitchMakes, input_of}
use Rattle.sw_char.specs.declared.nchar.NChar.{NChar}
use Rattle.sw_char.specs.declared.nchar.NChar.TheVariants.{Data, Eep, Eop}
use Rattle.sw_flow.proofs.Outputs.{outputs_are}
use Rattle.sw_flow.specs.Numbers.{outputs}
use Rattle.sw_flow.specs.Places.{end_of, ends_of}
use Rattle.sw_link.specs.Ends.{Received}
use Rattle.sw_machine.proofs.Lists.{put_here, put_there}
use Rattle.sw_machine.specs.State.{State, after_drop_byte, after_drop_marker}
use Rattle.sw_machine.specs.Steps.{Drop, Drops, Leads}
use Rattle.sw_machine.specs.declared.input.InputState.TheVariants.{Spilling}
use Rattle.sw_machine.specs.Model.{network_of}
use Rattle.sw_config.specs.Entries.{Declaration, look_at, wiring_of}
use Rattle.sw_route.specs.declared.look.Look.{Look}
use Rattle.sw_switch.specs.Cell.{Cell, end_at, front_at, input_at}
use Rattle.sw_switch.specs.Changes.{dropped, with_input, without_front}
use Rattle.sw_switch.specs.Conditions.{CanDrop, IsDropped}
use Rattle.sw_switch.specs.declared.input.Input.TheVariants as ports
use Rattle.sw_topo.proofs.Ends.{port_starts}
use Rattle.sw_topo.proofs.PortBits.{and_members, none_zero, zero_none}
use Rattle.sw_topo.specs.Wiring.{out_of, partner}
use Rattle.sw_topo.specs.declared.place.PlaceEnd.TheVariants.{Switch}
use Rattle.sw_link.specs.Between.{Between}
use Rattle.sw_topo.proofs.Lists.{none_listed}
use Rattle.sw_machine.proofs.Steps.{switch_is}

pub looks_are : (d : Declaration) (w h : ℕ) → (network_of d).look w h ≡ outputs (ends_of d) w (look_at d.switches w h)
unfolding network_of
looks_are d w h = refl

module _ {R A : Type 0} where
  -- what dropping this character leaves
  abbrev pub dropped_by : Cell R A → ℕ → NChar → Cell R A
  dropped_by cell p (Data byte) = with_input cell p ports.Spilling
  dropped_by cell p Eop = without_front cell p
  dropped_by cell p Eep = without_front cell p

  dropped_is : (cell : Cell R A) (p : ℕ) (x : NChar) → front_at cell p ≡ Some x → dropped cell p ≡ dropped_by cell p x
  dropped_is cell p (Data byte) front = rw front refl
  dropped_is cell p Eop front = rw front refl
  dropped_is cell p Eep front = rw front refl

module _ {R A : Type 0} (answer : R → ℕ → Look) (arbiter_ports : A → ℕ) (d : Declaration) (w : ℕ) (cell : Cell R A) (for : IsSwitchFor answer arbiter_ports d w cell) where
  -- a byte names no channel exactly where it names no port with a link
  goes_nowhere : (h : ℕ) → bit_and ((answer cell.routes h).ports) cell.linked ≡ 0 → (network_of d).look w h ≡ []
  goes_nowhere h none =
      let look = look_at d.switches w h in
      let ports_none = subst (λ (l : Look). bit_and l.ports cell.linked ≡ 0) (for.routes h) none in
      looks_are d w h ∙ none_listed (outputs (ends_of d) w look) (λ e c.
      let n = (outputs_are (ends_of d) w look e).0 c in
      let linked = (for.linked n.port).1 (rw n.linked refl) in
      zero_none (bit_and look.ports cell.linked) ports_none n.port (omega arith) ((and_members look.ports cell.linked n.port).1 (n.named, linked)))

  names_nothing : (h : ℕ) → (network_of d).look w h ≡ [] → bit_and ((answer cell.routes h).ports) cell.linked ≡ 0
  names_nothing h none =
      let look = look_at d.switches w h in
      let empty : outputs (ends_of d) w look ≡ [] = sym (looks_are d w h) ∙ none in
      subst (λ (l : Look). bit_and l.ports cell.linked ≡ 0) (sym (for.routes h)) (none_zero (bit_and look.ports cell.linked) (λ k le set.
      let both = (and_members look.ports cell.linked k).0 set in
      let goes = some_of (out_of (ends_of d) w k) ((for.linked k).0 both.1) in
      let lt = port_small d for.valid goes.0 w k (port_starts (wiring_of d) w k goes.0 goes.1) in
      let c = (outputs_are (ends_of d) w look goes.0).1 (record { port = k; is_port = lt; named = both.0; linked = goes.1 }) in
      let bad = (rw empty at c).1 in
      omega arith))

  kept_by : (p : ℕ) (x : NChar) → p < 32 → IsSwitchFor answer arbiter_ports d w (dropped_by cell p x)
  kept_by p (Data byte) lt = kept_input answer arbiter_ports d w cell for p ports.Spilling lt (λ port e. absurd (cc))
  kept_by p Eop lt = kept_front answer arbiter_ports d w cell for p lt
  kept_by p Eep lt = kept_front answer arbiter_ports d w cell for p lt

  front_of_dropped : (p : ℕ) (o : Option NChar) → IsDropped answer cell.routes cell.linked o → (x : NChar) × (o ≡ Some x)
  front_of_dropped p None is = absurd is
  front_of_dropped p (Some x) is = (x, refl)

  pub kept_dropped : (c p : ℕ) → end_of d c ≡ Some (Switch w p) → CanDrop answer cell p → IsSwitchFor answer arbiter_ports d w (dropped cell p)
  kept_dropped c p at can =
      let first = front_of_dropped p (front_at cell p) can.dropped in
      subst (λ (k : Cell R A). IsSwitchFor answer arbiter_ports d w k) (sym (dropped_is cell p first.0 first.1)) (kept_by p first.0 (port_small d for.valid (partner c) w p at))

  module _ (b : Between) where
    marker_by : (c p : ℕ) (x : NChar) (s : State) → end_of d c ≡ Some (Switch w p) → IsSwitchState d w cell b s → (rest : List NChar) → rest ≡ drop 1 (end_at cell p).buffer
        → Leads (network_of d) s (Drop c) (after_drop_marker s c rest) → (t : State) × Leads (network_of d) s (Drop c) t × IsSwitchState d w (without_front cell p) b t
    marker_by c p x s at is rest e h =
        let lp = port_small d for.valid (partner c) w p at in
        let o = is.part.ports c p at in
        let t = after_drop_marker s c rest in
        let r = rest_at answer arbiter_ports d w cell for p in
        let new = end_here answer arbiter_ports d w cell for p r lp in (
          t,
          h,
          record {
            reached = reached_more (network_of d) s t (Drop c) is.reached h;
            part = record {
              credit = is.part.credit;
              ports = ports_change d for.valid w cell (without_front cell p) s t c p at
                  (record { buffer = λ k ne. put_there s.buffer c rest k ne; outstanding = λ k ne. refl; input = λ k ne. refl })
                  (record { end = λ q ne. end_other answer arbiter_ports d w cell for p q r ne; input = λ q ne. refl })
                  (record {
                    buffer = put_here s.buffer c rest ∙ e ∙ sym (ap (λ (x : Received). x.buffer) new);
                    outstanding = o.outstanding ∙ sym (ap (λ (x : Received). x.outstanding) new);
                    input = o.input;
                  })
                  is.part.ports;
            };
            between = record { all_wires = is.between.all_wires; all_fcts = is.between.all_fcts; wire = is.between.wire; fcts = is.between.fcts };
          },
        )

    drop_by : (c p : ℕ) (x : NChar) → end_of d c ≡ Some (Switch w p) → input_at cell p ≡ ports.Idle → IsDropped answer cell.routes cell.linked (Some x) → front_at cell p ≡ Some x → SwitchMakes d w cell b (Drop c) true (dropped_by cell p x) b
    drop_by c p (Data byte) at idle none front s is =
        let net = network_of d in
        let lp = port_small d for.valid (partner c) w p at in
        let o = is.part.ports c p at in
        let t = after_drop_byte s c in
        let h : Leads net s (Drop c) t = record { in_net = within d for.valid c w p at; switch = w; at = ends_at d c w p at; idle = o.input ∙ ap (input_of (ends_of d) w) idle; first = Data byte; rest = drop 1 (end_at cell p).buffer; front = o.buffer ∙ front_is (end_at cell p).buffer (Data byte) front; after = (goes_nowhere byte none, refl) } in
        let new = input_here answer arbiter_ports d w cell for p ports.Spilling lp in (
          t,
          h,
          record {
            reached = reached_more net s t (Drop c) is.reached h;
            part = record {
              credit = is.part.credit;
              ports = ports_change d for.valid w cell (with_input cell p ports.Spilling) s t c p at
                  (record { buffer = λ k ne. refl; outstanding = λ k ne. refl; input = λ k ne. put_there s.input c Spilling k ne })
                  (record { end = λ q ne. refl; input = λ q ne. input_other answer arbiter_ports d w cell for p q ports.Spilling ne })
                  (record { buffer = o.buffer; outstanding = o.outstanding; input = put_here s.input c Spilling ∙ sym (ap (input_of (ends_of d) w) new) })
                  is.part.ports;
            };
            between = record { all_wires = is.between.all_wires; all_fcts = is.between.all_fcts; wire = is.between.wire; fcts = is.between.fcts };
          },
        )
    drop_by c p Eop at idle none front s is =
        let o = is.part.ports c p at in
        let rest = drop 1 (end_at cell p).buffer in
        marker_by c p Eop s at is rest refl (record { in_net = within d for.valid c w p at; switch = w; at = ends_at d c w p at; idle = o.input ∙ ap (input_of (ends_of d) w) idle; first = Eop; rest = rest; front = o.buffer ∙ front_is (end_at cell p).buffer Eop front; after = refl })
    drop_by c p Eep at idle none front s is =
        let o = is.part.ports c p at in
        let rest = drop 1 (end_at cell p).buffer in
        marker_by c p Eep s at is rest refl (record { in_net = within d for.valid c w p at; switch = w; at = ends_at d c w p at; idle = o.input ∙ ap (input_of (ends_of d) w) idle; first = Eep; rest = rest; front = o.buffer ∙ front_is (end_at cell p).buffer Eep front; after = refl })

    pub drop_made : (c p : ℕ) → end_of d c ≡ Some (Switch w p) → CanDrop answer cell p → SwitchMakes d w cell b (Drop c) true (dropped cell p) b
    drop_made c p at can =
        let first = front_of_dropped p (front_at cell p) can.dropped in
        subst (λ (k : Cell R A). SwitchMakes d w cell b (Drop c) true k b) (sym (dropped_is cell p first.0 first.1))
        (drop_by c p first.0 at can.idle (subst (IsDropped answer cell.routes cell.linked) first.1 can.dropped) first.1)

    is_dropped : (s : State) (c v : ℕ) (x : NChar) (rest : List NChar) (t : State) → v ≡ w → Drops (network_of d) s c v x rest t → IsDropped answer cell.routes cell.linked (Some x)
    is_dropped s c v (Data byte) rest t e drops = names_nothing byte (ap (λ k. (network_of d).look k byte) (sym e) ∙ drops.0)
    is_dropped s c v Eop rest t e drops = tt
    is_dropped s c v Eep rest t e drops = tt

    pub drop_not : (c p : ℕ) → end_of d c ≡ Some (Switch w p) → (CanDrop answer cell p → ⊥) → SwitchMakes d w cell b (Drop c) false cell b
    drop_not c p at never = (
      λ s is q.
          let h = q.1 in
          let o = is.part.ports c p at in
          let same = switch_is h.switch w (sym h.at ∙ ends_at d c w p at) in
          let front = front_of (end_at cell p).buffer h.first h.rest (sym o.buffer ∙ h.front) in
          never (record {
            idle = was_idle (ends_of d) w (input_at cell p) (sym o.input ∙ h.idle);
            dropped = subst (IsDropped answer cell.routes cell.linked) (sym front) (is_dropped s c h.switch h.first h.rest q.0 same h.after);
          }),
      refl,
      refl,
    )
