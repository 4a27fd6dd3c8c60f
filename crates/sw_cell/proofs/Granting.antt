-- The step of a switch that grants an output.
use Rattle.std.proofs.Common.{◌≡◌, ℕ, ◌<◌, Bool, true, false, List, ◌∷◌, Contains, cond, drop, get_or, length, Option, Some, None, IsSome, IsBitSet, refl, ap, sym, subst, ◌∙◌, ⊎_elim, arith, eq-eqb, ne_eqb}
use Rattle.std.proofs.lemmas.Bool.{cases_Bool, cases_eq, eqb-true, false≢true}
use Rattle.std.proofs.lemmas.List.{get_or_default}
use Rattle.std.proofs.lemmas.List.Folds.{Any-from_list_any, list_any_at}
use Rattle.std.proofs.lemmas.Option.{same_Some}
use Rattle.std.specs.List.{list_any}
use Rattle.std.specs.Prelude.{slice_get, unwrap_or}
use Rattle.sw_cell.proofs.Dropping.{looks_are}
use Rattle.sw_cell.proofs.Passing.{input_here, input_other, kept_front, kept_input, rest_at, was_held, was_idle, some_of}
use Rattle.sw_cell.proofs.Puts.{front_is, front_of, reached_more}
use Rattle.sw_cell.proofs.Switches.{end_here, end_other, end_place, ends_at, is_linked, port_small, ports_change, within}
use Rattle.sw_cell.specs.SwitchParts.{IsSwitchFor, IsSwitchState, SwitchMakes, input_of, port_at}
use Rattle.sw_char.specs.declared.nchar.NChar.{NChar}
use Rattle.sw_char.specs.declared.nchar.NChar.TheVariants.{Data, Eep, Eop}
use Rattle.sw_flow.proofs.Outputs.{outputs_are}
use Rattle.sw_flow.specs.Places.{end_of, ends_of}
use Rattle.sw_link.specs.Ends.{Received}
use Rattle.sw_machine.proofs.Lists.{put_here, put_there}
use Rattle.sw_machine.proofs.Wormhole.{held_once}
use Rattle.sw_machine.specs.Network.{AtSwitch}
use Rattle.sw_machine.specs.State.{State, after_grant}
use Rattle.sw_machine.specs.Steps.{Grant, Leads}
use Rattle.sw_machine.specs.declared.input.InputState.TheVariants.{Held}
use Rattle.sw_machine.proofs.DeclaredNetworks.{are_networks}
use Rattle.sw_machine.specs.Model.{network_of}
use Rattle.sw_config.specs.Entries.{Declaration, look_at, wiring_of}
use Rattle.sw_route.specs.declared.look.Look.{Look}
use Rattle.sw_switch.specs.Cell.{Cell, end_at, front_at, input_at}
use Rattle.sw_switch.specs.Changes.{granted_to, with_input, without_front}
use Rattle.sw_switch.specs.Conditions.{CanGrant, Names, holds, is_held}
use Rattle.sw_switch.specs.declared.input.Input.{Input as PortInput}
use Rattle.sw_switch.specs.declared.input.Input.TheVariants as ports
use Rattle.sw_topo.proofs.Ends.{partner_back, port_found, port_starts}
use Rattle.sw_topo.specs.Wiring.{out_of, partner}
use Rattle.sw_topo.specs.declared.place.PlaceEnd.{PlaceEnd}
use Rattle.sw_topo.specs.declared.place.PlaceEnd.TheVariants.{Node, Switch}
use Rattle.sw_link.specs.Between.{Between}
use Rattle.sw_machine.proofs.Steps.{switch_is}

deletes_are : (d : Declaration) (w h : ℕ) → (network_of d).deletes w h ≡ (look_at d.switches w h).delete
unfolding network_of
deletes_are d w h = refl

pub starts_at : (d : Declaration) (c w p : ℕ) → slice_get (ends_of d) c ≡ Some (Switch w p) → (network_of d).start_of c ≡ AtSwitch w
unfolding network_of
starts_at d c w p e = rw e refl

-- ---- inputs that hold an output

holds_is : (out : ℕ) (i : PortInput) → holds out i ≡ true → i ≡ ports.Held out
holds_is out ports.Idle e = absurd (false≢true e)
holds_is out (ports.Held held) e = ap ports.Held (eqb-true held out e)
holds_is out ports.Spilling e = absurd (false≢true e)

held_at : (out : ℕ) (inputs : List PortInput) → list_any (holds out) inputs ≡ true → (q : ℕ) × (get_or inputs q ports.Idle ≡ ports.Held out)
held_at out inputs e =
    let a = Any-from_list_any (holds out) inputs e in
    (a.0, get_or_default inputs a.0 ports.Idle a.1 a.2 ∙ a.3 ∙ holds_is out a.1 a.4)

is_held_at : (out : ℕ) (inputs : List PortInput) (q : ℕ) → q < length inputs → get_or inputs q ports.Idle ≡ ports.Held out → list_any (holds out) inputs ≡ true
is_held_at out inputs q lt e = list_any_at (holds out) inputs q ports.Idle lt (rw e (eq-eqb out out refl))

module _ {R A : Type 0} where
  -- what a grant leaves, where the leading byte is deleted and where it stays
  abbrev pub granted_by : Cell R A → ℕ → ℕ → Bool → Cell R A
  granted_by cell out p true = with_input (without_front cell p) p (ports.Held out)
  granted_by cell out p false = with_input cell p (ports.Held out)

  granted_is : (answer : R → ℕ → Look) (cell : Cell R A) (out p h : ℕ) (v : Bool) → front_at cell p ≡ Some (Data h) → (answer cell.routes h).delete ≡ v → granted_to answer cell out p ≡ granted_by cell out p v
  granted_is answer cell out p h true front e = rw (front, e) refl
  granted_is answer cell out p h false front e = rw (front, e) refl

-- the leading byte
named_byte : {R : Type 0} (answer : R → ℕ → Look) (routes : R) (o : Option NChar) (out : ℕ) → Names answer routes o out → (h : ℕ) × (o ≡ Some (Data h)) × IsBitSet ((answer routes h).ports) out
named_byte answer routes None out n = absurd n
named_byte answer routes (Some (Data h)) out n = (h, refl, n)
named_byte answer routes (Some Eop) out n = absurd n
named_byte answer routes (Some Eep) out n = absurd n

module _ {R A : Type 0} (answer : R → ℕ → Look) (arbiter_ports : A → ℕ) (d : Declaration) (w : ℕ) (cell : Cell R A) (for : IsSwitchFor answer arbiter_ports d w cell) where
  -- one port where a channel starts
  same_port : (o out p : ℕ) → slice_get (ends_of d) o ≡ Some (Switch w out) → slice_get (ends_of d) o ≡ Some (Switch w p) → p ≡ out
  same_port o out p at_out at_p = let same : Switch w p ≡ Switch w out = same_Some (Switch w p) (Switch w out) (sym at_p ∙ at_out) in cc

  kept_by : (out p : ℕ) (v : Bool) → p < 32 → IsBitSet cell.linked p → IsSome (out_of (ends_of d) w out) → IsSwitchFor answer arbiter_ports d w (granted_by cell out p v)
  kept_by out p true lt linked goes = kept_input answer arbiter_ports d w (without_front cell p) (kept_front answer arbiter_ports d w cell for p lt) p (ports.Held out) lt (λ port e. let same : out ≡ port = cc in (linked, subst (λ k. IsSome (out_of (ends_of d) w k)) same goes))
  kept_by out p false lt linked goes = kept_input answer arbiter_ports d w cell for p (ports.Held out) lt (λ port e. let same : out ≡ port = cc in (linked, subst (λ k. IsSome (out_of (ends_of d) w k)) same goes))

  pub kept_granted : (c p out : ℕ) → end_of d c ≡ Some (Switch w p) → CanGrant answer cell out p → IsSwitchFor answer arbiter_ports d w (granted_to answer cell out p)
  kept_granted c p out at can =
      let byte = named_byte answer cell.routes (front_at cell p) out can.asks.names in
      subst (λ (k : Cell R A). IsSwitchFor answer arbiter_ports d w k) (sym (granted_is answer cell out p byte.0 (answer cell.routes byte.0).delete byte.1 refl))
      (kept_by out p (answer cell.routes byte.0).delete (port_small d for.valid (partner c) w p at) (is_linked answer arbiter_ports d w cell for c p at) ((for.linked out).0 can.linked))

  -- no input of the network holds the output
  none_holds : (o out : ℕ) (b : Between) (s : State) → slice_get (ends_of d) o ≡ Some (Switch w out) → is_held cell out ≡ false → IsSwitchState d w cell b s → (k : ℕ) → k < (network_of d).channels → s.input k ≡ Held o → ⊥
  none_holds o out b s at_o free is k lk held =
      let net = network_of d in
      let own = (held_once net (are_networks d for.valid) s is.reached).own k o lk held in
      let same = switch_is own.switch w (sym own.starts ∙ starts_at d o w out at_o) in
      let place = end_place d k w (own.ends ∙ ap AtSwitch same) in
      let i = is.part.ports k place.0 place.1 in
      let was = was_held (ends_of d) w (input_at cell place.0) o (sym i.input ∙ held) in
      let goes = some_of (out_of (ends_of d) w was.0) (for.held place.0 was.0 was.1).1 in
      let e : goes.0 ≡ o = sym (ap (λ z. unwrap_or z 0) goes.1) ∙ was.2 in
      let starts = subst (λ j. slice_get (ends_of d) j ≡ Some (Switch w was.0)) e (port_starts (wiring_of d) w was.0 goes.0 goes.1) in
      let port = same_port o out was.0 at_o starts in
      let yes = is_held_at out cell.inputs place.0 (let l = for.sound.all_inputs in let lt = port_small d for.valid (partner k) w place.0 place.1 in omega arith) (was.1 ∙ ap ports.Held port) in
      false≢true (sym free ∙ yes)

  module _ (b : Between) where
    -- the parts after a grant
    grant_part : (c p o out h : ℕ) (s : State) (v : Bool) → end_of d c ≡ Some (Switch w p) → slice_get (ends_of d) o ≡ Some (Switch w out) → IsSwitchState d w cell b s → front_at cell p ≡ Some (Data h)
        → Leads (network_of d) s (Grant o c) (after_grant s o c (cond v (drop 1 (end_at cell p).buffer) (Data h ∷ drop 1 (end_at cell p).buffer)))
        → (t : State) × Leads (network_of d) s (Grant o c) t × IsSwitchState d w (granted_by cell out p v) b t
    grant_part c p o out h s true at at_o is front leads =
        let lp = port_small d for.valid (partner c) w p at in
        let i = is.part.ports c p at in
        let rest = drop 1 (end_at cell p).buffer in
        let t = after_grant s o c rest in
        let r = rest_at answer arbiter_ports d w cell for p in
        let new = end_here answer arbiter_ports d w cell for p r lp in
        let goes = port_found (wiring_of d) for.valid.sound w out o at_o in (
          t,
          leads,
          record {
            reached = reached_more (network_of d) s t (Grant o c) is.reached leads;
            part = record {
              credit = is.part.credit;
              ports = ports_change d for.valid w cell (granted_by cell out p true) s t c p at
                  (record { buffer = λ k ne. put_there s.buffer c rest k ne; outstanding = λ k ne. refl; input = λ k ne. put_there s.input c (Held o) k ne })
                  (record { end = λ q ne. end_other answer arbiter_ports d w cell for p q r ne; input = λ q ne. input_other answer arbiter_ports d w cell for p q (ports.Held out) ne })
                  (record {
                    buffer = put_here s.buffer c rest ∙ sym (ap (λ (x : Received). x.buffer) new);
                    outstanding = i.outstanding ∙ sym (ap (λ (x : Received). x.outstanding) new);
                    input = put_here s.input c (Held o) ∙ sym (ap (λ z. Held (unwrap_or z 0)) goes) ∙ sym (ap (input_of (ends_of d) w) (input_here answer arbiter_ports d w cell for p (ports.Held out) lp));
                  })
                  is.part.ports;
            };
            between = record { all_wires = is.between.all_wires; all_fcts = is.between.all_fcts; wire = is.between.wire; fcts = is.between.fcts };
          },
        )
    grant_part c p o out h s false at at_o is front leads =
        let lp = port_small d for.valid (partner c) w p at in
        let i = is.part.ports c p at in
        let whole = Data h ∷ drop 1 (end_at cell p).buffer in
        let t = after_grant s o c whole in
        let goes = port_found (wiring_of d) for.valid.sound w out o at_o in (
          t,
          leads,
          record {
            reached = reached_more (network_of d) s t (Grant o c) is.reached leads;
            part = record {
              credit = is.part.credit;
              ports = ports_change d for.valid w cell (granted_by cell out p false) s t c p at
                  (record { buffer = λ k ne. put_there s.buffer c whole k ne; outstanding = λ k ne. refl; input = λ k ne. put_there s.input c (Held o) k ne })
                  (record { end = λ q ne. refl; input = λ q ne. input_other answer arbiter_ports d w cell for p q (ports.Held out) ne })
                  (record {
                    buffer = put_here s.buffer c whole ∙ sym (front_is (end_at cell p).buffer (Data h) front);
                    outstanding = i.outstanding;
                    input = put_here s.input c (Held o) ∙ sym (ap (λ z. Held (unwrap_or z 0)) goes) ∙ sym (ap (input_of (ends_of d) w) (input_here answer arbiter_ports d w cell for p (ports.Held out) lp));
                  })
                  is.part.ports;
            };
            between = record { all_wires = is.between.all_wires; all_fcts = is.between.all_fcts; wire = is.between.wire; fcts = is.between.fcts };
          },
        )

    pub grant_made : (c p o out : ℕ) → end_of d c ≡ Some (Switch w p) → slice_get (ends_of d) o ≡ Some (Switch w out) → CanGrant answer cell out p → SwitchMakes d w cell b (Grant o c) true (granted_to answer cell out p) b
    grant_made c p o out at at_o can s is =
        let net = network_of d in
        let byte = named_byte answer cell.routes (front_at cell p) out can.asks.names in
        let h = byte.0 in
        let v = (answer cell.routes h).delete in
        let i = is.part.ports c p at in
        let rest = drop 1 (end_at cell p).buffer in
        let look = look_at d.switches w h in
        let named : Contains (net.look w h) o = rw (looks_are d w h) ((outputs_are (ends_of d) w look o).1 (record { port = out; is_port = port_small d for.valid o w out at_o; named = subst (λ (l : Look). IsBitSet l.ports out) (for.routes h) byte.2; linked = port_found (wiring_of d) for.valid.sound w out o at_o })) in
        let deletes : net.deletes w h ≡ v = deletes_are d w h ∙ sym (ap (λ (l : Look). l.delete) (for.routes h)) in
        let leads : Leads net s (Grant o c) (after_grant s o c (cond v rest (Data h ∷ rest))) = record {
          in_net = within d for.valid c w p at;
          switch = w;
          at = ends_at d c w p at;
          idle = i.input ∙ ap (input_of (ends_of d) w) can.asks.idle;
          h = h;
          rest = rest;
          front = i.buffer ∙ front_is (end_at cell p).buffer (Data h) byte.1;
          named = named;
          not_held = none_holds o out b s at_o can.free is;
          after = ap (λ (k : Bool). after_grant s o c (cond k rest (Data h ∷ rest))) (sym deletes);
        } in
        subst (λ (k : Cell R A). (t : State) × Leads net s (Grant o c) t × IsSwitchState d w k b t) (sym (granted_is answer cell out p h v byte.1 refl))
        (grant_part c p o out h s v at at_o is byte.1 leads)

    pub grant_not : (c p o out : ℕ) → end_of d c ≡ Some (Switch w p) → slice_get (ends_of d) o ≡ Some (Switch w out) → (CanGrant answer cell out p → ⊥) → SwitchMakes d w cell b (Grant o c) false cell b
    grant_not c p o out at at_o never = (
      λ s is q.
          let h = q.1 in
          let i = is.part.ports c p at in
          let goes = port_found (wiring_of d) for.valid.sound w out o at_o in
          let same = switch_is h.switch w (sym h.at ∙ ends_at d c w p at) in
          let front = front_of (end_at cell p).buffer (Data h.h) h.rest (sym i.buffer ∙ h.front) in
          let look = look_at d.switches w h.h in
          let n = (outputs_are (ends_of d) w look o).0 (rw (← looks_are d w h.h) (subst (λ k. Contains ((network_of d).look k h.h) o) same h.named)) in
          let port = same_port o out n.port at_o (port_starts (wiring_of d) w n.port o n.linked) in
          let named = subst (λ k. IsBitSet look.ports k) port n.named in
          let free : is_held cell out ≡ false = ⊎_elim
          (λ yes.
          let held = held_at out cell.inputs yes in
          let there = some_of (out_of (ends_of d) w held.0) ((for.linked held.0).0 (for.held held.0 out held.1).0) in
          let starts = port_starts (wiring_of d) w held.0 there.0 there.1 in
          let ends : end_of d (partner there.0) ≡ Some (Switch w held.0) = ap (slice_get (ends_of d)) (partner_back there.0) ∙ starts in
          let j = is.part.ports (partner there.0) held.0 ends in
          absurd (h.not_held (partner there.0) (within d for.valid (partner there.0) w held.0 ends) (j.input ∙ ap (input_of (ends_of d) w) held.1 ∙ ap (λ z. Held (unwrap_or z 0)) goes)))
          (λ none. none)
          (cases_Bool (is_held cell out)) in
          never (record {
            linked = (for.linked out).1 (rw goes refl);
            free = free;
            asks = record {
              linked = is_linked answer arbiter_ports d w cell for c p at;
              idle = was_idle (ends_of d) w (input_at cell p) (sym i.input ∙ h.idle);
              names = subst (λ k. Names answer cell.routes k out) (sym front) (subst (λ (l : Look). IsBitSet l.ports out) (sym (for.routes h.h)) named);
            };
          }),
      refl,
      refl,
    )

    pub grant_elsewhere : (c p o : ℕ) → end_of d c ≡ Some (Switch w p) → port_at w (slice_get (ends_of d) o) ≡ None → SwitchMakes d w cell b (Grant o c) false cell b
    grant_elsewhere c p o at none = (
      λ s is q.
          let h = q.1 in
          let same = switch_is h.switch w (sym h.at ∙ ends_at d c w p at) in
          let look = look_at d.switches w h.h in
          let n = (outputs_are (ends_of d) w look o).0 (rw (← looks_are d w h.h) (subst (λ k. Contains ((network_of d).look k h.h) o) same h.named)) in
          let found : port_at w (slice_get (ends_of d) o) ≡ Some n.port = rw (port_starts (wiring_of d) w n.port o n.linked, eq-eqb w w refl) refl in
          let bad : None ≡ Some n.port = sym none ∙ found in
          cc,
      refl,
      refl,
    )

-- a channel that is found at a port starts there
pub found_at : (w p : ℕ) (o : Option PlaceEnd) → port_at w o ≡ Some p → o ≡ Some (Switch w p)
found_at w p None e = absurd (cc)
found_at w p (Some (Node n)) e = absurd (cc)
found_at w p (Some (Switch v q)) e = ⊎_elim
    (λ same. let f : Some q ≡ Some p = rw (eq-eqb v w same) at e in let g : q ≡ p = same_Some q p f in rw (same, g) refl)
    (λ ne. let f : None ≡ Some p = rw (ne_eqb v w ne) at e in cc)
    (cases_eq v w)
