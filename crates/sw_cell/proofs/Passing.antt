-- The steps of a switch that pass a character on, or lose one.
use mathlib.Core.Logic.{∥∥₁_elim}
use native.Mathlib.Bridge.{le_prop}
use Rattle.std.proofs.Common.{◌≡◌, ℕ, ◌-◌, ◌<◌, true, false, List, [], ◌∷◌, ◌++◌, drop, length, length-set, get_or-set_same, get_or-set_other, Option, Some, None, IsSome, IsBitSet, refl, ap, sym, subst, ◌∙◌, ⊎_elim, arith}
use Rattle.std.proofs.lemmas.Bool.{cases_eq}
use Rattle.std.specs.Prelude.{slice_get, unwrap_or}
use Rattle.sw_cell.proofs.Betweens.{wires_put}
use Rattle.sw_cell.proofs.Puts.{front_is, reached_more}
use Rattle.sw_cell.proofs.Switches.{PortsBut, SameBut, credit_put, end_here, end_other, kept_credit, kept_end, port_small, ports_change, starts_within, within}
use Rattle.sw_cell.specs.SwitchParts.{HasSwitchState, IsPortPart, IsSwitchFor, SwitchMakes, input_of}
use Rattle.sw_char.specs.declared.nchar.NChar.{NChar}
use Rattle.sw_char.specs.declared.nchar.NChar.TheVariants.{Data, Eep, Eop}
use Rattle.sw_flow.specs.Places.{end_of, ends_of}
use Rattle.sw_link.specs.Ends.{Received, spent}
use Rattle.sw_machine.proofs.Credit.{reached_numbers}
use Rattle.sw_machine.proofs.Lists.{put_here, put_there}
use Rattle.sw_machine.specs.State.{State, after_forward, after_spill, input_after, put}
use Rattle.sw_machine.specs.Steps.{Forward, Leads, Spill}
use Rattle.sw_machine.specs.declared.input.InputState.{InputState}
use Rattle.sw_machine.specs.declared.input.InputState.TheVariants.{Held, Idle, Spilling}
use Rattle.sw_machine.proofs.DeclaredNetworks.{are_networks}
use Rattle.sw_machine.specs.Model.{network_of}
use Rattle.sw_config.specs.Entries.{Declaration, wiring_of}
use Rattle.sw_route.specs.declared.look.Look.{Look}
use Rattle.sw_switch.specs.Cell.{Cell, credit_at, end_at, front_at, input_at}
use Rattle.sw_switch.specs.Changes.{forwarded, passed, with_credit, with_input, without_front}
use Rattle.sw_switch.specs.Conditions.{CanForward, CanSpill, HasCredit}
use Rattle.sw_switch.specs.declared.input.Input.{Input as PortInput}
use Rattle.sw_switch.specs.declared.input.Input.TheVariants as ports
use Rattle.sw_topo.proofs.Ends.{port_starts}
use Rattle.sw_topo.specs.Wiring.{out_of, partner}
use Rattle.sw_topo.specs.declared.place.PlaceEnd.{PlaceEnd}
use Rattle.sw_topo.specs.declared.place.PlaceEnd.TheVariants.{Switch}
use Rattle.sw_link.specs.Between.{Between, wire_at, with_wire}

pub some_first : {A : Type 0} (l : List A) → 0 < length l → (x : A) × (slice_get l 0 ≡ Some x)
some_first [] lt = absurd (omega arith)
some_first (x ∷ l) lt = (x, refl)

pub some_of : {A : Type 0} (o : Option A) → IsSome o → (x : A) × (o ≡ Some x)
some_of None is = absurd (cc)
some_of (Some x) is = (x, refl)

module _ (ends : List PlaceEnd) (w : ℕ) where
  pub was_spilling : (i : PortInput) → input_of ends w i ≡ Spilling → i ≡ ports.Spilling
  was_spilling ports.Idle e = absurd (cc)
  was_spilling (ports.Held p) e = absurd (cc)
  was_spilling ports.Spilling e = refl

  pub was_idle : (i : PortInput) → input_of ends w i ≡ Idle → i ≡ ports.Idle
  was_idle ports.Idle e = refl
  was_idle (ports.Held p) e = absurd (cc)
  was_idle ports.Spilling e = absurd (cc)

  pub was_held : (i : PortInput) (o : ℕ) → input_of ends w i ≡ Held o → (p : ℕ) × (i ≡ ports.Held p) × (unwrap_or (out_of ends w p) 0 ≡ o)
  was_held ports.Idle o e = absurd (cc)
  was_held (ports.Held p) o e = let same : unwrap_or (out_of ends w p) 0 ≡ o = cc in (p, refl, same)
  was_held ports.Spilling o e = absurd (cc)

module _ {R A : Type 0} where
  -- what passing this character leaves
  abbrev pub passed_by : Cell R A → ℕ → NChar → Cell R A
  passed_by cell p (Data byte) = without_front cell p
  passed_by cell p Eop = with_input (without_front cell p) p ports.Idle
  passed_by cell p Eep = with_input (without_front cell p) p ports.Idle

  pub passed_is : (cell : Cell R A) (p : ℕ) (x : NChar) → front_at cell p ≡ Some x → passed cell p ≡ passed_by cell p x
  passed_is cell p (Data byte) front = rw front refl
  passed_is cell p Eop front = rw front refl
  passed_is cell p Eep front = rw front refl

module _ {R A : Type 0} (answer : R → ℕ → Look) (arbiter_ports : A → ℕ) (d : Declaration) (w : ℕ) (cell : Cell R A) (for : IsSwitchFor answer arbiter_ports d w cell) where
  pub input_here : (p : ℕ) (i : PortInput) → p < 32 → input_at (with_input cell p i) p ≡ i
  input_here p i lt = get_or-set_same cell.inputs p i ports.Idle (let e = for.sound.all_inputs in omega arith)

  pub input_other : (p q : ℕ) (i : PortInput) → (q ≡ p → ⊥) → input_at (with_input cell p i) q ≡ input_at cell q
  input_other p q i ne = get_or-set_other cell.inputs p q i ports.Idle ne

  pub kept_input : (p : ℕ) (i : PortInput) → p < 32 → ((port : ℕ) → i ≡ ports.Held port → IsBitSet cell.linked p × IsSome (out_of (ends_of d) w port)) → IsSwitchFor answer arbiter_ports d w (with_input cell p i)
  kept_input p i lt holds = record {
    valid = for.valid;
    in_net = for.in_net;
    sound = record {
      all_credits = for.sound.all_credits;
      all_inputs = length-set cell.inputs p i ∙ for.sound.all_inputs;
      all_received = for.sound.all_received;
      all_arbiters = for.sound.all_arbiters;
      arbiter_ports = for.sound.arbiter_ports;
    };
    linked = for.linked;
    routes = for.routes;
    capacity = for.capacity;
    held = λ q port e. ⊎_elim
        (λ same. subst (λ k. IsBitSet cell.linked k × IsSome (out_of (ends_of d) w port)) (sym same) (holds port (sym (input_here p i lt) ∙ ap (input_at (with_input cell p i)) (sym same) ∙ e)))
        (λ ne. for.held q port (sym (input_other p q i ne) ∙ e))
        (cases_eq q p);
  }

  -- the receiving end without its front
  abbrev pub rest_at : ℕ → Received
  rest_at p = record (end_at cell p) { buffer = drop 1 (end_at cell p).buffer }

  pub kept_front : (p : ℕ) → p < 32 → IsSwitchFor answer arbiter_ports d w (without_front cell p)
  kept_front p lt = kept_end answer arbiter_ports d w cell for p (rest_at p) lt refl

module _ {R A : Type 0} (answer : R → ℕ → Look) (arbiter_ports : A → ℕ) (d : Declaration) (w : ℕ) (cell : Cell R A) (for : IsSwitchFor answer arbiter_ports d w cell) where
  pub kept_passed : (p : ℕ) (x : NChar) → p < 32 → IsSwitchFor answer arbiter_ports d w (passed_by cell p x)
  kept_passed p (Data byte) lt = kept_front answer arbiter_ports d w cell for p lt
  kept_passed p Eop lt = kept_input answer arbiter_ports d w (without_front cell p) (kept_front answer arbiter_ports d w cell for p lt) p ports.Idle lt (λ port e. absurd (cc))
  kept_passed p Eep lt = kept_input answer arbiter_ports d w (without_front cell p) (kept_front answer arbiter_ports d w cell for p lt) p ports.Idle lt (λ port e. absurd (cc))

  end_passed : (p : ℕ) (x : NChar) → p < 32 → end_at (passed_by cell p x) p ≡ rest_at answer arbiter_ports d w cell for p
  end_passed p (Data byte) lt = end_here answer arbiter_ports d w cell for p (rest_at answer arbiter_ports d w cell for p) lt
  end_passed p Eop lt = end_here answer arbiter_ports d w cell for p (rest_at answer arbiter_ports d w cell for p) lt
  end_passed p Eep lt = end_here answer arbiter_ports d w cell for p (rest_at answer arbiter_ports d w cell for p) lt

  but_passed : (p : ℕ) (x : NChar) → p < 32 → PortsBut p cell (passed_by cell p x)
  but_passed p (Data byte) lt = record { end = λ q ne. end_other answer arbiter_ports d w cell for p q (rest_at answer arbiter_ports d w cell for p) ne; input = λ q ne. refl }
  but_passed p Eop lt = record { end = λ q ne. end_other answer arbiter_ports d w cell for p q (rest_at answer arbiter_ports d w cell for p) ne; input = λ q ne. input_other answer arbiter_ports d w cell for p q ports.Idle ne }
  but_passed p Eep lt = record { end = λ q ne. end_other answer arbiter_ports d w cell for p q (rest_at answer arbiter_ports d w cell for p) ne; input = λ q ne. input_other answer arbiter_ports d w cell for p q ports.Idle ne }

  input_passed : (p : ℕ) (x : NChar) (m : InputState) → p < 32 → m ≡ input_of (ends_of d) w (input_at cell p) → input_after x m ≡ input_of (ends_of d) w (input_at (passed_by cell p x) p)
  input_passed p (Data byte) m lt e = e
  input_passed p Eop m lt e = sym (ap (input_of (ends_of d) w) (input_here answer arbiter_ports d w cell for p ports.Idle lt))
  input_passed p Eep m lt e = sym (ap (input_of (ends_of d) w) (input_here answer arbiter_ports d w cell for p ports.Idle lt))

  credit_passed : (p : ℕ) (x : NChar) (o k q : ℕ) → credit_at (with_credit (passed_by cell p x) o k) q ≡ credit_at (with_credit cell o k) q
  credit_passed p (Data byte) o k q = refl
  credit_passed p Eop o k q = refl
  credit_passed p Eep o k q = refl

  credits_same : (p : ℕ) (x : NChar) (q : ℕ) → credit_at (passed_by cell p x) q ≡ credit_at cell q
  credits_same p (Data byte) q = refl
  credits_same p Eop q = refl
  credits_same p Eep q = refl

  -- what a port has after its front has passed
  port_passed : (s t : State) (c p : ℕ) (x : NChar) (m : InputState) → end_of d c ≡ Some (Switch w p) → IsPortPart d w cell p c s → s.input c ≡ m
      → t.buffer ≡ put s.buffer c (drop 1 (end_at cell p).buffer) → t.outstanding ≡ s.outstanding → t.input ≡ put s.input c (input_after x m)
      → IsPortPart d w (passed_by cell p x) p c t
  port_passed s t c p x m at o is buffer outstanding input =
      let lp = port_small d for.valid (partner c) w p at in
      let new = end_passed p x lp in
      record {
        buffer = ap (λ (f : ℕ → List NChar). f c) buffer ∙ put_here s.buffer c (drop 1 (end_at cell p).buffer) ∙ sym (ap (λ (r : Received). r.buffer) new);
        outstanding = ap (λ (f : ℕ → ℕ). f c) outstanding ∙ o.outstanding ∙ sym (ap (λ (r : Received). r.outstanding) new);
        input = ap (λ (f : ℕ → InputState). f c) input ∙ put_here s.input c (input_after x m) ∙ input_passed p x m lp (sym is ∙ o.input);
      }

  same_but : (s t : State) (c : ℕ) (rest : List NChar) (i : InputState) → t.buffer ≡ put s.buffer c rest → t.outstanding ≡ s.outstanding → t.input ≡ put s.input c i → SameBut c s t
  same_but s t c rest i buffer outstanding input = record {
    buffer = λ k ne. ap (λ (f : ℕ → List NChar). f k) buffer ∙ put_there s.buffer c rest k ne;
    outstanding = λ k ne. ap (λ (f : ℕ → ℕ). f k) outstanding;
    input = λ k ne. ap (λ (f : ℕ → InputState). f k) input ∙ put_there s.input c i k ne;
  }

  pub kept_spilled : (c p : ℕ) → end_of d c ≡ Some (Switch w p) → CanSpill cell p → IsSwitchFor answer arbiter_ports d w (passed cell p)
  kept_spilled c p at can =
      let first = some_first (end_at cell p).buffer can.not_empty in
      subst (λ (k : Cell R A). IsSwitchFor answer arbiter_ports d w k) (sym (passed_is cell p first.0 first.1)) (kept_passed p first.0 (port_small d for.valid (partner c) w p at))

  pub kept_forwarded : (c p out : ℕ) (x : NChar) → end_of d c ≡ Some (Switch w p) → front_at cell p ≡ Some x → IsSwitchFor answer arbiter_ports d w (forwarded cell p out)
  kept_forwarded c p out x at front =
      subst (λ (k : Cell R A). IsSwitchFor answer arbiter_ports d w (with_credit k out (spent (credit_at cell out)))) (sym (passed_is cell p x front))
      (kept_credit answer arbiter_ports d w (passed_by cell p x) (kept_passed p x (port_small d for.valid (partner c) w p at)) out (spent (credit_at cell out)))

  pub goes_out : (p out : ℕ) → input_at cell p ≡ ports.Held out → IsSome (out_of (ends_of d) w out)
  goes_out p out holds = (for.held p out holds).1

  module _ (b : Between) where
    spill_by : (c p : ℕ) (x : NChar) → end_of d c ≡ Some (Switch w p) → CanSpill cell p → front_at cell p ≡ Some x → SwitchMakes d w cell b (Spill c) true (passed_by cell p x) b
    spill_by c p x at can front s is =
        let net = network_of d in
        let lp = port_small d for.valid (partner c) w p at in
        let o = is.part.ports c p at in
        let rest = drop 1 (end_at cell p).buffer in
        let t = after_spill s c x rest in
        let spilling : s.input c ≡ Spilling = o.input ∙ ap (input_of (ends_of d) w) can.spilling in
        let h : Leads net s (Spill c) t = record { in_net = within d for.valid c w p at; spilling = spilling; first = x; rest = rest; front = o.buffer ∙ front_is (end_at cell p).buffer x front; after = refl } in (
          t,
          h,
          record {
            reached = reached_more net s t (Spill c) is.reached h;
            part = record {
              credit = λ k q at_k. is.part.credit k q at_k ∙ sym (credits_same p x q);
              ports = ports_change d for.valid w cell (passed_by cell p x) s t c p at (same_but s t c rest (input_after x Spilling) refl refl refl) (but_passed p x lp) (port_passed s t c p x Spilling at o spilling refl refl refl) is.part.ports;
            };
            between = record { all_wires = is.between.all_wires; all_fcts = is.between.all_fcts; wire = is.between.wire; fcts = is.between.fcts };
          },
        )

    pub spill_made : (c p : ℕ) → end_of d c ≡ Some (Switch w p) → CanSpill cell p → SwitchMakes d w cell b (Spill c) true (passed cell p) b
    spill_made c p at can =
        let first = some_first (end_at cell p).buffer can.not_empty in
        subst (λ (k : Cell R A). SwitchMakes d w cell b (Spill c) true k b) (sym (passed_is cell p first.0 first.1)) (spill_by c p first.0 at can first.1)

    pub spill_not : (c p : ℕ) → end_of d c ≡ Some (Switch w p) → (CanSpill cell p → ⊥) → SwitchMakes d w cell b (Spill c) false cell b
    spill_not c p at never = (
      λ s is q.
          let h = q.1 in
          let o = is.part.ports c p at in
          let l = ap length (sym o.buffer ∙ h.front) in
          never (record { spilling = was_spilling (ends_of d) w (input_at cell p) (sym o.input ∙ h.spilling); not_empty = omega arith }),
      refl,
      refl,
    )

    -- ---- forwarding

    forward_by : (c p o out : ℕ) (x : NChar) → end_of d c ≡ Some (Switch w p) → input_at cell p ≡ ports.Held out → out_of (ends_of d) w out ≡ Some o → 0 < credit_at cell out → front_at cell p ≡ Some x
        → SwitchMakes d w cell b (Forward c) true (with_credit (passed_by cell p x) out (spent (credit_at cell out))) (with_wire b o (wire_at b o ++ x ∷ []))
    forward_by c p o out x at holds goes some front s is =
        let net = network_of d in
        let lp = port_small d for.valid (partner c) w p at in
        let i = is.part.ports c p at in
        let starts = port_starts (wiring_of d) w out o goes in
        let lo = starts_within d o w out starts in
        let rest = drop 1 (end_at cell p).buffer in
        let remaining = credit_at cell out - 1 in
        let t = after_forward s c o x rest remaining in
        let held : s.input c ≡ Held o = i.input ∙ ap (input_of (ends_of d) w) holds ∙ ap (λ z. Held (unwrap_or z 0)) goes in
        let credit = is.part.credit o out starts in
        let h : Leads net s (Forward c) t = record { in_net = within d for.valid c w p at; d = o; held = held; first = x; rest = rest; front = i.buffer ∙ front_is (end_at cell p).buffer x front; remaining = remaining; credit = omega arith; after = refl } in
        let but = but_passed p x lp in
        let here = port_passed s t c p x (Held o) at i held refl refl refl in
        let after = with_credit (passed_by cell p x) out (spent (credit_at cell out)) in (
          t,
          h,
          record {
            reached = reached_more net s t (Forward c) is.reached h;
            part = record {
              credit = λ k q at_k. credit_put answer arbiter_ports d w cell for s o out remaining (spent (credit_at cell out)) starts refl is.part.credit k q at_k ∙ sym (credit_passed p x out (spent (credit_at cell out)) q);
              ports = ports_change d for.valid w cell after s t c p at (same_but s t c rest (input_after x (Held o)) refl refl refl) (record { end = but.end; input = but.input })
                  (record { buffer = here.buffer; outstanding = here.outstanding; input = here.input }) is.part.ports;
            };
            between = wires_put net b s t o (s.wire o ++ x ∷ []) (wire_at b o ++ x ∷ []) lo (ap (λ (l : List NChar). l ++ x ∷ []) (is.between.wire o lo)) refl refl is.between;
          },
        )

    pub forward_made : (c p o out : ℕ) (x : NChar) → end_of d c ≡ Some (Switch w p) → input_at cell p ≡ ports.Held out → out_of (ends_of d) w out ≡ Some o → CanForward cell p → front_at cell p ≡ Some x
        → SwitchMakes d w cell b (Forward c) true (forwarded cell p out) (with_wire b o (wire_at b o ++ x ∷ []))
    forward_made c p o out x at holds goes can front =
        let some = subst (HasCredit cell) holds can.has_credit in
        subst (λ (k : Cell R A). SwitchMakes d w cell b (Forward c) true (with_credit k out (spent (credit_at cell out))) (with_wire b o (wire_at b o ++ x ∷ []))) (sym (passed_is cell p x front)) (forward_by c p o out x at holds goes some front)

    pub forward_room : (p o out : ℕ) → input_at cell p ≡ ports.Held out → out_of (ends_of d) w out ≡ Some o → CanForward cell p → HasSwitchState d w cell b → length (wire_at b o) < 56
    forward_room p o out holds goes can has = ∥∥₁_elim has le_prop (λ k.
        let is = k.1 in
        let starts = port_starts (wiring_of d) w out o goes in
        let lo = starts_within d o w out starts in
        let q = (reached_numbers (network_of d) (are_networks d for.valid) k.0 is.reached).at o lo in
        let equation = q.equation in
        let few = q.few in
        let some = subst (HasCredit cell) holds can.has_credit in
        let e = is.part.credit o out starts in
        let l = ap length (is.between.wire o lo) in
        omega arith)

    pub forward_not : (c p : ℕ) → end_of d c ≡ Some (Switch w p) → (CanForward cell p → ⊥) → SwitchMakes d w cell b (Forward c) false cell b
    forward_not c p at never = (
      λ s is q.
          let h = q.1 in
          let i = is.part.ports c p at in
          let was = was_held (ends_of d) w (input_at cell p) h.d (sym i.input ∙ h.held) in
          let out = some_of (out_of (ends_of d) w was.0) (for.held p was.0 was.1).1 in
          let same : out.0 ≡ h.d = sym (ap (λ z. unwrap_or z 0) out.1) ∙ was.2 in
          let starts = port_starts (wiring_of d) w was.0 out.0 out.1 in
          let e = sym (is.part.credit out.0 was.0 starts) ∙ ap s.credit same ∙ h.credit in
          let some : 0 < credit_at cell was.0 = omega arith in
          let l = ap length (sym i.buffer ∙ h.front) in
          never (record { has_credit = subst (HasCredit cell) (sym was.1) some; not_empty = omega arith }),
      refl,
      refl,
    )
