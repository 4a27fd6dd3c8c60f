-- The parts of a switch that a step changes, and those that it leaves.
use mathlib.Core.Logic.{∥∥₁_elim}
use native.Mathlib.Bridge.{le_prop}
use Rattle.std.proofs.Common.{◌≡◌, ℕ, ◌+◌, ◌-◌, ◌<◌, ◌≤◌, Bool, true, false, List, [], ◌∷◌, ◌++◌, drop, length, length-set, get_or-set_same, get_or-set_other, Option, Some, None, IsBitSet, refl, ap, sym, subst, ◌∙◌, ⊎_elim, arith}
use Rattle.std.proofs.lemmas.Bool.{cases_eq}
use Rattle.std.proofs.lemmas.Option.{slice_get_within, same_Some}
use Rattle.std.specs.Prelude.{slice_get}
use Rattle.sw_cell.proofs.Betweens.{fcts_put, wires_put}
use Rattle.sw_cell.proofs.Nodes.{has_room, room_issues}
use Rattle.sw_cell.proofs.Network.{channels_are}
use Rattle.sw_cell.proofs.Puts.{front_is, front_of, reached_more}
use Rattle.sw_cell.specs.SwitchParts.{HasSwitchState, IsPortPart, IsSwitchFor, SwitchMakes, input_of}
use Rattle.sw_char.specs.declared.nchar.NChar.{NChar}
use Rattle.sw_flow.specs.Places.{end_of, ends_of}
use Rattle.sw_link.specs.Ends.{Received, arrived, asked, granted}
use Rattle.sw_machine.proofs.Credit.{reached_numbers}
use Rattle.sw_machine.proofs.Lists.{put_here, put_there}
use Rattle.sw_machine.specs.Network.{AtSwitch}
use Rattle.sw_machine.specs.State.{State, after_arrive, after_fct, after_fct_in, put}
use Rattle.sw_machine.specs.Steps.{Arrive, Fct, FctIn, Leads, Step}
use Rattle.sw_machine.proofs.DeclaredNetworks.{are_networks}
use Rattle.sw_machine.specs.Model.{network_of}
use Rattle.sw_config.proofs.Flows.{All-at}
use Rattle.sw_config.specs.Entries.{Declaration, wiring_of}
use Rattle.sw_config.specs.Valid.{IsValid}
use Rattle.sw_route.specs.declared.look.Look.{Look}
use Rattle.sw_switch.specs.Cell.{Cell, credit_at, end_at, input_at}
use Rattle.sw_switch.specs.Changes.{with_credit, with_end}
use Rattle.sw_switch.specs.Conditions.{CanIssue}
use Rattle.sw_topo.proofs.Ends.{one_port, partner_back, port_found, port_starts}
use Rattle.sw_topo.specs.Checked.{IsIn}
use Rattle.sw_topo.specs.Wiring.{Wiring, out_of, partner}
use Rattle.sw_topo.specs.declared.place.PlaceEnd.TheVariants.{Switch}
use Rattle.sw_link.specs.Between.{Between, fcts_at, wire_at, with_fcts, with_wire}
use Rattle.sw_machine.proofs.Steps.{switch_of}

-- ---- channels and ports

pub port_small : (d : Declaration) → IsValid d → (c w p : ℕ) → slice_get (ends_of d) c ≡ Some (Switch w p) → p < 32
port_small d valid c w p starts = (All-at (IsIn (length d.nodes) (length d.switches)) (ends_of d) c (Switch w p) starts valid.sound.wiring.inside).1

pub ends_at : (d : Declaration) (c w p : ℕ) → end_of d c ≡ Some (Switch w p) → (network_of d).end_of c ≡ AtSwitch w
unfolding network_of
ends_at d c w p e = rw e refl

pub within : (d : Declaration) → IsValid d → (c w p : ℕ) → end_of d c ≡ Some (Switch w p) → c < (network_of d).channels
within d valid c w p e =
    let lt = slice_get_within (ends_of d) (partner c) (Switch w p) e in
    let even = valid.sound.wiring.paired in
    let all = channels_are d in
    grind arith

pub starts_within : (d : Declaration) (c w p : ℕ) → slice_get (ends_of d) c ≡ Some (Switch w p) → c < (network_of d).channels
starts_within d c w p e = let lt = slice_get_within (ends_of d) c (Switch w p) e in let all = channels_are d in omega arith

-- one channel ends at a port
pub one_end : (d : Declaration) → IsValid d → (c k w p : ℕ) → end_of d c ≡ Some (Switch w p) → end_of d k ≡ Some (Switch w p) → k ≡ c
one_end d valid c k w p at_c at_k =
    sym (partner_back k) ∙ ap partner (one_port (wiring_of d) valid.sound w p (partner k) (partner c) at_k at_c) ∙ partner_back c

-- one port at its end
pub one_place : (d : Declaration) (c w p q : ℕ) → end_of d c ≡ Some (Switch w p) → end_of d c ≡ Some (Switch w q) → q ≡ p
one_place d c w p q at_p at_q = let same : Switch w q ≡ Switch w p = same_Some (Switch w q) (Switch w p) (sym at_q ∙ at_p) in cc

-- ---- ports that a step leaves

-- at each channel but c the state has the same
pub record SameBut (c : ℕ) (s t : State) : Type 0 where
  pub buffer : (k : ℕ) → (k ≡ c → ⊥) → t.buffer k ≡ s.buffer k
  pub outstanding : (k : ℕ) → (k ≡ c → ⊥) → t.outstanding k ≡ s.outstanding k
  pub input : (k : ℕ) → (k ≡ c → ⊥) → t.input k ≡ s.input k

-- at each port but one the cell has the same
pub record PortsBut {R A : Type 0} (p : ℕ) (cell after : Cell R A) : Type 0 where
  pub end : (q : ℕ) → (q ≡ p → ⊥) → end_at after q ≡ end_at cell q
  pub input : (q : ℕ) → (q ≡ p → ⊥) → input_at after q ≡ input_at cell q

module _ {R A : Type 0} (d : Declaration) (valid : IsValid d) (w : ℕ) (cell after : Cell R A) (s t : State) where
  pub ports_change : (c p : ℕ) → end_of d c ≡ Some (Switch w p) → SameBut c s t → PortsBut p cell after → IsPortPart d w after p c t
      → ((k q : ℕ) → end_of d k ≡ Some (Switch w q) → IsPortPart d w cell q k s)
      → (k q : ℕ) → end_of d k ≡ Some (Switch w q) → IsPortPart d w after q k t
  ports_change c p at_c same but here old k q at_k = ⊎_elim
      (λ e. let f = one_place d c w p q at_c (subst (λ j. end_of d j ≡ Some (Switch w q)) e at_k) in
      subst (λ j. IsPortPart d w after q j t) (sym e) (subst (λ j. IsPortPart d w after j c t) (sym f) here))
      (λ ne.
      let other = λ (f : q ≡ p). ne (one_end d valid c k w p at_c (subst (λ j. end_of d k ≡ Some (Switch w j)) f at_k)) in
      let o = old k q at_k in
      record {
        buffer = same.buffer k ne ∙ o.buffer ∙ sym (ap (λ (r : Received). r.buffer) (but.end q other));
        outstanding = same.outstanding k ne ∙ o.outstanding ∙ sym (ap (λ (r : Received). r.outstanding) (but.end q other));
        input = same.input k ne ∙ o.input ∙ sym (ap (input_of (ends_of d) w) (but.input q other));
      })
      (cases_eq k c)

-- ---- changes of one port

module _ {R A : Type 0} (answer : R → ℕ → Look) (arbiter_ports : A → ℕ) (d : Declaration) (w : ℕ) (cell : Cell R A) (for : IsSwitchFor answer arbiter_ports d w cell) where
  pub end_other : (p q : ℕ) (r : Received) → (q ≡ p → ⊥) → end_at (with_end cell p r) q ≡ end_at cell q
  end_other p q r ne = get_or-set_other cell.received p q r _ ne

  pub end_here : (p : ℕ) (r : Received) → p < 32 → end_at (with_end cell p r) p ≡ r
  end_here p r lt = get_or-set_same cell.received p r _ (let e = for.sound.all_received in omega arith)

  pub kept_end : (p : ℕ) (r : Received) → p < 32 → r.capacity ≡ (end_at cell p).capacity → IsSwitchFor answer arbiter_ports d w (with_end cell p r)
  kept_end p r lt same = record {
    valid = for.valid;
    in_net = for.in_net;
    sound = record {
      all_credits = for.sound.all_credits;
      all_inputs = for.sound.all_inputs;
      all_received = length-set cell.received p r ∙ for.sound.all_received;
      all_arbiters = for.sound.all_arbiters;
      arbiter_ports = for.sound.arbiter_ports;
    };
    linked = for.linked;
    routes = for.routes;
    capacity = λ c q at. ⊎_elim
        (λ e. ap (λ k. (end_at (with_end cell p r) k).capacity) e ∙ ap (λ (x : Received). x.capacity) (end_here p r lt) ∙ same ∙ ap (λ k. (end_at cell k).capacity) (sym e) ∙ for.capacity c q at)
        (λ ne. ap (λ (x : Received). x.capacity) (end_other p q r ne) ∙ for.capacity c q at)
        (cases_eq q p);
    held = for.held;
  }

  pub kept_credit : (p k : ℕ) → IsSwitchFor answer arbiter_ports d w (with_credit cell p k)
  kept_credit p k = record {
    valid = for.valid;
    in_net = for.in_net;
    sound = record {
      all_credits = length-set cell.credits p k ∙ for.sound.all_credits;
      all_inputs = for.sound.all_inputs;
      all_received = for.sound.all_received;
      all_arbiters = for.sound.all_arbiters;
      arbiter_ports = for.sound.arbiter_ports;
    };
    linked = for.linked;
    routes = for.routes;
    capacity = for.capacity;
    held = for.held;
  }

  -- the credit of the channel that starts at a port
  pub credit_put : (s : State) (o p x y : ℕ) → slice_get (ends_of d) o ≡ Some (Switch w p) → x ≡ y
      → ((c q : ℕ) → slice_get (ends_of d) c ≡ Some (Switch w q) → s.credit c ≡ credit_at cell q)
      → (c q : ℕ) → slice_get (ends_of d) c ≡ Some (Switch w q) → put s.credit o x c ≡ credit_at (with_credit cell p y) q
  credit_put s o p x y at_o same old c q at_c = ⊎_elim
      (λ e.
      let sw : Switch w q ≡ Switch w p = same_Some (Switch w q) (Switch w p) (sym (subst (λ j. slice_get (ends_of d) j ≡ Some (Switch w q)) e at_c) ∙ at_o) in
      let f : q ≡ p = cc in
      ap (put s.credit o x) e ∙ put_here s.credit o x ∙ same ∙ sym (ap (λ j. credit_at (with_credit cell p y) j) f ∙ get_or-set_same cell.credits p y 0 (let l = for.sound.all_credits in let lt = port_small d for.valid o w p at_o in omega arith)))
      (λ ne.
      let other = λ (f : q ≡ p). ne (one_port (wiring_of d) for.valid.sound w p c o (subst (λ j. slice_get (ends_of d) c ≡ Some (Switch w j)) f at_c) at_o) in
      put_there s.credit o x c ne ∙ old c q at_c ∙ sym (get_or-set_other cell.credits p q y 0 other))
      (cases_eq c o)

  -- a port where a channel ends has a link
  pub is_linked : (c p : ℕ) → end_of d c ≡ Some (Switch w p) → IsBitSet cell.linked p
  is_linked c p at = (for.linked p).1 (rw (port_found (wiring_of d) for.valid.sound w p (partner c) at) refl)

  -- ---- FCTs

  module _ (b : Between) where
    pub wires_long : HasSwitchState d w cell b → (network_of d).channels ≤ length b.wires
    wires_long has = ∥∥₁_elim has le_prop (λ k. let all = (k.1).between.all_wires in omega arith)

    pub fct_made : (c p : ℕ) → end_of d c ≡ Some (Switch w p) → CanIssue cell p
        → SwitchMakes d w cell b (Fct c) true (with_end cell p (asked (end_at cell p))) (with_fcts b c (fcts_at b c + 1))
    fct_made c p at can s is =
        let net = network_of d in
        let lc = within d for.valid c w p at in
        let lp = port_small d for.valid (partner c) w p at in
        let o = is.part.ports c p at in
        let r = has_room (end_at cell p) can.room in
        let few = r.few in
        let room = r.room in
        let e = o.outstanding in
        let l = ap length o.buffer in
        let cap = for.capacity c p at in
        let new = end_here p (asked (end_at cell p)) lp in
        let h : Leads net s (Fct c) (after_fct s c) = record { in_net = lc; room = omega arith; few = omega arith; after = refl } in (
          after_fct s c,
          h,
          record {
            reached = reached_more net s (after_fct s c) (Fct c) is.reached h;
            part = record {
              credit = is.part.credit;
              ports = ports_change d for.valid w cell (with_end cell p (asked (end_at cell p))) s (after_fct s c) c p at
                  (record { buffer = λ k ne. refl; outstanding = λ k ne. put_there s.outstanding c (s.outstanding c + 8) k ne; input = λ k ne. refl })
                  (record { end = λ q ne. end_other p q (asked (end_at cell p)) ne; input = λ q ne. refl })
                  (record {
                    buffer = o.buffer ∙ sym (ap (λ (x : Received). x.buffer) new);
                    outstanding = put_here s.outstanding c (s.outstanding c + 8) ∙ ap (λ k. k + 8) e ∙ sym (ap (λ (x : Received). x.outstanding) new);
                    input = o.input;
                  })
                  is.part.ports;
            };
            between = fcts_put net b s (after_fct s c) c (s.fcts c + 1) (fcts_at b c + 1) lc (ap (λ k. k + 1) (is.between.fcts c lc)) refl refl is.between;
          },
        )

    pub fct_not : (c p : ℕ) → end_of d c ≡ Some (Switch w p) → (CanIssue cell p → ⊥) → SwitchMakes d w cell b (Fct c) false cell b
    fct_not c p at never = (
      λ s is q.
          let h = q.1 in
          let o = is.part.ports c p at in
          let e = o.outstanding in
          let l = ap length o.buffer in
          let cap = for.capacity c p at in
          let room = h.room in
          let few = h.few in
          never (record { linked = is_linked c p at; room = room_issues (end_at cell p) (record { room = omega arith; few = omega arith }) }),
      refl,
      refl,
    )

    pub fct_few : (c p : ℕ) → end_of d c ≡ Some (Switch w p) → HasSwitchState d w cell b → CanIssue cell p → fcts_at b c ≤ 6
    fct_few c p at has can = ∥∥₁_elim has le_prop (λ k.
        let is = k.1 in
        let lc = within d for.valid c w p at in
        let q = (reached_numbers (network_of d) (are_networks d for.valid) k.0 is.reached).at c lc in
        let equation = q.equation in
        let r = has_room (end_at cell p) can.room in
        let few = r.few in
        let e = (is.part.ports c p at).outstanding in
        let f = is.between.fcts c lc in
        omega arith)

    pub fct_in_made : (o p : ℕ) → slice_get (ends_of d) o ≡ Some (Switch w p) → 0 < fcts_at b o
        → SwitchMakes d w cell b (FctIn o) true (with_credit cell p (granted (credit_at cell p))) (with_fcts b o (fcts_at b o - 1))
    fct_in_made o p at some s is =
        let net = network_of d in
        let lo = starts_within d o w p at in
        let f = is.between.fcts o lo in
        let t = after_fct_in s o (fcts_at b o - 1) in
        let h : Leads net s (FctIn o) t = record { in_net = lo; remaining = fcts_at b o - 1; under_way = omega arith; after = refl } in (
          t,
          h,
          record {
            reached = reached_more net s t (FctIn o) is.reached h;
            part = record {
              credit = credit_put s o p (s.credit o + 8) (granted (credit_at cell p)) at (ap (λ k. k + 8) (is.part.credit o p at)) is.part.credit;
              ports = λ k q at_k. let i = is.part.ports k q at_k in record { buffer = i.buffer; outstanding = i.outstanding; input = i.input };
            };
            between = fcts_put net b s t o (fcts_at b o - 1) (fcts_at b o - 1) lo refl refl refl is.between;
          },
        )

    pub fct_in_not : (o p : ℕ) → slice_get (ends_of d) o ≡ Some (Switch w p) → fcts_at b o ≤ 0 → SwitchMakes d w cell b (FctIn o) false cell b
    fct_in_not o p at none = (λ s is q. let h = q.1 in let u = h.under_way in let f = is.between.fcts o (starts_within d o w p at) in omega arith, refl, refl)

    pub fct_in_room : (o p : ℕ) → slice_get (ends_of d) o ≡ Some (Switch w p) → HasSwitchState d w cell b → 0 < fcts_at b o → credit_at cell p ≤ 48
    fct_in_room o p at has some = ∥∥₁_elim has le_prop (λ k.
        let is = k.1 in
        let lo = starts_within d o w p at in
        let q = (reached_numbers (network_of d) (are_networks d for.valid) k.0 is.reached).at o lo in
        let equation = q.equation in
        let few = q.few in
        let e = is.part.credit o p at in
        let f = is.between.fcts o lo in
        omega arith)

    -- ---- arrivals

    pub arrive_made : (c p : ℕ) (x : NChar) → end_of d c ≡ Some (Switch w p) → slice_get (wire_at b c) 0 ≡ Some x
        → SwitchMakes d w cell b (Arrive c) true (with_end cell p (arrived x (end_at cell p))) (with_wire b c (drop 1 (wire_at b c)))
    arrive_made c p x at front s is =
        let net = network_of d in
        let lc = within d for.valid c w p at in
        let lp = port_small d for.valid (partner c) w p at in
        let o = is.part.ports c p at in
        let rest = drop 1 (wire_at b c) in
        let t = after_arrive s c x rest in
        let new = end_here p (arrived x (end_at cell p)) lp in
        let h : Leads net s (Arrive c) t = record { in_net = lc; first = x; rest = rest; on_wire = is.between.wire c lc ∙ front_is (wire_at b c) x front; after = refl } in (
          t,
          h,
          record {
            reached = reached_more net s t (Arrive c) is.reached h;
            part = record {
              credit = is.part.credit;
              ports = ports_change d for.valid w cell (with_end cell p (arrived x (end_at cell p))) s t c p at
                  (record { buffer = λ k ne. put_there s.buffer c (s.buffer c ++ x ∷ []) k ne; outstanding = λ k ne. put_there s.outstanding c (s.outstanding c - 1) k ne; input = λ k ne. refl })
                  (record { end = λ q ne. end_other p q (arrived x (end_at cell p)) ne; input = λ q ne. refl })
                  (record {
                    buffer = put_here s.buffer c (s.buffer c ++ x ∷ []) ∙ ap (λ (l : List NChar). l ++ x ∷ []) o.buffer ∙ sym (ap (λ (r : Received). r.buffer) new);
                    outstanding = put_here s.outstanding c (s.outstanding c - 1) ∙ ap (λ k. k - 1) o.outstanding ∙ sym (ap (λ (r : Received). r.outstanding) new);
                    input = o.input;
                  })
                  is.part.ports;
            };
            between = wires_put net b s t c rest rest lc refl refl refl is.between;
          },
        )

    pub arrive_not : (c p : ℕ) → end_of d c ≡ Some (Switch w p) → slice_get (wire_at b c) 0 ≡ None → SwitchMakes d w cell b (Arrive c) false cell b
    arrive_not c p at none = (λ s is q. let h = q.1 in let f = front_of (wire_at b c) h.first h.rest (sym (is.between.wire c (within d for.valid c w p at)) ∙ h.on_wire) in cc, refl, refl)

    pub arrive_asked : (c p : ℕ) (x : NChar) → end_of d c ≡ Some (Switch w p) → HasSwitchState d w cell b → slice_get (wire_at b c) 0 ≡ Some x → 0 < (end_at cell p).outstanding
    arrive_asked c p x at has front = ∥∥₁_elim has le_prop (λ k.
        let is = k.1 in
        let lc = within d for.valid c w p at in
        let q = (reached_numbers (network_of d) (are_networks d for.valid) k.0 is.reached).at c lc in
        let equation = q.equation in
        let e = (is.part.ports c p at).outstanding in
        let l = ap length (is.between.wire c lc ∙ front_is (wire_at b c) x front) in
        omega arith)

-- the same of values that are known to be equal
pub made_as : {R A : Type 0} (d : Declaration) (w : ℕ) (cell : Cell R A) (b : Between) (step : Step) (made : Bool) (x y : Cell R A) (v u : Between) → y ≡ x → u ≡ v
    → SwitchMakes d w cell b step made x v → SwitchMakes d w cell b step made y u
made_as d w cell b step made x y v u e f h =
    subst (λ (k : Cell _ _). SwitchMakes d w cell b step made k u) (sym e) (subst (λ (k : Between). SwitchMakes d w cell b step made x k) (sym f) h)

-- ---- what the code finds

pub end_place : (d : Declaration) (c w : ℕ) → (network_of d).end_of c ≡ AtSwitch w → (p : ℕ) × (end_of d c ≡ Some (Switch w p))
unfolding network_of
end_place d c w e = switch_of (end_of d c) w e

pub start_place : (d : Declaration) (c w : ℕ) → (network_of d).start_of c ≡ AtSwitch w → (p : ℕ) × (slice_get (ends_of d) c ≡ Some (Switch w p))
unfolding network_of
start_place d c w e = switch_of (slice_get (ends_of d) c) w e

-- the channels of a link end that stands at a port
pub record PortEnds (d : Declaration) (w p e : ℕ) : Type 0 where
  pub starts : slice_get (ends_of d) e ≡ Some (Switch w p)
  pub ends : end_of d (partner e) ≡ Some (Switch w p)

module _ {R A : Type 0} {answer : R → ℕ → Look} {arbiter_ports : A → ℕ} {d : Declaration} {w : ℕ} {cell : Cell R A} (for : IsSwitchFor answer arbiter_ports d w cell) where
  pub port_ends : {p sent e : ℕ} → sent ≡ e → slice_get (ends_of d) sent ≡ Some (Switch w p) → PortEnds d w p e
  port_ends {e = e} same at =
      let starts = ap (slice_get (ends_of d)) (sym same) ∙ at in
      record { starts = starts; ends = ap (slice_get (ends_of d)) (partner_back e) ∙ starts }

  -- the channel that comes to the port from which another goes out
  pub back_found : (p : ℕ) {x : Wiring} {o : Option ℕ} {c : ℕ} → x ≡ wiring_of d → o ≡ out_of x.ends w p → o ≡ Some c → end_of d (partner c) ≡ Some (Switch w p)
  back_found p {c = c} is goes some =
      let out : out_of (ends_of d) w p ≡ Some c = ap (λ (y : Wiring). out_of y.ends w p) (sym is) ∙ sym goes ∙ some in
      ap (slice_get (ends_of d)) (partner_back c) ∙ port_starts (wiring_of d) w p c out

  -- a channel that ends or starts at a port has a wire
  pub end_has_wire : {b : Between} {p : ℕ} → HasSwitchState d w cell b → (c : ℕ) → end_of d c ≡ Some (Switch w p) → c < length b.wires
  end_has_wire {b = b} {p = p} reached c at =
      let long = wires_long answer arbiter_ports d w cell for b reached in
      let lt = within d for.valid c w p at in
      omega arith

  pub start_has_wire : {b : Between} {p : ℕ} → HasSwitchState d w cell b → (c : ℕ) → slice_get (ends_of d) c ≡ Some (Switch w p) → c < length b.wires
  start_has_wire {b = b} {p = p} reached c at =
      let long = wires_long answer arbiter_ports d w cell for b reached in
      let lt = starts_within d c w p at in
      omega arith
