-- The step of a switch that grants an output as its arbiter picks.
use Rattle.std.proofs.Common.{◌≡◌, ℕ, List, length, length-set, Option, Some, ap, sym, subst, ◌∙◌, ⊎_elim, arith, true}
use Rattle.std.proofs.lemmas.Bool.{cases_eq}
use Rattle.std.specs.Prelude.{slice_get, slice_set}
use Rattle.sw_cell.proofs.Granting.{grant_made, grant_not, kept_granted, starts_at}
use Rattle.sw_cell.proofs.Switches.{end_place}
use Rattle.sw_cell.specs.Picks.{CannotGrant}
use Rattle.sw_cell.specs.SwitchParts.{IsSwitchFor, IsSwitchState, SwitchMakes}
use Rattle.sw_flow.specs.Places.{end_of, ends_of}
use Rattle.sw_machine.specs.Network.{AtSwitch}
use Rattle.sw_machine.specs.State.{State}
use Rattle.sw_machine.specs.Steps.{Grant}
use Rattle.sw_machine.proofs.DeclaredNetworks.{are_networks}
use Rattle.sw_config.specs.Entries.{Declaration}
use Rattle.sw_route.specs.declared.look.Look.{Look}
use Rattle.sw_switch.specs.Cell.{Cell, HasArbiter, HaveArbiters}
use Rattle.sw_switch.specs.Changes.{Grants, granted_to}
use Rattle.sw_switch.specs.Conditions.{CanGrant}
use Rattle.sw_topo.specs.declared.place.PlaceEnd.TheVariants.{Switch}
use Rattle.sw_link.specs.Between.{Between}
use Rattle.sw_topo.proofs.Lists.{slice_get-set_other, slice_get-set_same}
use Rattle.sw_machine.proofs.Steps.{switch_is}

module _ {R A : Type 0} (answer : R → ℕ → Look) (arbiter_ports : A → ℕ) (d : Declaration) (w : ℕ) where
  -- other arbiters of the same ports
  with_arbiters : (cell : Cell R A) (arbiters : List (Option A)) → length arbiters ≡ 32 → HaveArbiters arbiter_ports cell.linked arbiters → IsSwitchFor answer arbiter_ports d w cell
      → IsSwitchFor answer arbiter_ports d w (record cell { arbiters = arbiters })
  with_arbiters cell arbiters all have for = record {
    valid = for.valid;
    in_net = for.in_net;
    sound = record {
      all_credits = for.sound.all_credits;
      all_inputs = for.sound.all_inputs;
      all_received = for.sound.all_received;
      all_arbiters = all;
      arbiter_ports = have;
    };
    linked = for.linked;
    routes = for.routes;
    capacity = for.capacity;
    held = for.held;
  }

  -- a switch's part of a state has no arbiters
  same_part : (cell : Cell R A) (arbiters : List (Option A)) (b : Between) (s : State) → IsSwitchState d w cell b s → IsSwitchState d w (record cell { arbiters = arbiters }) b s
  same_part cell arbiters b s is = record {
    reached = is.reached;
    part = record { credit = is.part.credit; ports = λ c p at. let i = is.part.ports c p at in record { buffer = i.buffer; outstanding = i.outstanding; input = i.input } };
    between = is.between;
  }

  module _ (policy : A → ℕ → ℕ → A → Type 0) (cell new : Cell R A) (for : IsSwitchFor answer arbiter_ports d w cell) (out p : ℕ) (grants : Grants answer policy cell new out p) where
    have_arbiters : ((a b : A) (asking pick : ℕ) → policy a asking pick b → arbiter_ports b ≡ arbiter_ports a) → HaveArbiters arbiter_ports cell.linked (slice_set cell.arbiters out (Some grants.after))
    have_arbiters keeps port lt linked = ⊎_elim
        (λ e.
        let before : arbiter_ports grants.before ≡ cell.linked = subst (λ (o : Option (Option A)). HasArbiter arbiter_ports cell.linked o) grants.arbiter (for.sound.arbiter_ports out (omega arith) grants.possible.linked) in
        subst (λ (o : Option (Option A)). HasArbiter arbiter_ports cell.linked o) (sym (ap (slice_get (slice_set cell.arbiters out (Some grants.after))) e ∙ slice_get-set_same cell.arbiters out (Some grants.before) (Some grants.after) grants.arbiter))
        (keeps grants.before grants.after grants.asking p grants.picks ∙ before))
        (λ ne. subst (λ (o : Option (Option A)). HasArbiter arbiter_ports cell.linked o) (sym (slice_get-set_other cell.arbiters out port (Some grants.after) ne)) (for.sound.arbiter_ports port lt linked))
        (cases_eq port out)

    pub kept_picked : (c : ℕ) → end_of d c ≡ Some (Switch w p) → ((a b : A) (asking pick : ℕ) → policy a asking pick b → arbiter_ports b ≡ arbiter_ports a) → IsSwitchFor answer arbiter_ports d w new
    kept_picked c at keeps =
        let arbiters = slice_set cell.arbiters out (Some grants.after) in
        let all = length-set cell.arbiters out (Some grants.after) ∙ for.sound.all_arbiters in
        subst (λ (k : Cell R A). IsSwitchFor answer arbiter_ports d w k) (sym grants.changed)
        (with_arbiters (granted_to answer cell out p) arbiters all (have_arbiters keeps) (kept_granted answer arbiter_ports d w cell for c p out at grants.possible))

    pub picked_made : (c o : ℕ) (b : Between) → end_of d c ≡ Some (Switch w p) → slice_get (ends_of d) o ≡ Some (Switch w out) → SwitchMakes d w cell b (Grant o c) true new b
    picked_made c o b at at_o = subst (λ (k : Cell R A). SwitchMakes d w cell b (Grant o c) true k b) (sym grants.changed) (λ s is.
        let m = grant_made answer arbiter_ports d w cell for b c p o out at at_o grants.possible s is in
        (m.0, m.1, same_part (granted_to answer cell out p) (slice_set cell.arbiters out (Some grants.after)) b m.0 m.2))

  -- where no input asks for a port's output, no grant of it is possible
  pub none_picked : (cell : Cell R A) → IsSwitchFor answer arbiter_ports d w cell → (o out : ℕ) → slice_get (ends_of d) o ≡ Some (Switch w out) → ((p : ℕ) → CanGrant answer cell out p → ⊥) → CannotGrant d w cell o
  none_picked cell for o out at_o never c b s is q =
      let h = q.1 in
      let starts = (are_networks d for.valid).look_starts h.switch h.h o h.named in
      let same = switch_is h.switch w (sym starts.1 ∙ starts_at d o w out at_o) in
      let place = end_place d c w (h.at ∙ ap AtSwitch same) in
      (grant_not answer arbiter_ports d w cell for b c place.0 o out place.1 at_o (never place.0)).0 s is q
