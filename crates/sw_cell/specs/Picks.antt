-- Grants that an output's own arbiter decides.
use Rattle.std.specs.Prelude.{Some, slice_get, true, ℕ, ◌≡◌}
use Rattle.sw_cell.specs.SwitchParts.{IsSwitchState, SwitchMakes}
use Rattle.sw_flow.specs.Places.{end_of, ends_of}
use Rattle.sw_machine.specs.State.{State}
use Rattle.sw_machine.specs.Steps.{Grant, IsPossible}
use Rattle.sw_machine.specs.Model.{network_of}
use Rattle.sw_config.specs.Entries.{Declaration}
use Rattle.sw_route.specs.declared.look.Look.{Look}
use Rattle.sw_switch.specs.Cell.{Cell}
use Rattle.sw_switch.specs.Changes.{Grants}
use Rattle.sw_topo.specs.declared.place.PlaceEnd.TheVariants.{Switch}
use Rattle.sw_link.specs.Between.{Between}

-- the machine's step that grants output d to input c of switch w is made, and c is the one that the output's arbiter picks among those that ask; no other arbiter changes
pub record GrantsPick {R A : Type 0} (answer : R → ℕ → Look) (policy : A → ℕ → ℕ → A → Type 0) (net : Declaration) (w : ℕ) (old new : Cell R A) (d c : ℕ) : Type 0 where
  pub out : ℕ
  pub input : ℕ
  pub starts : slice_get (ends_of net) d ≡ Some (Switch w out)
  pub ends : end_of net c ≡ Some (Switch w input)
  pub grants : Grants answer policy old new out input
  pub makes : (b : Between) → SwitchMakes net w old b (Grant d c) true new b

-- in no reached state with this part can output d be granted to an input
abbrev pub CannotGrant : {R A : Type 0} → Declaration → ℕ → Cell R A → ℕ → Type 0
CannotGrant net w cell d = (c : ℕ) (b : Between) (s : State) → IsSwitchState net w cell b s → IsPossible (network_of net) s (Grant d c) → ⊥
