-- The arbiters of a run's switches.
use Rattle.std.specs.Prelude.{All, List, Some, length, option_map, slice_get, slice_set, ℕ, ◌≡◌}
use Rattle.sw_arb.specs.Chosen.{PolicyPicks, policy_ports}
use Rattle.sw_arb.specs.declared.arbitration.Arbitration.{Arbitration}
use Rattle.sw_arb.specs.declared.arbitration.Arbitration.TheVariants as kinds
use Rattle.sw_arb.specs.declared.policy.Policy.{Policy}
use Rattle.sw_arb.specs.declared.policy.Policy.TheVariants.{Fixed, LeastRecent, RoundRobin}
use Rattle.sw_cell.specs.Places.{machine_cell}
use Rattle.sw_cell.specs.declared.cell.CellId.{CellId}
use Rattle.sw_config.specs.Entries.{Declaration}
use Rattle.sw_machine.specs.Network.{AtSwitch}
use Rattle.sw_journal.specs.NewNet.{IsLinkedSet}
use Rattle.sw_journal.specs.Policies.{IsNewFor}

-- of which kind an arbiter is
abbrev pub kind_of : Policy → Arbitration
kind_of (Fixed a) = kinds.Fixed
kind_of (RoundRobin a) = kinds.RoundRobin
kind_of (LeastRecent a) = kinds.LeastRecent

-- it is of the kind that the network declares for switch w, and has the linked ports of that switch (ECSS-E-ST-50-12C, network layer:
-- arbitration)
pub record IsArbiterFor (d : Declaration) (w : ℕ) (a : Policy) : Type 0 where
  pub kind : option_map (λ s. s.arbitration) (slice_get d.switches w) ≡ Some (kind_of a)
  pub linked : IsLinkedSet d w (policy_ports a)

-- if the cell is a switch, there are 32 such arbiters, one for the output at each port
abbrev pub HasArbiters : Declaration → CellId → List Policy → Type 0
HasArbiters d id arbiters = (w : ℕ) → machine_cell id ≡ AtSwitch w → (length arbiters ≡ 32) × All (IsArbiterFor d w) arbiters

-- and none of them has picked yet
abbrev pub HasNewArbiters : Declaration → CellId → List Policy → Type 0
HasNewArbiters d id arbiters = (w : ℕ) → machine_cell id ≡ AtSwitch w → (length arbiters ≡ 32) × All (IsNewFor d w) arbiters

-- the arbiter of the output at port `out` picks one of these ports, and the other arbiters stay as they are
pub record PicksAt (arbiters : List Policy) (out asking pick : ℕ) (after : List Policy) : Type 0 where
  pub before : Policy
  pub later : Policy
  pub at : slice_get arbiters out ≡ Some before
  pub picks : PolicyPicks before asking pick later
  pub others : after ≡ slice_set arbiters out later
