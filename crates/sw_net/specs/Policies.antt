-- The arbiters that a network declares.
use Rattle.std.specs.Prelude.{List, Option, Some, option_map, slice_get, ℕ, ◌≡◌}
use Rattle.sw_arb.specs.Chosen.{IsNewPolicy}
use Rattle.sw_arb.specs.declared.arbitration.Arbitration.{Arbitration}
use Rattle.sw_arb.specs.declared.policy.Policy.{Policy}
use Rattle.sw_config.specs.Entries.{Declaration}
use Rattle.sw_flow.specs.Places.{ends_of}
use Rattle.sw_net.specs.New.{IsLinkedSet}
use Rattle.sw_net.specs.Outputs.{StandsAt}
use Rattle.sw_topo.specs.declared.place.PlaceEnd.TheVariants.{Switch}

-- it is of the kind that the network declares for switch w, has the linked ports of that switch, and picked none yet (ECSS-E-ST-50-12C,
-- network layer: arbitration)
pub record IsNewFor (d : Declaration) (w : ℕ) (a : Policy) : Type 0 where
  pub kind : Arbitration
  pub declared : option_map (λ s. s.arbitration) (slice_get d.switches w) ≡ Some kind
  pub ports : ℕ
  pub linked : IsLinkedSet d w ports
  pub new : IsNewPolicy kind ports a

-- of arbiters that are kept by switch and by port, that of each output where a channel starts is so for its switch
abbrev pub AreDeclaredPolicies : Declaration → List (List (Option Policy)) → Type 0
AreDeclaredPolicies d arbiters = (channel w port : ℕ) → slice_get (ends_of d) channel ≡ Some (Switch w port) → (a : Policy) × StandsAt arbiters w port a × IsNewFor d w a
