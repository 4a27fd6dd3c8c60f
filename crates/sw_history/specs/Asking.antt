-- To which inputs an output can be granted after a history.
use Rattle.std.specs.Prelude.{IsBitSet, List, ℕ}
use Rattle.sw_config.specs.Entries.{Declaration}
use Rattle.sw_history.specs.Next.{MayFollow}
use Rattle.sw_machine.specs.Begun.{Begun}
use Rattle.sw_machine.specs.Steps.{Grant, Step}
use Rattle.sw_machine.specs.Model.{network_of}
use Rattle.sw_net.specs.Asking.{IsInput}

-- these are the ports to whose inputs the output where channel e starts can be granted by the next step (ECSS-E-ST-50-12C, network layer:
-- wormhole routing); none where it starts at a node
pub record AreAsking (d : Declaration) (packets : List Begun) (steps : List Step) (e ports : ℕ) : Type 0 where
  pub asks : (port : ℕ) → IsBitSet ports port → (c : ℕ) × IsInput d e port c × MayFollow (network_of d) packets steps (Grant e c)
  pub no_others : (port c : ℕ) → IsInput d e port c → (IsBitSet ports port → ⊥) → MayFollow (network_of d) packets steps (Grant e c) → ⊥
