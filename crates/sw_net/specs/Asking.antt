-- To which inputs an output can be granted.
use Rattle.std.specs.Prelude.{IsBitSet, Some, false, slice_get, true, ℕ, ◌≡◌}
use Rattle.sw_flow.specs.Places.{end_of, ends_of}
use Rattle.sw_machine.specs.Steps.{Grant}
use Rattle.sw_net.specs.Net.{NetView}
use Rattle.sw_net.specs.Possible.{Tells}
use Rattle.sw_config.specs.Entries.{Declaration}
use Rattle.sw_topo.specs.declared.place.PlaceEnd.TheVariants.{Switch}

-- channel c comes to that port of the switch where channel e starts
pub record IsInput (d : Declaration) (e port c : ℕ) : Type 0 where
  pub switch : ℕ
  pub output : ℕ
  pub starts : slice_get (ends_of d) e ≡ Some (Switch switch output)
  pub ends : end_of d c ≡ Some (Switch switch port)

-- these are the ports to whose inputs the output where channel e starts can be granted (ECSS-E-ST-50-12C, network layer: wormhole routing);
-- none where it starts at a node
pub record AreAsking {R A : Type 0} (v : NetView R A) (e ports : ℕ) : Type 0 where
  pub asks : (port : ℕ) → IsBitSet ports port → (c : ℕ) × IsInput v.declared e port c × Tells v (Grant e c) true
  pub no_others : (port c : ℕ) → IsInput v.declared e port c → (IsBitSet ports port → ⊥) → Tells v (Grant e c) false
