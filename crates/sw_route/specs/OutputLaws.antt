-- The channels that a look names, in a wiring without fault.
use Rattle.std.specs.Prelude.{◌↔◌, ℕ, ◌<◌, IsBitSet}
use Rattle.sw_topo.specs.declared.place.PlaceEnd.TheVariants.{Switch}
use Rattle.sw_topo.specs.Wiring.{Wiring}
use Rattle.sw_topo.specs.Checked.{IsSound}
use Rattle.sw_topo.specs.Laws.{StartsAt}
use Rattle.sw_route.specs.declared.look.Look.{Look}
use Rattle.sw_route.specs.Looks.{NamesOutput}

-- a look names those channels that start at the switch, at a port that it names
abbrev pub OutputsAreTheNamedChannels : Type 0
OutputsAreTheNamedChannels = (w : Wiring) → IsSound w → (s : ℕ) (look : Look) (d : ℕ) → NamesOutput w.ends s look d ↔ ((port : ℕ) × (port < 32) × IsBitSet look.ports port × StartsAt w d (Switch s port))
