-- What a switch keeps, as its part tells it.
use Rattle.std.specs.Prelude.{map, ◌≡◌}
use Rattle.sw_net.specs.Kept.{kept_at_port}
use Rattle.sw_net.specs.declared.part.Part.{Part}
use Rattle.sw_net.specs.declared.part.Part.TheVariants.{Node, Switch}
use Rattle.sw_switch.specs.Cell.{Cell}
use Rattle.sw_topo.specs.Ports.{ports_of}

-- of each port with a link, in rising order, what the cell keeps there
abbrev pub IsKept : {R A : Type 0} → Cell R A → Part → Type 0
IsKept cell (Node part) = ⊥
IsKept cell (Switch parts) = parts.items ≡ map (kept_at_port cell) (ports_of cell.linked)
