-- How channels are written (this project's choice).
use Rattle.std.specs.Prelude.{ℕ, List, [], ◌++◌, codes, slice_get}
use Rattle.std.specs.Option.{option_map_or}
use Rattle.std.specs.Fmt.{decimal}
use Rattle.sw_topo.specs.declared.place.PlaceEnd.{PlaceEnd}
use Rattle.sw_topo.specs.declared.place.PlaceEnd.TheVariants.{Node, Switch}
use Rattle.sw_topo.specs.Wiring.{partner}
use Rattle.sw_config.specs.Entries.{Declaration, wiring_of}

abbrev pub node_name : Declaration → ℕ → List ℕ
node_name d n = option_map_or (λ e. e.name) (slice_get d.nodes n) []

abbrev pub switch_name : Declaration → ℕ → List ℕ
switch_name d s = option_map_or (λ e. e.name) (slice_get d.switches s) []

-- an end of a link: the node's name, or the switch's name and the port
abbrev pub end_text : Declaration → PlaceEnd → List ℕ
end_text d (Node n) = node_name d n
end_text d (Switch s p) = switch_name d s ++ (codes ":" ++ decimal p)

-- the end of a link at which channel c starts
abbrev pub start_text : Declaration → ℕ → List ℕ
start_text d c = option_map_or (end_text d) (slice_get (wiring_of d).ends c) []

-- a channel: the end at which it starts, and the end at which the other channel of its link starts
abbrev pub channel_text : Declaration → ℕ → List ℕ
channel_text d c = start_text d c ++ (codes ">" ++ start_text d (partner c))
