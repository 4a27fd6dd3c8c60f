-- The ports of a switch that have a link.
use Rattle.std.specs.Prelude.{ℕ, Bool, List, is_some}
use Rattle.std.specs.List.{filter, range_with_len}
use Rattle.sw_topo.specs.Wiring.{out_of}
use Rattle.sw_config.specs.Entries.{Declaration, wiring_of}

abbrev pub has_link : Declaration → ℕ → ℕ → Bool
has_link d s port = is_some (out_of (wiring_of d).ends s port)

-- those of the first so many ports that have a link, rising
unfoldable pub linked_ports : Declaration → ℕ → ℕ → List ℕ
linked_ports d s ports = filter (has_link d s) (range_with_len 0 ports)
