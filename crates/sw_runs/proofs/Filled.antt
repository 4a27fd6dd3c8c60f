-- A fill for each channel.
use Rattle.std.proofs.Common.{◌≡◌, ◌*◌, ◌∙◌, ℕ, List, length, ap}
use Rattle.std.proofs.lemmas.List.FromFn.{length-map-range_with_len}
use Rattle.sw_config.specs.Entries.{Declaration}
use Rattle.sw_summary.specs.Fills.{AreFills, greatest_fill}
use Rattle.sw_machine.specs.Steps.{Step}
use Rattle.sw_machine.specs.Model.{network_of}
use Rattle.sw_summary.proofs.Delivered.{channel_count}

pub one_each : (d : Declaration) (steps : List Step) (fills : List ℕ) → AreFills (network_of d) steps fills → length fills ≡ 2 * length d.links
one_each d steps fills is = ap length is.each ∙ (length-map-range_with_len (greatest_fill is.states) 0 (network_of d).channels ∙ channel_count d)
