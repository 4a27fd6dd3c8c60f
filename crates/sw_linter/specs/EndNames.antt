-- Where flows start and end, by name.
use Rattle.std.specs.Prelude.{ℕ, List, [], slice_get}
use Rattle.std.specs.Option.{option_map_or}
use Rattle.sw_config.specs.Entries.{Declaration, all_flows}
use Rattle.sw_output.specs.ChannelTexts.{node_name}

-- the node to which the flow goes
abbrev pub end_name : Declaration → ℕ → List ℕ
end_name d i = option_map_or (λ f. node_name d f.to) (slice_get (all_flows d) i) []

-- the node from which it goes
abbrev pub start_name : Declaration → ℕ → List ℕ
start_name d i = option_map_or (λ f. node_name d f.from) (slice_get (all_flows d) i) []
