-- How the greatest fills of receive buffers are written (this project's choice).
use Rattle.std.specs.Fmt.{decimal}
use Rattle.std.specs.List.{range_with_len}
use Rattle.std.specs.Prelude.{List, [], codes, flat_map, if◌then◌else◌, length, nat_lt, slice_index, ℕ, ◌++◌}
use Rattle.sw_config.specs.Entries.{Declaration, capacities}
use Rattle.sw_output.specs.ChannelTexts.{channel_text}

-- of a channel, if its buffer ever held a character: how many at most, and how many it has room for
abbrev pub fill_line : Declaration → ℕ → ℕ → List ℕ
fill_line d c fill =
    if nat_lt 0 fill
    then codes "buffer " ++ (channel_text d c ++ (codes ": greatest fill " ++ (decimal fill ++ (codes " of " ++ (decimal (slice_index (capacities d.links) c) ++ codes "\n")))))
    else []

-- of all channels
abbrev pub fill_lines : Declaration → List ℕ → List ℕ
fill_lines d fills = flat_map (λ c. fill_line d c (slice_index fills c)) (range_with_len 0 (length fills))
