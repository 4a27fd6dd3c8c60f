-- The entries of `node` (the format of the file is this project's choice).
use Rattle.std.specs.Prelude.{ℕ, ◌+◌, nat_le, List, [], ◌∷◌, ◌++◌, Option, Some, None, Result, Ok, Err, if◌then◌else◌}
use Rattle.toml.specs.Data.{Members}
use Rattle.sw_rmap.specs.declared.config.TargetConfig.{TargetConfig}
use Rattle.sw_config.specs.Entries.{NodeEntry, Declaration, part_names}
use Rattle.sw_text.specs.declared.keys.Key.TheVariants.{Target, Logical, TargetKey, Start, Size, Slots, Outstanding}
use Rattle.sw_text.specs.declared.keys.Section.TheVariants as section
use Rattle.sw_text.specs.declared.keys.Version.{Version}
use Rattle.sw_text.specs.declared.fault.KeyFault.TheVariants.{OutOfRange}
use Rattle.sw_text.specs.declared.fault.TextFault.{TextFault}
use Rattle.sw_text.specs.declared.fault.TextFault.TheVariants as fault
use Rattle.sw_text.specs.Gives.{◌>>=◌}
use Rattle.sw_text.specs.Table.{only_known, number_at, number_or, number_or_none, table_or_none}
use Rattle.sw_text.specs.SectionKeys.{node_keys, target_keys}
use Rattle.sw_file.specs.Keys.{most_slots}
use Rattle.sw_file.specs.Names.{new_name}

-- how many bytes a target's window has, which ends at 2 ^ 40 at the latest
unfoldable pub size_at : ℕ → ℕ → Members → Result ℕ TextFault
size_at i start ms = do
  size ← number_at (section.Target i) Size 1 65536 ms
  if nat_le (start + size) 1099511627776 then Ok size else Err (fault.Key OutOfRange (section.Target i) Size)

-- What node i answers by as an RMAP target: its target logical address and its key (ECSS-E-ST-50-52C, the fields of a command), the
-- window of its memory, and how many replies it may owe. In version 1 `slots` is an unknown key, so there its default counts: one reply may be owed.
unfoldable pub config_of : Version → ℕ → Members → Result TargetConfig TextFault
config_of version i ms = do
  known ← only_known (section.Target i) (target_keys version) ms
  logical ← number_at (section.Target i) Logical 32 254 ms
  key ← number_or (section.Target i) TargetKey 0 255 0 ms
  start ← number_or (section.Target i) Start 0 1099511627775 0 ms
  size ← size_at i start ms
  slots ← number_or (section.Target i) Slots 1 (most_slots version) 1 ms
  Ok (record { logical = logical; key = key; start = start; size = size; slots = slots })

-- node i is a target where it has a table `target`
unfoldable pub target_or_none : Version → ℕ → Members → Result (Option TargetConfig) TextFault
target_or_none version i ms = table_or_none (section.Node i) Target ms >>= inner
  where
    inner : Option Members → Result (Option TargetConfig) TextFault
    inner None = Ok None
    inner (Some t) = do
      target ← config_of version i t
      Ok (Some target)

-- Entry i of `node`, where these names are taken. Before version 3 `outstanding` is an unknown key, so there no number of commands is given.
unfoldable pub node_of : Version → ℕ → List (List ℕ) → Members → Result NodeEntry TextFault
node_of version i taken ms = do
  known ← only_known (section.Node i) (node_keys version) ms
  name ← new_name (section.Node i) taken ms
  target ← target_or_none version i ms
  outstanding ← number_or_none (section.Node i) Outstanding 1 65535 ms
  Ok (record { name = name; target = target; outstanding = outstanding })

-- one more node
unfoldable pub next_node : Version → ℕ → Declaration → Members → Result Declaration TextFault
next_node version i d ms = do
  node ← node_of version i (part_names d) ms
  Ok (record d { nodes = d.nodes ++ node ∷ [] })
