-- The entries of `link` (the format of the file is this project's choice).
use Rattle.std.specs.Prelude.{ℕ, ◌-◌, nat_lt, List, [], ◌∷◌, ◌++◌, length, Result, Ok, if◌then◌else◌}
use Rattle.toml.specs.Data.{Members}
use Rattle.sw_topo.specs.declared.place.PlaceEnd.{PlaceEnd}
use Rattle.sw_topo.specs.declared.place.PlaceEnd.TheVariants.{Node, Switch}
use Rattle.sw_config.specs.Entries.{LinkEntry, Declaration, part_names}
use Rattle.sw_text.specs.declared.keys.Key.{Key}
use Rattle.sw_text.specs.declared.keys.Key.TheVariants.{A, APort, B, BPort, Buffer, BufferA, BufferB}
use Rattle.sw_text.specs.declared.keys.Section.{Section}
use Rattle.sw_text.specs.declared.keys.Section.TheVariants as section
use Rattle.sw_text.specs.declared.keys.Version.{Version}
use Rattle.sw_text.specs.declared.fault.TextFault.{TextFault}
use Rattle.sw_text.specs.Gives.{◌>>=◌}
use Rattle.sw_text.specs.Table.{only_known, absent, number_at, number_or}
use Rattle.sw_text.specs.SectionKeys.{link_keys}
use Rattle.sw_file.specs.Names.{place_at}

-- An end of a link, among so many nodes and these names of the nodes and then the switches: a port is unknown beside a node,
-- and required beside a switch.
unfoldable pub end_at : Section → Key → Key → ℕ → List (List ℕ) → Members → Result PlaceEnd TextFault
end_at s key port nodes names ms = do
  place ← place_at s key names ms
  if nat_lt place nodes then at_node place else at_switch (place - nodes)
  where
    at_node : ℕ → Result PlaceEnd TextFault
    at_node node = do
      no_port ← absent s port ms
      Ok (Node node)

    at_switch : ℕ → Result PlaceEnd TextFault
    at_switch switch = do
      number ← number_at s port 0 31 ms
      Ok (Switch switch number)

-- Entry i of `link`, among so many nodes and these names of the nodes and then the switches. In version 1 `buffer_a` and `buffer_b`
-- are unknown keys, so there their default counts: both ends have what `buffer` says.
unfoldable pub link_of : Version → ℕ → ℕ → List (List ℕ) → Members → Result LinkEntry TextFault
link_of version i nodes names ms = do
  known ← only_known (section.Link i) (link_keys version) ms
  a ← end_at (section.Link i) A APort nodes names ms
  b ← end_at (section.Link i) B BPort nodes names ms
  buffer ← number_or (section.Link i) Buffer 8 4096 64 ms
  buffer_a ← number_or (section.Link i) BufferA 8 4096 buffer ms
  buffer_b ← number_or (section.Link i) BufferB 8 4096 buffer ms
  Ok (record { a = a; b = b; buffer_a = buffer_a; buffer_b = buffer_b })

-- one more link
unfoldable pub next_link : Version → ℕ → Declaration → Members → Result Declaration TextFault
next_link version i d ms = do
  link ← link_of version i (length d.nodes) (part_names d) ms
  Ok (record d { links = d.links ++ link ∷ [] })
