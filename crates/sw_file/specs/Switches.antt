-- The entries of `switch` (the format of the file is this project's choice).
use Rattle.std.specs.Prelude.{ℕ, ◌&&◌, nat_le, List, [], ◌∷◌, ◌++◌, length, codes, Option, Some, None, Result, Ok, Err, if◌then◌else◌}
use Rattle.std.specs.List.{list_any}
use Rattle.std.specs.Str.{bytes_eq}
use Rattle.toml.specs.Data.{Members}
use Rattle.sw_topo.specs.Ports.{port_set}
use Rattle.sw_route.specs.declared.look.Route.{Route as RouteEntry}
use Rattle.sw_route.specs.Looks.{overlaps}
use Rattle.sw_arb.specs.declared.arbitration.Arbitration.{Arbitration}
use Rattle.sw_arb.specs.declared.arbitration.Arbitration.TheVariants.{Fixed, RoundRobin, LeastRecent}
use Rattle.sw_config.specs.Entries.{SwitchEntry, Declaration, part_names}
use Rattle.sw_text.specs.declared.keys.Key.TheVariants.{Arbiter, Route, Address, Last, Ports, Delete}
use Rattle.sw_text.specs.declared.keys.Section.{Section}
use Rattle.sw_text.specs.declared.keys.Section.TheVariants as section
use Rattle.sw_text.specs.declared.keys.Version.{Version}
use Rattle.sw_text.specs.declared.fault.KeyFault.TheVariants.{OutOfRange}
use Rattle.sw_text.specs.declared.fault.TextFault.{TextFault}
use Rattle.sw_text.specs.declared.fault.TextFault.TheVariants as fault
use Rattle.sw_text.specs.Gives.{◌>>=◌, ok_or, walk}
use Rattle.sw_text.specs.Table.{only_known, text_or_none, number_at, number_or, numbers_at, tables_or_none, flag_or_false}
use Rattle.sw_text.specs.SectionKeys.{switch_keys, route_keys}
use Rattle.sw_file.specs.Names.{new_name}

-- the arbitration of that name
abbrev pub arbitration_named : List ℕ → Option Arbitration
arbitration_named name =
    if bytes_eq name (codes "fixed") then Some Fixed
    else if bytes_eq name (codes "round-robin") then Some RoundRobin
    else if bytes_eq name (codes "least-recent") then Some LeastRecent
    else None

-- how switch i arbitrates: round robin where the file doesn't say
unfoldable pub arbitration_at : ℕ → Members → Result Arbitration TextFault
arbitration_at i ms = text_or_none (section.Switch i) Arbiter ms >>= named
  where
    named : Option (List ℕ) → Result Arbitration TextFault
    named None = Ok RoundRobin
    named (Some name) = ok_or (arbitration_named name) (fault.Key OutOfRange (section.Switch i) Arbiter)

-- The set of the 1 to 32 ports that are listed; a routing switch has the ports 0 to 31 (ECSS-E-ST-50-12C, network layer).
unfoldable pub ports_at : Section → Members → Result ℕ TextFault
ports_at s ms = do
  ports ← numbers_at s Ports 31 ms
  if nat_le 1 (length ports) && nat_le (length ports) 32 then Ok (port_set ports) else Err (fault.Key OutOfRange s Ports)

-- An entry of a routing table: the logical addresses that it is for, 32 to 254, its ports, and whether the address is deleted there
-- (ECSS-E-ST-50-12C, network layer: logical and regional addressing). In version 1 `last` is an unknown key, so there its default counts: the entry is for one address.
unfoldable pub route_of : Version → Section → Members → Result RouteEntry TextFault
route_of version s ms = do
  known ← only_known s (route_keys version) ms
  first ← number_at s Address 32 254 ms
  last ← number_or s Last first 254 first ms
  ports ← ports_at s ms
  delete ← flag_or_false s Delete ms
  Ok (record { first = first; last = last; ports = ports; delete = delete })

-- one more entry of the routing table of switch i, which has to be for none of the addresses of those before it
unfoldable pub next_route : Version → ℕ → ℕ → List RouteEntry → Members → Result (List RouteEntry) TextFault
next_route version i j routes ms = do
  route ← route_of version (section.Route i j) ms
  if list_any (overlaps route) routes then Err (fault.DuplicateRoute i j) else Ok (routes ++ route ∷ [])

-- the routing table of switch i
unfoldable pub routes_at : Version → ℕ → Members → Result (List RouteEntry) TextFault
routes_at version i ms = do
  tables ← tables_or_none (section.Switch i) Route ms
  walk (next_route version i) [] tables

-- entry i of `switch`, where these names are taken
unfoldable pub switch_of : Version → ℕ → List (List ℕ) → Members → Result SwitchEntry TextFault
switch_of version i taken ms = do
  known ← only_known (section.Switch i) switch_keys ms
  name ← new_name (section.Switch i) taken ms
  arbitration ← arbitration_at i ms
  routes ← routes_at version i ms
  Ok (record { name = name; arbitration = arbitration; routes = routes })

-- one more switch
unfoldable pub next_switch : Version → ℕ → Declaration → Members → Result Declaration TextFault
next_switch version i d ms = do
  switch ← switch_of version i (part_names d) ms
  Ok (record d { switches = d.switches ++ switch ∷ [] })
