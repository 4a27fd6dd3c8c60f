-- What the program's parts say, in the words of the definitions.
use Rattle.std.specs.Prelude.{◌≡◌, ◌⊎◌, Result, Ok, Err}
use Rattle.toml.specs.Data.{Members}
use Rattle.toml.specs.View.{table_view}
use Rattle.sw_text.specs.declared.keys.Version.TheVariants.{One, Two, Three}
use Rattle.sw_text.specs.Gives.{FileFault}
use Rattle.sw_text.specs.declared.fault.OrMemory.{OrMemory}
use Rattle.sw_text.specs.declared.fault.OrMemory.TheVariants.{Fault, Memory}
use Rattle.sw_file.specs.Network.{network_of}
use Rattle.sw_file.specs.declared.fault.MigrateFault.{MigrateFault}
use Rattle.sw_file.specs.declared.fault.MigrateFault.TheVariants.{Text, NotOld}
use Rattle.sw_file.specs.declared.rows.RouteEntry.{RouteEntry}
use Rattle.sw_file.specs.declared.rows.Row.{Row as DeclaredRow}
use Rattle.sw_file.specs.Rows.{Entry, Row}
use Rattle.sw_file.specs.Migration.{DeclaresAs}

-- an entry and a row
abbrev pub entry_view : RouteEntry → Entry
entry_view e = record { table = table_view e.table.now; address = e.address; ports = e.ports.items; delete = e.delete }

abbrev pub row_view : DeclaredRow → Row
row_view r = record { first = entry_view r.first.now; last = r.last }

-- a fault of reading as one of migrating
abbrev pub refusal : FileFault → OrMemory MigrateFault
refusal (Fault fault) = Fault (Text fault)
refusal Memory = Memory

-- a tree is not migrated where it declares no network, or is of version 2 or 3 already
abbrev pub RefusesTree : Members → OrMemory MigrateFault → Type 0
RefusesTree tree (Fault (Text fault)) = network_of tree ≡ Err fault
RefusesTree tree (Fault NotOld) = DeclaresAs Two tree ⊎ DeclaresAs Three tree
RefusesTree tree Memory = Unit {0}

-- what the look at a tree gave
abbrev pub Admits : Members → Result (Unit {0}) (OrMemory MigrateFault) → Type 0
Admits tree (Ok u) = DeclaresAs One tree
Admits tree (Err fault) = RefusesTree tree fault
