-- What reading a load file comes to.
use Rattle.std.specs.Prelude.{◌≡◌, ℕ, List, length, take, slice_get, Some, Ok, All}
use Rattle.toml.specs.Data.{Members}
use Rattle.sw_config.specs.Entries.{Declaration}
use Rattle.sw_text.specs.declared.keys.Key.TheVariants.{Packet}
use Rattle.sw_text.specs.declared.keys.Section.TheVariants as section
use Rattle.sw_text.specs.Table.{tables_or_none}
use Rattle.sw_machine.specs.DeclaredPackets.{IsDeclaredPacket}
use Rattle.sw_load.specs.Load.{LoadEntry, packet_of, load_of, load_text}

-- the document lists one table for each entry, and entry i is what table i declares behind the entries before it
pub record IsListedBy (d : Declaration) (ms : Members) (load : List LoadEntry) : Type 0 where
  pub tables : List Members
  pub listed : tables_or_none section.Document Packet ms ≡ Ok tables
  pub as_many : length load ≡ length tables
  pub each : (i : ℕ) (table : Members) (entry : LoadEntry) → slice_get tables i ≡ Some table → slice_get load i ≡ Some entry → packet_of i d (take i load) table ≡ Ok entry

-- so it is in each load that is read
abbrev pub ReadsEachEntry : Type 0
ReadsEachEntry = (d : Declaration) (ms : Members) (load : List LoadEntry) → load_of d ms ≡ Ok load → IsListedBy d ms load

-- each packet of the load is one that its flow declares
abbrev pub AreDeclared : Declaration → List LoadEntry → Type 0
AreDeclared d load = All (λ p. IsDeclaredPacket d p.flow p.cargo) load

-- the packets that a load file lists are those that the network's flows declare
abbrev pub ListedAreDeclared : Type 0
ListedAreDeclared = (d : Declaration) (bytes : List ℕ) (load : List LoadEntry) → load_text d bytes ≡ Ok load → AreDeclared d load
