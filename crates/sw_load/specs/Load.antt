-- The load file, which lists packets to be sent (its format is this project's choice).
use Rattle.std.specs.Prelude.{◌≡◌, ℕ, ◌+◌, ◌≤◌, nat_le, List, [], ◌∷◌, ◌++◌, length, sum_by, position, codes, Option, Some, None, Result, Ok, Err, if◌then◌else◌}
use Rattle.std.specs.Str.{bytes_eq}
use Rattle.toml.specs.Data.{Members}
use Rattle.sw_char.specs.declared.nchar.End.{End}
use Rattle.sw_char.specs.declared.nchar.End.TheVariants.{Eop, Eep}
use Rattle.sw_config.specs.Entries.{FlowEntry, Declaration, flow_names}
use Rattle.sw_text.specs.declared.keys.Key.{Key}
use Rattle.sw_text.specs.declared.keys.Key.TheVariants.{Packet, Flow, Cargo, Count, End as EndKey}
use Rattle.sw_text.specs.declared.keys.Section.TheVariants as section
use Rattle.sw_text.specs.declared.fault.KeyFault.TheVariants.{OutOfRange, UnknownName}
use Rattle.sw_text.specs.declared.fault.TextFault.{TextFault}
use Rattle.sw_text.specs.declared.fault.TextFault.TheVariants as fault
use Rattle.sw_text.specs.Gives.{◌>>=◌, ok_or, walk}
use Rattle.sw_text.specs.Table.{only_known, number_or, text_at, text_or_none, tables_or_none}
use Rattle.sw_text.specs.Document.{document_of}
use Rattle.sw_text.specs.SectionKeys.{packet_keys}
use Rattle.sw_machine.specs.DeclaredPackets.{is_declared_packet}
use Rattle.sw_load.specs.Cargo.{cargo_of}

-- so many packets of one declared flow, all with this cargo behind the flow's address and this end marker
pub record LoadEntry : Type 0 where
  pub flow : ℕ
  pub cargo : List ℕ
  pub marker : End
  pub count : ℕ

-- how many packets a load has in all
abbrev pub packet_count : List LoadEntry → ℕ
packet_count load = sum_by (λ p. p.count) load

-- the load has so many packets, at most 65,536
pub record IsTotal (load : List LoadEntry) (total : ℕ) : Type 0 where
  pub same : total ≡ packet_count load
  pub few : total ≤ 65536

abbrev pub document_keys : List Key
document_keys = Packet ∷ []

-- the number of the declared flow that entry i names
unfoldable pub flow_at : ℕ → List FlowEntry → Members → Result ℕ TextFault
flow_at i flows ms = do
  name ← text_at (section.Packet i) Flow ms
  ok_or (position (bytes_eq name) (flow_names flows)) (fault.Key UnknownName (section.Packet i) Flow)

-- the bytes that the cargo text of entry i spells
unfoldable pub cargo_at : ℕ → Members → Result (List ℕ) TextFault
cargo_at i ms = do
  text ← text_at (section.Packet i) Cargo ms
  ok_or (cargo_of text) (fault.Key OutOfRange (section.Packet i) Cargo)

-- a packet ends normally where nothing else is said
abbrev pub marker_of : Option (List ℕ) → Option End
marker_of None = Some Eop
marker_of (Some text) = if bytes_eq text (codes "EOP") then Some Eop else if bytes_eq text (codes "EEP") then Some Eep else None

unfoldable pub marker_at : ℕ → Members → Result End TextFault
marker_at i ms = do
  text ← text_or_none (section.Packet i) EndKey ms
  ok_or (marker_of text) (fault.Key OutOfRange (section.Packet i) EndKey)

-- how many packets entry i has, of at most 65,536 with those before it
unfoldable pub count_at : ℕ → ℕ → Members → Result ℕ TextFault
count_at i before ms = do
  count ← number_or (section.Packet i) Count 1 1000 1 ms
  if nat_le (before + count) 65536 then Ok count else Err (fault.Key OutOfRange (section.Packet i) Count)

-- Entry i, behind those of a load. Whether its packets are the flow's is looked at last.
unfoldable pub packet_of : ℕ → Declaration → List LoadEntry → Members → Result LoadEntry TextFault
packet_of i d load ms = do
  known ← only_known (section.Packet i) packet_keys ms
  flow ← flow_at i d.flows ms
  cargo ← cargo_at i ms
  marker ← marker_at i ms
  count ← count_at i (packet_count load) ms
  if is_declared_packet d flow cargo then Ok (record { flow = flow; cargo = cargo; marker = marker; count = count }) else Err (fault.NotInFlow i)

-- one more entry
unfoldable pub next_packet : Declaration → ℕ → List LoadEntry → Members → Result (List LoadEntry) TextFault
next_packet d i load ms = do
  packet ← packet_of i d load ms
  Ok (load ++ packet ∷ [])

-- at most 4,096 entries, which are counted before they are looked at
unfoldable pub load_of : Declaration → Members → Result (List LoadEntry) TextFault
load_of d ms = do
  known ← only_known section.Document document_keys ms
  tables ← tables_or_none section.Document Packet ms
  if nat_le (length tables) 4096 then walk (next_packet d) [] tables else Err (fault.Key OutOfRange section.Document Packet)

-- the load that a text lists for a network, or its first fault
abbrev pub load_text : Declaration → List ℕ → Result (List LoadEntry) TextFault
load_text d bytes = document_of bytes >>= load_of d
