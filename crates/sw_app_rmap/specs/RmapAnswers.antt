-- What `rmap` answers (this project's choice).
use Rattle.std.specs.Prelude.{◌≡◌, ℕ, false, List, [], ◌∷◌, Ok, Err, string_bytes}
use Rattle.sw_char.specs.declared.nchar.End.TheVariants.{Eop}
use Rattle.toml.specs.Text.{IsDocumentText}
use Rattle.sw_config.specs.Entries.{Declaration}
use Rattle.sw_load.specs.Load.{LoadEntry, load_text}
use Rattle.sw_text.specs.Ends.{Answers}
use Rattle.sw_app_rmap.specs.declared.request.Request.{Request}
use Rattle.sw_app_rmap.specs.declared.rmap_finding.RmapFinding.{RmapFinding}
use Rattle.sw_app_rmap.specs.declared.rmap_finding.RmapFinding.TheVariants.{Entry, Fault}
use Rattle.sw_engine.specs.LineAnswers.{NetworkFileInLines}
use Rattle.sw_app_rmap.specs.EntryTexts.{fault_line, load_table}
use Rattle.sw_app_rmap.specs.Packets.{FlowPacket, packet_of}

-- a load of this packet alone, which ends normally
abbrev pub load_of : FlowPacket → List LoadEntry
load_of p = record { flow = p.flow; cargo = p.cargo; marker = Eop; count = 1 } ∷ []

-- the text is that of the packet's entry, as the kit's printer writes it, and is read back as a load of this packet alone
pub record IsLoadText (d : Declaration) (name : List ℕ) (p : FlowPacket) (text : List ℕ) : Type 0 where
  pub is_written : IsDocumentText false (load_table name p.cargo) text
  pub reads_back : load_text d text ≡ Ok (load_of p)

-- what is found of a network: the text of the packet's entry, or why there is no such packet
abbrev pub IsRmapFinding : Request → Declaration → RmapFinding → Type 0
IsRmapFinding r d (Entry text) = (p : FlowPacket) × (packet_of d r ≡ Ok p) × IsLoadText d r.flow.now p (string_bytes text)
IsRmapFinding r d (Fault fault) = packet_of d r ≡ Err fault

abbrev pub rmap_lines : RmapFinding → List ℕ
rmap_lines (Entry text) = string_bytes text
rmap_lines (Fault fault) = fault_line fault

abbrev pub rmap_status : RmapFinding → ℕ
rmap_status (Entry text) = 0
rmap_status (Fault fault) = 3

-- of the bytes of a file
abbrev pub IsRmapAnswer : Request → List ℕ → Answers
IsRmapAnswer r = NetworkFileInLines (IsRmapFinding r) (λ d found. rmap_lines found) rmap_status
