-- How often packets came out, and how that is written (this project's choice).
use Rattle.std.specs.Prelude.{ℕ, ◌≡◌, ◌≤◌, ◌+◌, All, List, [], ◌∷◌, ◌++◌, codes, flat_map, if◌then◌else◌}
use Rattle.std.specs.Cmp.Lexicographic.{slice_cmp}
use Rattle.std.specs.Fmt.{decimal}
use Rattle.std.specs.declared.cmp.Ordering.{Ordering}
use Rattle.std.specs.Ordering.{is_eq, nat_cmp, ordering_then}
use Rattle.sw_char.specs.declared.nchar.End.{End}
use Rattle.sw_char.specs.declared.nchar.End.TheVariants.{Eop, Eep}
use Rattle.sw_char.specs.PacketView.{PacketView}
use Rattle.sw_config.specs.Entries.{Declaration}
use Rattle.sw_output.specs.Counting.{IsRisingBy, TallyOf, counted_by, tallies_by}
use Rattle.sw_output.specs.Lines.{line}
use Rattle.sw_output.specs.PacketTexts.{by_node, bytes_text, end_text, node_line, undelivered_line}

-- a normal end before an error end
abbrev pub end_rank : End → ℕ
end_rank Eop = 0
end_rank Eep = 1

-- packets are ordered by their bytes, a beginning first, and then by their ends
abbrev pub packet_order : PacketView → PacketView → Ordering
packet_order p q = ordering_then (slice_cmp nat_cmp p.bytes q.bytes) (nat_cmp (end_rank p.end) (end_rank q.end))

-- a packet, and how often it came out
abbrev pub TallyView : Type 0
TallyView = TallyOf PacketView

-- one packet more
abbrev pub counted : PacketView → List TallyView → List TallyView
counted p ts = counted_by packet_order p ts

-- the different packets of a list in rising order, each with how often it is listed
abbrev pub tallies : List PacketView → List TallyView
tallies packets = tallies_by packet_order packets

-- each packet comes before those after it
abbrev pub IsRising : List TallyView → Type 0
IsRising ts = IsRisingBy packet_order ts

-- how often a packet is in a list
abbrev pub times : PacketView → List PacketView → ℕ
times p [] = 0
times p (q ∷ qs) = (if is_eq (packet_order p q) then 1 else 0) + times p qs

-- how often it is by the tallies
abbrev pub tallied : PacketView → List TallyView → ℕ
tallied p [] = 0
tallied p (t ∷ ts) = (if is_eq (packet_order p t.item) then t.count else 0) + tallied p ts

-- the tallies tell of the packets of a list and of no others, each once, and how often it is in the list
pub record AreTallies (packets : List PacketView) (ts : List TallyView) : Type 0 where
  pub rising : IsRising ts
  pub listed : All (λ t. 1 ≤ t.count) ts
  pub counts : (p : PacketView) → tallied p ts ≡ times p packets

abbrev pub TalliesCount : Type 0
TalliesCount = (packets : List PacketView) → AreTallies packets (tallies packets)

-- a packet that came out at a node, and how often
abbrev pub counted_line : List ℕ → TallyView → List ℕ
counted_line name t = line (codes "packet" ∷ name ∷ decimal t.count ∷ bytes_text t.item.bytes ∷ end_text t.item.end ∷ [])

-- a line for each of the different packets that came out at a node
abbrev pub counted_lines : List ℕ → List PacketView → List ℕ
counted_lines name packets = flat_map (counted_line name) (tallies packets)

-- how many characters are undelivered, how many packets came out at each node, and which
abbrev pub sent_text : Declaration → ℕ → List (List PacketView) → List ℕ
sent_text d undelivered all = undelivered_line undelivered ++ (by_node node_line d all ++ by_node counted_lines d all)
