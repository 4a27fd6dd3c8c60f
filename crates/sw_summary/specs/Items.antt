-- Packets at nodes, and how many of some count for others (this project's choice).
use Rattle.std.specs.Prelude.{Bool, List, [], count_by, filter, min, not, sum_by, ℕ, ◌&&◌, ◌-◌, ◌==◌, ◌∷◌}
use Rattle.std.specs.Str.{bytes_eq}
use Rattle.sw_char.specs.PacketView.{PacketView}
use Rattle.sw_output.specs.Tallies.{end_rank}

-- a node, and a packet there
pub record Item : Type 0 where
  pub node : ℕ
  pub packet : PacketView

-- the same node, the same bytes and the same end
abbrev pub is_same : Item → Item → Bool
is_same p q = (p.node == q.node) && (bytes_eq p.packet.bytes q.packet.bytes && (end_rank p.packet.end == end_rank q.packet.end))

-- how often a list has an item
abbrev pub times : Item → List Item → ℕ
times p items = count_by (is_same p) items

-- the items of a list, each once
abbrev pub different : List Item → List Item
different [] = []
different (p ∷ ps) = p ∷ filter (λ q. not (is_same p q)) (different ps)

-- of the items like p that came out, how many count for mine: those that are left when the ones before mine have got theirs
abbrev pub share : List Item → List Item → List Item → Item → ℕ
share came before mine p = min (times p mine) (times p came - times p before)

-- of all items that came out
abbrev pub shares : List Item → List Item → List Item → ℕ
shares came before mine = sum_by (share came before mine) (different mine)
