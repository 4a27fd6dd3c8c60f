-- The cells of a declared network, their link ends, and the numbers that a cell knows of these.
use Rattle.std.specs.List.{range_with_len}
use Rattle.std.specs.Prelude.{Bool, List, Option, false, filter, find, length, map, nat_eq, option_map, ℕ, ◌++◌}
use Rattle.sw_cell.specs.Places.{machine_cell}
use Rattle.sw_cell.specs.declared.cell.CellId.{CellId}
use Rattle.sw_cell.specs.declared.cell.CellId.TheVariants.{Node, Switch}
use Rattle.sw_machine.specs.Network.{AtNode, AtSwitch, Cell, Network}
use Rattle.sw_machine.specs.State.{State}
use Rattle.sw_machine.specs.Model.{network_of}
use Rattle.sw_net.specs.Numbers.{numbers_at}
use Rattle.sw_net.specs.declared.numbers.Numbers.{Numbers}
use Rattle.sw_config.specs.Entries.{Declaration}
use Rattle.sw_journal.specs.declared.cell_table.Known.{Known}

-- whether the two are one cell
abbrev pub same_cell : Cell → Cell → Bool
same_cell (AtNode n) (AtNode m) = nat_eq n m
same_cell (AtNode n) (AtSwitch w) = false
same_cell (AtSwitch w) (AtNode n) = false
same_cell (AtSwitch w) (AtSwitch v) = nat_eq w v

-- the network's cells: its nodes and then its switches, in the order of their numbers
abbrev pub cells_of : Declaration → List CellId
cells_of d = map (λ n. Node n) (range_with_len 0 (length d.nodes)) ++ map (λ w. Switch w) (range_with_len 0 (length d.switches))

-- the link ends of the cell, each named by the channel that starts there, in rising order
abbrev pub ends_at : Network → CellId → List ℕ
ends_at net id = filter (λ e. same_cell (net.start_of e) (machine_cell id)) (range_with_len 0 net.channels)

-- each with its numbers in a state
abbrev pub numbered : Network → State → CellId → List (ℕ × Numbers)
numbered net s id = map (λ e. (e, numbers_at net s e)) (ends_at net id)

-- what a cell knows in a state
abbrev pub known_of : Network → State → CellId → Known
known_of net s id = record { id = id; ends = numbered net s id }

-- what all cells know
abbrev pub all_known : Declaration → State → List Known
all_known d s = map (known_of (network_of d) s) (cells_of d)

-- the numbers of link end e in a list
abbrev pub end_numbers : List (ℕ × Numbers) → ℕ → Option Numbers
end_numbers ends e = option_map (λ p. p.1) (find (λ p. nat_eq p.0 e) ends)
