-- What a report says of a network (this project's choice).
use Rattle.std.specs.Prelude.{ℕ, ◌-◌, List, [], ◌∷◌, ◌++◌, codes, length}
use Rattle.std.specs.Fmt.{decimal}
use Rattle.sw_config.specs.Entries.{Declaration, all_flows, wiring_of}
use Rattle.sw_output.specs.Lines.{line}

-- a line of a name and a count
abbrev pub count_line : List ℕ → ℕ → List ℕ
count_line name count = line (name ∷ decimal count ∷ [])

-- how many nodes, switches and links the network has
abbrev pub wiring_text : Declaration → List ℕ
wiring_text d =
    count_line (codes "nodes") (length d.nodes)
    ++ (count_line (codes "switches") (length d.switches) ++ count_line (codes "links") (length d.links))

-- how many channels, declared flows and reply flows it has
abbrev pub flows_text : Declaration → List ℕ
flows_text d =
    count_line (codes "channels") (length (wiring_of d).ends)
    ++ (count_line (codes "flows") (length d.flows) ++ count_line (codes "replies") (length (all_flows d) - length d.flows))

-- how many places and dependencies it has, and the verdict in these words
abbrev pub findings_text : ℕ → ℕ → List ℕ → List ℕ
findings_text places dependencies verdict =
    count_line (codes "places") places
    ++ (count_line (codes "dependencies") dependencies ++ line (codes "verdict" ∷ verdict ∷ []))

abbrev pub report_text : Declaration → ℕ → ℕ → List ℕ → List ℕ
report_text d places dependencies verdict = wiring_text d ++ (flows_text d ++ findings_text places dependencies verdict)
