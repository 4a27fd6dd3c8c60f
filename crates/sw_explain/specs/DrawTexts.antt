-- The text of `draw` (this project's choice): a network in DOT, its nodes as boxes, its switches as records, its channels as edges.
use Rattle.std.specs.Prelude.{ℕ, ◌+◌, ◌==◌, List, [], ◌∷◌, ◌++◌, codes, flat_map, if◌then◌else◌, is_some, length, position, slice_get}
use Rattle.std.specs.Fmt.{decimal}
use Rattle.std.specs.List.{list_any, range_with_len}
use Rattle.std.specs.Option.{option_map_or}
use Rattle.sw_config.specs.Entries.{Declaration, target_of, wiring_of}
use Rattle.sw_flow.specs.declared.place.Place.{Place}
use Rattle.sw_output.specs.ChannelTexts.{node_name, switch_name}
use Rattle.sw_output.specs.Lines.{line}
use Rattle.sw_output.specs.LinkedPorts.{linked_ports}
use Rattle.sw_topo.specs.declared.place.PlaceEnd.{PlaceEnd}
use Rattle.sw_topo.specs.declared.place.PlaceEnd.TheVariants.{Node, Switch}
use Rattle.sw_topo.specs.Wiring.{partner}
use Rattle.sw_explain.specs.Dot.{AttributeText, quoted, statement}
use Rattle.sw_explain.specs.Drawings.{DrawingView}

abbrev pub attribute : List ℕ → List ℕ → AttributeText
attribute name value = record { name = name; value = value }

-- ---- nodes and switches

-- a target has two lines round it
abbrev pub node_attributes : Declaration → ℕ → List AttributeText
node_attributes d n = if is_some (target_of d.nodes n) then attribute (codes "peripheries") (codes "2") ∷ [] else []

abbrev pub node_statement : Declaration → ℕ → List ℕ
node_statement d n = statement (quoted (node_name d n)) (node_attributes d n)

-- a field of a record, named as the port
abbrev pub field_text : ℕ → List ℕ
field_text port = codes "|<" ++ (decimal port ++ (codes ">" ++ decimal port))

-- the fields of the ports that have a link
abbrev pub port_fields : Declaration → ℕ → List ℕ
port_fields d s = flat_map field_text (linked_ports d s 32)

-- a switch's name, and then its ports that have a link
abbrev pub record_text : Declaration → ℕ → List ℕ
record_text d s = switch_name d s ++ port_fields d s

abbrev pub switch_attributes : Declaration → ℕ → List AttributeText
switch_attributes d s = attribute (codes "shape") (codes "record") ∷ attribute (codes "label") (record_text d s) ∷ []

abbrev pub switch_statement : Declaration → ℕ → List ℕ
switch_statement d s = statement (quoted (switch_name d s)) (switch_attributes d s)

-- ---- channels

-- an end of a link: the node, or the port's field of the switch
abbrev pub end_text : Declaration → PlaceEnd → List ℕ
end_text d (Node n) = quoted (node_name d n)
end_text d (Switch s port) = quoted (switch_name d s) ++ (codes ":" ++ decimal port)

-- the end of a link at which channel c starts
abbrev pub start_text : Declaration → ℕ → List ℕ
start_text d c = option_map_or (end_text d) (slice_get (wiring_of d).ends c) []

-- channel c as an edge
abbrev pub edge_text : Declaration → ℕ → List ℕ
edge_text d c = start_text d c ++ (codes " -> " ++ start_text d (partner c))

-- a channel of a flow's places is bold, and told by its number
abbrev pub flow_attributes : List Place → ℕ → List AttributeText
flow_attributes places c =
    if list_any (λ (p : Place). p.channel == c) places then attribute (codes "style") (codes "bold") ∷ attribute (codes "xlabel") (codes "channel " ++ decimal c) ∷ []
    else []

-- a step of the cycle, behind so many others, is red and has its number
abbrev pub step_attributes : ℕ → List AttributeText
step_attributes before =
    attribute (codes "color") (codes "red") ∷ attribute (codes "fontcolor") (codes "red") ∷ attribute (codes "label") (decimal (before + 1)) ∷ []

abbrev pub cycle_attributes : List ℕ → ℕ → List AttributeText
cycle_attributes cycle c = option_map_or step_attributes (position (λ e. e == c) cycle) []

-- a channel's number in the certificate
abbrev pub number_attributes : List ℕ → ℕ → List AttributeText
number_attributes numbers c = option_map_or (λ n. attribute (codes "label") (decimal n) ∷ []) (slice_get numbers c) []

abbrev pub channel_attributes : DrawingView → ℕ → List AttributeText
channel_attributes drawing c = flow_attributes drawing.places c ++ (cycle_attributes drawing.cycle c ++ number_attributes drawing.numbers c)

abbrev pub channel_statement : Declaration → DrawingView → ℕ → List ℕ
channel_statement d drawing c = statement (edge_text d c) (channel_attributes drawing c)

-- ---- all together

-- nodes are boxes
abbrev pub head_text : List ℕ
head_text = line (codes "digraph network {" ∷ []) ++ statement (codes "node") (attribute (codes "shape") (codes "box") ∷ [])

-- a statement for each node, each switch and each channel
abbrev pub parts_text : Declaration → DrawingView → List ℕ
parts_text d drawing =
    flat_map (node_statement d) (range_with_len 0 (length d.nodes))
    ++ (flat_map (switch_statement d) (range_with_len 0 (length d.switches))
    ++ flat_map (channel_statement d drawing) (range_with_len 0 (length (wiring_of d).ends)))

abbrev pub draw_text : Declaration → DrawingView → List ℕ
draw_text d drawing = head_text ++ (parts_text d drawing ++ line (codes "}" ∷ []))
