-- How a verdict on a network is written (this project's choice).
use Rattle.std.specs.Prelude.{ℕ, max, List, [], ◌∷◌, ◌++◌, codes, flat_map, length, unwrap_or}
use Rattle.std.specs.List.{reduce, zip}
use Rattle.std.specs.Fmt.{decimal}
use Rattle.sw_config.specs.Entries.{Declaration}
use Rattle.sw_cycle.specs.RouteFault.{RouteFault}
use Rattle.sw_cycle.specs.Place.{Place}
use Rattle.sw_cycle.specs.Cycles.{CauseEntry, ByTarget, ByFlow, CycleEntry}
use Rattle.sw_output.specs.ChannelTexts.{channel_text, node_name}
use Rattle.sw_output.specs.FlowTexts.{flow_name, place_words, route_fault_text}
use Rattle.sw_output.specs.Lines.{line, spaced}

-- what makes a channel wait for the next
abbrev pub cause_words : Declaration → CauseEntry → List ℕ
cause_words d (ByTarget node) = spaced (codes "target" ∷ node_name d node ∷ [])
cause_words d (ByFlow flow places) = spaced (codes "flow" ∷ flow_name d flow ∷ [])

-- a channel of a cycle, and what makes it wait for the next
abbrev pub cycle_line : Declaration → ℕ → CauseEntry → List ℕ
cycle_line d c cause = line (codes "channel" ∷ decimal c ∷ channel_text d c ∷ codes "by" ∷ cause_words d cause ∷ [])

-- a line for each channel, with its cause
abbrev pub cycle_lines : Declaration → List ℕ → List CauseEntry → List ℕ
cycle_lines d channels causes = flat_map (λ p. cycle_line d p.0 p.1) (zip channels causes)

-- how many channels a cycle has
abbrev pub cyclic_words : ℕ → List ℕ
cyclic_words count = spaced (codes "cyclic" ∷ decimal count ∷ [])

abbrev pub cycle_text : Declaration → CycleEntry → List ℕ
cycle_text d cycle = line (cyclic_words (length cycle.channels) ∷ []) ++ cycle_lines d cycle.channels cycle.causes

-- the flow, its place with a fault, and the fault
abbrev pub misrouted_words : Declaration → ℕ → Place → RouteFault → List ℕ
misrouted_words d i p fault = spaced (codes "misrouted" ∷ place_words d i p ∷ route_fault_text fault ∷ [])

-- the greatest of a certificate's numbers, 0 where there is none
abbrev pub height : List ℕ → ℕ
height numbers = unwrap_or (reduce max numbers) 0

-- a certificate in one line
abbrev pub free_words : List ℕ → List ℕ
free_words numbers = spaced (codes "free height" ∷ decimal (height numbers) ∷ [])
