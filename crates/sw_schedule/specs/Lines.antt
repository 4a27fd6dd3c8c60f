-- What a line of a schedule says (its format is this project's choice).
use Rattle.std.specs.Prelude.{ℕ, ◌*◌, ◌==◌, nat_lt, Bool, true, List, [], ◌∷◌, length, map, replicate, position, codes, Option, Some, None, option_map, option_and_then, if◌then◌else◌}
use Rattle.std.specs.Option.{option_map_or, option_or}
use Rattle.std.specs.List.{slice_split}
use Rattle.std.specs.Str.{bytes_eq, is_utf8}
use Rattle.sw_char.specs.declared.nchar.End.{End}
use Rattle.sw_char.specs.declared.nchar.End.TheVariants.{Eop, Eep}
use Rattle.sw_machine.specs.Steps.{Step, Fct, FctIn, Arrive, Grant, Drop, Forward, Spill, Begin, Emit, Accept, Reply}
use Rattle.sw_config.specs.Entries.{Declaration, flow_names}
use Rattle.sw_load.specs.Cargo.{bytes_of}
use Rattle.sw_text.specs.Number.{number_of}

-- a step, and how many times it is made
pub record Repeated : Type 0 where
  pub count : ℕ
  pub step : Step

-- the channel of that number, if the network has one
abbrev pub channel_of : Declaration → List ℕ → Option ℕ
channel_of d word = option_and_then (λ c. if nat_lt c (2 * length d.links) then Some c else None) (number_of 65535 word)

-- the place of the name among the names, which are texts in UTF-8
abbrev pub named : List (List ℕ) → List ℕ → Option ℕ
named names word = if is_utf8 word then position (bytes_eq word) names else None

-- the node of that name
abbrev pub node_of : Declaration → List ℕ → Option ℕ
node_of d word = named (map (λ n. n.name) d.nodes) word

-- the declared flow of that name
abbrev pub flow_of : Declaration → List ℕ → Option ℕ
flow_of d word = named (flow_names d.flows) word

abbrev pub end_of : List ℕ → Option End
end_of word = if bytes_eq word (codes "EOP") then Some Eop else if bytes_eq word (codes "EEP") then Some Eep else None

-- a step at one channel
abbrev pub at_channel : List ℕ → ℕ → Option Step
at_channel verb c =
    if bytes_eq verb (codes "fct") then Some (Fct c)
    else if bytes_eq verb (codes "fctin") then Some (FctIn c)
    else if bytes_eq verb (codes "arrive") then Some (Arrive c)
    else if bytes_eq verb (codes "drop") then Some (Drop c)
    else if bytes_eq verb (codes "forward") then Some (Forward c)
    else if bytes_eq verb (codes "spill") then Some (Spill c)
    else None

-- a step at a node
abbrev pub at_node : List ℕ → ℕ → Option Step
at_node verb n =
    if bytes_eq verb (codes "emit") then Some (Emit n)
    else if bytes_eq verb (codes "accept") then Some (Accept n)
    else if bytes_eq verb (codes "reply") then Some (Reply n)
    else None

-- an output is granted to an input
abbrev pub grant_of : Declaration → List ℕ → List ℕ → List ℕ → Option Step
grant_of d verb output input =
    if bytes_eq verb (codes "grant") then option_and_then (λ o. option_map (λ i. Grant o i) (channel_of d input)) (channel_of d output)
    else None

-- a packet of a flow begins, of that cargo and with that end marker
abbrev pub begin_of : Declaration → List ℕ → List ℕ → List ℕ → List ℕ → Option Step
begin_of d verb flow end cargo =
    if bytes_eq verb (codes "begin") then option_and_then (λ f. option_and_then (λ e. option_map (λ bytes. Begin f bytes e) (bytes_of cargo)) (end_of end)) (flow_of d flow)
    else None

-- the step that these words write, if they write one
abbrev pub step_of : Declaration → List (List ℕ) → Option Step
step_of d (verb ∷ place ∷ []) = option_or (option_and_then (at_channel verb) (channel_of d place)) (option_and_then (at_node verb) (node_of d place))
step_of d (verb ∷ output ∷ input ∷ []) = grant_of d verb output input
step_of d (verb ∷ flow ∷ end ∷ cargo ∷ []) = begin_of d verb flow end cargo
step_of d words = None

-- how often a step is made: 1 to 100,000
abbrev pub count_of : List ℕ → Option ℕ
count_of word = option_and_then (λ n. if n == 0 then None else Some n) (number_of 100000 word)

-- a step, which is made once, or a count and a step
abbrev pub repeated_of : Declaration → List (List ℕ) → Option Repeated
repeated_of d [] = None
repeated_of d (word ∷ words) = option_map_or (λ n. option_map (λ s. record { count = n; step = s }) (step_of d words)) (count_of word) (option_map (λ s. record { count = 1; step = s }) (step_of d (word ∷ words)))

-- an empty line, or one that begins with `#`
abbrev pub is_skipped : List ℕ → Bool
is_skipped [] = true
is_skipped (c ∷ line) = c == 35

-- the words of a line, between which single spaces stand
abbrev pub words_of : List ℕ → List (List ℕ)
words_of line = slice_split (λ b. b == 32) line

-- the steps of a line, in order, if it is as it has to be
unfoldable pub steps_of_line : Declaration → List ℕ → Option (List Step)
steps_of_line d line = if is_skipped line then Some [] else option_map (λ r. replicate r.count r.step) (repeated_of d (words_of line))
