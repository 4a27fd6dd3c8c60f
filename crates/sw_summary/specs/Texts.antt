-- The text of a summary (this project's choice).
use Rattle.std.specs.Prelude.{Bool, List, None, Option, Some, [], ◌∷◌, ◌++◌, codes, flat_map, if◌then◌else◌, is_some, length, nat_lt, slice_get, ℕ}
use Rattle.std.specs.Fmt.{decimal}
use Rattle.std.specs.List.{range_with_len}
use Rattle.std.specs.Option.{option_map_or}
use Rattle.sw_char.specs.PacketView.{PacketView}
use Rattle.sw_config.specs.Entries.{Declaration, FlowEntry, target_of}
use Rattle.sw_load.specs.Load.{LoadEntry}
use Rattle.sw_machine.specs.Begun.{Begun, beginnings}
use Rattle.sw_machine.specs.Steps.{Step}
use Rattle.sw_output.specs.Lines.{line, spaced}
use Rattle.sw_summary.specs.Counts.{with_status, answered, delivered, handled_as, forms, loaded, of_flow}
use Rattle.sw_summary.specs.Handlings.{reason_text}
use Rattle.sw_summary.specs.Replies.{status_name}
use Rattle.sw_summary.specs.declared.handling.Handling.{Handling}
use Rattle.sw_summary.specs.declared.handling.Handling.TheVariants.{TooShort, OtherProtocol, WrongCrc, IsReply, NotAsked, NoWay}

-- how many steps there are
abbrev pub steps_line : ℕ → List ℕ
steps_line count = line (codes "steps" ∷ decimal count ∷ [])

-- how many commands of a flow are answered; nothing of a flow without replies
abbrev pub answered_words : Option ℕ → List ℕ
answered_words None = []
answered_words (Some count) = codes " answered " ++ decimal count

-- of a flow: how many of how many packets were begun, how many came out at its end, and how many were answered
abbrev pub flow_line : List ℕ → ℕ → ℕ → ℕ → Option ℕ → List ℕ
flow_line name begun of_them came_out replies =
    spaced (codes "flow" ∷ name ∷ codes "begun" ∷ decimal begun ∷ codes "of" ∷ decimal of_them ∷ codes "delivered" ∷ decimal came_out ∷ [])
    ++ (answered_words replies ++ codes "\n")

abbrev pub replies_told : FlowEntry → ℕ → Option ℕ
replies_told f count = if is_some f.reply then Some count else None

-- of flow i, if the load has a packet of it, where so many were begun, so many delivered and so many answered
abbrev pub flow_text : List LoadEntry → ℕ → FlowEntry → ℕ → ℕ → ℕ → List ℕ
flow_text load i f begun came_out replies =
    if nat_lt 0 (loaded i load) then flow_line f.name begun (loaded i load) came_out (replies_told f replies) else []

-- of all flows, where these packets were begun and this came out
abbrev pub flow_texts : Declaration → List LoadEntry → List Begun → List (List PacketView) → List ℕ
flow_texts d load begun out =
    flat_map (λ i. option_map_or (λ f. flow_text load i f (length (of_flow i begun)) (delivered d begun out i) (answered d begun out i)) (slice_get d.flows i) [])
    (range_with_len 0 (length d.flows))

-- how many replies with a status came out, if any
abbrev pub status_line : ℕ → ℕ → List ℕ
status_line status count =
    if nat_lt 0 count
    then codes "replies with status " ++ (decimal status ++ (codes " (" ++ (status_name status ++ (codes "): " ++ (decimal count ++ codes "\n")))))
    else []

-- the lines of the statuses from 1 on, of so many
unfoldable pub first_status_lines : List (List PacketView) → ℕ → List ℕ
first_status_lines out count = flat_map (λ s. status_line s (with_status out s)) (range_with_len 1 count)

-- each status but 0
abbrev pub status_lines : List (List PacketView) → List ℕ
status_lines out = first_status_lines out 255

-- how many packets of a flow to a target nobody answers, for this reason, if any
abbrev pub unanswered_line : List ℕ → List PacketView → Handling → List ℕ
unanswered_line name packets handling =
    if nat_lt 0 (handled_as handling packets)
    then codes "commands of " ++ (name ++ (codes " that nobody answers: " ++ (decimal (handled_as handling packets) ++ (codes " (" ++ (reason_text handling ++ codes ")\n")))))
    else []

abbrev pub reasons : List Handling
reasons = TooShort ∷ OtherProtocol ∷ WrongCrc ∷ IsReply ∷ NotAsked ∷ NoWay ∷ []

unfoldable pub unanswered_text : List ℕ → List PacketView → List ℕ
unanswered_text name packets = flat_map (unanswered_line name packets) reasons

-- of flow i, if it ends at a target
abbrev pub unanswered_of : Declaration → List Begun → ℕ → FlowEntry → List ℕ
unanswered_of d begun i f = if is_some (target_of d.nodes f.to) then unanswered_text f.name (forms f i begun) else []

abbrev pub unanswered_texts : Declaration → List Begun → List ℕ
unanswered_texts d begun = flat_map (λ i. option_map_or (unanswered_of d begun i) (slice_get d.flows i) []) (range_with_len 0 (length d.flows))

-- what the run does not show: how long anything takes, and what other runs do
abbrev pub caveats : Bool → List ℕ
caveats shows_nothing =
    line (codes "time is not modelled" ∷ [])
    ++ (if shows_nothing then line (codes "the network is not free: that this run drained shows nothing of other runs" ∷ []) else [])

-- the summary of these steps of a load and of what came out, line by line
abbrev pub summary_text : Declaration → List LoadEntry → List Step → List (List PacketView) → Bool → List ℕ
summary_text d load steps out shows_nothing =
    steps_line (length steps)
    ++ (flow_texts d load (beginnings steps) out ++ (status_lines out ++ (unanswered_texts d (beginnings steps) ++ caveats shows_nothing)))
