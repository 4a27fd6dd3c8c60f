-- The text of `margin` (this project's choice).
use Rattle.std.specs.Prelude.{ℕ, ◌+◌, ◌*◌, Bool, List, [], ◌∷◌, ◌++◌, Option, Some, None, codes, flat_map, if◌then◌else◌, map}
use Rattle.std.specs.Fmt.{decimal}
use Rattle.sw_config.specs.Entries.{Declaration}
use Rattle.sw_margin.specs.declared.bend.Bend.{Bend}
use Rattle.sw_margin.specs.declared.bend.FlowLimit.{FlowLimit}
use Rattle.sw_margin.specs.declared.bend.Margins.{Margins}
use Rattle.sw_output.specs.ChannelTexts.{channel_text, node_name}
use Rattle.sw_output.specs.FlowTexts.{flow_name}
use Rattle.sw_output.specs.Lines.{line}
use Rattle.sw_explain.specs.ExplainTexts.{ending}

-- whether the network stays free, in the words that a line begins with
abbrev pub stays_words : Bool → List ℕ
stays_words stays_free = if stays_free then codes "free if" else codes "not free if"

-- if a node takes nothing while it wants to send
abbrev pub stall_line : Declaration → Bend → List ℕ
stall_line d b = line (stays_words b.stays_free ∷ node_name d b.number ∷ codes "stops taking while it wants to send" ∷ [])

-- if a flow is answered, the replies going back over the links of its way
abbrev pub answer_line : Declaration → Bend → List ℕ
answer_line d b = line (stays_words b.stays_free ∷ flow_name d b.number ∷ codes "is answered along its own way" ∷ [])

-- that so many commands of the flow of that name may be unanswered, or, for none, any number of them
abbrev pub allowed_line : Option ℕ → List ℕ → List ℕ
allowed_line None name = line (codes "free with any number of unanswered commands of" ∷ name ∷ [])
allowed_line (Some most) name =
    line (codes "free with up to" ∷ decimal most ∷ (codes "unanswered command" ++ ending most) ∷ codes "of" ∷ name ∷ [])

-- how many commands of a flow may be unanswered
abbrev pub limit_line : Declaration → FlowLimit → List ℕ
limit_line d l = allowed_line l.most (flow_name d l.flow)

-- the names of flows, with a space between each two, or that there is none
abbrev pub flows_words : Declaration → List ℕ → List ℕ
flows_words d [] = codes "no flow"
flows_words d (flow ∷ flows) = flow_name d flow ++ flat_map (λ f. codes " " ++ flow_name d f) flows

-- the flows that are lost without the link of that number; it is told by its first channel
abbrev pub loss_line : Declaration → ℕ → List ℕ → List ℕ
loss_line d link flows = line (codes "lost without the link" ∷ (channel_text d (2 * link) ++ codes ":") ∷ flows_words d flows ∷ [])

-- a line for each link; the first of these has that number
abbrev pub loss_lines : Declaration → ℕ → List (List ℕ) → List ℕ
loss_lines d link [] = []
loss_lines d link (flows ∷ losses) = loss_line d link flows ++ loss_lines d (link + 1) losses

-- a line for each node where nothing that comes may have to wait for a reply, for each flow without a reply, for each flow with a limit of
-- its own, and for each link
abbrev pub margin_text : Declaration → Margins → List ℕ
margin_text d told =
    flat_map (stall_line d) told.stalls.items
    ++ (flat_map (answer_line d) told.answers.items
    ++ (flat_map (limit_line d) told.limits.items ++ loss_lines d 0 (map (λ flows. flows.items) told.losses.items)))

-- that there is nothing to bend
abbrev pub not_free_line : List ℕ
not_free_line = line (codes "not free" ∷ [])
