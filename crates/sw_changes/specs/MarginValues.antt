-- The objects that stand for how far the premises of a free network bend (this project's choice).
use Rattle.std.specs.Prelude.{ℕ, ◌+◌, ◌*◌, List, [], ◌∷◌, codes, map}
use Rattle.serde_json.specs.Data.{Data, array, boolean, object, string, member, no_members}
use Rattle.serde_json.specs.View.{items_of}
use Rattle.sw_config.specs.Entries.{Declaration}
use Rattle.sw_json.specs.PlaceValues.{finish_text, flow_name_value}
use Rattle.sw_json.specs.Simple.{count_or_null, count_value}
use Rattle.sw_margin.specs.declared.bend.Bend.{Bend}
use Rattle.sw_margin.specs.declared.bend.FlowLimit.{FlowLimit}
use Rattle.sw_margin.specs.declared.bend.Margins.{Margins}
use Rattle.sw_output.specs.ChannelTexts.{node_name, start_text}

-- whether the network stays free if a node takes nothing while it wants to send
abbrev pub stall_value : Declaration → Bend → Data
stall_value d b =
    object (member (codes "free") (boolean b.stays_free)
    (member (codes "node") (string (node_name d b.number)) no_members))

-- whether it stays free if a flow is answered, the replies going back over the links of its way
abbrev pub answered_value : Declaration → Bend → Data
answered_value d b =
    object (member (codes "flow") (flow_name_value d b.number)
    (member (codes "free") (boolean b.stays_free) no_members))

-- how many commands of a flow may be unanswered, or null where any number may
abbrev pub flow_limit_value : Declaration → FlowLimit → Data
flow_limit_value d l =
    object (member (codes "flow") (flow_name_value d l.flow)
    (member (codes "outstanding") (count_or_null l.most) no_members))

-- the flows that are lost without a link, which is told by this channel of it: its number, and the ends of the link at which it ends and starts
abbrev pub lost_value : Declaration → ℕ → List ℕ → Data
lost_value d c flows =
    object (member (codes "channel") (count_value c)
    (member (codes "end") (string (finish_text d c))
    (member (codes "flows") (array (items_of (map (flow_name_value d) flows)))
    (member (codes "start") (string (start_text d c)) no_members))))

-- the link of that number is told by its first channel
abbrev pub loss_value : Declaration → ℕ → List ℕ → Data
loss_value d link flows = lost_value d (2 * link) flows

-- an object for each link; the first of these has that number
abbrev pub loss_values : Declaration → ℕ → List (List ℕ) → List Data
loss_values d link [] = []
loss_values d link (flows ∷ losses) = loss_value d link flows ∷ loss_values d (link + 1) losses

-- what the free network stands: an object for each flow without a reply, for each flow with a limit of its own, for each link, and for each
-- node where nothing that comes may have to wait for a reply
abbrev pub margins_value : Declaration → Margins → Data
margins_value d told =
    object (member (codes "answers") (array (items_of (map (answered_value d) told.answers.items)))
    (member (codes "kind") (string (codes "margins"))
    (member (codes "limits") (array (items_of (map (flow_limit_value d) told.limits.items)))
    (member (codes "losses") (array (items_of (loss_values d 0 (map (λ flows. flows.items) told.losses.items))))
    (member (codes "stalls") (array (items_of (map (stall_value d) told.stalls.items))) no_members)))))
