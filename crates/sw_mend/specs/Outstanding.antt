-- A network in which another number of the commands of one flow may be unanswered.
use Rattle.std.specs.Prelude.{ℕ, ◌==◌, List, [], ◌∷◌, Option, option_map, if◌then◌else◌}
use Rattle.sw_config.specs.Entries.{ReplyEntry, FlowEntry, Declaration}
use Rattle.sw_mend.specs.Changes.{by_number}

-- so many of the flow's commands may be unanswered, or, for none, any number of them
abbrev pub flow_for : Option ℕ → FlowEntry → FlowEntry
flow_for most f = record f { reply = option_map (λ (r : ReplyEntry). record r { outstanding = most }) f.reply }

-- the flow of that number, which is so if it is the one
abbrev pub flow_with : ℕ → Option ℕ → ℕ → FlowEntry → List FlowEntry
flow_with flow most number f = (if number == flow then flow_for most f else f) ∷ []

-- the declared flow of that number so; all else stays, the limits of nodes too
abbrev pub with_outstanding : Declaration → ℕ → Option ℕ → Declaration
with_outstanding d flow most = record d { flows = by_number (flow_with flow most) 0 d.flows }
