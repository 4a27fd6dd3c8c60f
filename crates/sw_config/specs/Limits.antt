-- How many commands may be unanswered at a node, and which nodes always take what comes (this project's choice).
use Rattle.std.specs.Prelude.{◌≡◌, ℕ, ◌+◌, ◌==◌, ◌&&◌, ◌||◌, Bool, false, not, List, [], ◌∷◌, All, filter, map, length, min, nat_lt, Option, Some, None}
use Rattle.std.specs.Prelude.{is_some, option_map, slice_get, option_and_then, if◌then◌else◌}
use Rattle.std.specs.List.{list_all, range_with_len}
use Rattle.std.specs.Option.{option_map_or}
use Rattle.sw_rmap.specs.Targets.{slots_of}
use Rattle.sw_config.specs.Entries.{NodeEntry, FlowEntry, Declaration, all_flows, is_answered_at, is_answering, target_of}

-- the lesser of two limits, where None is no limit
abbrev pub lesser : Option ℕ → Option ℕ → Option ℕ
lesser None m = m
lesser (Some l) None = Some l
lesser (Some l) (Some m) = Some (min l m)

-- the sum of limits: no limit where one of them is none
abbrev pub sum_of_limits : List (Option ℕ) → Option ℕ
sum_of_limits [] = Some 0
sum_of_limits (None ∷ limits) = None
sum_of_limits (Some l ∷ limits) = option_map (λ m. l + m) (sum_of_limits limits)

-- how many commands of node n may be unanswered, all flows together
abbrev pub outstanding_of : List NodeEntry → ℕ → Option ℕ
outstanding_of nodes n = option_and_then (λ e. e.outstanding) (slice_get nodes n)

-- how many commands of the flow may be unanswered
abbrev pub flow_outstanding : FlowEntry → Option ℕ
flow_outstanding f = option_and_then (λ r. r.outstanding) f.reply

-- a flow of commands is limited where it, or the node that sends them, has a limit; a flow of replies never is
abbrev pub is_limited : List NodeEntry → FlowEntry → Bool
is_limited nodes f = is_some f.reply && (is_some (flow_outstanding f) || is_some (outstanding_of nodes f.from))

-- the flows of commands from node m to node n
abbrev pub commands_from : Declaration → ℕ → ℕ → List FlowEntry
commands_from d m n = filter (λ f. is_answered_at n f && f.from == m) d.flows

-- how many commands of node m may be unanswered at node n: as many as its flows there may have together, or the node, if that is less
abbrev pub limit_from : Declaration → ℕ → ℕ → Option ℕ
limit_from d n m = lesser (outstanding_of d.nodes m) (sum_of_limits (map flow_outstanding (commands_from d m n)))

-- how many commands may be unanswered at node n, if it answers any and each flow of them is limited: those of each node together
abbrev pub limit_at : Declaration → ℕ → Option ℕ
limit_at d n = if is_answering d n then sum_of_limits (map (limit_from d n) (range_with_len 0 (length d.nodes))) else None

-- each flow that ends at node n is limited
abbrev pub all_limited_at : Declaration → ℕ → Bool
all_limited_at d n = list_all (λ f. not (f.to == n) || is_limited d.nodes f) (all_flows d)

-- Node n takes what comes, whatever it owes: fewer commands may be unanswered there than replies may be owed, or as many, where nothing
-- else ends there (a command that waits is itself unanswered, and not yet owed).
abbrev pub always_takes : Declaration → ℕ → Bool
always_takes d n =
    option_map_or (λ l. nat_lt l (slots_of (target_of d.nodes n)) || l == slots_of (target_of d.nodes n) && all_limited_at d n) (limit_at d n) false

-- what comes to node n may have to wait until it has sent a reply
abbrev pub may_make_wait : Declaration → ℕ → Bool
may_make_wait d n = is_answering d n && not (always_takes d n)

-- the same of each node, in order
abbrev pub waiting_marks : Declaration → List Bool
waiting_marks d = map (may_make_wait d) (range_with_len 0 (length d.nodes))

-- no node and no flow has a limit
pub record HasNoLimits (d : Declaration) : Type 0 where
  pub nodes : All (λ e. e.outstanding ≡ None) d.nodes
  pub flows : All (λ f. flow_outstanding f ≡ None) d.flows
