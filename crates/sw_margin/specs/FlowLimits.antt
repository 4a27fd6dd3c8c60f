-- How many commands of a flow may be unanswered for a network to be free.
use Rattle.std.specs.Prelude.{◌≡◌, ℕ, ◌+◌, ◌<◌, ◌≤◌, List, filter, length, is_some, slice_get, Option, Some, None, option_and_then}
use Rattle.std.specs.List.{AllZip, range_with_len}
use Rattle.sw_config.specs.Entries.{Declaration}
use Rattle.sw_config.specs.Limits.{flow_outstanding}
use Rattle.sw_search.specs.Laws.{RoutedAndFree}
use Rattle.sw_mend.specs.Outstanding.{with_outstanding}
use Rattle.sw_margin.specs.declared.bend.FlowLimit.{FlowLimit}

-- how many commands of the declared flow of that number may be unanswered, if it has a limit of its own
abbrev pub own_limit : Declaration → ℕ → Option ℕ
own_limit d flow = option_and_then flow_outstanding (slice_get d.flows flow)

-- the flows with a limit of their own, in order
abbrev pub limited_flows : Declaration → List ℕ
limited_flows d = filter (λ flow. is_some (own_limit d flow)) (range_with_len 0 (length d.flows))

-- The network is free where so many commands of the flow may be unanswered, or, for none, any number as far as the flow itself goes: each
-- flow is well routed, and no channels can wait for one another in a circle.
abbrev pub IsFreeWith : Declaration → ℕ → Option ℕ → Type 0
IsFreeWith d flow most = RoutedAndFree (with_outstanding d flow most)

-- The network is free with each number above the flow's own up to this one. It is not with one more, if there may be more, nor with any.
pub record IsGreatest (d : Declaration) (flow most : ℕ) : Type 0 where
  pub own : ℕ
  pub is_own : own_limit d flow ≡ Some own
  pub low : own ≤ most
  pub high : most ≤ 65535
  pub free : (n : ℕ) → own < n → n ≤ most → IsFreeWith d flow (Some n)
  pub no_more : most < 65535 → IsFreeWith d flow (Some (most + 1)) → ⊥
  pub not_any : IsFreeWith d flow None → ⊥

-- how many commands of the flow may be unanswered: any number, or so many
abbrev pub IsMost : Declaration → ℕ → Option ℕ → Type 0
IsMost d flow None = IsFreeWith d flow None
IsMost d flow (Some most) = IsGreatest d flow most

-- it is of that flow, and says how many
abbrev pub IsFlowLimit : Declaration → ℕ → FlowLimit → Type 0
IsFlowLimit d flow l = (l.flow ≡ flow) × IsMost d flow l.most

-- of each flow with a limit of its own: how many of its commands may be unanswered
abbrev pub AreFlowLimits : Declaration → List FlowLimit → Type 0
AreFlowLimits d told = AllZip (IsFlowLimit d) (limited_flows d) told
