-- How many commands are unanswered at each node that has a limit, by what is counted as steps are made.
use Rattle.std.specs.Prelude.{Bool, Err, List, None, Ok, Option, Result, Some, [], count_by, if◌then◌else◌, get_or, is_some, length, min, nat_lt, option_and_then, replicate, set, slice_get, true, ℕ, ◌&&◌, ◌++◌, ◌+◌, ◌-◌, ◌<◌, ◌^◌, ◌∷◌, ◌↔◌, ◌≡◌, ◌≤◌}
use Rattle.std.specs.Option.{option_map_or}
use Rattle.std.specs.declared.alloc.AllocError.{AllocError}
use Rattle.sw_config.specs.Entries.{Declaration, FlowEntry, all_flows}
use Rattle.sw_char.specs.declared.nchar.End.{End}
use Rattle.sw_config.specs.Limits.{limit_at}
use Rattle.sw_config.specs.Valid.{IsValid}
use Rattle.sw_machine.specs.Begun.{beginnings}
use Rattle.sw_machine.specs.Limits.{IsWithinLimit, KeepsLimits, is_command_at, is_command_to, unanswered}
use Rattle.sw_machine.specs.Model.{network_of}
use Rattle.sw_machine.specs.Network.{IsDeclared}
use Rattle.sw_machine.specs.Packets.{Packet}
use Rattle.sw_machine.specs.Parts.{link_end_of}
use Rattle.sw_machine.specs.Runs.{CameOut, Run}
use Rattle.sw_machine.specs.State.{State, empty}
use Rattle.sw_machine.specs.Steps.{Begin, Emit, Leads, Step}
use Rattle.sw_machine.specs.StepValues.{machine_step}
use Rattle.sw_machine.specs.declared.step.Step.{Step as CodeStep}
use Rattle.sw_net.specs.Net.{IsNetState, NetView}

-- by node, how many commands were begun for it, where it has a limit, and how many replies it has sent whole
pub record Counts : Type 0 where
  pub begun : List ℕ
  pub sent : List ℕ

abbrev pub nothing_counted : ℕ → Counts
nothing_counted nodes = record { begun = replicate nodes 0; sent = replicate nodes 0 }

-- What is unanswered at node n. A packet that a network misroutes may be answered at a node that it was not begun for, so more replies
-- may be sent than commands begun.
abbrev pub unanswered_at : Counts → ℕ → ℕ
unanswered_at c n = get_or c.begun n 0 - get_or c.sent n 0

-- the node where the packets of a flow are answered, if it has a limit
abbrev pub target_with_limit : Declaration → FlowEntry → Option ℕ
target_with_limit d f = if is_some f.reply && is_some (limit_at d f.to) then Some f.to else None

-- the same of the flow of that number
abbrev pub limited_target : Declaration → ℕ → Option ℕ
limited_target d flow = option_and_then (target_with_limit d) (slice_get (all_flows d) flow)

-- with one command more what is unanswered at node n is within the limit, if there is one
abbrev pub has_room : Counts → ℕ → Option ℕ → Bool
has_room c n None = true
has_room c n (Some limit) = nat_lt (unanswered_at c n) limit

-- a packet of the flow may be begun
abbrev pub allows : Declaration → Counts → ℕ → Bool
allows d c flow = option_map_or (λ n. has_room c n (limit_at d n)) (limited_target d flow) true

-- one more of node n, up to so many
abbrev pub one_more_at : ℕ → List ℕ → ℕ → List ℕ
one_more_at most counts n = if nat_lt n (length counts) && nat_lt (get_or counts n 0) most then set counts n (get_or counts n 0 + 1) else counts

-- a packet of the flow was begun
abbrev pub with_begun : Declaration → Counts → ℕ → Counts
with_begun d c flow = option_map_or (λ n. record c { begun = one_more_at (2 ^ 64 - 1) c.begun n }) (limited_target d flow) c

-- node n has sent a reply whole
abbrev pub with_sent : Counts → ℕ → Counts
with_sent c n = record c { sent = one_more_at (2 ^ 64 - 1) c.sent n }

-- how many replies node n owes, if it has a limit; else 0
abbrev pub owed_with_limit : Declaration → State → ℕ → ℕ
owed_with_limit d s n = if is_some (limit_at d n) then s.owed n else 0

-- the same of the node that puts a character on its wire by the step; 0 of any other step
abbrev pub owed_by : Declaration → State → Step → ℕ
owed_by d s (Emit n) = owed_with_limit d s n
owed_by d s step = 0

-- the counts after a step that leads to t, if they were these before, and that node owed so many replies
abbrev pub counted_after : Declaration → Counts → Step → ℕ → State → Counts
counted_after d c (Begin flow cargo end) before t = with_begun d c flow
counted_after d c (Emit n) before t = if nat_lt (owed_with_limit d t n) before then with_sent c n else c
counted_after d c step before t = c

-- the counts after a step that leads from s to t, if they were these before
abbrev pub counted_with : Declaration → Counts → Step → State → State → Counts
counted_with d c step s t = counted_after d c step (owed_by d s step) t

-- so it is of a step of the network
abbrev pub HasCounted : {R A : Type 0} → NetView R A → Counts → Step → NetView R A → Counts → Type 0
HasCounted v c step w e = (s t : State) → IsNetState v s → IsNetState w t → e ≡ counted_with v.declared c step s t

-- Some: so it is of this step, which was made; where none was, no count has changed
abbrev pub HasCountedMove : {R A : Type 0} → NetView R A → Counts → Result (Option CodeStep) AllocError → NetView R A → Counts → Type 0
HasCountedMove v c (Ok (Some step)) w e = HasCounted v c (machine_step step) w e
HasCountedMove v c (Ok None) w e = e ≡ c
HasCountedMove v c (Err error) w e = e ≡ c

-- so many replies owes the node that puts a character on its wire by the link end where channel e starts, if it has a limit
abbrev pub OwedAt : {R A : Type 0} → NetView R A → ℕ → ℕ → Type 0
OwedAt v e before = (n : ℕ) → n < length v.declared.nodes → link_end_of (network_of v.declared) (Emit n) ≡ e → (s : State) → IsNetState v s → before ≡ owed_with_limit v.declared s n

-- ---- what the counts say

-- so many replies were sent whole, where a node owes so many after so many commands came out; the count of them stays at the greatest
pub record AreSent (count owed commands : ℕ) : Type 0 where
  pub all : ℕ
  pub total : owed + all ≡ commands
  pub counted : count ≡ min all (2 ^ 64 - 1)

-- The counts are those of these steps, which lead from the empty state to s: for each node with a limit, the commands that were begun for it,
-- and the replies that it has sent.
pub record CountsUnanswered (d : Declaration) (steps : List Step) (s : State) (c : Counts) : Type 0 where
  pub all_begun : length c.begun ≡ length d.nodes
  pub all_sent : length c.sent ≡ length d.nodes
  pub few : (n : ℕ) → get_or c.begun n 0 ≤ length (beginnings steps)
  pub begun : (n limit : ℕ) → limit_at d n ≡ Some limit → get_or c.begun n 0 ≡ count_by (is_command_to (network_of d) n) (beginnings steps)
  pub sent : (n limit : ℕ) (came : List Packet) → limit_at d n ≡ Some limit → CameOut s n came → AreSent (get_or c.sent n 0) (s.owed n) (count_by (is_command_at (network_of d) n) came)

-- fewer packets were begun than can be counted
abbrev pub AreFewBegun : List Step → Type 0
AreFewBegun steps = length (beginnings steps) < 2 ^ 64 - 1

-- so at each node that has a limit the count is what is unanswered there
abbrev pub CountsAreUnanswered : Type 0
CountsAreUnanswered =
    (d : Declaration) (steps : List Step) (s : State) (c : Counts) → CountsUnanswered d steps s c → AreFewBegun steps
    → (n limit : ℕ) (came : List Packet) → limit_at d n ≡ Some limit → CameOut s n came → unanswered_at c n ≡ unanswered (network_of d) n steps came s

-- so they are at first
abbrev pub CountedAtFirst : Type 0
CountedAtFirst = (d : Declaration) → CountsUnanswered d [] (empty (network_of d)) (nothing_counted (length d.nodes))

-- and after each step
abbrev pub CountedWithEachStep : Type 0
CountedWithEachStep =
    (d : Declaration) → IsValid d → (steps : List Step) (s : State) (c : Counts) → Run (network_of d) (empty (network_of d)) steps s → CountsUnanswered d steps s c → AreFewBegun steps
    → (step : Step) (t : State) → Leads (network_of d) s step t → CountsUnanswered d (steps ++ step ∷ []) t (counted_with d c step s t)

-- behind a run that keeps the limits, a declared packet may be begun exactly where that keeps the limit of the node where its flow ends
abbrev pub AllowedIsWithin : Type 0
AllowedIsWithin =
    (d : Declaration) → IsValid d → (steps : List Step) (s : State) (c : Counts) → Run (network_of d) (empty (network_of d)) steps s → KeepsLimits (network_of d) steps → CountsUnanswered d steps s c → AreFewBegun steps
    → (flow : ℕ) (cargo : List ℕ) (end : End) → IsDeclared (network_of d) flow cargo
    → allows d c flow ≡ true ↔ IsWithinLimit (network_of d) (steps ++ Begin flow cargo end ∷ []) s ((network_of d).flow flow).to
