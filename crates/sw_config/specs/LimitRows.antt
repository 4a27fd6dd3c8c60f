-- What a network keeps beside its flows for the limits on unanswered commands, and what one flow more changes in it.
use Rattle.std.specs.Prelude.{◌≡◌, ℕ, ◌+◌, ◌-◌, ◌*◌, ◌<◌, ◌≤◌, ◌==◌, ◌&&◌, Bool, false, true, not, List, [], length, map, set, get_or, replicate, nat_eq}
use Rattle.std.specs.Prelude.{Option}
use Rattle.std.specs.Prelude.{Some, None, is_some, IfSome, option_map, unwrap_or, if◌then◌else◌}
use Rattle.std.specs.List.{list_any, range_with_len}
use Rattle.std.specs.Map.{lookup}
use Rattle.indexmap.specs.IndexMap.{insert_entry}
use Rattle.sw_config.specs.Entries.{ReplyEntry, FlowEntry, Declaration, all_flows, is_answering}
use Rattle.sw_config.specs.Limits.{lesser, sum_of_limits, flow_outstanding, commands_from, limit_from}

-- By node: whether it answers commands, whether a flow without replies ends there, and how many commands may be unanswered there; and by the
-- pairs of nodes between which commands go, how many the flows between the two may have unanswered together
pub record LimitRows : Type 0 where
  pub answering : List Bool
  pub others : List Bool
  pub totals : List (Option ℕ)
  pub sums : List (ℕ × Option ℕ)

-- no flow has come
abbrev pub no_limits : ℕ → LimitRows
no_limits nodes = record { answering = replicate nodes false; others = replicate nodes false; totals = replicate nodes (Some 0); sums = [] }

abbrev pub pair_key : ℕ → ℕ → ℕ
pair_key m n = m * 65536 + n

-- what stands for the flows from m to n
abbrev pub sum_between : List (ℕ × Option ℕ) → ℕ → ℕ → Option ℕ
sum_between sums m n = unwrap_or (lookup (nat_eq (pair_key m n)) sums) (Some 0)

-- two limits together
abbrev pub plus : Option ℕ → Option ℕ → Option ℕ
plus None m = None
plus (Some l) m = option_map (λ k. l + k) m

-- by how much a limit rose
abbrev pub risen : Option ℕ → Option ℕ → Option ℕ
risen None m = m
risen (Some l) m = option_map (λ k. k - l) m

-- by how much the limit rises where a node with a limit of its own, whose flows have this sum, gets one flow more
abbrev pub growth : Option ℕ → Option ℕ → Option ℕ → Option ℕ
growth own sum outstanding = risen (lesser own sum) (lesser own (plus sum outstanding))

-- the limit at n with one flow more from m
abbrev pub total_after : LimitRows → Option ℕ → ℕ → ℕ → Option ℕ → Option ℕ
total_after t own m n outstanding = plus (get_or t.totals n None) (growth own (sum_between t.sums m n) outstanding)

-- the sums are kept where there is a limit
abbrev pub sums_after : LimitRows → Option ℕ → ℕ → ℕ → Option ℕ → List (ℕ × Option ℕ)
sums_after t own m n outstanding =
    if is_some (total_after t own m n outstanding) then insert_entry nat_eq t.sums (pair_key m n) (plus (sum_between t.sums m n) outstanding) else t.sums

-- a flow of commands more, whose replies end where it begins, and one without replies
abbrev pub with_reply : LimitRows → Option ℕ → ℕ → ℕ → Option ReplyEntry → LimitRows
with_reply t own m n None = record t { others = set t.others n true }
with_reply t own m n (Some r) = record {
  answering = set t.answering n true;
  others = set t.others m true;
  totals = set t.totals n (total_after t own m n r.outstanding);
  sums = sums_after t own m n r.outstanding;
}

-- with one flow more of a node with this limit
abbrev pub with_flow : LimitRows → Option ℕ → FlowEntry → LimitRows
with_flow t own f = with_reply t own f.from f.to f.reply

-- what is kept is at most what so many flows may have unanswered
pub record AreSmall (count : ℕ) (t : LimitRows) : Type 0 where
  pub totals : (n : ℕ) → IfSome (get_or t.totals n None) (λ l. l ≤ count * 65535)
  pub sums : (m n : ℕ) → IfSome (sum_between t.sums m n) (λ l. l ≤ count * 65535)

-- how many commands may be unanswered at node n, those of each node together
abbrev pub total_at : Declaration → ℕ → Option ℕ
total_at d n = sum_of_limits (map (limit_from d n) (range_with_len 0 (length d.nodes)))

-- a flow whose packets are not answered ends at node n
abbrev pub ends_unanswered : ℕ → FlowEntry → Bool
ends_unanswered n f = f.to == n && not (is_some f.reply)

-- the rows are those of the declaration
pub record AreLimits (d : Declaration) (t : LimitRows) : Type 0 where
  pub few_nodes : length d.nodes ≤ 1024
  pub answering_size : length t.answering ≡ length d.nodes
  pub others_size : length t.others ≡ length d.nodes
  pub totals_size : length t.totals ≡ length d.nodes
  pub answering : (n : ℕ) → n < length d.nodes → get_or t.answering n false ≡ is_answering d n
  pub others : (n : ℕ) → n < length d.nodes → get_or t.others n false ≡ list_any (ends_unanswered n) (all_flows d)
  pub totals : (n : ℕ) → n < length d.nodes → get_or t.totals n None ≡ total_at d n
  pub sums : (m n : ℕ) → m < length d.nodes → n < length d.nodes → is_some (get_or t.totals n None) ≡ true
      → sum_between t.sums m n ≡ sum_of_limits (map flow_outstanding (commands_from d m n))
  pub small : AreSmall (length d.flows) t
