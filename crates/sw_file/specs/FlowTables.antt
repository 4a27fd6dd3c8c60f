-- The entries of `flow` (the format of the file is this project's choice).
use Rattle.std.specs.Prelude.{ℕ, Bool, true, ◌&&◌, nat_le, List, [], ◌∷◌, ◌++◌, map, length, is_some, Option, Some, None, Result, Ok, Err, if◌then◌else◌}
use Rattle.toml.specs.Data.{Members}
use Rattle.sw_config.specs.Entries.{NodeEntry, ReplyEntry, FlowEntry, Declaration, flow_names, target_of}
use Rattle.sw_config.specs.Valid.{has_no_leading_zero}
use Rattle.sw_text.specs.declared.keys.Key.TheVariants.{From, To, Address, Left, Reply, Path, Initiator, Outstanding}
use Rattle.sw_text.specs.declared.keys.Section.TheVariants as section
use Rattle.sw_text.specs.declared.keys.Version.{Version}
use Rattle.sw_text.specs.declared.fault.KeyFault.TheVariants.{OutOfRange}
use Rattle.sw_text.specs.declared.fault.TextFault.{TextFault}
use Rattle.sw_text.specs.declared.fault.TextFault.TheVariants as fault
use Rattle.sw_text.specs.Gives.{◌>>=◌}
use Rattle.sw_text.specs.Table.{only_known, number_at, number_or, number_or_none, numbers_or_none, table_or_none}
use Rattle.sw_text.specs.SectionKeys.{flow_keys, reply_keys}
use Rattle.sw_file.specs.Names.{new_name, place_at}

abbrev pub node_names : List NodeEntry → List (List ℕ)
node_names nodes = map (λ n. n.name) nodes

-- the address bytes of flow i, at most 32
unfoldable pub address_at : ℕ → Members → Result (List ℕ) TextFault
address_at i ms = do
  address ← numbers_or_none (section.Flow i) Address 255 ms
  if nat_le (length address) 32 then Ok address else Err (fault.Key OutOfRange (section.Flow i) Address)

-- Where the replies of flow i go, and how many of its commands may be unanswered. Before version 3 `outstanding` is an unknown key, so
-- there no number is given.
unfoldable pub reply_of : Version → ℕ → Members → Result ReplyEntry TextFault
reply_of version i ms = do
  known ← only_known (section.Reply i) (reply_keys version) ms
  path ← numbers_or_none (section.Reply i) Path 255 ms
  initiator ← number_at (section.Reply i) Initiator 0 255 ms
  outstanding ← number_or_none (section.Reply i) Outstanding 1 65535 ms
  Ok (record { path = path; initiator = initiator; outstanding = outstanding })

-- flow i has replies where it has a table `reply`
unfoldable pub reply_or_none : Version → ℕ → Members → Result (Option ReplyEntry) TextFault
reply_or_none version i ms = table_or_none (section.Flow i) Reply ms >>= inner
  where
    inner : Option Members → Result (Option ReplyEntry) TextFault
    inner None = Ok None
    inner (Some t) = do
      reply ← reply_of version i t
      Ok (Some reply)

-- Replies come back from the node `to`: it is a target, at most 12 path addresses, the first not 0, go before a logical address
-- (ECSS-E-ST-50-52C, the reply address field of a command).
abbrev pub can_reply : List NodeEntry → ℕ → Option ReplyEntry → Bool
can_reply nodes to None = true
can_reply nodes to (Some r) =
    nat_le (length r.path) 12 && has_no_leading_zero r.path && nat_le 32 r.initiator && nat_le r.initiator 254 && is_some (target_of nodes to)

-- the address bytes of flow i, and how many of them are left at its end
unfoldable pub addressed : ℕ → Members → Result (List ℕ × ℕ) TextFault
addressed i ms = do
  address ← address_at i ms
  left ← number_or (section.Flow i) Left 0 (length address) 0 ms
  Ok (address, left)

-- where the replies of flow i go, which come back from the node `to`
unfoldable pub replies_at : Version → ℕ → List NodeEntry → ℕ → Members → Result (Option ReplyEntry) TextFault
replies_at version i nodes to ms = do
  reply ← reply_or_none version i ms
  if can_reply nodes to reply then Ok reply else Err (fault.ReplyShape i)

-- a flow, where its replies were read
abbrev pub with_replies : List ℕ → ℕ → ℕ → List ℕ → ℕ → Result (Option ReplyEntry) TextFault → Result FlowEntry TextFault
with_replies name from to address left replies = do
  reply ← replies
  Ok (record { name = name; from = from; to = to; address = address; left = left; reply = reply })

-- Entry i of `flow`, among these nodes and where these names are taken. Whether replies can come back is looked at last.
unfoldable pub flow_of : Version → ℕ → List NodeEntry → List (List ℕ) → Members → Result FlowEntry TextFault
flow_of version i nodes taken ms = do
  known ← only_known (section.Flow i) flow_keys ms
  name ← new_name (section.Flow i) taken ms
  from ← place_at (section.Flow i) From (node_names nodes) ms
  to ← place_at (section.Flow i) To (node_names nodes) ms
  way ← addressed i ms
  with_replies name from to way.0 way.1 (replies_at version i nodes to ms)

-- one more flow
unfoldable pub next_flow : Version → ℕ → Declaration → Members → Result Declaration TextFault
next_flow version i d ms = do
  flow ← flow_of version i d.nodes (flow_names d.flows) ms
  Ok (record d { flows = d.flows ++ flow ∷ [] })
