-- Which packets a flow declares.
use Rattle.std.specs.Prelude.{◌≡◌, ℕ, Bool, true, false, not, ◌&&◌, ◌||◌, nat_le, ◌-◌, ◌≤◌, ◌⊎◌, List, [], ◌∷◌, ◌++◌, length, drop, slice_get, Option, Some, None, option_map, is_some, if◌then◌else◌}
use Rattle.std.specs.Option.{option_map_or}
use Rattle.std.specs.Str.{bytes_eq}
use Rattle.sw_rmap.specs.Replies.{reply_to}
use Rattle.sw_flow.specs.Entries.{NodeEntry, ReplyEntry, FlowEntry, Declaration, target_of}
use Rattle.sw_flow.specs.Limits.{is_limited}

-- the last bytes of a flow's address, which a packet still begins with where it ends
abbrev pub left_bytes : FlowEntry → List ℕ
left_bytes f = drop (length f.address - f.left) f.address

-- the address bytes of a flow's replies: the path back, and the initiator logical address
abbrev pub reply_address : ReplyEntry → List ℕ
reply_address r = r.path ++ r.initiator ∷ []

-- the address bytes of the reply that node n gives to these bytes, if it gives one: only RMAP targets do (ECSS-E-ST-50-52C, write and read commands)
abbrev pub reply_from : List NodeEntry → ℕ → List ℕ → Option (List ℕ)
reply_from nodes n bytes = if is_some (target_of nodes n) then reply_to bytes else None

-- A reply, if there is one, goes where the flow says.
abbrev pub IsRightWay : Option (List ℕ) → Option ReplyEntry → Type 0
IsRightWay way reply = (way ≡ None) ⊎ (way ≡ option_map reply_address reply)

-- A packet of this flow with this cargo gets no reply, or one that goes where the flow says.
abbrev pub IsAnsweredRightly : List NodeEntry → FlowEntry → List ℕ → Type 0
IsAnsweredRightly nodes f cargo = IsRightWay (reply_from nodes f.to (left_bytes f ++ cargo)) f.reply

-- A packet of a flow that is limited gets a reply: it is a command.
abbrev pub IsCommandIfLimited : List NodeEntry → FlowEntry → List ℕ → Type 0
IsCommandIfLimited nodes f cargo = is_limited nodes f ≡ true → is_some (reply_from nodes f.to (left_bytes f ++ cargo)) ≡ true

-- A packet is one of a declared flow if it has 1 to 33,554,432 bytes behind the flow's address, and its reply, if any, is one that the flow
-- declares; if the flow's commands are limited, it has one (this project's choice). Its end marker may be either.
pub record IsDeclaredPacket (d : Declaration) (flow : ℕ) (cargo : List ℕ) : Type 0 where
  pub entry : FlowEntry
  pub declared : slice_get d.flows flow ≡ Some entry
  pub some : 1 ≤ length cargo
  pub few : length cargo ≤ 33554432
  pub answered : IsAnsweredRightly d.nodes entry cargo
  pub command : IsCommandIfLimited d.nodes entry cargo

-- the same as a test
abbrev pub is_right_way : Option (List ℕ) → Option ReplyEntry → Bool
is_right_way None reply = true
is_right_way (Some way) None = false
is_right_way (Some way) (Some r) = bytes_eq way (reply_address r)

abbrev pub is_answered_rightly : List NodeEntry → List ℕ → FlowEntry → Bool
is_answered_rightly nodes cargo f = is_right_way (reply_from nodes f.to (left_bytes f ++ cargo)) f.reply

abbrev pub is_command_if_limited : List NodeEntry → List ℕ → FlowEntry → Bool
is_command_if_limited nodes cargo f = not (is_limited nodes f) || is_some (reply_from nodes f.to (left_bytes f ++ cargo))

abbrev pub is_declared_packet : Declaration → ℕ → List ℕ → Bool
is_declared_packet d flow cargo = nat_le 1 (length cargo) && nat_le (length cargo) 33554432 && option_map_or (λ f. is_answered_rightly d.nodes cargo f && is_command_if_limited d.nodes cargo f) (slice_get d.flows flow) false
