-- The packet of a flow that brings its target a command.
use Rattle.std.specs.Prelude.{ℕ, ◌+◌, Bool, not, ◌&&◌, nat_le, nat_lt, is_some, List, drop, take, length, position, slice_get, Result, Ok, Err, if◌then◌else◌}
use Rattle.std.specs.Str.{bytes_eq}
use Rattle.sw_config.specs.Entries.{Declaration, FlowEntry, NodeEntry, flow_names, target_of}
use Rattle.sw_config.specs.Limits.{is_limited}
use Rattle.sw_machine.specs.DeclaredPackets.{left_bytes}
use Rattle.sw_rmap.specs.declared.config.TargetConfig.{TargetConfig}
use Rattle.sw_app_rmap.specs.declared.fault.RmapFault.{RmapFault}
use Rattle.sw_app_rmap.specs.declared.fault.RmapFault.TheVariants.{UnknownFlow, NoTarget, NotAnswered, NoReply, OutsideWindow, WrongLeft, TooLong}
use Rattle.sw_app_rmap.specs.declared.request.Request.{Request}
use Rattle.sw_app_rmap.specs.FlowCommands.{bytes_to}
use Rattle.sw_app_rmap.specs.Orders.{RmapOrder, length_of, order_of, wants_reply}
use Rattle.sw_text.specs.Gives.{◌>>=◌, ok_or}

-- a packet: the number of its flow, and its bytes behind the flow's address
pub record FlowPacket : Type 0 where
  pub flow : ℕ
  pub cargo : List ℕ

-- all that is read or written lies in the target's window
abbrev pub is_in_window : TargetConfig → RmapOrder → Bool
is_in_window t o = nat_le t.start o.address && nat_le (o.address + length_of o.action) (t.start + t.size)

-- the command begins with the address bytes that are left, and has more
abbrev pub begins_with : List ℕ → List ℕ → Bool
begins_with left bytes = bytes_eq (take (length left) bytes) left && nat_lt (length left) (length bytes)

-- the cargo is what follows the address bytes that are left; a load has at most 4,096 bytes of it
abbrev pub behind_left : List ℕ → List ℕ → Result (List ℕ) RmapFault
behind_left left bytes =
    if not (begins_with left bytes) then Err WrongLeft
    else if nat_lt 4096 (length (drop (length left) bytes)) then Err TooLong
    else Ok (drop (length left) bytes)

-- the cargo of the command that is asked for, or the first reason why the flow can't carry it to this target
abbrev pub cargo_to : TargetConfig → FlowEntry → RmapOrder → Result (List ℕ) RmapFault
cargo_to t f o =
    if wants_reply o.action && not (is_some f.reply) then Err NoReply
    else if not (is_in_window t o) then Err OutsideWindow
    else behind_left (left_bytes f) (bytes_to t f.reply o)

-- the same where the flow is limited, or is not: a flow that is limited carries only commands that ask for a reply
abbrev pub cargo_where : Bool → TargetConfig → FlowEntry → RmapOrder → Result (List ℕ) RmapFault
cargo_where limited t f o = if limited && not (wants_reply o.action) then Err NotAnswered else cargo_to t f o

-- the same to the node where the flow ends, which has to be a target
unfoldable pub cargo_of : List NodeEntry → FlowEntry → RmapOrder → Result (List ℕ) RmapFault
cargo_of nodes f o = do
  target ← ok_or (target_of nodes f.to) NoTarget
  cargo_where (is_limited nodes f) target f o

-- the packet that is asked for: first the flow is looked up, then the words are read
unfoldable pub packet_of : Declaration → Request → Result FlowPacket RmapFault
packet_of d r = do
  number ← ok_or (position (bytes_eq r.flow.now) (flow_names d.flows)) UnknownFlow
  flow ← ok_or (slice_get d.flows number) UnknownFlow
  order ← order_of r
  cargo ← cargo_of d.nodes flow order
  Ok (record { flow = number; cargo = cargo })
