-- What the packet of a request is.
use Rattle.std.specs.Prelude.{◌≡◌, ℕ, ◌-◌, ◌++◌, List, [], length, take, drop, slice_get, Option, Some, None, Ok, if◌then◌else◌}
use Rattle.sw_char.specs.declared.nchar.End.TheVariants.{Eop}
use Rattle.sw_config.specs.Entries.{Declaration, FlowEntry, ReplyEntry, target_of}
use Rattle.sw_config.specs.Valid.{IsValid}
use Rattle.sw_machine.specs.DeclaredPackets.{IsDeclaredPacket, left_bytes}
use Rattle.sw_rmap.specs.declared.config.TargetConfig.{TargetConfig}
use Rattle.sw_rmap.specs.Answers.{answer, first_of, stored}
use Rattle.sw_rmap.specs.Replies.{reply_of}
use Rattle.sw_app_rmap.specs.declared.request.Request.{Request}
use Rattle.sw_app_rmap.specs.FlowCommands.{command_to}
use Rattle.sw_app_rmap.specs.Orders.{Action, RmapOrder, order_of, reads, wants_reply, writes}
use Rattle.sw_app_rmap.specs.Packets.{FlowPacket, packet_of}

-- what the reply brings: the bytes at the addresses that are read, and none to a write
abbrev pub found : TargetConfig → ℕ → Action → List ℕ → List ℕ
found t address (reads count) memory = take count (drop (address - t.start) memory)
found t address (writes bytes acknowledged) memory = []

-- what the window holds then: the bytes that are written stand at their addresses, and a read changes nothing
abbrev pub held : TargetConfig → ℕ → Action → List ℕ → List ℕ
held t address (reads count) memory = memory
held t address (writes bytes acknowledged) memory = stored memory (address - t.start) bytes

-- the target carries the command out: it replies with the status of none of the cases, success, where a reply is wanted, and reads or
-- writes what was asked for
abbrev pub carried_out : TargetConfig → Option ReplyEntry → RmapOrder → List ℕ → Option (List ℕ) × List ℕ
carried_out t reply o memory =
    ((if wants_reply o.action then Some (reply_of (command_to t reply o) (first_of []) (found t o.address o.action memory)) else None), held t o.address o.action memory)

-- The packet is one that the flow of that name declares. Whatever its window holds, the target that it comes to carries out what the words
-- ask for.
pub record IsAsked (d : Declaration) (r : Request) (p : FlowPacket) : Type 0 where
  pub flow : FlowEntry
  pub numbered : slice_get d.flows p.flow ≡ Some flow
  pub named : flow.name ≡ r.flow.now
  pub declared : IsDeclaredPacket d p.flow p.cargo
  pub order : RmapOrder
  pub asked : order_of r ≡ Ok order
  pub target : TargetConfig
  pub at_end : target_of d.nodes flow.to ≡ Some target
  pub answered : (memory : List ℕ) → length memory ≡ target.size → answer target memory (left_bytes flow ++ p.cargo) Eop ≡ carried_out target flow.reply order memory

-- so it is with each packet that is made for a valid network
abbrev pub PacketsAreAsked : Type 0
PacketsAreAsked = (d : Declaration) (r : Request) (p : FlowPacket) → IsValid d → packet_of d r ≡ Ok p → IsAsked d r p
