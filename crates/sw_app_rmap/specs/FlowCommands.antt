-- The RMAP command of a flow to its target (ECSS-E-ST-50-52C, the fields of write and read commands).
use Rattle.std.specs.Prelude.{ℕ, ◌+◌, ◌-◌, ◌*◌, ◌/◌, List, [], ◌++◌, length, replicate, Option, Some, None}
use Rattle.sw_config.specs.Entries.{ReplyEntry}
use Rattle.sw_rmap.specs.declared.config.TargetConfig.{TargetConfig}
use Rattle.sw_rmap.specs.CommandView.{CommandView, command}
use Rattle.sw_rmap.specs.Commands.{written}
use Rattle.sw_rmap.specs.Instruction.{incrementing}
use Rattle.sw_app_rmap.specs.Orders.{RmapOrder, data_of, is_write, length_of, wants_reply}

-- the path back of a flow's replies; none where it has no replies
abbrev pub path_back : Option ReplyEntry → List ℕ
path_back None = []
path_back (Some r) = r.path

-- the initiator logical address: 254, which stands for none, where the flow has no replies
abbrev pub initiator_of : Option ReplyEntry → ℕ
initiator_of None = 254
initiator_of (Some r) = r.initiator

-- how many units of four bytes hold the path
abbrev pub units : List ℕ → ℕ
units path = (length path + 3) / 4

-- the reply address: the path behind zeros that fill up its units
abbrev pub padded : List ℕ → List ℕ
padded path = replicate (4 * units path - length path) 0 ++ path

-- the command to the target of what is asked for, with the target's logical address and key
abbrev pub command_to : TargetConfig → Option ReplyEntry → RmapOrder → CommandView
command_to t reply o =
    command t.logical (incrementing (is_write o.action) (wants_reply o.action) (units (path_back reply))) t.key (padded (path_back reply))
    (initiator_of reply) o.transaction o.address (length_of o.action)

-- its bytes: the header with its CRC and, of a write, the data with theirs
abbrev pub bytes_to : TargetConfig → Option ReplyEntry → RmapOrder → List ℕ
bytes_to t reply o = written (command_to t reply o) (data_of o.action)
