-- Packets that are read as no command, and why (ECSS-E-ST-50-52C, the fields of a command).
use Rattle.std.specs.Prelude.{ℕ, ◌+◌, not, ◌==◌, ◌||◌, nat_lt, List, length, slice_index, Result, Ok, Err, if◌then◌else◌}
use Rattle.sw_rmap.specs.declared.no_command.NoCommand.{NoCommand}
use Rattle.sw_rmap.specs.declared.no_command.NoCommand.TheVariants.{TooShort, OtherProtocol, WrongCrc, IsReply}
use Rattle.sw_rmap.specs.Instruction.{reply_address_len}
use Rattle.sw_rmap.specs.CommandView.{CommandView}
use Rattle.sw_rmap.specs.Commands.{instruction_of, has_right_crc, is_command, fields_of}

-- why a packet's bytes are no command: the first of these that is so
abbrev pub why_no_command : List ℕ → NoCommand
why_no_command bytes =
    if nat_lt (length bytes) 16 || nat_lt (length bytes) (16 + reply_address_len (instruction_of bytes)) then TooShort
    else if not (slice_index bytes 1 == 1) then OtherProtocol
    else if not (has_right_crc bytes) then WrongCrc
    else IsReply

-- the command, or why there is none
unfoldable pub try_read : List ℕ → Result CommandView NoCommand
try_read bytes = if is_command bytes then Ok (fields_of bytes) else Err (why_no_command bytes)
