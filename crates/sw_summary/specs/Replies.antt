-- Replies among the packets that come out (ECSS-E-ST-50-52C, the fields of write and read replies).
use Rattle.std.specs.Prelude.{Bool, List, if◌then◌else◌, length, nat_le, nat_lt, slice_index, take, ℕ, ◌&&◌, ◌==◌, codes}
use Rattle.sw_rmap.specs.Crc.{crc_of}
use Rattle.sw_rmap.specs.Instruction.{is_write, packet_type}

-- how many bytes the header of a reply has before its CRC: that to a write 7, that to any other command 11
abbrev pub head_len : ℕ → ℕ
head_len instruction = if is_write instruction then 7 else 11

-- bytes from the initiator's logical address on: the protocol is RMAP, the packet type is a reply's, and the header's CRC is right
abbrev pub is_reply : List ℕ → Bool
is_reply bytes =
    nat_le 8 (length bytes)
    && (slice_index bytes 1 == 1)
    && (packet_type (slice_index bytes 2) == 0)
    && nat_lt (head_len (slice_index bytes 2)) (length bytes)
    && (crc_of (take (head_len (slice_index bytes 2)) bytes) == slice_index bytes (head_len (slice_index bytes 2)))

-- the status of a reply
abbrev pub status_of : List ℕ → ℕ
status_of bytes = slice_index bytes 3

-- the standard's name of a status (ECSS-E-ST-50-52C, error and status codes)
abbrev pub status_name : ℕ → List ℕ
status_name s =
    if s == 1 then codes "General error code"
    else if s == 2 then codes "Unused RMAP packet type or command code"
    else if s == 3 then codes "Invalid key"
    else if s == 4 then codes "Invalid data CRC"
    else if s == 5 then codes "Early EOP"
    else if s == 6 then codes "Too much data"
    else if s == 7 then codes "EEP"
    else if s == 9 then codes "Verify buffer overrun"
    else if s == 10 then codes "RMAP command not implemented or not authorised"
    else if s == 11 then codes "RMW data length error"
    else if s == 12 then codes "Invalid target logical address"
    else codes "Reserved"
