-- Commands as bytes (ECSS-E-ST-50-52C, the fields of write and read commands and of their replies).
use Rattle.std.specs.Prelude.{ℕ, ◌+◌, ◌*◌, Bool, not, ◌==◌, ◌&&◌, nat_lt, List, [], ◌∷◌, ◌++◌, length, take, drop, fold, slice_index, Option, Some, None, if◌then◌else◌}
use Rattle.std.specs.Int.{bytes_high_first}
use Rattle.sw_rmap.specs.Crc.{crc_of, with_crc}
use Rattle.sw_rmap.specs.Instruction.{packet_type, is_write, reply_address_len}
use Rattle.sw_rmap.specs.CommandView.{CommandView}

-- the number that bytes write, the highest first
abbrev pub number_of : List ℕ → ℕ
number_of bytes = fold (λ n byte. 256 * n + byte) 0 bytes

-- a packet's bytes: 0 the target logical address, 1 the protocol identifier, 2 the instruction, 3 the key, and then the reply address
abbrev pub instruction_of : List ℕ → ℕ
instruction_of bytes = slice_index bytes 2

-- the bytes from the initiator logical address on: 0 that address, 1 and 2 the transaction identifier, 3 to 7 the address with its extension,
-- 8 to 10 the data length, 11 the header CRC, and then the data
abbrev pub from_initiator : List ℕ → List ℕ
from_initiator bytes = drop (4 + reply_address_len (instruction_of bytes)) bytes

-- the header ends with its CRC over all bytes before it
abbrev pub has_right_crc : List ℕ → Bool
has_right_crc bytes = crc_of (take (15 + reply_address_len (instruction_of bytes)) bytes) == slice_index (from_initiator bytes) 11

abbrev pub is_command : List ℕ → Bool
is_command bytes =
    not (nat_lt (length bytes) (16 + reply_address_len (instruction_of bytes)))
    && (slice_index bytes 1 == 1)
    && has_right_crc bytes
    && not (packet_type (instruction_of bytes) == 0)

-- the fields by position
unfoldable pub fields_of : List ℕ → CommandView
fields_of bytes =
    let back = from_initiator bytes in
    record {
      logical = slice_index bytes 0;
      instruction = instruction_of bytes;
      key = slice_index bytes 3;
      reply_address = take (reply_address_len (instruction_of bytes)) (drop 4 bytes);
      initiator = slice_index back 0;
      transaction = number_of (take 2 (drop 1 back));
      address = number_of (take 5 (drop 3 back));
      data_length = number_of (take 3 (drop 8 back));
    }

-- the command that a packet's bytes begin with
unfoldable pub read : List ℕ → Option CommandView
read bytes = if is_command bytes then Some (fields_of bytes) else None

-- the bytes behind the header
abbrev pub body_of : List ℕ → List ℕ
body_of bytes = drop (16 + reply_address_len (instruction_of bytes)) bytes

-- the header without its CRC
abbrev pub header_of : CommandView → List ℕ
header_of c =
    c.logical ∷ 1 ∷ c.instruction ∷ c.key ∷ c.reply_address
    ++ c.initiator ∷ bytes_high_first 2 c.transaction
    ++ bytes_high_first 5 c.address
    ++ bytes_high_first 3 c.data_length

-- how many bytes of data the command comes with
abbrev pub carried_len : CommandView → ℕ
carried_len c = if is_write c.instruction then c.data_length else 0

-- the header, and the data of a write, each with its CRC
unfoldable pub written : CommandView → List ℕ → List ℕ
written c body = with_crc (header_of c) ++ (if is_write c.instruction then with_crc body else [])
