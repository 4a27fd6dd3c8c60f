-- The bits of an instruction (ECSS-E-ST-50-52C, the instruction field of a command), bit 7 the highest.
use Rattle.std.specs.Prelude.{ℕ, ◌+◌, ◌/◌, ◌%◌, ◌*◌, Bool, ◌==◌, ◌||◌, ◌&&◌, if◌then◌else◌}

-- bits 7 and 6: 1 a command, 0 a reply; 2 and 3 are reserved
abbrev pub packet_type : ℕ → ℕ
packet_type i = i / 64 % 4

-- bits 5 to 2: what is commanded
abbrev pub command_code : ℕ → ℕ
command_code i = i / 4 % 16

-- bit 5
abbrev pub is_write : ℕ → Bool
is_write i = i / 32 % 2 == 1

-- bit 3
abbrev pub wants_reply : ℕ → Bool
wants_reply i = i / 8 % 2 == 1

-- bit 2: the data lie at rising addresses, not all at one
abbrev pub increments : ℕ → Bool
increments i = i / 4 % 2 == 1

-- bits 1 and 0 count the reply address in units of four bytes
abbrev pub reply_address_len : ℕ → ℕ
reply_address_len i = 4 * (i % 4)

abbrev pub is_read_modify_write : ℕ → Bool
is_read_modify_write i = command_code i == 7

-- a command that reads at one address or at rising ones, reads, modifies and writes, or writes
abbrev pub is_known : ℕ → Bool
is_known i = (packet_type i == 1) && (is_write i || (command_code i == 2) || (command_code i == 3) || is_read_modify_write i)

-- the same bits, with the type of a reply
abbrev pub of_reply : ℕ → ℕ
of_reply i = i % 64

-- a command that writes or reads at rising addresses, with a reply or without, whose reply address has so many units of four bytes
abbrev pub incrementing : Bool → Bool → ℕ → ℕ
incrementing write reply units = 64 + (if write then 32 else 0) + (if reply then 8 else 0) + 4 + units
