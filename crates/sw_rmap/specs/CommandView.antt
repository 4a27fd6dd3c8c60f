-- A command as callers see it.
use Rattle.std.specs.Prelude.{◌≡◌, ◌≢◌, ◌<◌, ℕ, List, length}
use Rattle.sw_rmap.specs.Instruction.{packet_type, reply_address_len}

-- the fields of a command's header (ECSS-E-ST-50-52C, the fields of a command), the address with its extension
pub record CommandView : Type 0 where
  pub logical : ℕ
  pub instruction : ℕ
  pub key : ℕ
  pub reply_address : List ℕ
  pub initiator : ℕ
  pub transaction : ℕ
  pub address : ℕ
  pub data_length : ℕ

-- the command is no reply, its reply address has as many bytes as its instruction says, and each number fits its field
pub record IsCommand (c : CommandView) : Type 0 where
  pub type_of_command : packet_type c.instruction ≢ 0
  pub reply_address : length c.reply_address ≡ reply_address_len c.instruction
  pub transaction : c.transaction < 65536
  pub address : c.address < 1099511627776
  pub data_length : c.data_length < 16777216

-- the command of these fields
abbrev pub command : ℕ → ℕ → ℕ → List ℕ → ℕ → ℕ → ℕ → ℕ → CommandView
command logical instruction key reply_address initiator transaction address data_length =
    record {
      logical = logical;
      instruction = instruction;
      key = key;
      reply_address = reply_address;
      initiator = initiator;
      transaction = transaction;
      address = address;
      data_length = data_length;
    }
