-- What is asked for, as numbers and bytes (this project's choice).
use Rattle.std.specs.Prelude.{◌≤◌, ℕ, Bool, true, false, List, [], length, Option, Some, None, Result, Ok, option_map}
use Rattle.sw_load.specs.Cargo.{pairs_of}
use Rattle.sw_app_rmap.specs.declared.fault.RmapFault.{RmapFault}
use Rattle.sw_app_rmap.specs.declared.fault.RmapFault.TheVariants.{BadAddress, BadLength, BadData, BadTransaction}
use Rattle.sw_app_rmap.specs.declared.order.Action as code
use Rattle.sw_app_rmap.specs.declared.order.Action.TheVariants as code_action
use Rattle.sw_app_rmap.specs.declared.order.RmapOrder as code_order
use Rattle.sw_app_rmap.specs.declared.request.Access.{Access}
use Rattle.sw_app_rmap.specs.declared.request.Access.TheVariants as access
use Rattle.sw_app_rmap.specs.declared.request.Request.{Request}
use Rattle.sw_text.specs.Gives.{◌>>=◌, ok_or}
use Rattle.sw_app_rmap.specs.Words.{number_of}

-- what a command does at its address: it reads so many bytes, or writes these, and is answered or not
pub data Action : Type 0 where
  reads : (count : ℕ) → Action
  writes : (bytes : List ℕ) (acknowledged : Bool) → Action

-- a command that is asked for
pub record RmapOrder : Type 0 where
  pub address : ℕ
  pub action : Action
  pub transaction : ℕ

abbrev pub is_write : Action → Bool
is_write (reads count) = false
is_write (writes bytes acknowledged) = true

-- a read always is answered
abbrev pub wants_reply : Action → Bool
wants_reply (reads count) = true
wants_reply (writes bytes acknowledged) = acknowledged

-- how many bytes are read or written
abbrev pub length_of : Action → ℕ
length_of (reads count) = count
length_of (writes bytes acknowledged) = length bytes

-- the data that the command carries
abbrev pub data_of : Action → List ℕ
data_of (reads count) = []
data_of (writes bytes acknowledged) = bytes

-- a length of at most 24 bits, or 1 to 4,096 bytes as hexadecimal pairs
unfoldable pub action_of : Access → Result Action RmapFault
action_of (access.Read count) = do
  n ← ok_or (number_of 16777215 count.now) BadLength
  Ok (reads n)
action_of (access.Write pairs acknowledged) = do
  bytes ← ok_or (pairs_of pairs.now) BadData
  Ok (writes bytes acknowledged)

-- a transaction identifier has 16 bits; 0 where none is given
abbrev pub transaction_of : Option (List ℕ) → Option ℕ
transaction_of None = Some 0
transaction_of (Some word) = number_of 65535 word

-- an address has 40 bits (ECSS-E-ST-50-52C, the fields of a command)
unfoldable pub order_of : Request → Result RmapOrder RmapFault
order_of r = do
  address ← ok_or (number_of 1099511627775 r.address.now) BadAddress
  action ← action_of r.access
  transaction ← ok_or (transaction_of (option_map (λ w. w.now) r.transaction)) BadTransaction
  Ok (record { address = address; action = action; transaction = transaction })

-- its numbers fit the fields of a command: the address has 40 bits, the transaction identifier 16, and the length 24
pub record IsSmall (o : RmapOrder) : Type 0 where
  pub address : o.address ≤ 1099511627775
  pub transaction : o.transaction ≤ 65535
  pub count : length_of o.action ≤ 16777215

-- what the program's own values say
abbrev pub action_view : code.Action → Action
action_view (code_action.Read count) = reads count
action_view (code_action.Write bytes acknowledged) = writes bytes.items acknowledged

abbrev pub order_view : code_order.RmapOrder → RmapOrder
order_view o = record { address = o.address; action = action_view o.action; transaction = o.transaction }
