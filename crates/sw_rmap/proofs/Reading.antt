-- What is known of a packet that is read.
use Rattle.std.proofs.Common.{◌≡◌, ◌∙◌, ℕ, ◌+◌, ◌<◌, ◌≤◌, ◌^◌, ◌==◌, Bool, false, not, true, ltb, List, length, length-drop, length-take, get_or, None, Some, Ok, Err, take, drop, refl, ap, sym, arith}
use Rattle.std.specs.Prelude.{if◌then◌else◌}
use Rattle.std.specs.Result.{result_ok}
use Rattle.std.proofs.Math.Nat.{pow-le-pow_right}
use Rattle.std.proofs.lemmas.Bool.{and_from, and_left, and_parts, and_right, both_ways, cond-true, eq-eqb, le-ltb, lt-ltb, ltb-false, not-true, or_right}
use Rattle.std.proofs.lemmas.Option.{cond_some}
use Rattle.sw_rmap.specs.Crc.{crc_of}
use Rattle.sw_rmap.specs.Instruction.{packet_type, reply_address_len}
use Rattle.sw_rmap.specs.CommandView.{CommandView, IsCommand, command}
use Rattle.sw_rmap.specs.Commands.{number_of, instruction_of, has_right_crc, is_command, fields_of, read, body_of}
use Rattle.sw_rmap.specs.Unread.{try_read, why_no_command}
use Rattle.sw_rmap.specs.declared.no_command.NoCommand.{NoCommand}
use Rattle.sw_rmap.specs.declared.no_command.NoCommand.TheVariants.{TooShort, OtherProtocol, WrongCrc, IsReply}

pub record IsRead (bytes : List ℕ) (c : CommandView) : Type 0 where
  pub long : 16 + reply_address_len (instruction_of bytes) ≤ length bytes
  pub fields : fields_of bytes ≡ c

pub is_read : (bytes : List ℕ) (c : CommandView) → read bytes ≡ Some c → IsRead bytes c
unfolding read
is_read bytes c h =
    let e = cond_some (is_command bytes) (fields_of bytes) c h in
    let p = and_parts _ _ e.0 in
    let q = and_parts _ _ p.0 in
    let r = and_parts _ _ q.0 in
    record { long = ltb-false _ _ (not-true _ r.0); fields = e.1 }

pub instruction-read : (bytes : List ℕ) (c : CommandView) → read bytes ≡ Some c → c.instruction ≡ instruction_of bytes
unfolding fields_of
instruction-read bytes c h = rw (← (is_read bytes c h).fields) refl

pub read_long : (bytes : List ℕ) (c : CommandView) → read bytes ≡ Some c → 16 + reply_address_len c.instruction ≤ length bytes
read_long bytes c h = rw (instruction-read bytes c h) (is_read bytes c h).long

pub body-read : (bytes : List ℕ) (c : CommandView) → read bytes ≡ Some c → drop (16 + reply_address_len c.instruction) bytes ≡ body_of bytes
body-read bytes c h = ap (λ i. drop (16 + reply_address_len i) bytes) (instruction-read bytes c h)

-- the command alone, without why there is none
pub read_is_told : (bytes : List ℕ) → result_ok (try_read bytes) ≡ read bytes
unfolding read try_read
read_is_told bytes = alone (is_command bytes)
  where
    alone : (here : Bool) → result_ok (if here then Ok (fields_of bytes) else Err (why_no_command bytes)) ≡ (if here then Some (fields_of bytes) else None)
    alone true = refl
    alone false = refl

-- bytes that are no command
no_command : (bytes : List ℕ) (why : NoCommand) → is_command bytes ≡ false → why_no_command bytes ≡ why → Err why ≡ try_read bytes
unfolding try_read
no_command bytes why refused is = rw refused (ap (λ (w : NoCommand). Err w) (sym is))

pub too_short : (bytes : List ℕ) → length bytes < 16 + reply_address_len (instruction_of bytes) → Err TooShort ≡ try_read bytes
too_short bytes short =
    let no : ltb (length bytes) (16 + reply_address_len (instruction_of bytes)) ≡ true = lt-ltb _ _ short in
    no_command bytes TooShort (and_left _ _ (and_left _ _ (and_left _ _ (ap not no)))) (cond-true _ _ _ (or_right _ _ no))

record IsLong (bytes : List ℕ) : Type 0 where
  front : ltb (length bytes) 16 ≡ false
  whole : ltb (length bytes) (16 + reply_address_len (instruction_of bytes)) ≡ false

is_long : (bytes : List ℕ) → 16 + reply_address_len (instruction_of bytes) ≤ length bytes → IsLong bytes
is_long bytes long = record { front = le-ltb _ _ (omega (arith, long)); whole = le-ltb _ _ long }

pub other_protocol : (bytes : List ℕ) → 16 + reply_address_len (instruction_of bytes) ≤ length bytes → (get_or bytes 1 0 == 1) ≡ false → Err OtherProtocol ≡ try_read bytes
other_protocol bytes long other =
    let is = is_long bytes long in
    no_command bytes OtherProtocol (and_left _ _ (and_left _ _ (and_right _ _ other))) (rw (is.front, is.whole, other) refl)

pub wrong_code : (bytes : List ℕ) → 16 + reply_address_len (instruction_of bytes) ≤ length bytes → (get_or bytes 1 0 == 1) ≡ true → has_right_crc bytes ≡ false → Err WrongCrc ≡ try_read bytes
wrong_code bytes long protocol wrong =
    let is = is_long bytes long in
    no_command bytes WrongCrc (and_left _ _ (and_right _ _ wrong)) (rw (is.front, is.whole, protocol, wrong) refl)

pub no_type : (bytes : List ℕ) → 16 + reply_address_len (instruction_of bytes) ≤ length bytes → (get_or bytes 1 0 == 1) ≡ true → has_right_crc bytes ≡ true → not (packet_type (instruction_of bytes) == 0) ≡ false
    → Err IsReply ≡ try_read bytes
no_type bytes long protocol code none =
    let is = is_long bytes long in
    no_command bytes IsReply (and_right _ _ none) (rw (is.front, is.whole, protocol, code) refl)

-- the code that was reckoned, compared with that at the header's end
pub code_told : (bytes back : List ℕ) (path code : ℕ) → path ≡ reply_address_len (instruction_of bytes) → code ≡ crc_of (take (15 + path) bytes) → back ≡ drop (4 + path) bytes → (code == get_or back 11 0) ≡ has_right_crc bytes
code_told bytes back path code at is behind = rw (is, behind, at) refl

-- bytes that are one
pub command_here : (bytes : List ℕ) → 16 + reply_address_len (instruction_of bytes) ≤ length bytes → (get_or bytes 1 0 == 1) ≡ true → has_right_crc bytes ≡ true → not (packet_type (instruction_of bytes) == 0) ≡ true → is_command bytes ≡ true
command_here bytes long protocol code kind = and_from _ _ (and_from _ _ (and_from _ _ (ap not (le-ltb _ _ long)) protocol) code) kind

-- a command whose fields are what stands at their places
pub read_fields : (bytes kept back : List ℕ) (path count transaction address data_length : ℕ) → is_command bytes ≡ true → path ≡ reply_address_len (get_or bytes 2 0) → kept ≡ take count (drop 4 bytes) → count ≡ path
    → back ≡ drop (4 + path) bytes → transaction ≡ number_of (take 2 (drop 1 back)) → address ≡ number_of (take 5 (drop 3 back)) → data_length ≡ number_of (take 3 (drop 8 back))
    → Ok (command (get_or bytes 0 0) (get_or bytes 2 0) (get_or bytes 3 0) kept (get_or back 0 0) transaction address data_length) ≡ try_read bytes
unfolding try_read fields_of
read_fields bytes kept back path count transaction address data_length here at_path at_kept same at_back at_transaction at_address at_length =
    rw (here, at_transaction, at_address, at_length, at_kept, same, at_back, at_path) refl

digits_within : (n k : ℕ) (bytes : List ℕ) → n < 256 ^ length (take k bytes) → n < 256 ^ k
digits_within n k bytes fits =
    let few : length (take k bytes) ≤ k = omega (arith, length-take k bytes) in
    let grows : 256 ^ length (take k bytes) ≤ 256 ^ k = pow-le-pow_right {n = 256} (omega arith) {i = length (take k bytes)} {j = k} few in
    omega arith

-- what stands at the places of a command's fields makes a command
pub fields_are_right : (bytes kept back : List ℕ) (path count transaction address data_length : ℕ) → is_command bytes ≡ true → path ≡ reply_address_len (get_or bytes 2 0) → kept ≡ take count (drop 4 bytes) → count ≡ path
    → transaction < 256 ^ length (take 2 (drop 1 back)) → address < 256 ^ length (take 5 (drop 3 back)) → data_length < 256 ^ length (take 3 (drop 8 back))
    → IsCommand (command (get_or bytes 0 0) (get_or bytes 2 0) (get_or bytes 3 0) kept (get_or back 0 0) transaction address data_length)
fields_are_right bytes kept back path count transaction address data_length here at_path at_kept same small_transaction small_address small_length =
    let p = and_parts _ _ here in
    let q = and_parts _ _ p.0 in
    let r = and_parts _ _ q.0 in
    let long : 16 + reply_address_len (get_or bytes 2 0) ≤ length bytes = ltb-false _ _ (not-true _ r.0) in
    let taken = length-take count (drop 4 bytes) in
    let rest = length-drop 4 bytes in
    let whole : length (take count (drop 4 bytes)) ≡ reply_address_len (get_or bytes 2 0) = omega arith in
    record {
      type_of_command = λ zero. both_ways _ (not-true _ p.1) (eq-eqb _ _ zero);
      reply_address = ap (λ (l : List ℕ). length l) at_kept ∙ whole;
      transaction = digits_within transaction 2 (drop 1 back) small_transaction;
      address = digits_within address 5 (drop 3 back) small_address;
      data_length = digits_within data_length 3 (drop 8 back) small_length;
    }
