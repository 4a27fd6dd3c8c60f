-- What each step of a switch changes of its cell (ECSS-E-ST-50-12C, network layer: wormhole routing).
use Rattle.std.specs.Prelude.{◌≡◌, ℕ, Bool, true, false, drop, Option, Some, None, if◌then◌else◌, slice_get, slice_set}
use Rattle.sw_char.specs.declared.nchar.NChar.{NChar}
use Rattle.sw_char.specs.declared.nchar.NChar.TheVariants.{Data, Eop, Eep}
use Rattle.sw_link.specs.Ends.{Received, spent}
use Rattle.sw_route.specs.declared.look.Look.{Look}
use Rattle.sw_switch.specs.Cell.{Cell, credit_at, end_at, front_at}
use Rattle.sw_switch.specs.Conditions.{AreAsking, CanGrant}
use Rattle.sw_switch.specs.declared.input.Input.{Input}
use Rattle.sw_switch.specs.declared.input.Input.TheVariants.{Idle, Held, Spilling}

-- the N-Char at the front of the input's buffer has left
abbrev pub without_front : {R A : Type 0} → Cell R A → ℕ → Cell R A
without_front cell input = record cell { received = slice_set cell.received input (record (end_at cell input) { buffer = drop 1 (end_at cell input).buffer }) }

abbrev pub with_input : {R A : Type 0} → Cell R A → ℕ → Input → Cell R A
with_input cell port input = record cell { inputs = slice_set cell.inputs port input }

abbrev pub with_credit : {R A : Type 0} → Cell R A → ℕ → ℕ → Cell R A
with_credit cell port credit = record cell { credits = slice_set cell.credits port credit }

abbrev pub with_end : {R A : Type 0} → Cell R A → ℕ → Received → Cell R A
with_end cell port r = record cell { received = slice_set cell.received port r }

-- the front is a byte that is deleted here
abbrev pub is_deleted : {R : Type 0} → (R → ℕ → Look) → R → Option NChar → Bool
is_deleted answer routes None = false
is_deleted answer routes (Some (Data byte)) = (answer routes byte).delete
is_deleted answer routes (Some Eop) = false
is_deleted answer routes (Some Eep) = false

-- the front ends a packet
abbrev pub is_marker : Option NChar → Bool
is_marker None = false
is_marker (Some (Data byte)) = false
is_marker (Some Eop) = true
is_marker (Some Eep) = true

-- the input holds the output, and the packet's leading byte has left if it is deleted here
abbrev pub granted_to : {R A : Type 0} → (R → ℕ → Look) → Cell R A → ℕ → ℕ → Cell R A
granted_to answer cell out input = record cell {
  inputs = slice_set cell.inputs input (Held out);
  received = if is_deleted answer cell.routes (front_at cell input) then (without_front cell input).received else cell.received;
}

-- what the arbiter of the output grants: it picks among the inputs that ask, and no other arbiter changes
pub record Grants {R A : Type 0} (answer : R → ℕ → Look) (policy : A → ℕ → ℕ → A → Type 0) (old new : Cell R A) (out input : ℕ) : Type 0 where
  pub possible : CanGrant answer old out input
  pub asking : ℕ
  pub are_asking : AreAsking answer old out asking
  pub before : A
  pub after : A
  pub arbiter : slice_get old.arbiters out ≡ Some (Some before)
  pub picks : policy before asking input after
  pub changed : new ≡ record (granted_to answer old out input) { arbiters = slice_set old.arbiters out (Some after) }

-- the front has passed, and an end marker makes the input idle
abbrev pub passed : {R A : Type 0} → Cell R A → ℕ → Cell R A
passed cell input = record cell {
  inputs = if is_marker (front_at cell input) then slice_set cell.inputs input Idle else cell.inputs;
  received = (without_front cell input).received;
}

-- the front went to the output
abbrev pub forwarded : {R A : Type 0} → Cell R A → ℕ → ℕ → Cell R A
forwarded cell input out = with_credit (passed cell input) out (spent (credit_at cell out))

-- an end marker leaves; a packet stays, and the input begins to spill it
abbrev pub dropped : {R A : Type 0} → Cell R A → ℕ → Cell R A
dropped cell input = record cell {
  inputs = if is_marker (front_at cell input) then cell.inputs else slice_set cell.inputs input Spilling;
  received = if is_marker (front_at cell input) then (without_front cell input).received else cell.received;
}
