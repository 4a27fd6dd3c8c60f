-- When a step of a switch is possible (ECSS-E-ST-50-12C, network layer: wormhole routing). `answer` is what a byte names by the routing.
use Rattle.std.specs.Prelude.{◌≡◌, ℕ, ◌<◌, ◌==◌, ◌↔◌, ◌⊎◌, Bool, false, length, Option, Some, None, IsTrue, IsBitSet, bit_and}
use Rattle.std.specs.List.{list_any}
use Rattle.sw_char.specs.declared.nchar.NChar.{NChar}
use Rattle.sw_char.specs.declared.nchar.NChar.TheVariants.{Data, Eop, Eep}
use Rattle.sw_link.specs.Ends.{may_issue}
use Rattle.sw_route.specs.declared.look.Look.{Look}
use Rattle.sw_switch.specs.Cell.{Cell, credit_at, input_at, end_at, front_at}
use Rattle.sw_switch.specs.declared.input.Input.{Input}
use Rattle.sw_switch.specs.declared.input.Input.TheVariants.{Idle, Held, Spilling}

-- the input holds that output
abbrev pub holds : ℕ → Input → Bool
holds out Idle = false
holds out (Held held) = held == out
holds out Spilling = false

-- some input holds the output
abbrev pub is_held : {R A : Type 0} → Cell R A → ℕ → Bool
is_held cell out = list_any (holds out) cell.inputs

-- the front is a packet's leading byte, which names that port
abbrev pub Names : {R : Type 0} → (R → ℕ → Look) → R → Option NChar → ℕ → Type 0
Names answer routes None out = ⊥
Names answer routes (Some (Data byte)) out = IsBitSet ((answer routes byte).ports) out
Names answer routes (Some Eop) out = ⊥
Names answer routes (Some Eep) out = ⊥

-- the input waits with a leading byte that names the output
pub record Asks {R A : Type 0} (answer : R → ℕ → Look) (cell : Cell R A) (out input : ℕ) : Type 0 where
  pub linked : IsBitSet cell.linked input
  pub idle : input_at cell input ≡ Idle
  pub names : Names answer cell.routes (front_at cell input) out

-- the input asks for the output, which is free
pub record CanGrant {R A : Type 0} (answer : R → ℕ → Look) (cell : Cell R A) (out input : ℕ) : Type 0 where
  pub linked : IsBitSet cell.linked out
  pub free : is_held cell out ≡ false
  pub asks : Asks answer cell out input

-- these are the inputs to which the output can be granted
abbrev pub AreAsking : {R A : Type 0} → (R → ℕ → Look) → Cell R A → ℕ → ℕ → Type 0
AreAsking answer cell out asking = (input : ℕ) → IsBitSet asking input ↔ CanGrant answer cell out input

-- an end marker, or a leading byte that names no port with a link
abbrev pub IsDropped : {R : Type 0} → (R → ℕ → Look) → R → ℕ → Option NChar → Type 0
IsDropped answer routes linked None = ⊥
IsDropped answer routes linked (Some (Data byte)) = bit_and ((answer routes byte).ports) linked ≡ 0
IsDropped answer routes linked (Some Eop) = Unit {0}
IsDropped answer routes linked (Some Eep) = Unit {0}

pub record CanDrop {R A : Type 0} (answer : R → ℕ → Look) (cell : Cell R A) (input : ℕ) : Type 0 where
  pub idle : input_at cell input ≡ Idle
  pub dropped : IsDropped answer cell.routes cell.linked (front_at cell input)

-- the output that the input holds has credit
abbrev pub HasCredit : {R A : Type 0} → Cell R A → Input → Type 0
HasCredit cell Idle = ⊥
HasCredit cell (Held out) = 0 < credit_at cell out
HasCredit cell Spilling = ⊥

pub record CanForward {R A : Type 0} (cell : Cell R A) (input : ℕ) : Type 0 where
  pub has_credit : HasCredit cell (input_at cell input)
  pub not_empty : 0 < length (end_at cell input).buffer

pub record CanSpill {R A : Type 0} (cell : Cell R A) (input : ℕ) : Type 0 where
  pub spilling : input_at cell input ≡ Spilling
  pub not_empty : 0 < length (end_at cell input).buffer

pub record CanIssue {R A : Type 0} (cell : Cell R A) (input : ℕ) : Type 0 where
  pub linked : IsBitSet cell.linked input
  pub room : IsTrue (may_issue (end_at cell input))

-- some step of the port is possible, apart from what comes from its link: an FCT, a drop, a forward or a spill of its input, or a grant of its output
abbrev pub CanStep : {R A : Type 0} → (R → ℕ → Look) → Cell R A → ℕ → Type 0
CanStep answer cell port =
    CanIssue cell port ⊎ (CanDrop answer cell port ⊎ (CanForward cell port ⊎ (CanSpill cell port ⊎ ((input : ℕ) × CanGrant answer cell port input))))
