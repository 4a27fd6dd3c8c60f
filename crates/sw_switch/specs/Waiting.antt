-- How long an input waits for an output.
use Rattle.std.specs.Prelude.{◌≡◌, ◌≢◌, ℕ, ◌<◌, ◌≤◌, List, [], ◌∷◌, length, IsBitSet, count_ones}
use Rattle.sw_arb.specs.Arbiters.{Pick}
use Rattle.sw_char.specs.declared.nchar.NChar.{NChar}
use Rattle.sw_link.specs.Ends.{asked, arrived, granted}
use Rattle.sw_route.specs.declared.look.Look.{Look}
use Rattle.sw_switch.specs.Cell.{Cell, IsCell, credit_at, input_at, end_at, front_at}
use Rattle.sw_switch.specs.Conditions.{Names, Asks, CanGrant, CanDrop, CanForward, CanSpill, CanIssue}
use Rattle.sw_switch.specs.Changes.{granted_to, Grants, passed, forwarded, dropped, with_credit, with_end}
use Rattle.sw_switch.specs.declared.input.Input.TheVariants.{Held}

-- the input asks for the output, and its packet's leading byte names no other port with a link
pub record Waits {R A : Type 0} (answer : R → ℕ → Look) (cell : Cell R A) (out input : ℕ) : Type 0 where
  pub linked : IsBitSet cell.linked out
  pub asks : Asks answer cell out input
  pub only : (port : ℕ) → IsBitSet cell.linked port → Names answer cell.routes (front_at cell input) port → port ≡ out

-- a step of a switch that grants nothing
pub data Moves {R A : Type 0} (answer : R → ℕ → Look) : Cell R A → Cell R A → Type 0 where
  forwards : (cell : Cell R A) (input out : ℕ) → CanForward cell input → input_at cell input ≡ Held out → Moves answer cell (forwarded cell input out)
  drops : (cell : Cell R A) (input : ℕ) → CanDrop answer cell input → Moves answer cell (dropped cell input)
  spills : (cell : Cell R A) (input : ℕ) → CanSpill cell input → Moves answer cell (passed cell input)
  issues : (cell : Cell R A) (input : ℕ) → CanIssue cell input → Moves answer cell (with_end cell input (asked (end_at cell input)))
  arrives : (cell : Cell R A) (input : ℕ) (x : NChar) → 0 < (end_at cell input).outstanding → Moves answer cell (with_end cell input (arrived x (end_at cell input)))
  fct_received : (cell : Cell R A) (out : ℕ) → credit_at cell out ≤ 48 → Moves answer cell (with_credit cell out (granted (credit_at cell out)))

-- Steps of a switch that grant nothing to the input. The list has the picks of one output's arbiter
pub data Meanwhile {R A : Type 0} (answer : R → ℕ → Look) (policy : A → ℕ → ℕ → A → Type 0) (out input : ℕ) : Cell R A → List Pick → Cell R A → Type 0 where
  start : (cell : Cell R A) → Meanwhile answer policy out input cell [] cell
  picked : (old new later : Cell R A) (other : ℕ) (picks : List Pick) (grant : Grants answer policy old new out other) → other ≢ input →
      Meanwhile answer policy out input new picks later → Meanwhile answer policy out input old (record { asking = grant.asking; picked = other } ∷ picks) later
  picked_elsewhere : (old new later : Cell R A) (elsewhere other : ℕ) (picks : List Pick) → elsewhere ≢ out → Grants answer policy old new elsewhere other → other ≢ input →
      Meanwhile answer policy out input new picks later → Meanwhile answer policy out input old picks later
  given : (old later : Cell R A) (some other : ℕ) (picks : List Pick) → CanGrant answer old some other → other ≢ input →
      Meanwhile answer policy out input (granted_to answer old some other) picks later → Meanwhile answer policy out input old picks later
  moved : (old new later : Cell R A) (picks : List Pick) → Moves answer old new →
      Meanwhile answer policy out input new picks later → Meanwhile answer policy out input old picks later

-- While an input waits, the arbiter of the output passes it over fewer times than there are linked ports
abbrev pub WaitingIsBounded : {R A : Type 0} → (R → ℕ → Look) → (A → ℕ) → (A → ℕ → ℕ → A → Type 0) → Type 0
WaitingIsBounded {R = R} {A = A} answer ports policy =
    (cell later : Cell R A) (out input : ℕ) (picks : List Pick) → IsCell ports cell → out < 32 → input < 32 → Waits answer cell out input →
    Meanwhile answer policy out input cell picks later → length picks < count_ones cell.linked
