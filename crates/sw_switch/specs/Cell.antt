-- The cell of a wormhole routing switch.
use Rattle.std.specs.Prelude.{IsBitSet, List, None, Option, Some, [], length, map, replicate, slice_get, slice_index, ℕ, ◌<◌, ◌≡◌}
use Rattle.std.specs.List.{slice_index_or}
use Rattle.sw_char.specs.declared.nchar.NChar.{NChar}
use Rattle.sw_link.specs.Ends.{Received}
use Rattle.sw_switch.specs.declared.input.Input.{Input}
use Rattle.sw_switch.specs.declared.input.Input.TheVariants.{Idle}

-- What a switch keeps of its ports: each list goes by port, 0 to 31. A port that is not linked keeps what it was made with
pub record Cell (R A : Type 0) : Type 0 where
  pub routes : R
  pub linked : ℕ  -- the ports that have a link
  pub credits : List ℕ  -- the credit of the channel that starts at the port
  pub inputs : List Input  -- what the port's input does
  pub received : List Received  -- the receiving end of the channel that ends at the port
  pub arbiters : List (Option A)  -- the arbiter of the port's output

abbrev pub cell_of : {R A : Type 0} → R → ℕ → List ℕ → List Input → List Received → List (Option A) → Cell R A
cell_of routes linked credits inputs received arbiters = record {
  routes = routes;
  linked = linked;
  credits = credits;
  inputs = inputs;
  received = received;
  arbiters = arbiters;
}

-- the port has an arbiter, and that was made with the linked ports
abbrev pub HasArbiter : {A : Type 0} → (A → ℕ) → ℕ → Option (Option A) → Type 0
HasArbiter ports linked None = ⊥
HasArbiter ports linked (Some None) = ⊥
HasArbiter ports linked (Some (Some arbiter)) = ports arbiter ≡ linked

-- each linked port has
abbrev pub HaveArbiters : {A : Type 0} → (A → ℕ) → ℕ → List (Option A) → Type 0
HaveArbiters ports linked arbiters = (port : ℕ) → port < 32 → IsBitSet linked port → HasArbiter ports linked (slice_get arbiters port)

-- each list has 32 entries, and each linked port an arbiter
pub record IsCell {R A : Type 0} (ports : A → ℕ) (cell : Cell R A) : Type 0 where
  pub all_credits : length cell.credits ≡ 32
  pub all_inputs : length cell.inputs ≡ 32
  pub all_received : length cell.received ≡ 32
  pub all_arbiters : length cell.arbiters ≡ 32
  pub arbiter_ports : HaveArbiters ports cell.linked cell.arbiters

abbrev pub new_end : ℕ → Received
new_end capacity = record { buffer = []; outstanding = 0; capacity = capacity }

abbrev pub new_cell : {R A : Type 0} → R → ℕ → List ℕ → List (Option A) → Cell R A
new_cell routes linked capacities arbiters = cell_of routes linked (replicate 32 0) (replicate 32 Idle) (map new_end capacities) arbiters

abbrev pub credit_at : {R A : Type 0} → Cell R A → ℕ → ℕ
credit_at cell port = slice_index cell.credits port

abbrev pub input_at : {R A : Type 0} → Cell R A → ℕ → Input
input_at cell port = slice_index_or cell.inputs port Idle

abbrev pub end_at : {R A : Type 0} → Cell R A → ℕ → Received
end_at cell port = slice_index_or cell.received port (new_end 0)

-- each idle input with a character in its buffer is in the set
abbrev pub HasWaiting : ℕ → List Input → List Received → Type 0
HasWaiting waiting inputs received = (port : ℕ) → slice_index_or inputs port Idle ≡ Idle → 0 < length (slice_index_or received port (new_end 0)).buffer → IsBitSet waiting port

-- the N-Char at the front of the port's buffer
abbrev pub front_at : {R A : Type 0} → Cell R A → ℕ → Option NChar
front_at cell port = slice_get (end_at cell port).buffer 0
