-- Which inputs wait.
use Rattle.std.specs.Prelude.{slice_get}
use Rattle.std.specs.List.{slice_index_or}
use Rattle.std.proofs.Common.{◌≡◌, ◌<◌, ℕ, zero, suc, List, [], ◌∷◌, length, map, refl, ap, arith}
use Rattle.sw_char.specs.declared.nchar.NChar.{NChar}
use Rattle.sw_link.specs.Ends.{Received}
use Rattle.sw_route.specs.declared.look.Look.{Look}
use Rattle.sw_switch.specs.Cell.{HasWaiting, new_end}
use Rattle.sw_switch.specs.Conditions.{Names}
use Rattle.sw_switch.specs.declared.input.Input.{Input}

-- new ends are empty
empty : (capacities : List ℕ) (port : ℕ) → (slice_index_or (map new_end capacities) port (new_end 0)).buffer ≡ []
empty [] port = refl
empty (x ∷ capacities) zero = refl
empty (x ∷ capacities) (suc port) = empty capacities port

-- so none waits there
pub none_waits : (waiting : ℕ) (inputs : List Input) (received : List Received) (capacities : List ℕ) → received ≡ map new_end capacities → HasWaiting waiting inputs received
none_waits waiting inputs received capacities new port idle full =
    let none : length (slice_index_or received port (new_end 0)).buffer ≡ 0 = rw new (ap length (empty capacities port)) in
    absurd (omega (arith, none, full))

-- where the front names an output, there is one
pub full_where_named : {R : Type 0} (answer : R → ℕ → Look) (routes : R) (buffer : List NChar) (out : ℕ) → Names answer routes (slice_get buffer 0) out → 0 < length buffer
full_where_named answer routes [] out names = absurd names
full_where_named answer routes (x ∷ buffer) out names = omega arith
