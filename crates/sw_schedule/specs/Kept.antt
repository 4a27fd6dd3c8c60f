-- What a schedule keeps of a line, as cargo and as a step of the machine.
use Rattle.std.specs.Prelude.{ℕ, List, replicate}
use Rattle.sw_machine.specs.Steps as machine
use Rattle.sw_machine.specs.StepValues.{machine_move}
use Rattle.sw_schedule.specs.declared.cargo.Cargo.{Cargo}
use Rattle.sw_schedule.specs.declared.cargo.Cargo.TheVariants as cargo
use Rattle.sw_schedule.specs.declared.schedule_entry.BeginStep.{BeginStep}
use Rattle.sw_schedule.specs.declared.schedule_entry.Packed.{Packed}
use Rattle.sw_schedule.specs.declared.schedule_entry.Packed.TheVariants as packed

abbrev pub cargo_bytes : Cargo → List ℕ
cargo_bytes (cargo.Bytes bytes) = bytes.items
cargo_bytes (cargo.Repeated byte times) = replicate times byte

-- the step that begins a packet
abbrev pub begin_step : BeginStep → machine.Step
begin_step b = machine.Begin b.flow (cargo_bytes b.cargo) b.end

-- how many times the step is made
abbrev pub packed_count : Packed → ℕ
packed_count (packed.Plain count step) = count
packed_count (packed.WithCargo count step) = count

-- the step
abbrev pub packed_step : Packed → machine.Step
packed_step (packed.Plain count step) = machine_move step
packed_step (packed.WithCargo count step) = begin_step step.value
