-- What a call answers that makes a step of a link end.
use Rattle.std.specs.Prelude.{Err, None, Ok, Option, Result, Some, false, slice_get, slice_set, true, ℕ, ◌≡◌}
use Rattle.std.specs.declared.alloc.AllocError.{AllocError}
use Rattle.sw_cell.specs.Answers.{Stores}
use Rattle.sw_cell.specs.Picks.{GrantsPick}
use Rattle.sw_cell.specs.Possible.{step_at_port}
use Rattle.sw_cell.specs.declared.switch.PortStep.{PortStep}
use Rattle.sw_machine.specs.Parts.{link_end_of}
use Rattle.sw_machine.specs.Steps.{Begin, Grant, Step, is_begin}
use Rattle.sw_machine.specs.Model.{network_of}
use Rattle.sw_net.specs.Asked.{CanStep}
use Rattle.sw_net.specs.Net.{NetAnswers, NetView, arbiters_of}
use Rattle.sw_net.specs.Possible.{Tells}
use Rattle.sw_route.specs.declared.look.Look.{Look}
use Rattle.sw_machine.specs.StepValues.{machine_step}
use Rattle.sw_machine.specs.declared.step.Step.{Step as CodeStep}
use Rattle.sw_switch.specs.Cell.{Cell}
use Rattle.sw_topo.specs.declared.place.PlaceEnd.{PlaceEnd}
use Rattle.sw_topo.specs.declared.place.PlaceEnd.TheVariants.{Node, Switch}

-- the output where channel d starts is granted to input c, which its arbiter picks among those that ask; no other arbiter changes, and no other switch
pub record IsPicked {R A : Type 0} (answer : R → ℕ → Look) (policy : A → ℕ → ℕ → A → Type 0) (v : NetView R A) (d c : ℕ) (w : NetView R A) : Type 0 where
  pub switch : ℕ
  pub before : Cell R A
  pub after : Cell R A
  pub at : slice_get v.switches switch ≡ Some before
  pub picks : GrantsPick answer policy v.declared switch before after d c
  pub others : w.switches ≡ slice_set v.switches switch after

-- a grant is decided by its output's arbiter; another step changes no arbiter
abbrev pub IsDecided : {R A : Type 0} → (R → ℕ → Look) → (A → ℕ → ℕ → A → Type 0) → NetView R A → Step → NetView R A → Type 0
IsDecided answer policy v (Grant d c) w = IsPicked answer policy v d c w
IsDecided answer policy v step w = arbiters_of w.switches ≡ arbiters_of v.switches

-- the step belongs to the link end where channel e starts, and is no beginning
pub record IsMoveOf {R A : Type 0} (v : NetView R A) (e : ℕ) (step : Step) : Type 0 where
  pub belongs : link_end_of (network_of v.declared) step ≡ e
  pub no_begin : is_begin step ≡ false

-- such a step, from each state that the first are the parts of to one that the second are the parts of
pub record Moves {R A : Type 0} (answer : R → ℕ → Look) (policy : A → ℕ → ℕ → A → Type 0) (v : NetView R A) (e : ℕ) (step : Step) (w : NetView R A) : Type 0 where
  pub move : IsMoveOf v e step
  pub made : NetAnswers v step (Ok tt) w
  pub decided : IsDecided answer policy v step w

-- such a step is possible, and stores something
pub record WantsRoom {R A : Type 0} (v : NetView R A) (e : ℕ) : Type 0 where
  pub step : Step
  pub move : IsMoveOf v e step
  pub stores : Stores step
  pub possible : Tells v step true

-- Some: that step of the link end where channel e starts was made; None: the link end has no possible step other than a beginning;
-- Err: it has one that wants memory. After None and Err nothing has changed.
abbrev pub MovesAt : {R A : Type 0} → (R → ℕ → Look) → (A → ℕ → ℕ → A → Type 0) → NetView R A → ℕ → Result (Option CodeStep) AllocError → NetView R A → Type 0
MovesAt answer policy v e (Ok (Some step)) w = Moves answer policy v e (machine_step step) w
MovesAt answer policy v e (Ok None) w = CanStep v e false × (w ≡ v)
MovesAt answer policy v e (Err error) w = WantsRoom v e × (w ≡ v)

-- a step that needs no arbiter, and begins nothing
abbrev pub IsPlain : Step → Type 0
IsPlain (Grant d c) = ⊥
IsPlain (Begin flow cargo end) = ⊥
IsPlain step = Unit {0}

-- such a step, which is possible and belongs to the link end where channel e starts
pub record IsReady {R A : Type 0} (v : NetView R A) (e : ℕ) (step : Step) : Type 0 where
  pub plain : IsPlain step
  pub belongs : link_end_of (network_of v.declared) step ≡ e
  pub possible : Tells v step true

-- Some: that step of the link end where channel e starts is ready; None: none of its steps is possible, apart from grants of its output
abbrev pub TellsReady : {R A : Type 0} → NetView R A → ℕ → Option CodeStep → PlaceEnd → Type 0
TellsReady v e (Some step) place = IsReady v e (machine_step step)
TellsReady v e None (Node n) = CanStep v e false
TellsReady v e None (Switch w port) = (step : PortStep) → Tells v (step_at_port e step) false
