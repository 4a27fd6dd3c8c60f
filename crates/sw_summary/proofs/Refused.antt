-- A step that is not made.
use Rattle.std.proofs.Common.{Err, List, Ok, Result, ℕ, ◌≡◌}
use Rattle.std.specs.Prelude.{false}
use Rattle.sw_net.specs.NetFault.{NetFault}
use Rattle.sw_net.specs.NetFault.TheVariants as fault
use Rattle.sw_summary.specs.NotedFills.{MakesOrNot}
use Rattle.sw_machine.specs.Steps.{Step}
use Rattle.sw_machine.specs.Model.{network_of}
use Rattle.sw_net.specs.Net.{NetAnswers, NetView}
use Rattle.sw_net.proofs.Undeclared.{never_begun}

pub not_enabled : {R A : Type 0} (v w u : NetView R A) (step : Step) (answer : Result Unit NetFault) (why : NetFault) (before after : List ℕ) → answer ≡ Err why → why ≡ fault.NotEnabled
    → NetAnswers v step answer u → MakesOrNot v before step false w after
not_enabled v w u step (Ok done) why before after is kind answers = absurd cc
not_enabled v w u step (Err fault.NotInFlow) why before after is kind answers = absurd cc
not_enabled v w u step (Err fault.Memory) why before after is kind answers = absurd cc
not_enabled v w u step (Err fault.NotEnabled) why before after is kind answers = answers.1

pub not_in_flow : {R A : Type 0} (v w u : NetView R A) (step : Step) (answer : Result Unit NetFault) (why : NetFault) (before after : List ℕ) → answer ≡ Err why → why ≡ fault.NotInFlow
    → NetAnswers v step answer u → MakesOrNot v before step false w after
not_in_flow v w u step (Ok done) why before after is kind answers = absurd cc
not_in_flow v w u step (Err fault.NotEnabled) why before after is kind answers = absurd cc
not_in_flow v w u step (Err fault.Memory) why before after is kind answers = absurd cc
not_in_flow v w u step (Err fault.NotInFlow) why before after is kind answers = λ s at. never_begun (network_of v.declared) s step answers
