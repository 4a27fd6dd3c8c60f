use Rattle.std.proofs.Common.{Some, length, take, ℕ, ◌≡◌}
use Rattle.std.specs.Prelude.{slice_get}
use Rattle.sw_config.specs.Entries.{look_at}
use Rattle.sw_flow.specs.Places.{ends_of}
use Rattle.sw_net.specs.Outputs.{AreByOutput}
use Rattle.sw_net.specs.Policies.{IsNewFor}
use Rattle.sw_net.specs.Switches.{switch_look}
use Rattle.sw_net.specs.declared.declared.SwitchRoutes.{SwitchRoutes}
use Rattle.sw_net.proofs.declared.declared_net.Given as goal

abbrev pub invariant-loop-w : goal.invariant-loop-w
invariant-loop-w l = (length l.routes.items ≡ l.w) × ((w : ℕ) (r : SwitchRoutes) → slice_get l.routes.items w ≡ Some r → (byte : ℕ) → switch_look r byte ≡ look_at l.network.switches w byte)

abbrev pub invariant-loop-number : goal.invariant-loop-number
invariant-loop-number l = AreByOutput (λ w _ a. IsNewFor l.network w a) (take l.number (ends_of l.network)) l.arbiters.items
