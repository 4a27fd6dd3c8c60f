-- Whose numbers a step changes.
use Rattle.std.specs.Prelude.{None, Option, Some, ℕ, ◌≡◌, ◌≤◌}
use Rattle.sw_machine.specs.Network.{Network}
use Rattle.sw_machine.specs.State.{State}
use Rattle.sw_machine.specs.Steps.{Accept, Arrive, Begin, Drop, Emit, Fct, FctIn, Forward, Grant, Leads, Reply, Spill, Step}
use Rattle.sw_machine.specs.Model.{network_of}
use Rattle.sw_net.specs.Net.{IsNetState, NetView}
use Rattle.sw_net.specs.Numbers.{numbers_at}
use Rattle.sw_topo.specs.Wiring.{partner}

-- from a state of the net the step leads only to one in which each link end but these has the numbers that it had
abbrev pub ChangesOnly : {R A : Type 0} → NetView R A → Step → Option ℕ × Option ℕ → Type 0
ChangesOnly v step ends = (s t : State) → IsNetState v s → Leads (network_of v.declared) s step t → (e : ℕ) → (ends.0 ≡ Some e → ⊥) → (ends.1 ≡ Some e → ⊥)
    → numbers_at (network_of v.declared) t e ≡ numbers_at (network_of v.declared) s e

-- the link end of node n; None: there is no such node
abbrev pub IsEndOf : Network → ℕ → Option ℕ → Type 0
IsEndOf net n None = net.nodes ≤ n
IsEndOf net n (Some e) = (net.out n ≡ e) × (net.into n ≡ partner e)

-- the link end whose numbers the step changes, apart from the output that a character is passed on to
abbrev pub IsChanged : Network → Step → Option ℕ → Type 0
IsChanged net (FctIn c) end = end ≡ Some c
IsChanged net (Fct c) end = end ≡ Some (partner c)
IsChanged net (Arrive c) end = end ≡ Some (partner c)
IsChanged net (Grant d c) end = end ≡ Some (partner c)
IsChanged net (Drop c) end = end ≡ Some (partner c)
IsChanged net (Spill c) end = end ≡ Some (partner c)
IsChanged net (Forward c) end = end ≡ Some (partner c)
IsChanged net (Emit n) end = IsEndOf net n end
IsChanged net (Accept n) end = IsEndOf net n end
IsChanged net (Begin flow cargo last) end = end ≡ None
IsChanged net (Reply n) end = end ≡ None

-- the channel whose first character the step passes on to an output
abbrev pub passed_from : Step → Option ℕ
passed_from (Forward c) = Some c
passed_from step = None
