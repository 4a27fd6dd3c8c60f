-- The numbers of link ends, renewed.
use Rattle.std.specs.Prelude.{Bool, List, None, Option, Some, [], false, if◌then◌else◌, map, nat_eq, slice_get, suc, zero, ℕ, ◌||◌, ◌∷◌, ◌≡◌}
use Rattle.sw_history.specs.History.{HistoryView, LeadsTo}
use Rattle.sw_machine.specs.Network.{Network}
use Rattle.sw_machine.specs.State.{State}
use Rattle.sw_machine.specs.Steps.{Leads, Step}
use Rattle.sw_machine.specs.Model.{network_of}
use Rattle.sw_net.specs.Net.{IsNetState, NetView}
use Rattle.sw_net.specs.Numbers.{numbers_at}
use Rattle.sw_net.specs.declared.numbers.Numbers.{Numbers}

-- from the state after the history the step leads only to one in which each link end but these has the numbers that it had
abbrev pub ChangesOnlyThen : HistoryView → Step → Option ℕ × Option ℕ → Type 0
ChangesOnlyThen h step these = (s t : State) → LeadsTo h s → Leads (network_of h.declared) s step t → (e : ℕ) → (these.0 ≡ Some e → ⊥) → (these.1 ≡ Some e → ⊥)
    → numbers_at (network_of h.declared) t e ≡ numbers_at (network_of h.declared) s e

-- no two places of the list have one link end
abbrev pub AreOnce : List ℕ → Type 0
AreOnce ends = (i j e : ℕ) → slice_get ends i ≡ Some e → slice_get ends j ≡ Some e → i ≡ j

-- whether it is this link end
abbrev pub is_it : Option ℕ → ℕ → Bool
is_it None e = false
is_it (Some own) e = nat_eq own e

-- whether it is one of these
abbrev pub is_one_of : Option ℕ × Option ℕ → ℕ → Bool
is_one_of these e = is_it these.0 e || is_it these.1 e

-- the link end, if it is one of these with its numbers in a state, and else as it is
abbrev pub renewed : Option ℕ × Option ℕ → Network → State → ℕ × Numbers → ℕ × Numbers
renewed these net s p = if is_one_of these p.0 then (p.0, numbers_at net s p.0) else p

-- the link ends, of which that at this place has its numbers in a state, if it is one of these
abbrev pub renewed_at : Option ℕ × Option ℕ → Network → State → ℕ → List (ℕ × Numbers) → List (ℕ × Numbers)
renewed_at these net s k [] = []
renewed_at these net s zero (p ∷ ends) = renewed these net s p ∷ ends
renewed_at these net s (suc k) (p ∷ ends) = p ∷ renewed_at these net s k ends

-- the second list is the first with the numbers of the link end at place k in the state of the net, if it is one of these
abbrev pub IsRenewed : {R A : Type 0} → NetView R A → Option ℕ × Option ℕ → ℕ → List (ℕ × Numbers) → List (ℕ × Numbers) → Type 0
IsRenewed v these k ends after = (s : State) → IsNetState v s → after ≡ renewed_at these (network_of v.declared) s k ends

-- the second list is the first with the numbers of these link ends in the state of the net
abbrev pub AreRenewed : {R A : Type 0} → NetView R A → Option ℕ × Option ℕ → List (ℕ × Numbers) → List (ℕ × Numbers) → Type 0
AreRenewed v these ends after = (s : State) → IsNetState v s → after ≡ map (renewed these (network_of v.declared) s) ends

-- the same, in the state after a history
abbrev pub AreRenewedAfter : HistoryView → Option ℕ × Option ℕ → List (ℕ × Numbers) → List (ℕ × Numbers) → Type 0
AreRenewedAfter h these ends after = (s : State) → LeadsTo h s → after ≡ map (renewed these (network_of h.declared) s) ends
