-- One of the three policies.
use Rattle.std.specs.Prelude.{◌≡◌, ℕ, IsBitSet}
use Rattle.sw_arb.specs.Fixed.{FixedPicks, fixed_picks_asking, fixed_keeps_ports}
use Rattle.sw_arb.specs.RoundRobin.{RoundRobinPicks, round_robin_picks_asking, round_robin_keeps_ports}
use Rattle.sw_arb.specs.LeastRecent.{LeastRecentPicks, least_recent_picks_asking, least_recent_keeps_ports, IsNewLeastRecent}
use Rattle.sw_arb.specs.declared.arbitration.Arbitration.{Arbitration}
use Rattle.sw_arb.specs.declared.policy.Policy.{Policy}
use Rattle.sw_arb.specs.declared.policy.Policy.TheVariants.{Fixed, RoundRobin, LeastRecent}

abbrev pub policy_ports : Policy → ℕ
policy_ports (Fixed a) = a.ports
policy_ports (RoundRobin a) = a.ports
policy_ports (LeastRecent a) = a.ports

-- it stays of its kind, and picks as that kind does
abbrev pub PolicyPicks : Policy → ℕ → ℕ → Policy → Type 0
PolicyPicks (Fixed a) asking pick (Fixed b) = FixedPicks a asking pick b
PolicyPicks (RoundRobin a) asking pick (RoundRobin b) = RoundRobinPicks a asking pick b
PolicyPicks (LeastRecent a) asking pick (LeastRecent b) = LeastRecentPicks a asking pick b
PolicyPicks _ asking pick _ = ⊥

-- an arbiter of that kind and those ports that picked none yet
abbrev pub IsNewPolicy : Arbitration → ℕ → Policy → Type 0
IsNewPolicy Arbitration.Fixed ports (Fixed a) = a.ports ≡ ports
IsNewPolicy Arbitration.RoundRobin ports (RoundRobin a) = (a.ports ≡ ports) × (a.from ≡ 0)
IsNewPolicy Arbitration.LeastRecent ports (LeastRecent a) = IsNewLeastRecent ports a
IsNewPolicy _ ports _ = ⊥

pub policy_picks_asking : (a b : Policy) (asking pick : ℕ) → PolicyPicks a asking pick b → IsBitSet asking pick
policy_picks_asking (Fixed a) (Fixed b) asking pick p = fixed_picks_asking a b asking pick p
policy_picks_asking (RoundRobin a) (RoundRobin b) asking pick p = round_robin_picks_asking a b asking pick p
policy_picks_asking (LeastRecent a) (LeastRecent b) asking pick p = least_recent_picks_asking a b asking pick p
policy_picks_asking (Fixed a) (RoundRobin b) asking pick p = absurd p
policy_picks_asking (Fixed a) (LeastRecent b) asking pick p = absurd p
policy_picks_asking (RoundRobin a) (Fixed b) asking pick p = absurd p
policy_picks_asking (RoundRobin a) (LeastRecent b) asking pick p = absurd p
policy_picks_asking (LeastRecent a) (Fixed b) asking pick p = absurd p
policy_picks_asking (LeastRecent a) (RoundRobin b) asking pick p = absurd p

pub policy_keeps_ports : (a b : Policy) (asking pick : ℕ) → PolicyPicks a asking pick b → policy_ports b ≡ policy_ports a
policy_keeps_ports (Fixed a) (Fixed b) asking pick p = fixed_keeps_ports a b asking pick p
policy_keeps_ports (RoundRobin a) (RoundRobin b) asking pick p = round_robin_keeps_ports a b asking pick p
policy_keeps_ports (LeastRecent a) (LeastRecent b) asking pick p = least_recent_keeps_ports a b asking pick p
policy_keeps_ports (Fixed a) (RoundRobin b) asking pick p = absurd p
policy_keeps_ports (Fixed a) (LeastRecent b) asking pick p = absurd p
policy_keeps_ports (RoundRobin a) (Fixed b) asking pick p = absurd p
policy_keeps_ports (RoundRobin a) (LeastRecent b) asking pick p = absurd p
policy_keeps_ports (LeastRecent a) (Fixed b) asking pick p = absurd p
policy_keeps_ports (LeastRecent a) (RoundRobin b) asking pick p = absurd p
