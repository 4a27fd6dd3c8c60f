-- In turn: the first asking port after the last that was picked, in a circle.
use Rattle.std.specs.Prelude.{IsBitSet, count_ones, nat_lt, if◌then◌else◌}
use Rattle.std.proofs.Common.{◌≡◌, ◌≢◌, ℕ, ◌+◌, ◌-◌, ◌<◌, ◌≤◌, ◌⊎◌, inl, inr, sym, arith}
use Rattle.std.proofs.lemmas.Bool.{cases_lt, cases_order, lt-ltb, le-ltb}
use Rattle.sw_topo.specs.Ports.{IsLeastFrom, NoneFrom}
use Rattle.sw_arb.specs.Arbiters.{IsWithin}
use Rattle.sw_arb.specs.PortCounts.{ports_below, ports_below-member, ports_below-rises, ports_below-all, ports_below-lt}
use Rattle.sw_arb.specs.declared.round_robin.RoundRobin.{RoundRobin}

-- the first asking port of the circle that begins at `from`: the lowest from there on, or if there is none, the lowest of all
abbrev pub IsFirstInCircle : ℕ → ℕ → ℕ → Type 0
IsFirstInCircle from asking pick = IsLeastFrom from asking pick ⊎ (NoneFrom from asking × IsLeastFrom 0 asking pick)

-- the next circle begins after the port that was picked
pub record RoundRobinPicks (a : RoundRobin) (asking pick : ℕ) (b : RoundRobin) : Type 0 where
  pub first : IsFirstInCircle a.from asking pick
  pub ports : b.ports ≡ a.ports
  pub next : b.from ≡ pick + 1

-- how many of its ports come before the port in the circle that begins at `from`
abbrev pub round_robin_ahead : RoundRobin → ℕ → ℕ
round_robin_ahead a port =
    if nat_lt port a.from then (count_ones a.ports - ports_below a.ports a.from) + ports_below a.ports port
    else ports_below a.ports port - ports_below a.ports a.from

pub round_robin_picks_asking : (a b : RoundRobin) (asking pick : ℕ) → RoundRobinPicks a asking pick b → IsBitSet asking pick
round_robin_picks_asking a b asking pick p = elim p.first [ inl up ↦ up.member | inr around ↦ around.1.member ]

pub round_robin_keeps_ports : (a b : RoundRobin) (asking pick : ℕ) → RoundRobinPicks a asking pick b → b.ports ≡ a.ports
round_robin_keeps_ports a b asking pick p = p.ports

pub round_robin_below : (a : RoundRobin) (port : ℕ) → port < 32 → IsBitSet a.ports port → round_robin_ahead a port < count_ones a.ports
round_robin_below a port within member =
    let lt = ports_below-lt a.ports port member in
    let more = ports_below-member a.ports port member in
    let all = ports_below-all a.ports a.from in
    elim (cases_lt port a.from) [
      | inl low ↦ rw (lt-ltb port a.from low) (omega (arith, ports_below-rises a.ports (port + 1) a.from (omega arith)))
      | inr high ↦ rw (le-ltb port a.from high) (omega arith)
    ]

-- the counts of the ports below the port that is picked, below the one that asks and was not, and where the circles begin
in_turn_falls : (ports from asking pick port : ℕ) → IsFirstInCircle from asking pick → IsBitSet ports pick → IsBitSet ports port → IsBitSet asking port → pick ≢ port →
    (if nat_lt port (pick + 1) then (count_ones ports - ports_below ports (pick + 1)) + ports_below ports port else ports_below ports port - ports_below ports (pick + 1))
    < (if nat_lt port from then (count_ones ports - ports_below ports from) + ports_below ports port else ports_below ports port - ports_below ports from)
in_turn_falls ports from asking pick port (inl up) has_pick has_port asks other =
    let next = ports_below-member ports pick has_pick in
    let passed = ports_below-rises ports from pick up.reached in
    elim (cases_order port pick) [
      | inl same ↦ absurd (other (sym same))
      | inr (inl below) ↦ elim (cases_lt port from) [
        | inl low ↦ rw (lt-ltb port (pick + 1) (omega arith), lt-ltb port from low) (omega (arith, ports_below-all ports (pick + 1)))
        | inr high ↦ absurd (up.least port high below asks)
      ]
      | inr (inr above) ↦
          let from_low : from ≤ port = omega (arith, up.reached) in
          rw (le-ltb port (pick + 1) (omega arith), le-ltb port from from_low) (omega (arith, ports_below-rises ports (pick + 1) port (omega arith)))
    ]
in_turn_falls ports from asking pick port (inr (none, low)) has_pick has_port asks other =
    let next = ports_below-member ports pick has_pick in
    let whole = ports_below-all ports from in
    elim (cases_lt port from) [
      | inr high ↦ absurd (none port high asks)
      | inl below ↦ elim (cases_order port pick) [
        | inl same ↦ absurd (other (sym same))
        | inr (inl lower) ↦ absurd (low.least port (omega arith) lower asks)
        | inr (inr above) ↦ rw (le-ltb port (pick + 1) (omega arith), lt-ltb port from below) (omega (arith, ports_below-rises ports (pick + 1) port (omega arith)))
      ]
    ]

pub round_robin_falls : (a b : RoundRobin) (asking pick port : ℕ) → RoundRobinPicks a asking pick b → IsWithin asking a.ports → port < 32 → IsBitSet asking port → pick ≢ port → round_robin_ahead b port < round_robin_ahead a port
round_robin_falls a b asking pick port p within is_port asks other =
    rw (p.ports, p.next) (in_turn_falls a.ports a.from asking pick port p.first (within pick (round_robin_picks_asking a b asking pick p)) (within port asks) asks other)
