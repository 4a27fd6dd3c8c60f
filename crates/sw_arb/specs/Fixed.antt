-- Fixed priorities: the lowest asking port.
use Rattle.std.specs.Prelude.{◌≡◌, ℕ, IsBitSet, refl}
use Rattle.sw_topo.specs.Ports.{IsLeastFrom}
use Rattle.sw_arb.specs.declared.fixed.Fixed.{Fixed}

abbrev pub FixedPicks : Fixed → ℕ → ℕ → Fixed → Type 0
FixedPicks a asking pick b = IsLeastFrom 0 asking pick × (b ≡ a)

pub fixed_picks_asking : (a b : Fixed) (asking pick : ℕ) → FixedPicks a asking pick b → IsBitSet asking pick
fixed_picks_asking a b asking pick p = p.0.member

pub fixed_keeps_ports : (a b : Fixed) (asking pick : ℕ) → FixedPicks a asking pick b → b.ports ≡ a.ports
fixed_keeps_ports a b asking pick p = rw p.1 refl
