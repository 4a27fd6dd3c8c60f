use Rattle.std.specs.Prelude.{slice_get, Option, Some, None, count_ones}
use Rattle.std.proofs.Common.{◌≡◌, ℕ, refl, arith, ap}
use Rattle.sw_arb.proofs.PassedOver.{passed_over_ahead}
use Rattle.sw_switch.specs.Cell.{HasArbiter}
use Rattle.sw_switch.proofs.Stays.{picks_others}
use Rattle.sw_switch.proofs.laws.waiting_is_bounded.Goals as goal

-- the arbiter of a port that has one
arbiter_of : {A : Type 0} (ports : A → ℕ) (linked : ℕ) (entry : Option (Option A)) → HasArbiter ports linked entry → (a : A) × (entry ≡ Some (Some a)) × (ports a ≡ linked)
arbiter_of ports linked None has = absurd has
arbiter_of ports linked (Some None) has = absurd has
arbiter_of ports linked (Some (Some a)) has = (a, refl, has)

pub returns : goal.returns
returns g c cell later out input picks is_cell is_out is_input waits meanwhile =
    let found = arbiter_of g.A.Arbiter.ports cell.linked (slice_get cell.arbiters out) (is_cell.arbiter_ports out is_out waits.linked) in
    let a = found.0 in
    let same : g.A.Arbiter.ports a ≡ cell.linked = found.2 in
    let others = picks_others g.R.Routing.answer g.A.Arbiter.ports g.A.Arbiter.policy g.met.A.Arbiter.keeps_ports out input cell later picks a waits found.1 same meanwhile in
    let laws = g.met.A.FairArbiter in
    omega (
      arith,
      others.over,
      ap count_ones same,
      laws.below a input is_input (rw same waits.asks.linked),
      passed_over_ahead g.A.Arbiter.ports g.A.Arbiter.policy g.A.FairArbiter.ahead_of laws.falls a others.b picks input others.makes is_input others.asks,
    )
