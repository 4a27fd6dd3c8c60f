-- Where there is no cycle there are no components.
use Rattle.std.proofs.Common.{Global, List, [], Vec, arith, inl, ℕ}
use Rattle.sw_graph.proofs.Transfers.{cycle_map}
use Rattle.sw_graph.specs.Components.{AreComponents, LeadsTo}
use Rattle.sw_graph.specs.Levels.{HasCycle}
use Rattle.sw_graph.specs.Rows.{Leads}
use Rattle.sw_margin.specs.Rising.{LeadsWith}

pub no_components : (rows : List (Vec ℕ Global)) → (HasCycle (LeadsWith rows []) → ⊥) → AreComponents (Leads rows) []
no_components rows none = record {
  each = λ i e lt. absurd (omega (arith, lt));
  every = λ c way. absurd (no_way_back c way);
  apart = λ i j d lt within. absurd (omega (arith, within));
  rising = λ i j d lt within. absurd (omega (arith, within));
}
  where
    no_way_back : (c : ℕ) → LeadsTo (Leads rows) c c → ⊥
    no_way_back c way = none (cycle_map (Leads rows) (LeadsWith rows []) (λ c d led. inl led) (way.0, c, way.1))
