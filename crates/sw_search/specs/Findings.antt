-- The verdict on a network, and how many places and dependencies it has.
use Rattle.std.specs.Prelude.{◌≡◌, ◌≢◌, ◌↔◌, ℕ, AllPairs, Contains, List, length, map, sum}
use Rattle.std.specs.List.{AllZip}
use Rattle.sw_config.specs.Entries.{Declaration, all_flows}
use Rattle.sw_flow.specs.declared.place.Place.{Place}
use Rattle.sw_flow.specs.Places.{IsPlaceList}
use Rattle.sw_search.specs.declared.verdict.Findings.{Findings}
use Rattle.sw_search.specs.Verdicts.{depends, IsVerdict}

-- the flows have so many places, each flow its own
pub record IsPlaceCount (d : Declaration) (count : ℕ) : Type 0 where
  pub places : List (List Place)
  pub listed : AllZip (IsPlaceList d) (all_flows d) places
  pub counted : count ≡ sum (map length places)

-- there are so many pairs of channels of which the second depends on the first
pub record IsDependencyCount (d : Declaration) (count : ℕ) : Type 0 where
  pub pairs : List (ℕ × ℕ)
  pub once : AllPairs (λ p q. p ≢ q) pairs
  pub member : (p : ℕ × ℕ) → Contains pairs p ↔ depends d p.0 p.1
  pub counted : count ≡ length pairs

pub record AreFindings (d : Declaration) (findings : Findings) : Type 0 where
  pub verdict : IsVerdict d findings.verdict
  pub places : IsPlaceCount d findings.places
  pub dependencies : IsDependencyCount d findings.dependencies
