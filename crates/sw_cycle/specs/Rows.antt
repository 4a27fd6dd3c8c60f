-- The rows of a table of dependencies.
use Rattle.std.specs.Prelude.{◌≡◌, ◌≢◌, ℕ, ◌<◌, Bool, All, AllPairs, List, [], length, slice_index, Option, Some, None, Vec, if◌then◌else◌}
use Rattle.std.specs.Option.{option_to_list}
use Rattle.std.specs.declared.alloc.Global.{Global}
use Rattle.sw_topo.specs.declared.place.PlaceEnd.{PlaceEnd}
use Rattle.sw_topo.specs.declared.place.PlaceEnd.TheVariants.{Node, Switch}
use Rattle.sw_topo.specs.Wiring.{out}
use Rattle.sw_config.specs.Entries.{Declaration}
use Rattle.sw_flow.specs.Places.{ends_of, end_of}
use Rattle.sw_flow.specs.Followers.{outputs_of}
use Rattle.sw_graph.specs.Rows.{row}
use Rattle.sw_graph.specs.Rounds.{is_marked}

-- From a channel that ends at a switch: to the channels that start at the ports of its set. From one that ends at a node: to the one
-- that starts there, if the node is marked.
abbrev pub row_at_end : List PlaceEnd → ℕ → List Bool → Option PlaceEnd → List ℕ
row_at_end ends set marks None = []
row_at_end ends set marks (Some (Switch s p)) = outputs_of ends s set
row_at_end ends set marks (Some (Node n)) = if is_marked marks n then option_to_list (out ends n) else []

unfoldable pub row_of : Declaration → List ℕ → List Bool → ℕ → List ℕ
row_of d sets marks c = row_at_end (ends_of d) (slice_index sets c) marks (end_of d c)

-- the rows of the first `count` channels
pub record AreRows (d : Declaration) (sets : List ℕ) (marks : List Bool) (count : ℕ) (rows : List (Vec ℕ Global)) : Type 0 where
  pub size : length rows ≡ count
  pub each : (c : ℕ) → c < count → row rows c ≡ row_of d sets marks c

-- no row has a channel twice
abbrev pub AreOnce : List (Vec ℕ Global) → Type 0
AreOnce rows = All (λ v. AllPairs (λ x y. x ≢ y) v.items) rows
