-- What else may wait for what, and whether the network stays free.
use Rattle.std.specs.Prelude.{◌≡◌, ◌↔◌, ◌⊎◌, ◌<◌, ℕ, Contains, List, length, Vec}
use Rattle.std.specs.declared.alloc.Global.{Global}
use Rattle.sw_config.specs.Entries.{Declaration}
use Rattle.sw_flow.specs.Places.{ends_of}
use Rattle.sw_graph.specs.Levels.{HasCycle}
use Rattle.sw_graph.specs.Rows.{IsGraph, Leads}
use Rattle.sw_search.specs.Verdicts.{depends}

-- a row for each channel, with those for which a packet on it may wait
pub record AreDependencies (d : Declaration) (rows : List (Vec ℕ Global)) : Type 0 where
  pub size : length rows ≡ length (ends_of d)
  pub exact : (c e : ℕ) → (Leads rows c e ↔ depends d c e)
  pub graph : IsGraph rows

-- a packet on channel c may wait for channel e, or one of these further waits is that of c for e
abbrev pub WaitsWith : Declaration → List (ℕ × ℕ) → ℕ → ℕ → Type 0
WaitsWith d more c e = depends d c e ⊎ Contains more (c, e)

-- with these further waits no channels can wait for one another in a circle
abbrev pub StaysFree : Declaration → List (ℕ × ℕ) → Type 0
StaysFree d more = HasCycle (WaitsWith d more) → ⊥

-- both channels are below the bound
pub record IsWithin (bound : ℕ) (wait : ℕ × ℕ) : Type 0 where
  pub from : wait.0 < bound
  pub to : wait.1 < bound

-- the rows have what the earlier rows have, and these further waits
pub record AreWith (rows : List (Vec ℕ Global)) (more : List (ℕ × ℕ)) (rows2 : List (Vec ℕ Global)) : Type 0 where
  pub size : length rows2 ≡ length rows
  pub each : (c e : ℕ) → (Leads rows2 c e ↔ (Leads rows c e ⊎ Contains more (c, e)))
