-- Numbers that rise along the steps of a relation.
use Rattle.std.specs.Prelude.{ℕ, ◌<◌, ◌⊎◌, Contains, List, Vec, slice_get, unwrap_or}
use Rattle.std.specs.declared.alloc.Global.{Global}
use Rattle.sw_graph.specs.Rows.{Leads}

-- the number of a member, and 0 where there is none
abbrev pub number_at : List ℕ → ℕ → ℕ
number_at numbers c = unwrap_or (slice_get numbers c) 0

-- the number of each member is below that of each to which a step leads from it
abbrev pub Rise : (ℕ → ℕ) → (ℕ → ℕ → Type 0) → Type 0
Rise number dep = (c d : ℕ) → dep c d → number c < number d

-- the row of c has d, or one of these further steps leads from c to d
abbrev pub LeadsWith : List (Vec ℕ Global) → List (ℕ × ℕ) → ℕ → ℕ → Type 0
LeadsWith rows more c d = Leads rows c d ⊎ Contains more (c, d)
