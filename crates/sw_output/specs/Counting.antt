-- How often items are listed, in any order of them.
use Rattle.std.specs.Prelude.{List, [], map, ℕ, ◌+◌, ◌∷◌}
use Rattle.std.specs.List.{fold}
use Rattle.std.specs.List.Sorted.{IsStrictlySortedBy}
use Rattle.std.specs.declared.cmp.Ordering.{Ordering}
use Rattle.std.specs.declared.cmp.Ordering.TheVariants.{Less, Equal, Greater}

-- an item, and how often it is there
pub record TallyOf (X : Type 0) : Type 0 where
  pub item : X
  pub count : ℕ

-- one item more: it is counted where it stands, or takes its place in the order
abbrev pub counted_at : {X : Type 0} → X → Ordering → TallyOf X → List (TallyOf X) → List (TallyOf X) → List (TallyOf X)
counted_at p Less t ts rest = record { item = p; count = 1 } ∷ t ∷ ts
counted_at p Equal t ts rest = record t { count = t.count + 1 } ∷ ts
counted_at p Greater t ts rest = t ∷ rest

abbrev pub counted_by : {X : Type 0} → (X → X → Ordering) → X → List (TallyOf X) → List (TallyOf X)
counted_by order p [] = record { item = p; count = 1 } ∷ []
counted_by order p (t ∷ ts) = counted_at p (order p t.item) t ts (counted_by order p ts)

-- the different items of a list in rising order, each with how often it is listed
abbrev pub tallies_by : {X : Type 0} → (X → X → Ordering) → List X → List (TallyOf X)
tallies_by order items = fold (λ ts p. counted_by order p ts) [] items

-- each item comes before those after it
abbrev pub IsRisingBy : {X : Type 0} → (X → X → Ordering) → List (TallyOf X) → Type 0
IsRisingBy order ts = IsStrictlySortedBy order (map (λ t. t.item) ts)
