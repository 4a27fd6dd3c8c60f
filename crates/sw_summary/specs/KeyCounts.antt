-- How the code counts: a walk over a sorted list of what came out and is not counted yet. What it finds is `shares` of specs/Items (proofs/Walk).
use Rattle.std.specs.Prelude.{List, [], if◌then◌else◌, nat_lt, ℕ, ◌+◌, ◌-◌, ◌∷◌}
use Rattle.std.specs.List.{fold}
use Rattle.std.specs.Ordering.{nat_cmp, ordering_then}
use Rattle.std.specs.declared.cmp.Ordering.{Ordering}
use Rattle.std.specs.declared.cmp.Ordering.TheVariants.{Less, Equal, Greater}
use Rattle.sw_output.specs.Counting.{IsRisingBy, TallyOf, counted_by, tallies_by}
use Rattle.sw_output.specs.Tallies.{packet_order}
use Rattle.sw_summary.specs.Items.{Item}

-- by node, and then as packets are
abbrev pub item_order : Item → Item → Ordering
item_order a b = ordering_then (nat_cmp a.node b.node) (packet_order a.packet b.packet)

-- an item, and how often it is there
abbrev pub KeyCountView : Type 0
KeyCountView = TallyOf Item

-- one more
abbrev pub counted : Item → List KeyCountView → List KeyCountView
counted p ts = counted_by item_order p ts

-- the different items of a list in rising order, each with how often it is listed
abbrev pub key_counts : List Item → List KeyCountView
key_counts items = tallies_by item_order items

-- each item comes before those after it
abbrev pub IsRising : List KeyCountView → Type 0
IsRising ts = IsRisingBy item_order ts

-- how many there still are
abbrev pub left_at : Item → Ordering → KeyCountView → ℕ → ℕ
left_at p Less t rest = 0
left_at p Equal t rest = t.count
left_at p Greater t rest = rest

abbrev pub left : Item → List KeyCountView → ℕ
left p [] = 0
left p (t ∷ ts) = left_at p (item_order p t.item) t (left p ts)

-- one fewer, where there is one
abbrev pub taken_at : Item → Ordering → KeyCountView → List KeyCountView → List KeyCountView → List KeyCountView
taken_at p Less t ts rest = t ∷ ts
taken_at p Equal t ts rest = record t { count = t.count - 1 } ∷ ts
taken_at p Greater t ts rest = t ∷ rest

abbrev pub taken : Item → List KeyCountView → List KeyCountView
taken p [] = []
taken p (t ∷ ts) = taken_at p (item_order p t.item) t ts (taken p ts)

-- what is left where each of these items takes one
abbrev pub taken_all : List KeyCountView → List Item → List KeyCountView
taken_all ts items = fold (λ us p. taken p us) ts items

-- how many of these items find one
abbrev pub found : List KeyCountView → List Item → ℕ
found ts [] = 0
found ts (p ∷ ps) = (if nat_lt 0 (left p ts) then 1 else 0) + found (taken p ts) ps
