-- Places that rise, as a loop over them finds it.
use Rattle.std.proofs.Common.{◌≡◌, ℕ, ◌+◌, ◌<◌, true, List, length, get_or, drop, sym, subst, Option, Some}
use Rattle.std.specs.List.{AllByRecursion}
use Rattle.sw_flow.specs.declared.place.Place.{Place}
use Rattle.sw_cert.specs.Grammar.{Fits, Rises, stands_before}
use Rattle.sw_topo.proofs.Lists.{next_at}

-- the places have a text, and each stands before the next
abbrev pub Goes : Option Place → List Place → Type 0
Goes last ps = AllByRecursion Fits ps × Rises last ps

-- from the place at i on
pub goes_on : (last : Option Place) (xs : List Place) (i : ℕ) (p : Place) → i < length xs → p ≡ get_or xs i p → Goes last (drop i xs) → Fits p × (stands_before last p ≡ true) × Goes (Some p) (drop (i + 1) xs)
goes_on last xs i p lt is h = let k = subst (Goes last) (next_at xs i p lt is) h in (k.0.0, k.1.0, (k.0.1, k.1.1))

-- and back
pub goes_from : (last : Option Place) (xs : List Place) (i : ℕ) (p : Place) → i < length xs → p ≡ get_or xs i p → Fits p → stands_before last p ≡ true → Goes (Some p) (drop (i + 1) xs) → Goes last (drop i xs)
goes_from last xs i p lt is fits before more = subst (Goes last) (sym (next_at xs i p lt is)) ((fits, more.0), (before, more.1))
