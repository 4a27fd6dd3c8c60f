-- No entry of a routing table is for an address of what is left of the entries before it.
use Rattle.std.proofs.Common.{◌≡◌, ◌∙◌, ℕ, ◌<◌, ◌&&◌, Bool, true, false, List, All, get_or, length, take, arith, refl}
use Rattle.std.specs.List.{list_any}
use Rattle.std.proofs.lemmas.List.{get_or-take, get_or_default, length-take-le}
use Rattle.std.proofs.lemmas.List.Folds.{list_any_none}
use Rattle.std.specs.Prelude.{nat_le}
use Rattle.sw_route.specs.declared.look.Route.{Route}
use Rattle.sw_route.specs.Looks.{IsTable, overlaps}
use Rattle.sw_mend.specs.Changes.{by_number, route_after_all}
use Rattle.sw_mend.specs.declared.change.Change.{Change}
use Rattle.sw_mend.proofs.Kept.{all_made, all_route}

turned : (a b : Bool) → (a && b) ≡ (b && a)
turned true true = refl
turned true false = refl
turned false true = refl
turned false false = refl

either_way : (r q : Route) → overlaps r q ≡ overlaps q r
either_way r q = turned (nat_le q.first r.last) (nat_le r.first q.last)

before : (routes : List Route) (i : ℕ) (r : Route) → IsTable routes → i < length routes → r ≡ get_or routes i r → All (λ q. overlaps r q ≡ false) (take i routes)
before routes i r table lt at k d short =
    let low : k < i = omega (arith, short, length-take-le i routes (omega arith)) in
    let there : get_or (take i routes) k d ≡ get_or routes k d = get_or-take i routes k d low in
    let here : r ≡ get_or routes i d = at ∙ get_or_default routes i r d lt in
    either_way r (get_or (take i routes) k d) ∙ ((λ t. overlaps (there t) (here t)) ∙ table.apart k i d low lt)

pub none_shared : (changes : List Change) (switch : ℕ) (routes left : List Route) (i : ℕ) (r : Route) → IsTable routes → i < length routes → r ≡ get_or routes i r
    → left ≡ by_number (route_after_all changes switch) 0 (take i routes) → list_any (overlaps r) left ≡ false
none_shared changes switch routes left i r table lt at is =
    let apart : All (λ q. overlaps r q ≡ false) (by_number (route_after_all changes switch) 0 (take i routes)) =
    all_made (route_after_all changes switch) (λ q. overlaps r q ≡ false) (λ q. overlaps r q ≡ false)
    (λ k q none. all_route (λ u. overlaps r u ≡ false) changes switch k q none)
    0 (take i routes) (before routes i r table lt at) in
    (λ t. list_any (overlaps r) (is t)) ∙ list_any_none (overlaps r) (by_number (route_after_all changes switch) 0 (take i routes)) apart
