-- Places with which nothing is wrong, as they are found beside the ports that are named there.
use Rattle.std.proofs.Common.{◌≡◌, ◌↔◌, ◌≤◌, ◌++◌, ◌∷◌, [], ℕ, ◌+◌, inl, inr, List, length, get_or, Some, None, refl, sym, ap, ◌∙◌, subst, arith, All}
use Rattle.std.specs.Prelude.{Bool, ◌&&◌, IsTrue, slice_get}
use Rattle.std.proofs.lemmas.Bool.{and_from, and_parts, cases_lt}
use Rattle.std.proofs.lemmas.List.{get_or_append_left, get_or_push, length-append}
use Rattle.std.proofs.lemmas.List.Elements.{All-push, Contains-get_or}
use Rattle.std.proofs.lemmas.Option.{same_Some}
use Rattle.sw_config.specs.Entries.{FlowEntry, Declaration, all_flows}
use Rattle.sw_flow.specs.Faults.{IsWellRouted, fault_of}
use Rattle.sw_flow.specs.Places.{IsPlaceList}
use Rattle.sw_flow.specs.declared.place.Place.{Place}
use Rattle.sw_cycle.specs.Named.{AreRouted}

-- where nothing is wrong with the places of a flow's list, the flow is well routed
pub routed_by_list : (d : Declaration) (f : FlowEntry) (places : List Place) → IsPlaceList d f places → All (λ p. fault_of d f p.channel p.deleted ≡ None) places → IsWellRouted d f
routed_by_list d f places list sound c k place =
    let at = (list.member (record { channel = c; deleted = k })).1 place in
    let same = at.2 in
    let here = sound at.0 (record { channel = c; deleted = k }) at.1 in
    rw same at here

pub list_by_routed : (d : Declaration) (f : FlowEntry) (places : List Place) → IsPlaceList d f places → IsWellRouted d f → All (λ p. fault_of d f p.channel p.deleted ≡ None) places
list_by_routed d f places list well i q lt =
    let p = get_or places i q in
    well p.channel p.deleted ((list.member p).0 (Contains-get_or places i q lt))

-- one flow alone
pub routed_one : (d : Declaration) (n : ℕ) (f : FlowEntry) → slice_get (all_flows d) n ≡ Some f → IsWellRouted d f ↔ AreRouted d n (n + 1)
routed_one d n f numbered = (
  λ well i g from below at. let same : i ≡ n = omega arith in subst (IsWellRouted d) (same_Some f g (sym numbered ∙ ap (slice_get (all_flows d)) (sym same) ∙ at)) well,
  λ all. all n f (omega arith) (omega arith) numbered,
)

-- two runs of flows
pub routed_joined : (d : Declaration) (low mid high : ℕ) → AreRouted d low mid → AreRouted d mid high → AreRouted d low high
routed_joined d low mid high a b i f from below at = elim (cases_lt i mid) [
  | inl lt ↦ a i f from lt at
  | inr le ↦ b i f le below at
]

-- two answers, each exact, and the one for both
pub both_exact : {A B C : Type 0} (a b : Bool) → IsTrue a ↔ A → IsTrue b ↔ B → ((A × B) ↔ C) → IsTrue (a && b) ↔ C
both_exact a b of_a of_b of_both = (
  λ e. let parts = and_parts a b e in of_both.0 (of_a.0 parts.0, of_b.0 parts.1),
  λ c. let both = of_both.1 c in and_from a b (of_a.1 both.0) (of_b.1 both.1),
)

-- all and one more are all
pub all_pushed : {X : Type 0} (P : X → Type 0) (xs : List X) (x : X) → ((All P xs × P x) ↔ All P (xs ++ x ∷ []))
all_pushed P xs x = (
  λ both. All-push P xs x both.0 both.1,
  λ all. (
    λ i d lt. subst P (get_or_append_left xs (x ∷ []) d i lt) (all i d (omega (arith, length-append xs (x ∷ [])))),
    subst P (get_or_push xs x x (length xs) refl) (all (length xs) x (omega (arith, length-append xs (x ∷ [])))),
  ),
)

-- two runs of flows are one
pub routed_split : (d : Declaration) (low mid high : ℕ) → low ≤ mid → mid ≤ high → ((AreRouted d low mid × AreRouted d mid high) ↔ AreRouted d low high)
routed_split d low mid high rise rise2 = (
  λ both. routed_joined d low mid high both.0 both.1,
  λ all. (λ i g above below at. all i g above (omega (arith, below, rise2)) at, λ i g above below at. all i g (omega (arith, above, rise)) below at),
)
