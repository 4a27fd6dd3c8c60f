-- The laws of tangles.
use Rattle.std.proofs.Common.{◌≡◌, ℕ, ◌<◌, List, [], ◌∷◌, length, All, refl, sym, ap, subst, arith}
use Rattle.std.specs.List.{AllZip}
use Rattle.std.proofs.lemmas.List.Elements.{All-cons, All-head, All-nil, All-tail}
use Rattle.sw_config.specs.Entries.{Declaration}
use Rattle.sw_cycle.specs.Cycles.{IsShown}
use Rattle.sw_cycle.proofs.Chosen.{chosen_show}
use Rattle.sw_graph.specs.declared.component.Component.{Component}
use Rattle.sw_graph.specs.Components.{IsComponent}
use Rattle.sw_graph.proofs.Lawful.{components_are_where_cycles_are}
use Rattle.sw_search.specs.Verdicts.{AllWellRouted, depends}
use Rattle.sw_search.proofs.Rounds.{some_of}
use Rattle.sw_search.specs.declared.tangle.Tangle.{Tangle}
use Rattle.sw_search.specs.ExplanationLaws.{TanglesAreShown, TanglesAreWhereCyclesAre}
use Rattle.sw_search.specs.Explanations.{NeverWaits}
use Rattle.sw_search.specs.Tangles.{AreTangles, IsTangle}

zip_all : {A B : Type 0} (R : A → B → Type 0) (P : A → Type 0) (Q : B → Type 0) → ((x : A) (y : B) → P x → R x y → Q y) → (xs : List A) (ys : List B) → AllZip R xs ys → All P xs → All Q ys
zip_all R P Q f [] [] h all = All-nil Q
zip_all R P Q f [] (y ∷ ys) h all = absurd h
zip_all R P Q f (x ∷ xs) [] h all = absurd h
zip_all R P Q f (x ∷ xs) (y ∷ ys) h all = All-cons Q y ys (f x y (All-head P x xs all) h.0) (zip_all R P Q f xs ys h.1 (All-tail P x xs all))

pub tangles_are_shown : TanglesAreShown
tangles_are_shown d tangles h = zip_all (IsTangle d) (IsComponent (depends d)) (λ t. IsShown d t.cycle) shown h.components tangles h.told h.are.each
  where
    shown : (component : Component) (t : Tangle) → IsComponent (depends d) component → IsTangle d component t → IsShown d t.cycle
    shown component t p is =
        let P : List ℕ → Type 0 = λ l. 0 < length l in
        chosen_show d t.cycle.channels t.cycle.causes (subst P (sym is.cycle) (some_of (depends d) component.cycle.items p.shortest.closed)) is.chosen

none_zip : {A B : Type 0} (R : A → B → Type 0) (xs : List A) (ys : List B) → AllZip R xs ys → ys ≡ [] → xs ≡ []
none_zip R [] ys h e = refl
none_zip R (x ∷ xs) [] h e = absurd h
none_zip R (x ∷ xs) (y ∷ ys) h e = let z : length (y ∷ ys) ≡ 0 = ap length e in absurd (omega arith)

zip_none : {A B : Type 0} (R : A → B → Type 0) (xs : List A) (ys : List B) → AllZip R xs ys → xs ≡ [] → ys ≡ []
zip_none R xs [] h e = refl
zip_none R [] (y ∷ ys) h e = absurd h
zip_none R (x ∷ xs) (y ∷ ys) h e = let z : length (x ∷ xs) ≡ 0 = ap length e in absurd (omega arith)

pub tangles_are_where_cycles_are : TanglesAreWhereCyclesAre
tangles_are_where_cycles_are d tangles h =
    let law = components_are_where_cycles_are (depends d) h.components h.are in (
      λ none. law.0 (none_zip (IsTangle d) h.components tangles h.told none),
      λ free. zip_none (IsTangle d) h.components tangles h.told (law.1 free),
    )

-- ---- what is told where each flow is well routed

pub never_waits : (d : Declaration) (tangles : List Tangle) → AllWellRouted d → AreTangles d tangles → length tangles ≡ 0 → NeverWaits d
never_waits d [] routed h none = record { routed = routed; no_cycle = (tangles_are_where_cycles_are d [] h).0 refl }
never_waits d (t ∷ tangles) routed h none = absurd (omega arith)
