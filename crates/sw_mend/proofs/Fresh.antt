-- Names of a network that is built anew are new.
use Rattle.std.proofs.Common.{◌≡◌, ◌≢◌, ℕ, zero, suc, ◌+◌, ◌<◌, ◌≤◌, ◌||◌, false, List, [], ◌∷◌, ◌++◌, length, map, take, get_or, Some, AllPairs, inl, inr, refl, sym, ap, ◌∙◌, arith}
use Rattle.std.specs.Prelude.{slice_get}
use Rattle.std.specs.List.{list_any}
use Rattle.std.specs.Str.{bytes_eq}
use Rattle.std.proofs.lemmas.Bool.{cases_Bool, or_parts}
use Rattle.std.proofs.lemmas.List.{get_or-take, length-take-le, take-map}
use Rattle.std.proofs.lemmas.List.Folds.{list_any_none}
use Rattle.std.proofs.lemmas.Option.{get_or_from_slice_get, slice_get_within}
use Rattle.std.proofs.lemmas.Slice.Eq.{bytes_eq-Decides}
use Rattle.sw_config.specs.Entries.{FlowEntry, SwitchEntry, flow_names}
use Rattle.sw_mend.specs.Changes.{by_number, flow_after_all, switch_after_all}
use Rattle.sw_mend.specs.declared.change.Change.{Change}
use Rattle.sw_mend.proofs.AfterAll.{flow_cases}

pub differ : (a b : List ℕ) → a ≢ b → bytes_eq a b ≡ false
differ a b apart = elim (cases_Bool (bytes_eq a b)) [ inl same ↦ absurd (apart ((bytes_eq-Decides a b).0 same)) | inr other ↦ other ]

-- of names that are apart none before the name is the name
pub fresh : (names : List (List ℕ)) (i : ℕ) (name : List ℕ) → AllPairs (λ x y. x ≢ y) names → slice_get names i ≡ Some name → list_any (bytes_eq name) (take i names) ≡ false
fresh names i name apart here =
    let within : i < length names = slice_get_within names i name here in
    list_any_none (bytes_eq name) (take i names) (λ k d lt.
    let short : k < i = omega (arith, length-take-le i names (omega arith)) in
    let at : get_or (take i names) k d ≡ get_or names k d = get_or-take i names k d short in
    let mine : get_or names i d ≡ name = get_or_from_slice_get names i name d here in
    differ name (get_or (take i names) k d) (λ same. apart k i d short within (sym at ∙ sym same ∙ sym mine)))

pub named_at : {A : Type 0} (f : A → List ℕ) (xs : List A) (i : ℕ) (x : A) → slice_get xs i ≡ Some x → slice_get (map f xs) i ≡ Some (f x)
named_at f [] i x here = absurd cc
named_at f (y ∷ xs) zero x here = let same : y ≡ x = cc in ap (λ z. Some (f z)) same
named_at f (y ∷ xs) (suc i) x here = named_at f xs i x here

-- a name that no flow has is no name of what is left of the flows
left_without : (changes : List Change) (n : ℕ) (name : List ℕ) (flows : List FlowEntry) → list_any (bytes_eq name) (flow_names flows) ≡ false
    → list_any (bytes_eq name) (flow_names (by_number (flow_after_all changes) n flows)) ≡ false
left_without changes n name [] none = refl
left_without changes n name (f ∷ flows) none =
    let parts = or_parts (bytes_eq name f.name) (list_any (bytes_eq name) (flow_names flows)) none in
    let rest : List FlowEntry = by_number (flow_after_all changes) (n + 1) flows in
    elim (flow_cases changes n f) [
      | inl gone ↦ ap (λ (l : List FlowEntry). list_any (bytes_eq name) (flow_names (l ++ rest))) gone ∙ left_without changes (n + 1) name flows parts.1
      | inr stays ↦
          ap (λ (l : List FlowEntry). list_any (bytes_eq name) (flow_names (l ++ rest))) stays
          ∙ ap (λ b. b || list_any (bytes_eq name) (flow_names rest)) parts.0 ∙ left_without changes (n + 1) name flows parts.1
    ]

-- a flow's name is no name of what is left of the flows before it
pub fresh_flow : (changes : List Change) (flows : List FlowEntry) (i : ℕ) (f : FlowEntry) (now : List FlowEntry) → AllPairs (λ x y. x ≢ y) (flow_names flows)
    → slice_get flows i ≡ Some f → now ≡ by_number (flow_after_all changes) 0 (take i flows) → list_any (bytes_eq f.name) (flow_names now) ≡ false
fresh_flow changes flows i f now apart here is =
    let before : list_any (bytes_eq f.name) (flow_names (take i flows)) ≡ false =
    ap (list_any (bytes_eq f.name)) (sym (take-map (λ (g : FlowEntry). g.name) i flows)) ∙ fresh (flow_names flows) i f.name apart (named_at (λ (g : FlowEntry). g.name) flows i f here) in
    ap (λ l. list_any (bytes_eq f.name) (flow_names l)) is ∙ left_without changes 0 f.name (take i flows) before

-- no more flows are left than there were
pub few_left : (changes : List Change) (n : ℕ) (flows : List FlowEntry) → length (by_number (flow_after_all changes) n flows) ≤ length flows
few_left changes n [] = omega arith
few_left changes n (f ∷ flows) =
    let rest : List FlowEntry = by_number (flow_after_all changes) (n + 1) flows in
    elim (flow_cases changes n f) [
      | inl gone ↦
          let size : length (flow_after_all changes n f ++ rest) ≡ length rest = ap (λ (l : List FlowEntry). length (l ++ rest)) gone in
          omega (arith, size, few_left changes (n + 1) flows)
      | inr stays ↦
          let size : length (flow_after_all changes n f ++ rest) ≡ suc (length rest) = ap (λ (l : List FlowEntry). length (l ++ rest)) stays in
          omega (arith, size, few_left changes (n + 1) flows)
    ]

pub few_flows : (changes : List Change) (flows now : List FlowEntry) (i : ℕ) → i < length flows → length flows ≤ 4096 → now ≡ by_number (flow_after_all changes) 0 (take i flows) → length now < 4096
few_flows changes flows now i lt few is = rw is (omega (arith, few_left changes 0 (take i flows), length-take-le i flows (omega arith)))

-- ---- nodes and switches

pub same_names : (changes : List Change) (n : ℕ) (switches : List SwitchEntry) → map (λ (s : SwitchEntry). s.name) (by_number (switch_after_all changes) n switches) ≡ map (λ (s : SwitchEntry). s.name) switches
same_names changes n [] = refl
same_names changes n (s ∷ switches) = ap (λ l. s.name ∷ l) (same_names changes (n + 1) switches)

pub as_many : (changes : List Change) (n : ℕ) (switches : List SwitchEntry) → length (by_number (switch_after_all changes) n switches) ≡ length switches
as_many changes n [] = refl
as_many changes n (s ∷ switches) = ap suc (as_many changes (n + 1) switches)
