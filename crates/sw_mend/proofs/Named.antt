-- Names of a network in which a node is split.
use Rattle.std.proofs.Common.{◌≡◌, ◌≢◌, ℕ, ◌+◌, ◌<◌, ◌||◌, false, List, [], ◌∷◌, ◌++◌, All, AllPairs, Option, None, Some, option_map, length, map, ap, arith, inl, inr, refl, subst, sym, ◌∙◌, length-append}
use Rattle.std.specs.Prelude.{codes, option_and_then, slice_get}
use Rattle.std.specs.List.{list_any}
use Rattle.std.specs.Option.{option_map_or}
use Rattle.std.specs.Str.{bytes_eq}
use Rattle.std.proofs.lemmas.List.{map-append}
use Rattle.std.proofs.lemmas.List.Elements.{All-cons, All-head, All-tail}
use Rattle.std.proofs.lemmas.List.Folds.{list_any_none}
use Rattle.std.proofs.lemmas.List.Kept.{AllPairs-cons}
use Rattle.std.proofs.lemmas.Option.{same_Some, slice_get_cases}
use Rattle.sw_config.specs.Entries.{NodeEntry, SwitchEntry, Declaration, part_names, target_of}
use Rattle.sw_config.proofs.Steps.{apart}
use Rattle.sw_mend.specs.Changes.{made_at}
use Rattle.sw_mend.specs.Splits.{target_part}
use Rattle.sw_mend.proofs.Fresh.{differ}
use Rattle.sw_mend.proofs.Kept.{firsts, rests}
use Rattle.sw_rmap.specs.declared.config.TargetConfig.{TargetConfig}
use Rattle.std.proofs.lemmas.Bool.{or_parts}

-- ---- a name among others

abbrev Differ : List ℕ → List ℕ → Type 0
Differ x y = x ≢ y

-- all of two lists with one between
all_between : {A : Type 0} (P : A → Type 0) (xs ys : List A) (n : A) → All P (xs ++ ys) → P n → All P ((xs ++ n ∷ []) ++ ys)
all_between P [] ys n all is = All-cons P n ys is all
all_between P (x ∷ xs) ys n all is =
    All-cons P x ((xs ++ n ∷ []) ++ ys) (All-head P x (xs ++ ys) all) (all_between P xs ys n (All-tail P x (xs ++ ys) all) is)

the_one_between : {A : Type 0} (P : A → Type 0) (xs ys : List A) (n : A) → All P ((xs ++ n ∷ []) ++ ys) → P n
the_one_between P [] ys n all = All-head P n ys all
the_one_between P (x ∷ xs) ys n all = the_one_between P xs ys n (All-tail P x ((xs ++ n ∷ []) ++ ys) all)

absent_apart : (names : List (List ℕ)) (n : List ℕ) → list_any (bytes_eq n) names ≡ false → All (Differ n) names
absent_apart names n absent k d lt = λ same. apart names n absent k d lt (sym same)

apart_absent : (names : List (List ℕ)) (n : List ℕ) → All (Differ n) names → list_any (bytes_eq n) names ≡ false
apart_absent names n all = list_any_none (bytes_eq n) names (λ k d lt. differ n _ (all k d lt))

-- a new name between names that are apart
between : (xs ys : List (List ℕ)) (n : List ℕ) → AllPairs Differ (xs ++ ys) → list_any (bytes_eq n) (xs ++ ys) ≡ false → AllPairs Differ ((xs ++ n ∷ []) ++ ys)
between [] ys n pairs absent = AllPairs-cons Differ n ys (absent_apart ys n absent) pairs
between (x ∷ xs) ys n pairs absent =
    let parts = or_parts (bytes_eq n x) (list_any (bytes_eq n) (xs ++ ys)) absent in
    let other : Differ x n = λ same. All-head (Differ n) x (xs ++ ys) (absent_apart (x ∷ xs ++ ys) n absent) (sym same) in
    AllPairs-cons Differ x ((xs ++ n ∷ []) ++ ys) (all_between (Differ x) xs ys n (firsts Differ x (xs ++ ys) pairs) other)
    (between xs ys n (rests Differ x (xs ++ ys) pairs) parts.1)

-- a name between names that are apart with it is none of them
not_among : (xs ys : List (List ℕ)) (n : List ℕ) → AllPairs Differ ((xs ++ n ∷ []) ++ ys) → list_any (bytes_eq n) (xs ++ ys) ≡ false
not_among [] ys n pairs = apart_absent ys n (firsts Differ n ys pairs)
not_among (x ∷ xs) ys n pairs =
    let other : Differ x n = the_one_between (Differ x) xs ys n (firsts Differ x ((xs ++ n ∷ []) ++ ys) pairs) in
    let first : bytes_eq n x ≡ false = differ n x (λ same. other (sym same)) in
    let later : list_any (bytes_eq n) (xs ++ ys) ≡ false = not_among xs ys n (rests Differ x ((xs ++ n ∷ []) ++ ys) pairs) in
    λ t. first t || later t

-- ---- the node of its own

abbrev pub IsOwnName : List NodeEntry → ℕ → List ℕ → Type 0
IsOwnName nodes i name = option_map (λ (e : NodeEntry). e.name ++ codes "-target") (slice_get nodes i) ≡ Some name

pub own_node : (nodes : List NodeEntry) (i : ℕ) (name : List ℕ) (target : Option TargetConfig) → i < length nodes → IsOwnName nodes i name → target ≡ target_of nodes i
    → made_at target_part nodes i ≡ record { name = name; target = target; outstanding = None } ∷ []
own_node nodes i name target lt named answers =
    elim (slice_get_cases nodes i).1 [
      | inl found ↦
          let e : NodeEntry = found.0 in
          let here : slice_get nodes i ≡ Some e = found.2 in
          let is_name : e.name ++ codes "-target" ≡ name =
          same_Some (e.name ++ codes "-target") name (sym (ap (option_map (λ (e : NodeEntry). e.name ++ codes "-target")) here) ∙ named) in
          let is_target : e.target ≡ target = sym (answers ∙ ap (option_and_then (λ (e : NodeEntry). e.target)) here) in
          ap (λ o. option_map_or (target_part i) o []) here ∙ (λ t. record { name = is_name t; target = is_target t; outstanding = None } ∷ [])
      | inr past ↦ absurd (omega (arith, past.0, lt))
    ]

-- the names of the parts with it
own_names : (d : Declaration) (i : ℕ) (name : List ℕ) → i < length d.nodes → IsOwnName d.nodes i name
    → part_names (record d { nodes = d.nodes ++ made_at target_part d.nodes i })
    ≡ (map (λ (n : NodeEntry). n.name) d.nodes ++ name ∷ []) ++ map (λ (s : SwitchEntry). s.name) d.switches
own_names d i name lt named =
    ap (λ (l : List (List ℕ)). l ++ map (λ (s : SwitchEntry). s.name) d.switches)
    (ap (λ l. map (λ (n : NodeEntry). n.name) (d.nodes ++ l)) (own_node d.nodes i name (target_of d.nodes i) lt named refl)
    ∙ map-append (λ (n : NodeEntry). n.name) d.nodes (record { name = name; target = target_of d.nodes i; outstanding = None } ∷ []))

pub named_with_own : (d : Declaration) (nodes : List NodeEntry) (i : ℕ) (name : List ℕ) → i < length d.nodes → IsOwnName d.nodes i name → nodes ≡ d.nodes ++ made_at target_part d.nodes i
    → AllPairs (λ x y. x ≢ y) (part_names d)
    → list_any (bytes_eq name) (part_names d) ≡ false → AllPairs (λ x y. x ≢ y) (part_names (record d { nodes = nodes }))
named_with_own d nodes i name lt named is pairs absent =
    subst (AllPairs Differ) (sym (ap (λ (l : List NodeEntry). part_names (record d { nodes = l })) is ∙ own_names d i name lt named))
    (between (map (λ (n : NodeEntry). n.name) d.nodes) (map (λ (s : SwitchEntry). s.name) d.switches) name pairs absent)

pub own_name_absent : (d : Declaration) (i : ℕ) (name : List ℕ) → i < length d.nodes → IsOwnName d.nodes i name
    → AllPairs (λ x y. x ≢ y) (part_names (record d { nodes = d.nodes ++ made_at target_part d.nodes i })) → list_any (bytes_eq name) (part_names d) ≡ false
own_name_absent d i name lt named pairs =
    not_among (map (λ (n : NodeEntry). n.name) d.nodes) (map (λ (s : SwitchEntry). s.name) d.switches) name (subst (AllPairs Differ) (own_names d i name lt named) pairs)

-- nodes and own node
pub one_node_more : (nodes : List NodeEntry) (i : ℕ) → i < length nodes → length (nodes ++ made_at target_part nodes i) ≡ length nodes + 1
one_node_more nodes i lt =
    elim (slice_get_cases nodes i).1 [
      | inl found ↦
          ap (λ o. length (nodes ++ option_map_or (target_part i) o [])) found.2
          ∙ length-append nodes (target_part i found.0)
      | inr past ↦ absurd (omega (arith, past.0, lt))
    ]
