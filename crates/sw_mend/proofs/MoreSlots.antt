-- Nodes whose targets may owe more replies, and what they keep.
use Rattle.std.proofs.Common.{◌≡◌, ◌≢◌, ℕ, zero, suc, ◌+◌, ◌<◌, ◌≤◌, Bool, true, false, List, [], ◌∷◌, ◌++◌, All, AllPairs, IfSome, IsSome, get_or, length, map, take, Some, None, Option, option_map, inl, inr, refl, subst, sym, ap, ◌∙◌, arith}
use Rattle.std.specs.Prelude.{◌==◌, is_some, slice_get, option_and_then, if◌then◌else◌}
use Rattle.std.specs.List.{list_any}
use Rattle.std.specs.Option.{option_map_or}
use Rattle.std.specs.Str.{bytes_eq}
use Rattle.std.proofs.lemmas.Bool.{cases_Bool}
use Rattle.std.proofs.lemmas.List.{length-take-le, take_all, take_more}
use Rattle.std.proofs.lemmas.List.Elements.{All-cons, All-head, All-nil, All-tail}
use Rattle.std.proofs.lemmas.Option.{same_Some, slice_get_cases}
use Rattle.sw_rmap.specs.Config.{IsTargetConfig}
use Rattle.sw_rmap.specs.declared.config.TargetConfig.{TargetConfig}
use Rattle.sw_route.specs.Wiring.{Wiring}
use Rattle.sw_config.specs.Entries.{NodeEntry, SwitchEntry, Declaration, empty, link_ends, part_names, target_of, wiring_of}
use Rattle.sw_config.specs.Limits.{limit_at, may_make_wait, outstanding_of}
use Rattle.sw_config.specs.Valid.{IsTarget}
use Rattle.sw_mend.specs.Changes.{by_number, switch_after_all}
use Rattle.sw_mend.specs.Limitings.{IsSlots, node_with, slots_after, slots_at, slots_wanted, target_with, with_slots}
use Rattle.sw_mend.specs.declared.limiting.TargetSlots.{TargetSlots}
use Rattle.sw_mend.proofs.AfterAll.{none_made}
use Rattle.sw_mend.proofs.Numbered.{one_more}
use Rattle.sw_mend.proofs.OneMore.{fresh_node}

-- ---- slots

pub one_named_more : (slots : List TargetSlots) (node before : ℕ) (more : TargetSlots)
    → slots_after (slots ++ more ∷ []) node before ≡ (if node == more.node then more.slots else slots_after slots node before)
one_named_more [] node before more = refl
one_named_more (first ∷ slots) node before more = one_named_more slots node (if node == first.node then first.slots else before) more

-- one more of them
pub slots_more : (slots : List TargetSlots) (i node before count made : ℕ) (d : TargetSlots) → i < length slots → count ≡ slots_after (take i slots) node before
    → made ≡ (if node == (get_or slots i d).node then (get_or slots i d).slots else count) → made ≡ slots_after (take (i + 1) slots) node before
slots_more slots i node before count made d lt so_far is =
    let more : TargetSlots = get_or slots i d in
    is ∙ ap (λ c. if node == more.node then more.slots else c) so_far ∙ sym (one_named_more (take i slots) node before more)
    ∙ ap (λ l. slots_after l node before) (sym (take_more slots i d lt))

pub all_slots : (slots : List TargetSlots) (i node before count : ℕ) → length slots ≤ i → count ≡ slots_after (take i slots) node before → count ≡ slots_after slots node before
all_slots slots i node before count past so_far = so_far ∙ ap (λ l. slots_after l node before) (take_all i slots past)

if_slots : (b : Bool) (named before : ℕ) → 1 ≤ named → named ≤ 64 → 1 ≤ before → before ≤ 64 → (1 ≤ (if b then named else before)) × ((if b then named else before) ≤ 64)
if_slots true named before low high low_before high_before = (low, high)
if_slots false named before low high low_before high_before = (low_before, high_before)

pub slots_in_range : (slots : List TargetSlots) (node before : ℕ) → All IsSlots slots → 1 ≤ before → before ≤ 64 → (1 ≤ slots_after slots node before) × (slots_after slots node before ≤ 64)
slots_in_range [] node before all low high = (low, high)
slots_in_range (first ∷ slots) node before all low high =
    let head : IsSlots first = All-head IsSlots first slots all in
    let next = if_slots (node == first.node) first.slots before head.0 head.1 low high in
    slots_in_range slots node (if node == first.node then first.slots else before) (All-tail IsSlots first slots all) next.0 next.1

pub still_valid : (slots : List TargetSlots) (node : ℕ) (target : Option TargetConfig) → All IsSlots slots → IfSome target IsTargetConfig → IfSome (target_with slots node target) IsTargetConfig
still_valid slots node None all valid = tt
still_valid slots node (Some t) all valid =
    let range = slots_in_range slots node t.slots all valid.low_slots valid.high_slots in
    record {
      low_logical = valid.low_logical;
      high_logical = valid.high_logical;
      low_size = valid.low_size;
      high_size = valid.high_size;
      window = valid.window;
      low_slots = range.0;
      high_slots = range.1;
    }

-- ---- slots that are wanted

-- so many slots for that node
abbrev pub named_slots : ℕ → ℕ → List TargetSlots
named_slots k w = record { node = k; slots = w } ∷ []

abbrev by_test : Bool → List TargetSlots → List TargetSlots → List TargetSlots
by_test b named others = if b then named else others

wanted_by : (d : Declaration) (k : ℕ) (limit : Option ℕ) (waits : Bool)
    → option_map_or (λ l. by_test waits (named_slots k (slots_wanted d k l)) []) limit []
    ≡ option_map_or (named_slots k) (option_and_then (λ l. if waits then Some (slots_wanted d k l) else None) limit) []
wanted_by d k None waits = refl
wanted_by d k (Some l) true = refl
wanted_by d k (Some l) false = refl

-- the slots that are named for a node, by those that are wanted there
pub wanted : (d : Declaration) (k : ℕ) (e : NodeEntry) (o : Option ℕ)
    → o ≡ option_and_then (λ limit. if may_make_wait d k then Some (slots_wanted d k limit) else None) (limit_at d k)
    → option_map_or (named_slots k) o [] ≡ slots_at d k e
wanted d k e o is = ap (λ (p : Option ℕ). option_map_or (named_slots k) p []) is ∙ sym (wanted_by d k (limit_at d k) (may_make_wait d k))

all_left : (xs ys : List TargetSlots) → All IsSlots (xs ++ ys) → All IsSlots xs
all_left [] ys all = All-nil IsSlots
all_left (x ∷ xs) ys all = All-cons IsSlots x xs (All-head IsSlots x (xs ++ ys) all) (all_left xs ys (All-tail IsSlots x (xs ++ ys) all))

all_right : (xs ys : List TargetSlots) → All IsSlots (xs ++ ys) → All IsSlots ys
all_right [] ys all = all
all_right (x ∷ xs) ys all = all_right xs ys (All-tail IsSlots x (xs ++ ys) all)

-- too many at one node
pub too_many : (make : ℕ → NodeEntry → List TargetSlots) (n m i w : ℕ) (nodes : List NodeEntry) → i < length nodes → n + i ≡ m
    → ((e : NodeEntry) → record { node = m; slots = w } ∷ [] ≡ make m e) → (1 ≤ w → w ≤ 64 → ⊥) → All IsSlots (by_number make n nodes) → ⊥
too_many make n m i w [] lt at is many all = absurd (omega (arith, lt))
too_many make n m zero w (e ∷ nodes) lt at is many all =
    let first : n ≡ m = omega arith in
    let front : All IsSlots (make n e) = all_left (make n e) (by_number make (n + 1) nodes) all in
    let there : All IsSlots (record { node = m; slots = w } ∷ []) = subst (All IsSlots) (ap (λ k. make k e) first ∙ sym (is e)) front in
    let is_slots = All-head IsSlots (record { node = m; slots = w }) [] there in
    many is_slots.0 is_slots.1
too_many make n m (suc i) w (e ∷ nodes) lt at is many all =
    too_many make (n + 1) m i w nodes (omega (arith, lt)) (omega (arith, at)) is many (all_right (make n e) (by_number make (n + 1) nodes) all)

-- ---- nodes

pub as_many : (slots : List TargetSlots) (n : ℕ) (nodes : List NodeEntry) → length (by_number (node_with slots) n nodes) ≡ length nodes
as_many slots n [] = refl
as_many slots n (e ∷ nodes) = ap suc (as_many slots (n + 1) nodes)

pub same_names : (slots : List TargetSlots) (n : ℕ) (nodes : List NodeEntry) → map (λ (e : NodeEntry). e.name) (by_number (node_with slots) n nodes) ≡ map (λ (e : NodeEntry). e.name) nodes
same_names slots n [] = refl
same_names slots n (e ∷ nodes) = ap (λ l. e.name ∷ l) (same_names slots (n + 1) nodes)

some_target : (slots : List TargetSlots) (node : ℕ) (target : Option TargetConfig) → IsSome target → IsSome (target_with slots node target)
some_target slots node None is = is
some_target slots node (Some t) is = is

pub still_target : (slots : List TargetSlots) (m : ℕ) (nodes : List NodeEntry) (n : ℕ) → IsTarget nodes n → IsTarget (by_number (node_with slots) m nodes) n
still_target slots m [] n is = is
still_target slots m (e ∷ nodes) zero is = some_target slots m e.target is
still_target slots m (e ∷ nodes) (suc n) is = still_target slots (m + 1) nodes n is

same_option : (target : Option TargetConfig) (node : ℕ) → target_with [] node target ≡ target
same_option None node = refl
same_option (Some t) node = refl

none_named_from : (n : ℕ) (nodes : List NodeEntry) → by_number (node_with []) n nodes ≡ nodes
none_named_from n [] = refl
none_named_from n (e ∷ nodes) = λ k. record e { target = same_option e.target n k } ∷ none_named_from (n + 1) nodes k

-- where none is named all stays
pub none_named : (d : Declaration) → with_slots d [] ≡ d
none_named d = ap (λ l. record d { nodes = l }) (none_named_from 0 d.nodes)

pub same_part_names : (slots : List TargetSlots) (nodes : List NodeEntry) (switches : List SwitchEntry)
    → map (λ (e : NodeEntry). e.name) (by_number (node_with slots) 0 nodes) ++ map (λ (s : SwitchEntry). s.name) switches ≡ map (λ (e : NodeEntry). e.name) nodes ++ map (λ (s : SwitchEntry). s.name) switches
same_part_names slots nodes switches = ap (λ l. l ++ map (λ (s : SwitchEntry). s.name) switches) (same_names slots 0 nodes)

-- names are apart as before
pub named_apart : (slots : List TargetSlots) (d now : Declaration) → now ≡ record empty { nodes = (with_slots d slots).nodes } → AllPairs (λ x y. x ≢ y) (part_names d)
    → AllPairs (λ x y. x ≢ y) (part_names (record d { nodes = now.nodes }))
named_apart slots d now is apart =
    subst (AllPairs (λ x y. x ≢ y)) (sym (ap (λ (e : Declaration). part_names (record d { nodes = e.nodes })) is ∙ same_part_names slots d.nodes d.switches)) apart

pub same_wiring : (slots : List TargetSlots) (d : Declaration) → wiring_of (with_slots d slots) ≡ wiring_of d
same_wiring slots d = ap (λ n. record { nodes = n; switches = length d.switches; ends = link_ends d.links }) (as_many slots 0 d.nodes)

-- nodes, switches and links
pub parts_built : (slots : List TargetSlots) (d with_nodes with_switches after : Declaration) → with_nodes ≡ record empty { nodes = (with_slots d slots).nodes }
    → with_switches ≡ record empty { nodes = with_nodes.nodes; switches = by_number (switch_after_all []) 0 d.switches } → after ≡ record with_switches { links = d.links }
    → after ≡ record (with_slots d slots) { flows = [] }
parts_built slots d with_nodes with_switches after nodes switches links =
    links ∙ (λ t. record (switches t) { links = d.links })
    ∙ (λ t. record empty { nodes = (nodes t).nodes; switches = (none_made d t).switches; links = d.links })

-- ---- one more

pub node_more : (slots : List TargetSlots) (nodes : List NodeEntry) (i : ℕ) (name : List ℕ) (target made : Option TargetConfig) (outstanding : Option ℕ) → i < length nodes
    → option_map (λ (e : NodeEntry). e.name) (slice_get nodes i) ≡ Some name → target ≡ target_of nodes i → made ≡ target_with slots i target → outstanding ≡ outstanding_of nodes i
    → by_number (node_with slots) 0 (take (i + 1) nodes) ≡ by_number (node_with slots) 0 (take i nodes) ++ record { name = name; target = made; outstanding = outstanding } ∷ []
node_more slots nodes i name target made outstanding lt named answers is limited =
    elim (slice_get_cases nodes i).1 [
      | inl found ↦
          let n : NodeEntry = found.0 in
          let here : slice_get nodes i ≡ Some n = found.2 in
          let is_name : n.name ≡ name = same_Some n.name name (sym (ap (option_map (λ (e : NodeEntry). e.name)) here) ∙ named) in
          let is_target : n.target ≡ target = sym (answers ∙ ap (option_and_then (λ (e : NodeEntry). e.target)) here) in
          let is_made : target_with slots i n.target ≡ made = ap (target_with slots i) is_target ∙ sym is in
          let is_outstanding : n.outstanding ≡ outstanding = sym (limited ∙ ap (option_and_then (λ (e : NodeEntry). e.outstanding)) here) in
          let same : node_with slots i n ≡ record { name = name; target = made; outstanding = outstanding } ∷ [] =
          λ k. record { name = is_name k; target = is_made k; outstanding = is_outstanding k } ∷ [] in
          one_more (node_with slots) i nodes n here ∙ ap (λ z. by_number (node_with slots) 0 (take i nodes) ++ z) same
      | inr past ↦ absurd (omega (arith, past.0, lt))
    ]

pub node_built : (slots : List TargetSlots) (nodes : List NodeEntry) (i : ℕ) (name : List ℕ) (target made : Option TargetConfig) (outstanding : Option ℕ) (old new : Declaration)
    → i < length nodes → option_map (λ (e : NodeEntry). e.name) (slice_get nodes i) ≡ Some name → target ≡ target_of nodes i → made ≡ target_with slots i target → outstanding ≡ outstanding_of nodes i
    → old ≡ record empty { nodes = by_number (node_with slots) 0 (take i nodes) }
    → new ≡ record old { nodes = old.nodes ++ record { name = name; target = made; outstanding = outstanding } ∷ [] } → new ≡ record empty { nodes = by_number (node_with slots) 0 (take (i + 1) nodes) }
node_built slots nodes i name target made outstanding old new lt named answers is limited before more =
    more ∙ ap (λ (e : Declaration). record e { nodes = e.nodes ++ record { name = name; target = made; outstanding = outstanding } ∷ [] }) before
    ∙ ap (λ (l : List NodeEntry). record empty { nodes = l }) (sym (node_more slots nodes i name target made outstanding lt named answers is limited))

pub new_node : (slots : List TargetSlots) (d now : Declaration) (i : ℕ) (name : List ℕ) → AllPairs (λ x y. x ≢ y) (part_names d) → i < length d.nodes
    → option_map (λ (e : NodeEntry). e.name) (slice_get d.nodes i) ≡ Some name → now ≡ record empty { nodes = by_number (node_with slots) 0 (take i d.nodes) }
    → list_any (bytes_eq name) (part_names now) ≡ false
new_node slots d now i name apart lt named is =
    let before : Declaration = record empty { nodes = take i d.nodes } in
    ap (λ (e : Declaration). list_any (bytes_eq name) (part_names e)) is
    ∙ ap (list_any (bytes_eq name)) (same_part_names slots (take i d.nodes) []) ∙ fresh_node d before i name apart lt named refl

pub few_nodes : (slots : List TargetSlots) (nodes : List NodeEntry) (now : Declaration) (i : ℕ) → i < length nodes → length nodes ≤ 1024
    → now ≡ record empty { nodes = by_number (node_with slots) 0 (take i nodes) } → length now.nodes < 1024
few_nodes slots nodes now i lt few is =
    let size : length now.nodes ≡ length (take i nodes) = ap (λ (e : Declaration). length e.nodes) is ∙ as_many slots 0 (take i nodes) in
    omega (arith, size, length-take-le i nodes (omega arith), lt, few)
