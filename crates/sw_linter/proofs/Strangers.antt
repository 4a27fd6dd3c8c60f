-- The addresses that a node is known to have, one flow more at a time.
use Rattle.std.proofs.Common.{◌≡◌, ◌∙◌, ℕ, ◌+◌, ◌≤◌, Bool, true, false, not, ◌||◌, List, [], ◌∷◌, ◌++◌, Option, Some, None, ap, append_assoc, append-nil, drop, inl, inr, length, refl, sym, take}
use Rattle.std.specs.Prelude.{◌==◌, filter_map, option_map, slice_get}
use Rattle.std.specs.List.{list_any}
use Rattle.std.specs.Option.{option_to_list}
use Rattle.std.proofs.lemmas.Bool.{or_cases, or_from, or_left, or_parts, or_right}
use Rattle.std.proofs.lemmas.List.{take-append-drop, take_all}
use Rattle.std.proofs.lemmas.List.Elements.{filter_map-append}
use Rattle.sw_config.specs.Entries.{Declaration, FlowEntry, target_of}
use Rattle.sw_linter.specs.Lints.{address_to, is_none_of, is_stranger, known_addresses}
use Rattle.sw_linter.proofs.Ranges.{take_one_more}

-- those of the target and of the first flows
abbrev pub known_of : Declaration → ℕ → ℕ → List ℕ
known_of d n i = option_to_list (option_map (λ target. target.logical) (target_of d.nodes n)) ++ filter_map (address_to n) (take i d.flows)

abbrev pub is_some_of : List ℕ → Bool
is_some_of [] = false
is_some_of (x ∷ xs) = true

-- none of them is this one, and whether there are some
pub record IsSeen (d : Declaration) (n address i : ℕ) (known : Bool) : Type 0 where
  pub none : list_any (λ own. own == address) (known_of d n i) ≡ false
  pub some : known ≡ is_some_of (known_of d n i)

any_append : (p : ℕ → Bool) (xs ys : List ℕ) → list_any p xs ≡ false → list_any p ys ≡ false → list_any p (xs ++ ys) ≡ false
any_append p [] ys a b = b
any_append p (x ∷ xs) ys a b = let parts = or_parts (p x) (list_any p xs) a in or_from (p x) (list_any p (xs ++ ys)) parts.0 (any_append p xs ys parts.1 b)

any_later : (p : ℕ → Bool) (xs ys : List ℕ) → list_any p ys ≡ true → list_any p (xs ++ ys) ≡ true
any_later p [] ys b = b
any_later p (x ∷ xs) ys b = or_right (p x) (list_any p (xs ++ ys)) (any_later p xs ys b)

any_earlier : (p : ℕ → Bool) (xs ys : List ℕ) → list_any p xs ≡ true → list_any p (xs ++ ys) ≡ true
any_earlier p [] ys a = absurd cc
any_earlier p (x ∷ xs) ys a = elim (or_cases (p x) (list_any p xs) a) [
  | inl here ↦ or_left (p x) (list_any p (xs ++ ys)) here
  | inr later ↦ or_right (p x) (list_any p (xs ++ ys)) (any_earlier p xs ys later)
]

some_append : (xs ys : List ℕ) → is_some_of (xs ++ ys) ≡ is_some_of xs || is_some_of ys
some_append [] ys = refl
some_append (x ∷ xs) ys = refl

none_is : (xs : List ℕ) (address : ℕ) → list_any (λ own. own == address) xs ≡ false → is_none_of xs address ≡ is_some_of xs
none_is [] address none = refl
none_is (x ∷ xs) address none = ap not none

one_is : (xs : List ℕ) (address : ℕ) → list_any (λ own. own == address) xs ≡ true → is_none_of xs address ≡ false
one_is [] address there = absurd cc
one_is (x ∷ xs) address there = ap not there

module _ (d : Declaration) (n address : ℕ) where
  abbrev is_it : ℕ → Bool
  is_it own = own == address

  abbrev of_target : List ℕ
  of_target = option_to_list (option_map (λ target. target.logical) (target_of d.nodes n))

  last_one : (f : FlowEntry) (o : Option ℕ) → address_to n f ≡ o → filter_map (address_to n) (f ∷ []) ≡ option_to_list o
  last_one f None is = rw is refl
  last_one f (Some own) is = rw is refl

  known_more : (i : ℕ) (f : FlowEntry) (o : Option ℕ) → slice_get d.flows i ≡ Some f → address_to n f ≡ o → known_of d n (i + 1) ≡ known_of d n i ++ option_to_list o
  known_more i f o here is =
      ap (λ fs. of_target ++ filter_map (address_to n) fs) (take_one_more d.flows i f here)
      ∙ ap (λ them. of_target ++ them) (filter_map-append (address_to n) (take i d.flows) (f ∷ []) ∙ ap (λ them. filter_map (address_to n) (take i d.flows) ++ them) (last_one f o is))
      ∙ sym (append_assoc of_target (filter_map (address_to n) (take i d.flows)) (option_to_list o))

  known_whole : (i : ℕ) → known_of d n i ++ filter_map (address_to n) (drop i d.flows) ≡ known_addresses d n
  known_whole i =
      append_assoc of_target (filter_map (address_to n) (take i d.flows)) (filter_map (address_to n) (drop i d.flows))
      ∙ ap (λ them. of_target ++ them) (sym (filter_map-append (address_to n) (take i d.flows) (drop i d.flows)) ∙ ap (filter_map (address_to n)) (take-append-drop i d.flows))

  -- the address is among those
  pub there : (i : ℕ) → list_any is_it (known_of d n i) ≡ true → false ≡ is_stranger d n address
  there i is =
      sym (one_is (known_addresses d n) address (sym (ap (list_any is_it) (known_whole i)) ∙ any_earlier is_it (known_of d n i) (filter_map (address_to n) (drop i d.flows)) is))

  -- no flow yet
  -- a flow more
  pub other_flow : (i : ℕ) (f : FlowEntry) (known : Bool) → slice_get d.flows i ≡ Some f → address_to n f ≡ None → IsSeen d n address i known → IsSeen d n address (i + 1) known
  other_flow i f known here is seen =
      let same : known_of d n (i + 1) ≡ known_of d n i = known_more i f None here is ∙ append-nil (known_of d n i) in
      record { none = ap (list_any is_it) same ∙ seen.none; some = seen.some ∙ ap is_some_of (sym same) }

  pub found_flow : (i : ℕ) (f : FlowEntry) (own : ℕ) → slice_get d.flows i ≡ Some f → address_to n f ≡ Some own → (own == address) ≡ true → false ≡ is_stranger d n address
  found_flow i f own here is same =
      there (i + 1) (ap (list_any is_it) (known_more i f (Some own) here is) ∙ any_later is_it (known_of d n i) (own ∷ []) (rw same refl))

  pub next_flow : (i : ℕ) (f : FlowEntry) (own : ℕ) (known : Bool) → slice_get d.flows i ≡ Some f → address_to n f ≡ Some own → (own == address) ≡ false → IsSeen d n address i known
      → IsSeen d n address (i + 1) true
  next_flow i f own known here is other seen = record {
    none = ap (list_any is_it) (known_more i f (Some own) here is) ∙ any_append is_it (known_of d n i) (own ∷ []) seen.none (rw other refl);
    some = sym (ap is_some_of (known_more i f (Some own) here is) ∙ some_append (known_of d n i) (own ∷ []) ∙ or_right (is_some_of (known_of d n i)) true refl);
  }

  -- all flows
  pub all_flows_seen : (i : ℕ) (known : Bool) → length d.flows ≤ i → IsSeen d n address i known → known ≡ is_stranger d n address
  all_flows_seen i known all seen =
      let whole : known_of d n i ≡ known_addresses d n = ap (λ fs. of_target ++ filter_map (address_to n) fs) (take_all i d.flows all) in
      seen.some ∙ sym (none_is (known_of d n i) address seen.none) ∙ ap (λ them. is_none_of them address) whole
