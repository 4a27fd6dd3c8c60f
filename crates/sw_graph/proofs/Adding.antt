-- New numbers that are added to a level.
use Rattle.std.proofs.Common.{◌≡◌, ℕ, ◌<◌, List, [], ◌∷◌, ◌++◌, length, set, Option, Some, None, true, false, refl, sym, ap, ◌∙◌, subst, inl, inr, arith, get_or, get_or-set_same, get_or-set_other, length-set, replicate, take, ◌+◌}
use Rattle.std.specs.Prelude.{Contains, slice_index}
use Rattle.std.specs.Option.{is_some}
use Rattle.std.proofs.lemmas.Bool.{cases_eq, false≢true}
use Rattle.std.proofs.lemmas.List.{append_assoc, get_or_default, get_or-replicate, take_more}
use Rattle.std.proofs.lemmas.List.Elements.{Contains-append_left, Contains-append_right, Contains-append_cases, Contains-push, Contains-push_cases}
use Rattle.sw_graph.specs.Searches.{AreAdded, steps_to}

pub nothing_in : {A X : Type 0} (d : X) → Contains [] d → A
nothing_in d h = let lt = h.1 in absurd (omega arith)

abbrev unwrapped : ℕ → Option ℕ → ℕ
unwrapped d (Some x) = x
unwrapped d None = d

pub some_same : (x y : ℕ) → Some x ≡ Some y → x ≡ y
some_same x y e = ap (unwrapped x) e

abbrev is_none : Option ℕ → Type 0
is_none (Some x) = ⊥
is_none None = Unit {0}

pub none_some : (o : Option ℕ) (x : ℕ) → o ≡ None → o ≡ Some x → ⊥
none_some o x e f = subst is_none (sym e ∙ f) tt

pub only_one : (e d : ℕ) → Contains (e ∷ []) d → e ≡ d
only_one e d h = elim (Contains-push_cases [] e d h) [ inl none ↦ nothing_in d none | inr same ↦ same ]

pub added_none : (count : ℕ) (steps : List (Option ℕ)) (level : List ℕ) → AreAdded [] count steps steps level level
added_none count steps level = record {
  size = refl;
  kept = λ d j h. h;
  all = λ d h. nothing_in d h;
  from = λ d j h. inl h;
  added = λ d h. inl h;
  stays = λ d h. h;
}

pub added_old : (count e j : ℕ) (steps : List (Option ℕ)) (level : List ℕ) → steps_to steps e ≡ Some j → AreAdded (e ∷ []) count steps steps level level
added_old count e j steps level known = record {
  size = refl;
  kept = λ d i h. h;
  all = λ d h. let P : ℕ → Type 0 = λ x. (i : ℕ) × (steps_to steps x ≡ Some i) in subst P (only_one e d h) (j, known);
  from = λ d i h. inl h;
  added = λ d h. inl h;
  stays = λ d h. h;
}

pub added_new : (count e : ℕ) (steps : List (Option ℕ)) (level : List ℕ) → e < length steps → steps_to steps e ≡ None → AreAdded (e ∷ []) count steps (set steps e (Some count)) level (level ++ e ∷ [])
added_new count e steps level lt new = record {
  size = length-set steps e (Some count);
  kept = λ d j h. elim (cases_eq d e) [
    | inl s ↦ let P : ℕ → Type 0 = λ x. steps_to steps x ≡ Some j in absurd (none_some (steps_to steps e) j new (subst P s h))
    | inr ne ↦ other d ne ∙ h
  ];
  all = λ d h. let P : ℕ → Type 0 = λ x. (i : ℕ) × (steps_to after x ≡ Some i) in subst P (only_one e d h) (count, here);
  from = λ d j h. elim (cases_eq d e) [
    | inl s ↦
        let P : ℕ → Type 0 = λ x. steps_to after x ≡ Some j in
        let Q : ℕ → Type 0 = λ x. Contains (e ∷ []) x × Contains (level ++ e ∷ []) x in
        let c = some_same j count (sym (subst P s h) ∙ here) in
        let q = subst Q (sym s) (Contains-push [] e, Contains-push level e) in
        inr (c, q.0, q.1)
    | inr ne ↦ inl (sym (other d ne) ∙ h)
  ];
  added = λ d h. elim (Contains-push_cases level e d h) [
    | inl old ↦ inl old
    | inr s ↦ let P : ℕ → Type 0 = λ x. steps_to after x ≡ Some count in inr (subst P s here)
  ];
  stays = λ d h. Contains-append_left level (e ∷ []) d h;
}
  where
    after : List (Option ℕ)
    after = set steps e (Some count)

    here : steps_to after e ≡ Some count
    here = get_or-set_same steps e (Some count) None lt

    other : (d : ℕ) → (d ≡ e → ⊥) → steps_to after d ≡ steps_to steps d
    other d ne = get_or-set_other steps e d (Some count) None ne

pub added_more : (xs ys : List ℕ) (count : ℕ) (s s1 s2 : List (Option ℕ)) (l l1 l2 : List ℕ) → AreAdded xs count s s1 l l1 → AreAdded ys count s1 s2 l1 l2 → AreAdded (xs ++ ys) count s s2 l l2
added_more xs ys count s s1 s2 l l1 l2 a b = record {
  size = b.size ∙ a.size;
  kept = λ d j h. b.kept d j (a.kept d j h);
  all = λ d h. elim (Contains-append_cases xs ys d h) [
    | inl x ↦ let r = a.all d x in (r.0, b.kept d r.0 r.1)
    | inr y ↦ b.all d y
  ];
  from = λ d j h. elim (b.from d j h) [
    | inl old ↦ elim (a.from d j old) [
      | inl older ↦ inl older
      | inr r ↦ inr (r.0, Contains-append_left xs ys d r.1, b.stays d r.2)
    ]
    | inr r ↦ inr (r.0, Contains-append_right xs ys d r.1, r.2)
  ];
  added = λ d h. elim (b.added d h) [
    | inl old ↦ elim (a.added d old) [
      | inl older ↦ inl older
      | inr r ↦ inr (b.kept d count r)
    ]
    | inr r ↦ inr r
  ];
  stays = λ d h. b.stays d (a.stays d h);
}

pub is_known : (o : Option ℕ) → is_some o ≡ true → (j : ℕ) × (o ≡ Some j)
is_known (Some j) e = (j, refl)
is_known None e = absurd (false≢true e)

pub not_known : (o : Option ℕ) → is_some o ≡ false → o ≡ None
not_known (Some j) e = absurd (false≢true (sym e))
not_known None e = refl

pub added_kept : (count at e : ℕ) (steps : List (Option ℕ)) (level : List ℕ) → at ≡ e → is_some (steps_to steps at) ≡ true → AreAdded (e ∷ []) count steps steps level level
added_kept count at e steps level same known =
    let P : ℕ → Type 0 = λ x. is_some (steps_to steps x) ≡ true in
    let r = is_known (steps_to steps e) (subst P same known) in
    added_old count e r.0 steps level r.1

-- an element at its place, with the default that lists have in loops
pub contains_at : (xs : List ℕ) (k c : ℕ) → k < length xs → slice_index xs k ≡ c → Contains xs c
contains_at xs k c lt e = (k, lt, get_or_default xs k c 0 lt ∙ e)

pub at_contains : (xs : List ℕ) (c : ℕ) (m : Contains xs c) → slice_index xs m.0 ≡ c
at_contains xs c m = get_or_default xs m.0 0 c m.1 ∙ m.2

-- one more of the numbers xs behind others, which had no count, or had one
module _ (before xs : List ℕ) (i count at : ℕ) (s s1 s2 : List (Option ℕ)) (l l1 l2 : List ℕ) (lt : i < length xs) (is : at ≡ get_or xs i 0) (a : AreAdded (before ++ take i xs) count s s1 l l1) where
  longer : (e : ℕ) → e ≡ get_or xs i 0 → (before ++ take i xs) ++ e ∷ [] ≡ before ++ take (i + 1) xs
  longer e same = append_assoc before (take i xs) (e ∷ []) ∙ ap (λ k. before ++ (take i xs ++ k ∷ [])) same ∙ ap (λ x. before ++ x) (sym (take_more xs i 0 lt))

  pub added_step : at < length s1 → is_some (steps_to s1 at) ≡ false → s2 ≡ set s1 at (Some count) → l2 ≡ l1 ++ get_or xs i 0 ∷ [] → AreAdded (before ++ take (i + 1) xs) count s s2 l l2
  added_step inside new steps_is level_is =
      let one : AreAdded (at ∷ []) count s1 (set s1 at (Some count)) l1 (l1 ++ at ∷ []) = added_new count at s1 l1 inside (not_known (steps_to s1 at) new) in
      let level : l2 ≡ l1 ++ at ∷ [] = level_is ∙ ap (λ k. l1 ++ k ∷ []) (sym is) in
      rw (steps_is, level, sym (longer at is)) (added_more (before ++ take i xs) (at ∷ []) count s s1 (set s1 at (Some count)) l l1 (l1 ++ at ∷ []) a one)

  pub kept_step : is_some (steps_to s1 at) ≡ true → s2 ≡ s1 → l2 ≡ l1 → AreAdded (before ++ take (i + 1) xs) count s s2 l l2
  kept_step known steps_is level_is =
      rw (steps_is, level_is, sym (longer (get_or xs i 0) refl)) (added_more (before ++ take i xs) (get_or xs i 0 ∷ []) count s s1 s1 l l1 l1 a (added_kept count at (get_or xs i 0) s1 l1 is known))

-- the start alone has a count
pub start_added : (n start at : ℕ) (s s2 : List (Option ℕ)) (l l2 : List ℕ) → s ≡ replicate n None → start < n → at ≡ start → at < length s → l ≡ [] → s2 ≡ set s at (Some 0) → l2 ≡ l ++ start ∷ [] → AreAdded (start ∷ []) 0 (replicate n None) s2 [] l2
start_added n start at s s2 l l2 none lt is inside empty steps_is level_is =
    let fresh : steps_to s at ≡ None = ap (λ x. steps_to x at) none ∙ get_or-replicate n at None None (omega (arith, is)) in
    let one : AreAdded (at ∷ []) 0 s (set s at (Some 0)) [] ([] ++ at ∷ []) = added_new 0 at s [] inside fresh in
    rw (steps_is, level_is, empty, sym none, sym is) one
