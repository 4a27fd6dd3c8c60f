-- The search, level by level.
use Rattle.std.proofs.Common.{◌≡◌, ℕ, zero, suc, length, refl, ◌<◌, ◌≤◌, ◌⊎◌, List, [], ◌∷◌, Option, Some, None, replicate, sym, ap, ◌∙◌, subst, inl, inr, arith, true, false}
use Rattle.std.specs.Prelude.{Contains, Vec}
use Rattle.std.specs.List.{flat_map, list_any}
use Rattle.std.specs.declared.alloc.Global.{Global}
use Rattle.std.proofs.lemmas.Bool.{cases_eq, cases_lt, false≢true}
use Rattle.std.proofs.lemmas.List.{get_or_past, get_or-replicate, length-replicate}
use Rattle.std.proofs.lemmas.List.Elements.{Contains-append_cases, Contains-append_left, Contains-append_right, Contains-push}
use Rattle.std.proofs.lemmas.List.Folds.{Any-from_list_any, list_any_at}
use Rattle.sw_graph.specs.Levels.{Chain}
use Rattle.sw_graph.specs.Rows.{Leads, row}
use Rattle.sw_graph.specs.Walks.{holds}
use Rattle.sw_graph.proofs.Numbers.{Contains-from_holds}
use Rattle.sw_graph.specs.Searches.{AreAdded, IsSearch, NoRound, steps_to}
use Rattle.sw_graph.proofs.Adding.{none_some, nothing_in, only_one}
use Rattle.sw_graph.proofs.Marked.{holds-from_Contains}

-- after so many levels: the numbers of the last one are those of so many steps, and none leads back to the start in as many or fewer
pub record Searching (dep : ℕ → ℕ → Type 0) (start count : ℕ) (steps : List (Option ℕ)) (level : List ℕ) : Type 0 where
  pub sound : (d j : ℕ) → steps_to steps d ≡ Some j → (j ≤ count) × Chain dep j start d
  pub least : (d i : ℕ) → i ≤ count → Chain dep i start d → (j : ℕ) × (j ≤ i) × (steps_to steps d ≡ Some j)
  pub last : (d : ℕ) → steps_to steps d ≡ Some count → Contains level d
  pub at : (d : ℕ) → Contains level d → steps_to steps d ≡ Some count
  pub none : NoRound dep start count

pub unknown : (n d : ℕ) → steps_to (replicate n None) d ≡ None
unknown n d = elim (cases_lt d n) [ inl lt ↦ get_or-replicate n d None None lt | inr le ↦ get_or_past (replicate n None) d None (let o : Option ℕ = None in let m = length-replicate n o in omega arith) ]

pub searching_first : (dep : ℕ → ℕ → Type 0) (start n : ℕ) (steps : List (Option ℕ)) (level : List ℕ) → AreAdded (start ∷ []) 0 (replicate n None) steps [] level → Searching dep start 0 steps level
searching_first dep start n steps level a = record {
  sound = λ d j h. let r = from d j h in (omega (arith, r.0), let P : ℕ → Type 0 = λ x. Chain dep x start d in subst P (sym r.0) (only_one start d r.1));
  least = λ d i le h.
      let z : i ≡ 0 = omega arith in
      let P : ℕ → Type 0 = λ x. Chain dep x start d in
      let Q : ℕ → Type 0 = λ x. (j : ℕ) × (j ≤ x) × (steps_to steps d ≡ Some j) in
      let R : ℕ → Type 0 = λ x. steps_to steps x ≡ Some 0 in
      subst Q (sym z) (0, omega arith, subst R (subst P z h) here);
  last = λ d h. (from d 0 h).2;
  at = λ d h. elim (a.added d h) [ inl old ↦ nothing_in d old | inr r ↦ r ];
  none = λ i lt h. omega arith;
}
  where
    from : (d j : ℕ) → steps_to steps d ≡ Some j → (j ≡ 0) × Contains (start ∷ []) d × Contains level d
    from d j h = elim (a.from d j h) [ inl old ↦ absurd (none_some (steps_to (replicate n None) d) j (unknown n d) old) | inr r ↦ r ]

    first : (j : ℕ) × (steps_to steps start ≡ Some j)
    first = a.all start (Contains-push [] start)

    here : steps_to steps start ≡ Some 0
    here = first.1 ∙ ap Some (from start first.0 first.1).0

module _ (dep : ℕ → ℕ → Type 0) (start count : ℕ) (steps : List (Option ℕ)) (level : List ℕ) (s : Searching dep start count steps level) where
  -- a way of one step more goes over the last level, or there is a shorter one
  last_step : (d : ℕ) → Chain dep (suc count) start d → ((b : ℕ) × Contains level b × dep b d) ⊎ ((i : ℕ) × (0 < i) × (i ≤ count) × Chain dep i start d)
  last_step d h =
      let r = s.least h.0 count (omega arith) h.1 in
      elim (cases_eq r.0 count) [
        | inl e ↦ inl (h.0, s.last h.0 (r.2 ∙ ap Some e), h.2)
        | inr ne ↦ let le = r.1 in inr (suc r.0, omega arith, omega arith, (h.0, (s.sound h.0 r.0 r.2).1, h.2))
      ]

  pub round_found : (b most : ℕ) → Contains level b → dep b start → suc count ≤ most → IsSearch dep start most steps (Some (suc count))
  round_found b most h e le = (
    le,
    record {
      some = omega arith;
      leads = (b, (s.sound b count (s.at b h)).1, e);
      fewest = λ i c. elim (cases_lt i count) [ inl lt ↦ absurd (s.none i lt c) | inr past ↦ omega arith ];
    },
    record {
      sound = λ d j k. (s.sound d j k).1;
      least = λ d i lt c. s.least d i (omega arith) c;
    },
  )

  module _ (none : (b : ℕ) → Contains level b → dep b start → ⊥) (ds : List ℕ) (steps2 : List (Option ℕ)) (level2 : List ℕ) (a : AreAdded ds (suc count) steps steps2 [] level2)
      (led : (d : ℕ) → Contains ds d → (b : ℕ) × Contains level b × dep b d) (all : (b d : ℕ) → Contains level b → dep b d → Contains ds d) where
    least_known : (d i : ℕ) → i ≤ count → Chain dep i start d → (j : ℕ) × (j ≤ i) × (steps_to steps2 d ≡ Some j)
    least_known d i le h = let r = s.least d i le h in (r.0, r.1, a.kept d r.0 r.2)

    level_sound : (d j : ℕ) → steps_to steps2 d ≡ Some j → (j ≤ suc count) × Chain dep j start d
    level_sound d j h = elim (a.from d j h) [
      | inl old ↦ let r = s.sound d j old in ((let le = r.0 in omega arith), r.1)
      | inr new ↦
          let e = new.0 in
          let b = led d new.1 in
          let P : ℕ → Type 0 = λ x. Chain dep x start d in
          (omega arith, subst P (sym e) (b.0, (s.sound b.0 count (s.at b.0 b.1)).1, b.2))
    ]

    pub searching_more : Searching dep start (suc count) steps2 level2
    searching_more = record {
      sound = level_sound;
      least = λ d i le h. elim (cases_lt i (suc count)) [
        | inl lt ↦ least_known d i (omega arith) h
        | inr past ↦
            let e : i ≡ suc count = omega arith in
            let P : ℕ → Type 0 = λ x. Chain dep x start d in
            elim (last_step d (subst P e h)) [
              | inl b ↦
                  let k = a.all d (all b.0 d b.1 b.2) in
                  (k.0, (let le2 = (level_sound d k.0 k.1).0 in omega arith), k.1)
              | inr w ↦
                  let r = least_known d w.0 w.2 w.3 in
                  let le1 = r.1 in
                  let le2 = w.2 in
                  (r.0, omega arith, r.2)
            ]
      ];
      last = λ d h. elim (a.from d (suc count) h) [
        | inl old ↦ let le = (s.sound d (suc count) old).0 in absurd (omega arith)
        | inr new ↦ new.2
      ];
      at = λ d h. elim (a.added d h) [ inl old ↦ nothing_in d old | inr new ↦ new ];
      none = λ i lt h. elim (cases_lt i count) [
        | inl less ↦ s.none i less h
        | inr past ↦
            let e : suc i ≡ suc count = omega arith in
            let P : ℕ → Type 0 = λ x. Chain dep x start start in
            elim (last_step start (subst P e h)) [
              | inl b ↦ none b.0 b.1 b.2
              | inr w ↦ closed w.0 w.1 w.2 w.3
            ]
      ];
    }
      where
        closed : (i : ℕ) → 0 < i → i ≤ count → Chain dep i start start → ⊥
        closed zero some le h = omega arith
        closed (suc i) some le h = s.none i (omega arith) h

-- ---- a search that found nothing new

nothing_added : (n : ℕ) (steps : List (Option ℕ)) → AreAdded [] n steps steps [] []
nothing_added n steps = record {
  size = refl;
  kept = λ d j h. h;
  all = λ d h. nothing_in d h;
  from = λ d j h. inl h;
  added = λ d h. inl h;
  stays = λ d h. h;
}

still : (dep : ℕ → ℕ → Type 0) (start count : ℕ) (steps : List (Option ℕ)) → Searching dep start count steps [] → (most : ℕ) → (n : ℕ) × (most ≤ n) × Searching dep start n steps []
still dep start count steps s zero = (count, omega arith, s)
still dep start count steps s (suc most) =
    let r = still dep start count steps s most in
    let le = r.1 in (
      suc r.0,
      omega arith,
      searching_more dep start r.0 steps [] r.2 (λ b h e. nothing_in b h) [] steps [] (nothing_added (suc r.0) steps)
          (λ d h. nothing_in d h) (λ b d h e. nothing_in b h),
    )

-- no steps lead back, however many
pub ended : (dep : ℕ → ℕ → Type 0) (start count most : ℕ) (steps : List (Option ℕ)) (level : List ℕ) → Searching dep start count steps level → length level ≡ 0 → NoRound dep start most
ended dep start count most steps [] s empty = λ i lt h.
    let r = still dep start count steps s most in
    let le = r.1 in
    r.2.none i (omega arith) h
ended dep start count most steps (x ∷ xs) s empty = absurd cc

-- ---- what leads on, as the search tests it

pub one_led : (rows : List (Vec ℕ Global)) (level : List ℕ) (d : ℕ) → list_any (λ c. holds (row rows c) d) level ≡ true → (b : ℕ) × Contains level b × Leads rows b d
one_led rows level d e = let a = Any-from_list_any (λ c. holds (row rows c) d) level e in (a.1, (a.0, a.2, a.3), Contains-from_holds (row rows a.1) d a.4)

pub none_led : (rows : List (Vec ℕ Global)) (level : List ℕ) (d : ℕ) → list_any (λ c. holds (row rows c) d) level ≡ false → (b : ℕ) → Contains level b → Leads rows b d → ⊥
none_led rows level d e b k h =
    let P : ℕ → Type 0 = λ x. holds (row rows x) d ≡ true in
    false≢true (sym e ∙ list_any_at (λ c. holds (row rows c) d) level k.0 b k.1 (subst P (sym k.2) (holds-from_Contains (row rows b) d h)))

pub flat_from : (f : ℕ → List ℕ) (xs : List ℕ) (d : ℕ) → Contains (flat_map f xs) d → (b : ℕ) × Contains xs b × Contains (f b) d
flat_from f [] d h = nothing_in d h
flat_from f (x ∷ xs) d h = elim (Contains-append_cases (f x) (flat_map f xs) d h) [
  | inl here ↦ (x, Contains-append_left (x ∷ []) xs x (Contains-push [] x), here)
  | inr later ↦ let k = flat_from f xs d later in (k.0, Contains-append_right (x ∷ []) xs k.0 k.1, k.2)
]

pub flat_to : (f : ℕ → List ℕ) (xs : List ℕ) (b d : ℕ) → Contains xs b → Contains (f b) d → Contains (flat_map f xs) d
flat_to f [] b d k h = nothing_in b k
flat_to f (x ∷ xs) b d k h = elim (Contains-append_cases (x ∷ []) xs b k) [
  | inl here ↦ let P : ℕ → Type 0 = λ y. Contains (f y) d in Contains-append_left (f x) (flat_map f xs) d (subst P (sym (only_one x b here)) h)
  | inr later ↦ Contains-append_right (f x) (flat_map f xs) d (flat_to f xs b d later h)
]

-- one level more of a search along rows
pub searching_on : (rows : List (Vec ℕ Global)) (start count next : ℕ) (steps steps2 : List (Option ℕ)) (level level2 : List ℕ) → Searching (Leads rows) start count steps level → next ≡ suc count
    → list_any (λ c. holds (row rows c) start) level ≡ false → AreAdded (flat_map (row rows) level) next steps steps2 [] level2 → Searching (Leads rows) start next steps2 level2
searching_on rows start count next steps steps2 level level2 s e none a =
    let P : ℕ → Type 0 = λ n. AreAdded (flat_map (row rows) level) n steps steps2 [] level2 in
    let Q : ℕ → Type 0 = λ n. Searching (Leads rows) start n steps2 level2 in
    subst Q (sym e) (searching_more (Leads rows) start count steps level s (none_led rows level start none) (flat_map (row rows) level) steps2 level2 (subst P e a) (flat_from (row rows) level) (λ b d. flat_to (row rows) level b d))

pub round_on : (rows : List (Vec ℕ Global)) (start count next most : ℕ) (steps : List (Option ℕ)) (level : List ℕ) → Searching (Leads rows) start count steps level → next ≡ suc count → next ≤ most
    → list_any (λ c. holds (row rows c) start) level ≡ true → IsSearch (Leads rows) start most steps (Some next)
round_on rows start count next most steps level s e le one =
    let b = one_led rows level start one in
    let P : ℕ → Type 0 = λ n. IsSearch (Leads rows) start most steps (Some n) in
    subst P (sym e) (round_found (Leads rows) start count steps level s b.0 most b.1 b.2 (omega arith))
