-- A round, and what is peeled after the last.
use Rattle.std.proofs.Common.{◌≡◌, ℕ, zero, suc, ◌+◌, ◌^◌, ◌<◌, ◌≤◌, ◌⊎◌, Bool, true, false, not, List, [], ◌∷◌, ◌++◌, length, get_or, replicate, refl, sym, ap, ◌∙◌, subst, inl, inr, arith, All, filter, min}
use Rattle.std.specs.Prelude.{Vec, ◌==◌, slice_index, Contains, IsSome, Option, Some, None}
use Rattle.std.specs.declared.alloc.Global.{Global}
use Rattle.std.specs.List.{range_with_len}
use Rattle.std.proofs.lemmas.Bool.{cases_eq, cases_Bool, eq-eqb, eqb-true, false≢true, cases_lt}
use Rattle.std.proofs.lemmas.List.{length-replicate}
use Rattle.std.proofs.lemmas.List.FromFn.{get_or-range_with_len, length-range_with_len}
use Rattle.std.proofs.lemmas.List.Elements.{All-contains, All-contains_itself, All-push, Contains-append_left, Contains-append_right, Contains-get_or, Contains-push, Contains-push_cases}
use Rattle.sw_graph.specs.Rounds.{AllDone, AreFree, AreRounds, AreTaken, IsPeeled, is_marked}
use Rattle.sw_graph.specs.Rows.{row, IsGraph, Precedes}
use Rattle.sw_graph.specs.Walking.{IsLeastLeft, IsLeastOf, lesser}
use Rattle.sw_graph.proofs.Backs.{none_marked}

pub not_listed : (d : ℕ) → Contains [] d → ⊥
not_listed d h = let lt = h.1 in omega arith

pub first_listed : (x : ℕ) (xs : List ℕ) → Contains (x ∷ xs) x
first_listed x xs = (0, omega arith, refl)

pub later_listed : (x : ℕ) (xs : List ℕ) (d : ℕ) → Contains xs d → Contains (x ∷ xs) d
later_listed x xs d h = Contains-append_right (x ∷ []) xs d h

pub listed_cases : (x : ℕ) (xs : List ℕ) (d : ℕ) → Contains (x ∷ xs) d → (x ≡ d) ⊎ Contains xs d
listed_cases x xs d (zero, lt, e) = inl e
listed_cases x xs d (suc k, lt, e) = inr (k, omega arith, e)

-- a number is in a list or is not
pub is_listed : (xs : List ℕ) (d : ℕ) → Contains xs d ⊎ (Contains xs d → ⊥)
is_listed [] d = inr (not_listed d)
is_listed (x ∷ xs) d = elim (cases_eq x d) [
  | inl e ↦ inl (0, omega arith, e)
  | inr ne ↦ elim (is_listed xs d) [
    | inl h ↦ inl (later_listed x xs d h)
    | inr never ↦ inr (λ h. elim (listed_cases x xs d h) [ inl e ↦ ne e | inr k ↦ never k ])
  ]
]

-- all are done, or one is not
pub all_or_one : (done : List Bool) (xs : List ℕ) → AllDone done xs ⊎ ((c : ℕ) × Contains xs c × (is_marked done c ≡ false))
all_or_one done [] = inl (λ k d lt. absurd (omega arith))
all_or_one done (x ∷ xs) = elim (cases_Bool (is_marked done x)) [
  | inl t ↦ elim (all_or_one done xs) [
    | inl all ↦ inl (both t all)
    | inr r ↦ inr (r.0, later_listed x xs r.0 r.1, r.2)
  ]
  | inr f ↦ inr (x, first_listed x xs, f)
]
  where
    both : is_marked done x ≡ true → AllDone done xs → AllDone done (x ∷ xs)
    both t all zero d lt = t
    both t all (suc k) d lt = all k d (omega arith)

-- the least so far
pub least_kept : (xs : List ℕ) (done : List Bool) (e : ℕ) (least : Option ℕ) → IsLeastOf xs done least → is_marked done e ≡ true → IsLeastOf (xs ++ e ∷ []) done least
least_kept xs done e None h t = All-push (λ c. is_marked done c ≡ true) xs e h t
least_kept xs done e (Some c) h t = record {
  listed = Contains-append_left xs (e ∷ []) c h.listed;
  left = h.left;
  least = λ d k f. elim (Contains-push_cases xs e d k) [ inl old ↦ h.least d old f | inr same ↦ absurd (false≢true (sym f ∙ ap (is_marked done) (sym same) ∙ t)) ];
}

pub least_more : (xs : List ℕ) (done : List Bool) (e : ℕ) (least : Option ℕ) → IsLeastOf xs done least → is_marked done e ≡ false → IsLeastOf (xs ++ e ∷ []) done (Some (lesser least e))
least_more xs done e None h f = record {
  listed = Contains-push xs e;
  left = f;
  least = λ d k g. elim (Contains-push_cases xs e d k) [ inl old ↦ absurd (false≢true (sym g ∙ All-contains (λ c. is_marked done c ≡ true) xs d h old)) | inr same ↦ omega arith ];
}
least_more xs done e (Some c) h f = elim (cases_lt e c) [
  | inl less ↦
      let s : e ≡ min c e = omega arith in
      let P : ℕ → Type 0 = IsLeastLeft (xs ++ e ∷ []) done in
      subst P s (record {
        listed = Contains-push xs e;
        left = f;
        least = λ d k g. elim (Contains-push_cases xs e d k) [ inl old ↦ let le = h.least d old g in omega arith | inr same ↦ omega arith ];
      })
  | inr more ↦
      let s : c ≡ min c e = omega arith in
      let P : ℕ → Type 0 = IsLeastLeft (xs ++ e ∷ []) done in
      subst P s (record {
        listed = Contains-append_left xs (e ∷ []) c h.listed;
        left = h.left;
        least = λ d k g. elim (Contains-push_cases xs e d k) [ inl old ↦ h.least d old g | inr same ↦ omega arith ];
      })
]

-- where one is left, there is a least one
pub left_some : (xs : List ℕ) (done : List Bool) (least : Option ℕ) (d : ℕ) → IsLeastOf xs done least → Contains xs d → is_marked done d ≡ false → IsSome least
left_some xs done None d h k f = absurd (false≢true (sym f ∙ All-contains (λ c. is_marked done c ≡ true) xs d h k))
left_some xs done (Some c) d h k f = refl

-- what a filter keeps
kept_cases : (p : ℕ → Bool) (x : ℕ) (xs : List ℕ) → ((p x ≡ true) × (filter p (x ∷ xs) ≡ x ∷ filter p xs)) ⊎ ((p x ≡ false) × (filter p (x ∷ xs) ≡ filter p xs))
kept_cases p x xs = elim (cases_Bool (p x)) [ inl t ↦ inl (t, rw t refl) | inr f ↦ inr (f, rw f refl) ]

pub kept : (p : ℕ → Bool) (xs : List ℕ) (d : ℕ) → Contains xs d → p d ≡ true → Contains (filter p xs) d
kept p [] d h t = absurd (not_listed d h)
kept p (x ∷ xs) d h t =
    let P : List ℕ → Type 0 = λ l. Contains l d in
    elim (kept_cases p x xs) [
      | inl a ↦ elim (listed_cases x xs d h) [ inl e ↦ subst P (sym a.1) (0, omega arith, e) | inr k ↦ subst P (sym a.1) (later_listed x (filter p xs) d (kept p xs d k t)) ]
      | inr a ↦ elim (listed_cases x xs d h) [ inl e ↦ absurd (false≢true (sym a.0 ∙ ap p e ∙ t)) | inr k ↦ subst P (sym a.1) (kept p xs d k t) ]
    ]

pub kept_from : (p : ℕ → Bool) (xs : List ℕ) (d : ℕ) → Contains (filter p xs) d → Contains xs d × (p d ≡ true)
kept_from p [] d h = absurd (not_listed d h)
kept_from p (x ∷ xs) d h =
    let P : List ℕ → Type 0 = λ l. Contains l d in
    elim (kept_cases p x xs) [
      | inl a ↦ elim (listed_cases x (filter p xs) d (subst P a.1 h)) [ inl e ↦ ((0, omega arith, e), ap p (sym e) ∙ a.0) | inr k ↦ let r = kept_from p xs d k in (later_listed x xs d r.0, r.1) ]
      | inr a ↦ let r = kept_from p xs d (subst P a.1 h) in (later_listed x xs d r.0, r.1)
    ]

pub kept_most : (p : ℕ → Bool) (xs : List ℕ) → length (filter p xs) ≤ length xs
kept_most p [] = omega arith
kept_most p (x ∷ xs) = let r = kept_most p xs in elim (kept_cases p x xs) [ inl a ↦ let e = ap length a.1 in omega arith | inr a ↦ let e = ap length a.1 in omega arith ]

-- a filter that leaves a member out gives a shorter list
pub kept_fewer : (p : ℕ → Bool) (xs : List ℕ) (d : ℕ) → Contains xs d → p d ≡ false → length (filter p xs) < length xs
kept_fewer p [] d h f = absurd (not_listed d h)
kept_fewer p (x ∷ xs) d h f =
    elim (kept_cases p x xs) [
      | inl a ↦ elim (listed_cases x xs d h) [ inl e ↦ absurd (false≢true (sym f ∙ ap p (sym e) ∙ a.0)) | inr k ↦ let r = kept_fewer p xs d k f in let e = ap length a.1 in omega arith ]
      | inr a ↦ let r = kept_most p xs in let e = ap length a.1 in omega arith
    ]

undone_kept : (b : Bool) → not b ≡ true → b ≡ false
undone_kept true e = absurd (false≢true e)
undone_kept false e = refl

-- what a test of a list's length says
pub some_left : (size : ℕ) (xs : List ℕ) (b : Bool) → size ≡ length xs → b ≡ (size == 0) → b ≡ false → 0 < length xs
some_left size xs b is at no_more = elim (cases_lt 0 size) [ inl lt ↦ omega arith | inr le ↦ absurd (false≢true (sym no_more ∙ at ∙ eq-eqb size 0 (omega arith))) ]

pub none_left : (size : ℕ) (xs : List ℕ) (b : Bool) → size ≡ length xs → b ≡ (size == 0) → b ≡ true → length xs ≡ 0
none_left size xs b is at all = sym is ∙ eqb-true size 0 (sym at ∙ all)

-- before the first round
pub rounds_none : (g : List (Vec ℕ Global)) → AreRounds g 0 (replicate (length g) 0) (replicate (length g) false) (range_with_len 0 (length g))
rounds_none g =
    let n : ℕ = length g in
    let size = length-range_with_len 0 n in
    record {
      numbered = length-replicate n 0;
      marked = length-replicate n false;
      low = omega arith;
      listed = λ d lt e. (d, omega arith, get_or-range_with_len 0 n d d lt ∙ omega arith);
      undone = λ d h. let lt = h.1 in let at = get_or-range_with_len 0 n h.0 d (omega arith) in let here = h.2 in (omega arith, none_marked n d);
      rising = λ c d e h. absurd (false≢true (sym (none_marked n d) ∙ e));
      reached = λ d v e h. absurd (false≢true (sym (none_marked n d) ∙ e));
      below = λ d e. absurd (false≢true (sym (none_marked n d) ∙ e));
      late = λ d v h e. absurd (omega arith);
    }

pub left_inside : (g : List (Vec ℕ Global)) (round : ℕ) (levels : List ℕ) (done : List Bool) (left : List ℕ) → AreRounds g round levels done left → All (λ c. c < length g) left
left_inside g round levels done left r k d lt = (r.undone (get_or left k d) (All-contains_itself left k d lt)).0

pub free_inside : (g : List (Vec ℕ Global)) (round : ℕ) (levels : List ℕ) (done : List Bool) (left free : List ℕ) → AreRounds g round levels done left → AreFree g done left free → All (λ c. c < length done) free
free_inside g round levels done left free r f k d lt =
    let c : ℕ = get_or free k d in
    let inside = (r.undone c ((f c).0 (All-contains_itself free k d lt)).0).0 in
    let marked = r.marked in
    omega arith

pub round_fits : (g : List (Vec ℕ Global)) (round : ℕ) (levels : List ℕ) (done : List Bool) (left free : List ℕ) → AreRounds g round levels done left → AreFree g done left free → 0 < length free → length g ≤ 65535 → round + 1 < 2 ^ 16
round_fits g round levels done left free r f some few =
    let h = (f (get_or free 0 0)).0 (Contains-get_or free 0 0 some) in
    let lt = h.0.1 in
    let low = r.low in
    omega arith

module _ (g : List (Vec ℕ Global)) (ok : IsGraph g) (round : ℕ) (levels : List ℕ) (done : List Bool) (left free : List ℕ) (r : AreRounds g round levels done left) (f : AreFree g done left free) where
  free_left : (c : ℕ) → Contains free c → is_marked done c ≡ false
  free_left c h = (r.undone c ((f c).0 h).0).1

  done_not_free : (c : ℕ) → is_marked done c ≡ true → Contains free c → ⊥
  done_not_free c t h = false≢true (sym (free_left c h) ∙ t)

  -- of a member that is left and not free a predecessor is left
  held_back : (d : ℕ) → Contains left d → (Contains free d → ⊥) → (c : ℕ) × Precedes g c d × (is_marked done c ≡ false)
  held_back d h never = elim (all_or_one done (row g d)) [ inl all ↦ absurd (never ((f d).1 (h, all))) | inr k ↦ k ]

  module _ (levels2 : List ℕ) (done2 : List Bool) (t : AreTaken round free levels levels2 done done2) where
    same : (c : ℕ) → is_marked done c ≡ true → (slice_index levels2 c ≡ slice_index levels c) × (is_marked done2 c ≡ true)
    same c e = let k = t.others c (done_not_free c e) in (k.0, k.1 ∙ e)

    done_cases : (d : ℕ) → is_marked done2 d ≡ true → Contains free d ⊎ (is_marked done d ≡ true)
    done_cases d e = elim (is_listed free d) [ inl h ↦ inl h | inr never ↦ inr (sym (t.others d never).1 ∙ e) ]

    free_preceded : (c d : ℕ) → Contains free d → Precedes g c d → is_marked done c ≡ true
    free_preceded c d h k = All-contains (λ c. is_marked done c ≡ true) (row g d) c ((f d).0 h).1 k

    rising_more : (c d : ℕ) → is_marked done2 d ≡ true → Precedes g c d → (is_marked done2 c ≡ true) × (slice_index levels2 c < slice_index levels2 d)
    rising_more c d e k = elim (done_cases d e) [
      | inl h ↦
          let before = free_preceded c d h k in
          let s = same c before in
          let low = r.below c before in
          let here = (t.taken d h).0 in
          (s.1, (let x = s.0 in omega arith))
      | inr old ↦
          let a = r.rising c d old k in
          let s = same c a.0 in
          let u = same d old in
          (s.1, (let x = s.0 in let y = u.0 in let z = a.1 in omega arith))
    ]

    reached_more : (d v : ℕ) → is_marked done2 d ≡ true → slice_index levels2 d ≡ suc v → (c : ℕ) × (is_marked done2 c ≡ true) × Precedes g c d × (slice_index levels2 c ≡ v)
    reached_more d v e lv = elim (done_cases d e) [
      | inl h ↦
          let here : round ≡ suc v = sym (t.taken d h).0 ∙ lv in
          let k = r.late d v ((f d).0 h).0 here in
          let before = free_preceded k.0 d h k.1 in
          elim k.2 [
            | inl undone ↦ absurd (false≢true (sym undone ∙ before))
            | inr last ↦ let s = same k.0 before in (k.0, s.1, k.1, s.0 ∙ last.1)
          ]
      | inr old ↦
          let k = r.reached d v old (sym (same d old).0 ∙ lv) in
          let s = same k.0 k.1 in
          (k.0, s.1, k.2, s.0 ∙ k.3)
    ]

    below_more : (d : ℕ) → is_marked done2 d ≡ true → slice_index levels2 d < round + 1
    below_more d e = elim (done_cases d e) [
      | inl h ↦ let here = (t.taken d h).0 in omega arith
      | inr old ↦ let low = r.below d old in let s = (same d old).0 in omega arith
    ]

    abbrev stays : ℕ → Bool
    stays c = not (is_marked done2 c)

    undone_before : (d : ℕ) → is_marked done2 d ≡ false → (Contains free d → ⊥) × (is_marked done d ≡ false)
    undone_before d e =
        let never : Contains free d → ⊥ = λ h. false≢true (sym e ∙ (t.taken d h).1) in
        (never, sym (t.others d never).1 ∙ e)

    left_more : (d : ℕ) → Contains (filter stays left) d → Contains left d × (is_marked done2 d ≡ false)
    left_more d h = let k = kept_from stays left d h in (k.0, undone_kept (is_marked done2 d) k.1)

    late_more : (d v : ℕ) → Contains (filter stays left) d → round + 1 ≡ suc v → (c : ℕ) × Precedes g c d × ((is_marked done2 c ≡ false) ⊎ ((is_marked done2 c ≡ true) × (slice_index levels2 c ≡ v)))
    late_more d v h e =
        let now = left_more d h in
        let k = held_back d now.0 (undone_before d now.1).0 in
        let here : round ≡ v = omega arith in
        elim (is_listed free k.0) [
          | inl taken ↦ let s = t.taken k.0 taken in (k.0, k.1, inr (s.1, s.0 ∙ here))
          | inr never ↦ (k.0, k.1, inl ((t.others k.0 never).1 ∙ k.2))
        ]

    pub left_falls : 0 < length free → length (filter stays left) < length left
    left_falls some =
        let c : ℕ = get_or free 0 0 in
        let h = Contains-get_or free 0 0 some in
        let gone : stays c ≡ false = ap not (t.taken c h).1 in
        kept_fewer stays left c ((f c).0 h).0 gone

    pub rounds_more : 0 < length free → length levels2 ≡ length levels → length done2 ≡ length done → AreRounds g (round + 1) levels2 done2 (filter stays left)
    rounds_more some size marks = record {
      numbered = size ∙ r.numbered;
      marked = marks ∙ r.marked;
      low = let falls = left_falls some in let low = r.low in omega arith;
      listed = λ d lt e. let u = undone_before d e in kept stays left d (r.listed d lt u.1) (ap not e);
      undone = λ d h. let k = left_more d h in ((r.undone d k.0).0, k.1);
      rising = rising_more;
      reached = reached_more;
      below = below_more;
      late = late_more;
    }

  pub peeled : length free ≡ 0 → IsPeeled g levels done
  peeled none = record {
    numbered = r.numbered;
    marked = r.marked;
    rising = r.rising;
    reached = r.reached;
    tangled = λ d lt e. let k = held_back d (r.listed d lt e) (λ h. let l = h.1 in omega arith) in (k.0, k.2, k.1);
  }
