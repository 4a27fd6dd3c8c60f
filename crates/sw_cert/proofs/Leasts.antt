-- The least number of a list that passes a test.
use Rattle.std.proofs.Common.{◌≡◌, ℕ, suc, ◌+◌, ◌≤◌, min, Bool, true, false, cond, List, [], ◌∷◌, length, drop, Option, Some, None, Contains, refl, sym, ap, ◌∙◌, subst, ◌⊎◌, inl, inr, arith}
use Rattle.std.specs.Prelude.{slice_get, IfSome}
use Rattle.std.proofs.lemmas.Bool.{cases_Bool, cases_lt}
use Rattle.sw_config.specs.Entries.{FlowEntry, Declaration, all_flows}
use Rattle.sw_config.specs.Limits.{may_make_wait}
use Rattle.sw_config.specs.Valid.{IsValid}
use Rattle.sw_flow.proofs.Listed.{Contains-head, Contains-later, Contains-cases}
use Rattle.sw_cert.specs.Least.{lesser, least, IsLeast, LeastIsLeast}
use Rattle.sw_cert.specs.Refusals.{is_falling_at, least_falling}
use Rattle.sw_cert.specs.Ends.{falling_end}
use Rattle.sw_cert.proofs.Answering.{ended_where_waits, waiting_ends, waits_where_ended}
use Rattle.sw_cert.proofs.Lists.{drop_past}
use Rattle.sw_topo.proofs.Lists.{drop_at}

pub lesser_none : (o : Option ℕ) → lesser o None ≡ o
lesser_none None = refl
lesser_none (Some x) = refl

pub lesser_turned : (a b c : Option ℕ) → lesser (lesser a b) c ≡ lesser a (lesser b c)
lesser_turned None b c = refl
lesser_turned (Some x) None c = refl
lesser_turned (Some x) (Some y) None = refl
lesser_turned (Some x) (Some y) (Some z) = ap Some (omega arith)

-- one number more
pub least_more : (test : ℕ → Bool) (a b e : Option ℕ) (x : ℕ) (xs ys : List ℕ) → xs ≡ x ∷ ys → e ≡ cond (test x) (Some x) None → b ≡ lesser a e → lesser b (least test ys) ≡ lesser a (least test xs)
least_more test a b e x xs ys list one more =
    ap (λ (o : Option ℕ). lesser o (least test ys)) (more ∙ ap (lesser a) one) ∙ lesser_turned a (cond (test x) (Some x) None) (least test ys) ∙ ap (λ (l : List ℕ). lesser a (least test l)) (sym list)

-- ---- none, and the least

module _ (test : ℕ → Bool) where
  none_of : (x : ℕ) (xs : List ℕ) (b : Bool) → test x ≡ b → lesser (cond b (Some x) None) (least test xs) ≡ None → (b ≡ false) × (least test xs ≡ None)
  none_of x xs false e h = (refl, h)
  none_of x xs true e h = by (least test xs) h
    where
      by : (o : Option ℕ) → lesser (Some x) o ≡ None → (true ≡ false) × (least test xs ≡ None)
      by None bad = absurd (let e : Some x ≡ None = bad in cc)
      by (Some y) bad = absurd (let e : Some (min x y) ≡ None = bad in cc)

  pub none_passes : (xs : List ℕ) → least test xs ≡ None → (x : ℕ) → Contains xs x → test x ≡ false
  none_passes [] h x m = absurd (omega (arith, m.1))
  none_passes (y ∷ ys) h x m = by (Contains-cases y x ys m) (none_of y ys (test y) refl h) (none_passes ys)
    where
      by : (y ≡ x) ⊎ Contains ys x → (test y ≡ false) × (least test ys ≡ None) → (least test ys ≡ None → (z : ℕ) → Contains ys z → test z ≡ false) → test x ≡ false
      by (inl same) both rest = subst (λ (z : ℕ). test z ≡ false) same both.0
      by (inr later) both rest = rest both.1 x later

  pub passes_none : (xs : List ℕ) → ((x : ℕ) → Contains xs x → test x ≡ false) → least test xs ≡ None
  passes_none [] each = refl
  passes_none (y ∷ ys) each = rw (each y (Contains-head y ys)) (passes_none ys (λ x m. each x (Contains-later y x ys m)))

  none_least : (x : ℕ) → IsLeast test [] x → ⊥
  none_least x is = omega (arith, is.listed.1)

  -- of the lesser of the first number and the least of the others
  is_first : (x : ℕ) (xs : List ℕ) → test x ≡ true → ((y : ℕ) → Contains xs y → test y ≡ true → x ≤ y) → IsLeast test (x ∷ xs) x
  is_first x xs passes low = record { listed = Contains-head x xs; passes = passes; least = λ y m ok. by y ok (Contains-cases x y xs m) }
    where
      by : (y : ℕ) → test y ≡ true → (x ≡ y) ⊎ Contains xs y → x ≤ y
      by y ok (inl same) = omega arith
      by y ok (inr later) = low y later ok

  is_later : (x : ℕ) (xs : List ℕ) (z : ℕ) → IsLeast test xs z → (test x ≡ true → z ≤ x) → IsLeast test (x ∷ xs) z
  is_later x xs z is low = record { listed = Contains-later x z xs is.listed; passes = is.passes; least = λ y m ok. by y ok (Contains-cases x y xs m) }
    where
      by : (y : ℕ) → test y ≡ true → (x ≡ y) ⊎ Contains xs y → z ≤ y
      by y ok (inl same) = subst (λ (w : ℕ). z ≤ w) same (low (subst (λ (w : ℕ). test w ≡ true) (sym same) ok))
      by y ok (inr later) = is.least y later ok

  -- the answer is the least where there is one
  abbrev Answers : List ℕ → Option ℕ → Type 0
  Answers xs None = (y : ℕ) → Contains xs y → test y ≡ false
  Answers xs (Some z) = IsLeast test xs z

  pub answers : (xs : List ℕ) → Answers xs (least test xs)
  answers [] = λ y m. absurd (omega (arith, m.1))
  answers (x ∷ xs) = by (test x) refl (least test xs) (answers xs)
    where
      below : (o : Option ℕ) → Answers xs o → (y : ℕ) → o ≡ None → Contains xs y → test y ≡ true → x ≤ y
      below None none y e m ok = absurd (let bad : true ≡ false = sym ok ∙ none y m in cc)
      below (Some z) is y e m ok = absurd (let bad : Some z ≡ None = e in cc)

      by : (b : Bool) → test x ≡ b → (o : Option ℕ) → Answers xs o → Answers (x ∷ xs) (lesser (cond b (Some x) None) o)
      by false e None none = λ y m. out y (Contains-cases x y xs m)
        where
          out : (y : ℕ) → (x ≡ y) ⊎ Contains xs y → test y ≡ false
          out y (inl same) = subst (λ (w : ℕ). test w ≡ false) same e
          out y (inr later) = none y later
      by false e (Some z) is = is_later x xs z is (λ ok. absurd (let bad : true ≡ false = sym ok ∙ e in cc))
      by true e None none = is_first x xs e (λ y m ok. absurd (let bad : true ≡ false = sym ok ∙ none y m in cc))
      by true e (Some z) is = elim (cases_lt z x) [
        | inl less ↦ let same : min x z ≡ z = omega arith in rw same (is_later x xs z is (λ ok. omega arith))
        | inr more ↦ let same : min x z ≡ x = omega arith in rw same (is_first x xs e (λ y m ok. let low = is.least y m ok in omega arith))
      ]

  only_least : (xs : List ℕ) (x y : ℕ) → IsLeast test xs x → IsLeast test xs y → x ≡ y
  only_least xs x y a b = let low = a.least y b.listed b.passes in let high = b.least x a.listed a.passes in omega arith

  pub least_is : (xs : List ℕ) (x : ℕ) → least test xs ≡ Some x → IsLeast test xs x
  least_is xs x h = rw h at (answers xs)

  pub is_the_least : (xs : List ℕ) (x : ℕ) → IsLeast test xs x → least test xs ≡ Some x
  is_the_least xs x is = by (least test xs) (answers xs)
    where
      by : (o : Option ℕ) → Answers xs o → o ≡ Some x
      by None none = absurd (let bad : true ≡ false = sym is.passes ∙ none x is.listed in cc)
      by (Some z) other = ap Some (only_least xs z x other is)

-- lists of the same numbers have one least
pub least_same : (test : ℕ → Bool) (xs ys : List ℕ) → ((x : ℕ) → Contains xs x → Contains ys x) → ((x : ℕ) → Contains ys x → Contains xs x) → least test xs ≡ least test ys
least_same test xs ys to back = by (least test xs) (answers test xs)
  where
    by : (o : Option ℕ) → Answers test xs o → o ≡ least test ys
    by None none = sym (passes_none test ys (λ x m. none x (back x m)))
    by (Some z) is = sym (is_the_least test ys z (record { listed = to z is.listed; passes = is.passes; least = λ y m ok. is.least y (back y m) ok }))

pub least_is_least : LeastIsLeast
least_is_least test xs x = (least_is test xs x, is_the_least test xs x)

-- ---- nodes that may make others wait

module _ (d : Declaration) (numbers : List ℕ) where
  abbrev pub falling : List FlowEntry → Option ℕ
  falling fs = least (is_falling_at d numbers) (waiting_ends d fs)

  falling_first : (f : FlowEntry) (fs : List FlowEntry) → falling (f ∷ fs) ≡ lesser (falling_end d numbers f) (falling fs)
  falling_first f fs = by (cases_Bool (may_make_wait d f.to))
    where
      by : (may_make_wait d f.to ≡ true) ⊎ (may_make_wait d f.to ≡ false) → falling (f ∷ fs) ≡ lesser (falling_end d numbers f) (falling fs)
      by (inl waits) = rw waits refl
      by (inr takes) = rw takes refl

  -- one flow more
  pub falling_more : (fs : List FlowEntry) (i : ℕ) (f : FlowEntry) (a b e : Option ℕ) → slice_get fs i ≡ Some f → e ≡ falling_end d numbers f → b ≡ lesser a e → lesser b (falling (drop (i + 1) fs)) ≡ lesser a (falling (drop i fs))
  falling_more fs i f a b e here is more =
      let next : i + 1 ≡ suc i = omega arith in
      ap (λ (n : ℕ). lesser b (falling (drop n fs))) next
      ∙ ap (λ (o : Option ℕ). lesser o (falling (drop (suc i) fs))) (more ∙ ap (lesser a) is)
      ∙ lesser_turned a (falling_end d numbers f) (falling (drop (suc i) fs))
      ∙ ap (lesser a) (sym (ap falling (drop_at fs i f here) ∙ falling_first f (drop (suc i) fs)))

  falling_done : (fs : List FlowEntry) (i : ℕ) (a : Option ℕ) → length fs ≤ i → lesser a (falling (drop i fs)) ≡ a
  falling_done fs i a le = rw (drop_past fs i le) (lesser_none a)

  -- with all flows
  pub falling_all : (i : ℕ) (a : Option ℕ) → IsValid d → length (all_flows d) ≤ i → lesser a (falling (drop i (all_flows d))) ≡ falling (all_flows d) → a ≡ least_falling d numbers
  falling_all i a valid past so_far =
      sym (falling_done (all_flows d) i a past) ∙ so_far
      ∙ least_same (is_falling_at d numbers) (waiting_ends d (all_flows d)) _ (waits_where_ended d valid) (ended_where_waits d)

-- a lesser number keeps what both keep
pub IfSome-lesser : (P : ℕ → Type 0) (a b : Option ℕ) → IfSome a P → IfSome b P → IfSome (lesser a b) P
IfSome-lesser P None b ha hb = hb
IfSome-lesser P (Some x) None ha hb = ha
IfSome-lesser P (Some x) (Some y) ha hb = elim (cases_lt x y) [
  | inl less ↦ let same : min x y ≡ x = omega arith in rw same ha
  | inr more ↦ let same : min x y ≡ y = omega arith in rw same hb
]
