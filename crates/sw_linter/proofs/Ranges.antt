-- What is made of numbers one after the other, and of entries, one more at a time.
use Rattle.std.proofs.Common.{◌≡◌, ℕ, zero, suc, ◌+◌, ◌<◌, ◌≤◌, Bool, true, false, ◌||◌, ◌-◌, List, [], ◌∷◌, ◌++◌, length, map, take, get_or, Contains, Option, Some, None, refl, sym, ap, ap₂, ◌∙◌, arith, append-nil, append_assoc}
use Rattle.std.specs.Prelude.{flat_map, fold, slice_get, if◌then◌else◌}
use Rattle.std.specs.List.{enumerate_from, list_any, range_with_len}
use Rattle.std.proofs.lemmas.List.{flat_map_more, length-take-le, map-append, take_more}
use Rattle.std.proofs.lemmas.List.Sums.{fold_push}
use Rattle.std.proofs.lemmas.Option.{get_or_from_slice_get, slice_get_within}
use Rattle.sw_topo.specs.Checked.{first_of}
use Rattle.sw_route.specs.declared.look.Route.{Route}
use Rattle.sw_flow.proofs.Listed.{Contains-head, Contains-later}
use Rattle.sw_graph.proofs.Ranges.{range_from_more, range_more}
use Rattle.sw_linter.specs.declared.lint.Lint.{Lint}
use Rattle.sw_linter.specs.Lints.{first_made, made_of}

-- what is made of one number more comes behind
pub grown : {B : Type 0} (make : ℕ → List B) (old before here after : List B) (n : ℕ) → before ≡ old ++ flat_map make (range_with_len 0 n) → here ≡ make n → after ≡ before ++ here
    → after ≡ old ++ flat_map make (range_with_len 0 (n + 1))
grown make old before here after n so_far is more =
    more ∙ ap (λ l. l ++ here) so_far ∙ ap (λ l. (old ++ flat_map make (range_with_len 0 n)) ++ l) is ∙ flat_map_more make old (range_with_len 0 n) n ∙ ap (λ l. old ++ flat_map make l) (sym (range_more n))

pub begun : {B : Type 0} (make : ℕ → List B) (old : List B) → old ≡ old ++ flat_map make (range_with_len 0 0)
begun make old = sym (append-nil old)

-- the same where the loop ends
pub ended : {B : Type 0} (make : ℕ → List B) (old after : List B) (n m : ℕ) → n ≡ m → after ≡ old ++ flat_map make (range_with_len 0 n) → after ≡ old ++ flat_map make (range_with_len 0 m)
ended make old after n m e so_far = so_far ∙ ap (λ k. old ++ flat_map make (range_with_len 0 k)) e

enumerate_more : {X : Type 0} (n m : ℕ) (xs : List X) (x : X) → n + length xs ≡ m → enumerate_from n (xs ++ x ∷ []) ≡ enumerate_from n xs ++ (m, x) ∷ []
enumerate_more n m [] x e = let is : n ≡ m = omega arith in ap (λ k. (k, x) ∷ []) is
enumerate_more n m (y ∷ ys) x e = ap (λ l. (n, y) ∷ l) (enumerate_more (n + 1) m ys x (omega arith))

module _ (make : ℕ → Route → List Lint) where
  abbrev of_pair : ℕ × Route → List Lint
  of_pair e = make e.0 e.1

  -- one entry more
  pub grown_entry : (old before here after : List Lint) (i : ℕ) (xs : List Route) (x : Route) → i < length xs → x ≡ get_or xs i x → before ≡ old ++ made_of make (take i xs) → here ≡ make i x
      → after ≡ before ++ here → after ≡ old ++ made_of make (take (i + 1) xs)
  grown_entry old before here after i xs x lt at so_far is more =
      let long : length (take i xs) ≡ i = length-take-le i xs (omega arith) in
      let one : take (i + 1) xs ≡ take i xs ++ x ∷ [] = take_more xs i x lt ∙ ap (λ q. take i xs ++ q ∷ []) (sym at) in
      more ∙ ap (λ l. l ++ here) so_far ∙ ap (λ l. (old ++ made_of make (take i xs)) ++ l) is ∙ flat_map_more of_pair old (enumerate_from 0 (take i xs)) (i, x)
      ∙ ap (λ l. old ++ flat_map of_pair l) (sym (enumerate_more 0 i (take i xs) x (omega arith))) ∙ ap (λ l. old ++ made_of make l) (sym one)

-- what is made of one element more
pub grown_map : {A B : Type 0} (f : A → B) (old before after : List B) (i : ℕ) (xs : List A) (x : A) → i < length xs → x ≡ get_or xs i x → before ≡ old ++ map f (take i xs) → after ≡ before ++ f x ∷ []
    → after ≡ old ++ map f (take (i + 1) xs)
grown_map f old before after i xs x lt at so_far more =
    let one : take (i + 1) xs ≡ take i xs ++ x ∷ [] = take_more xs i x lt ∙ ap (λ q. take i xs ++ q ∷ []) (sym at) in
    more ∙ ap (λ l. l ++ f x ∷ []) so_far ∙ append_assoc old (map f (take i xs)) (f x ∷ [])
    ∙ ap (λ l. old ++ l) (sym (map-append f (take i xs) (x ∷ [])) ∙ ap (map f) (sym one))

-- ---- what is made the same way

pub flat_map_same : {B : Type 0} (f g : ℕ → List B) (a n : ℕ) → ((k : ℕ) → a ≤ k → k < a + n → f k ≡ g k) → flat_map f (range_with_len a n) ≡ flat_map g (range_with_len a n)
flat_map_same f g a zero same = refl
flat_map_same f g a (suc n) same = ap₂ (λ k l. k ++ l) (same a (omega arith) (omega arith)) (flat_map_same f g (a + 1) n (λ k low high. same k (omega arith) (omega arith)))

made_from : (f g : ℕ → Route → List Lint) (n : ℕ) (rs : List Route) → ((k : ℕ) (r : Route) → Contains rs r → f k r ≡ g k r)
    → flat_map (λ e. f e.0 e.1) (enumerate_from n rs) ≡ flat_map (λ e. g e.0 e.1) (enumerate_from n rs)
made_from f g n [] same = refl
made_from f g n (r ∷ rs) same = ap₂ (λ k l. k ++ l) (same n r (Contains-head r rs)) (made_from f g (n + 1) rs (λ k q h. same k q (Contains-later r q rs h)))

pub made_same : (f g : ℕ → Route → List Lint) (rs : List Route) → ((k : ℕ) (r : Route) → Contains rs r → f k r ≡ g k r) → made_of f rs ≡ made_of g rs
made_same f g rs same = made_from f g 0 rs same

abbrev of_none : ℕ × Route → List Lint
of_none e = []

none_made_from : (n : ℕ) (rs : List Route) → flat_map of_none (enumerate_from n rs) ≡ []
none_made_from n [] = refl
none_made_from n (r ∷ rs) = none_made_from (n + 1) rs

-- where it is made under a condition
pub made_if : (b : Bool) (f : ℕ → Route → List Lint) (rs : List Route) → made_of (λ e r. if b then f e r else []) rs ≡ (if b then made_of f rs else [])
made_if true f rs = refl
made_if false f rs = none_made_from 0 rs

pub first_made_same : {A B : Type 0} (f g : A → Option B) (xs : List A) → ((x : A) → f x ≡ g x) → first_made f xs ≡ first_made g xs
first_made_same f g [] same = refl
first_made_same f g (x ∷ xs) same = ap₂ (λ k l. first_of k l) (same x) (first_made_same f g xs same)

pub first_made_none : {A B : Type 0} (f : A → Option B) (xs : List A) → ((x : A) → f x ≡ None) → first_made f xs ≡ None
first_made_none f [] none = refl
first_made_none f (x ∷ xs) none = ap₂ (λ k l. first_of k l) (none x) (first_made_none f xs none)

-- the first over numbers that are that much greater
pub first_made_shifted : {B : Type 0} (f g : ℕ → Option B) (by from a n : ℕ) → from ≡ by + a → ((k : ℕ) → a ≤ k → k < a + n → f (by + k) ≡ g k)
    → first_made f (range_with_len from n) ≡ first_made g (range_with_len a n)
first_made_shifted f g by from a zero e same = refl
first_made_shifted f g by from a (suc n) e same =
    ap₂ (λ k l. first_of k l) (ap f e ∙ same a (omega arith) (omega arith)) (first_made_shifted f g by (from + 1) (a + 1) n (omega arith) (λ k low high. same k (omega arith) (omega arith)))

pub list_any_shifted : (f g : ℕ → Bool) (by from a n : ℕ) → from ≡ by + a → ((k : ℕ) → a ≤ k → k < a + n → f (by + k) ≡ g k)
    → list_any f (range_with_len from n) ≡ list_any g (range_with_len a n)
list_any_shifted f g by from a zero e same = refl
list_any_shifted f g by from a (suc n) e same =
    ap₂ (λ k l. k || l) (ap f e ∙ same a (omega arith) (omega arith)) (list_any_shifted f g by (from + 1) (a + 1) n (omega arith) (λ k low high. same k (omega arith) (omega arith)))

-- ---- a loop over numbers that ends at the first

range_split : (a n m : ℕ) → range_with_len a (n + m) ≡ range_with_len a n ++ range_with_len (a + n) m
range_split a zero m = let e : zero + m ≡ m = omega arith in let f : a ≡ a + zero = omega arith in ap (range_with_len a) e ∙ ap (λ k. range_with_len k m) f
range_split a (suc n) m =
    let e : suc n + m ≡ suc (n + m) = omega arith in
    let f : a + 1 + n ≡ a + suc n = omega arith in
    ap (range_with_len a) e ∙ ap (λ l. a ∷ l) (range_split (a + 1) n m ∙ ap (λ k. range_with_len (a + 1) n ++ range_with_len k m) f)

-- the number a + step stands there
range_around : (a step count : ℕ) → step < count → range_with_len a count ≡ range_with_len a step ++ (a + step) ∷ range_with_len (a + step + 1) (count - (step + 1))
range_around a step count lt =
    let e : count ≡ step + suc (count - (step + 1)) = omega arith in
    ap (range_with_len a) e ∙ range_split a step (suc (count - (step + 1)))

any_append : (f : ℕ → Bool) (xs ys : List ℕ) → list_any f (xs ++ ys) ≡ list_any f xs || list_any f ys
any_append f [] ys = refl
any_append f (x ∷ xs) ys = ap (λ b. f x || b) (any_append f xs ys) ∙ sym (assoc (f x) (list_any f xs) (list_any f ys))
  where
    assoc : (a b c : Bool) → (a || b) || c ≡ a || (b || c)
    assoc true b c = refl
    assoc false b c = refl

or_true : (a b c : Bool) → b ≡ true → a || (b || c) ≡ true
or_true true b c is = refl
or_true false b c is = ap (λ e. e || c) is

pub any_here : (f : ℕ → Bool) (a count step : ℕ) → step < count → f (a + step) ≡ true → list_any f (range_with_len a count) ≡ true
any_here f a count step lt is =
    let rest = range_with_len (a + step + 1) (count - (step + 1)) in
    ap (list_any f) (range_around a step count lt) ∙ any_append f (range_with_len a step) ((a + step) ∷ rest) ∙ or_true (list_any f (range_with_len a step)) (f (a + step)) (list_any f rest) is

pub none_here : (f : ℕ → Bool) (a step : ℕ) → list_any f (range_with_len a step) ≡ false → f (a + step) ≡ false → list_any f (range_with_len a (step + 1)) ≡ false
none_here f a step before is =
    ap (list_any f) (range_from_more a step (a + step) refl) ∙ any_append f (range_with_len a step) ((a + step) ∷ []) ∙ ap₂ (λ b c. b || (c || false)) before is

made_append : {B : Type 0} (f : ℕ → Option B) (xs ys : List ℕ) → first_made f (xs ++ ys) ≡ first_of (first_made f xs) (first_made f ys)
made_append f [] ys = refl
made_append {B} f (x ∷ xs) ys = ap (first_of (f x)) (made_append f xs ys) ∙ assoc (f x) (first_made f xs) (first_made f ys)
  where
    assoc : (a b c : Option B) → first_of a (first_of b c) ≡ first_of (first_of a b) c
    assoc None b c = refl
    assoc (Some y) b c = refl

pub first_here : {B : Type 0} (f : ℕ → Option B) (a count step : ℕ) (x : B) → step < count → first_made f (range_with_len a step) ≡ None → f (a + step) ≡ Some x → Some x ≡ first_made f (range_with_len a count)
first_here f a count step x lt before is =
    let rest = range_with_len (a + step + 1) (count - (step + 1)) in
    sym (ap (first_made f) (range_around a step count lt) ∙ made_append f (range_with_len a step) ((a + step) ∷ rest) ∙ ap₂ (λ o p. first_of o (first_of p (first_made f rest))) before is)

pub none_made : {B : Type 0} (f : ℕ → Option B) (a step : ℕ) → first_made f (range_with_len a step) ≡ None → f (a + step) ≡ None → first_made f (range_with_len a (step + 1)) ≡ None
none_made f a step before is =
    ap (first_made f) (range_from_more a step (a + step) refl) ∙ made_append f (range_with_len a step) ((a + step) ∷ []) ∙ ap₂ (λ o p. first_of o (first_of p None)) before is

-- ---- folds

pub take_one_more : {A : Type 0} (xs : List A) (n : ℕ) (x : A) → slice_get xs n ≡ Some x → take (n + 1) xs ≡ take n xs ++ x ∷ []
take_one_more xs n x here = take_more xs n x (slice_get_within xs n x here) ∙ ap (λ y. take n xs ++ y ∷ []) (get_or_from_slice_get xs n x x here)

pub fold_more : {A B : Type 0} (f : B → A → B) (a : B) (xs : List A) (n : ℕ) (x : A) → slice_get xs n ≡ Some x → fold f a (take (n + 1) xs) ≡ f (fold f a (take n xs)) x
fold_more f a xs n x here = ap (fold f a) (take_one_more xs n x here) ∙ fold_push f a (take n xs) x
