-- Sums over the different items of a list.
use Rattle.std.proofs.Common.{Bool, List, [], ap, arith, cond, false, filter, not, refl, sum_by, sym, true, ℕ, ◌+◌, ◌∙◌, ◌∷◌, ◌≡◌}
use Rattle.std.proofs.lemmas.List.Sums.{sum_by-cons}
use Rattle.std.specs.Bool.{one_answer}
use Rattle.std.specs.Prelude.{if◌then◌else◌, length}
use Rattle.sw_summary.specs.Items.{Item, different, is_same, times}
use Rattle.sw_summary.proofs.Same.{one, same_is, same_itself, times_cons}

abbrev pub sum_of : (Item → ℕ) → List Item → ℕ
sum_of f xs = sum_by f (different xs)

-- f, but 0 at x
abbrev pub zeroed : Item → (Item → ℕ) → Item → ℕ
zeroed x f p = if is_same x p then 0 else f p

sum_filtered : (x : Item) (f : Item → ℕ) (ps : List Item) → sum_by f (filter (λ q. not (is_same x q)) ps) ≡ sum_by (zeroed x f) ps
sum_filtered x f [] = refl
sum_filtered x f (p ∷ ps) = go (is_same x p) (sum_filtered x f ps) ∙ sym (sum_by-cons (zeroed x f) p ps)
  where
    others : List Item
    others = filter (λ q. not (is_same x q)) ps

    go : (b : Bool) → sum_by f others ≡ sum_by (zeroed x f) ps → sum_by f (cond (not b) (p ∷ others) others) ≡ (if b then 0 else f p) + sum_by (zeroed x f) ps
    go true rest = omega (arith, rest)
    go false rest = sum_by-cons f p others ∙ ap (λ n. f p + n) rest

-- one item more
pub sum_cons : (f : Item → ℕ) (x : Item) (xs : List Item) → sum_of f (x ∷ xs) ≡ f x + sum_of (zeroed x f) xs
sum_cons f x xs = sum_by-cons f x (filter (λ q. not (is_same x q)) (different xs)) ∙ ap (λ n. f x + n) (sum_filtered x f (different xs))

same_back : (p q : Item) → is_same p q ≡ is_same q p
same_back p q = one_answer (is_same p q) (is_same q p) (same_is p q) (λ e. sym ((same_is q p).0 e), λ e. (same_is q p).1 (sym e))

twice : (y : Item) (f : Item → ℕ) → zeroed y (zeroed y f) ≡ zeroed y f
twice y f = λ i q. go (is_same y q) (f q) i
  where
    go : (b : Bool) (n : ℕ) → (if b then 0 else (if b then 0 else n)) ≡ (if b then 0 else n)
    go true n = refl
    go false n = refl

turned : (x y : Item) (f : Item → ℕ) → zeroed y (zeroed x f) ≡ zeroed x (zeroed y f)
turned x y f = λ i q. go (is_same x q) (is_same y q) (f q) i
  where
    go : (a b : Bool) (n : ℕ) → (if b then 0 else (if a then 0 else n)) ≡ (if a then 0 else (if b then 0 else n))
    go true true n = refl
    go true false n = refl
    go false true n = refl
    go false false n = refl

-- the part of one item, of which nothing is told where the list has it not
pub split_at : (x : Item) (xs : List Item) (f : Item → ℕ) → (times x xs ≡ 0 → f x ≡ 0) → sum_of f xs ≡ sum_of (zeroed x f) xs + f x
split_at x [] f none = let zero = none refl in omega (arith, zero)
split_at x (y ∷ ys) f none = go (is_same x y) refl (split_at x ys (zeroed y f))
  where
    sum : sum_of f (y ∷ ys) ≡ f y + sum_of (zeroed y f) ys
    sum = sum_cons f y ys

    rest : sum_of (zeroed x f) (y ∷ ys) ≡ zeroed x f y + sum_of (zeroed y (zeroed x f)) ys
    rest = sum_cons (zeroed x f) y ys

    go : (b : Bool) → is_same x y ≡ b → ((times x ys ≡ 0 → zeroed y f x ≡ 0) → sum_of (zeroed y f) ys ≡ sum_of (zeroed x (zeroed y f)) ys + zeroed y f x)
        → sum_of f (y ∷ ys) ≡ sum_of (zeroed x f) (y ∷ ys) + f x
    go true same later =
        let is : x ≡ y = (same_is x y).0 same in
        let zero : zeroed x f y ≡ 0 = ap (λ b. if b then 0 else f y) same in
        let part : sum_of (zeroed y (zeroed x f)) ys ≡ sum_of (zeroed y f) ys = ap (λ (g : Item → ℕ). sum_of g ys) (ap (λ z. zeroed y (zeroed z f)) is ∙ twice y f) in
        let here : f x ≡ f y = ap f is in
        omega (arith, sum, rest, zero, part, here)
    go false other later =
        let value : zeroed y f x ≡ f x = ap (λ b. if b then 0 else f x) (same_back y x ∙ other) in
        let kept : zeroed x f y ≡ f y = ap (λ b. if b then 0 else f y) other in
        let none_here : one x y ≡ 0 = ap (λ b. if b then 1 else 0) other in
        let many = times_cons x y ys in
        let part = later (λ e. value ∙ none (omega (arith, many, none_here, e))) in
        let both : sum_of (zeroed y (zeroed x f)) ys ≡ sum_of (zeroed x (zeroed y f)) ys = ap (λ (g : Item → ℕ). sum_of g ys) (turned x y f) in
        omega (arith, sum, rest, value, kept, part, both)

-- functions that agree but at x
pub zeroed_alike : (x : Item) (f g : Item → ℕ) → ((p : Item) → one p x ≡ 0 → f p ≡ g p) → zeroed x f ≡ zeroed x g
zeroed_alike x f g alike = λ i p. go p (is_same x p) refl i
  where
    go : (p : Item) (b : Bool) → is_same x p ≡ b → (if b then 0 else f p) ≡ (if b then 0 else g p)
    go p true is = refl
    go p false is = alike p (ap (λ b. if b then 1 else 0) (same_back p x ∙ is))

pub one_itself : (x : Item) → one x x ≡ 1
one_itself x = ap (λ b. if b then 1 else 0) (same_itself x)

-- how often the different items of a list are there comes to how many there are
pub all_times : (xs : List Item) → sum_of (λ p. times p xs) xs ≡ length xs
all_times [] = refl
all_times (x ∷ xs) =
    let sum = sum_cons (λ p. times p (x ∷ xs)) x xs in
    let same : sum_of (zeroed x (λ p. times p (x ∷ xs))) xs ≡ sum_of (zeroed x (λ p. times p xs)) xs =
    ap (λ (g : Item → ℕ). sum_of g xs) (zeroed_alike x (λ p. times p (x ∷ xs)) (λ p. times p xs) (λ p other. (let many = times_cons p x xs in omega (arith, many, other)))) in
    let part = split_at x xs (λ p. times p xs) (λ e. e) in
    let first = times_cons x x xs in
    let itself = one_itself x in
    let rest = all_times xs in
    omega (arith, sum, same, part, first, itself, rest)
