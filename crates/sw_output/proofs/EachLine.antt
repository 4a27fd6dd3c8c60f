-- Lines that are written one after another.
use Rattle.std.proofs.Common.{◌≡◌, ℕ, ◌+◌, ◌<◌, ◌≤◌, Bool, false, true, List, [], ◌∷◌, ◌++◌, ap, sym, ◌∙◌, get_or, length, take, append-nil, append_assoc, arith, refl}
use Rattle.std.specs.Prelude.{if◌then◌else◌}
use Rattle.std.specs.List.{filter, flat_map, range_with_len}
use Rattle.std.proofs.lemmas.List.{flat_map_more, length-take-le, take_all, take_more}
use Rattle.std.proofs.lemmas.List.Elements.{filter-append}
use Rattle.sw_graph.proofs.Ranges.{range_more}

-- the line of one number more
pub lines_more : (text : ℕ → List ℕ) (n : ℕ) (before line read after : List ℕ) → before ≡ flat_map text (range_with_len 0 n) → line ≡ text n → read ≡ line
    → after ≡ before ++ read → after ≡ flat_map text (range_with_len 0 (n + 1))
lines_more text n before line read after so_far same is more =
    more ∙ ap (λ l. l ++ read) so_far ∙ ap (λ l. flat_map text (range_with_len 0 n) ++ l) (is ∙ same)
    ∙ flat_map_more text [] (range_with_len 0 n) n ∙ ap (flat_map text) (sym (range_more n))

-- the line of one number more, behind what stands there
pub number_added : (line : ℕ → List ℕ) (n : ℕ) (start before after : List ℕ) → before ≡ start ++ flat_map line (range_with_len 0 n) → after ≡ before ++ line n
    → after ≡ start ++ flat_map line (range_with_len 0 (n + 1))
number_added line n start before after so_far more =
    let lines = flat_map line (range_with_len 0 n) in
    more ∙ ap (λ l. l ++ line n) so_far ∙ append_assoc start lines (line n) ∙ ap (λ l. start ++ l) (lines_more line n lines (line n) (line n) (lines ++ line n) refl refl refl refl)

-- the line of one element more, behind what stands there
pub line_added : {X : Type 0} (f : X → List ℕ) (xs : List X) (i : ℕ) (x : X) (start before after : List ℕ) → i < length xs → x ≡ get_or xs i x
    → before ≡ start ++ flat_map f (take i xs) → after ≡ before ++ f x → after ≡ start ++ flat_map f (take (i + 1) xs)
line_added f xs i x start before after lt at so_far more =
    let cut : take (i + 1) xs ≡ take i xs ++ x ∷ [] = take_more xs i x lt ∙ ap (λ y. take i xs ++ y ∷ []) (sym at) in
    more ∙ ap (λ l. l ++ f x) so_far ∙ flat_map_more f start (take i xs) x ∙ ap (λ l. start ++ flat_map f l) (sym cut)

-- the lines of all elements, behind what stands there
pub all_added : {X : Type 0} (f : X → List ℕ) (xs : List X) (i : ℕ) (start text : List ℕ) → length xs ≤ i
    → text ≡ start ++ flat_map f (take i xs) → text ≡ start ++ flat_map f xs
all_added f xs i start text ended so_far = so_far ∙ ap (λ l. start ++ flat_map f l) (take_all i xs ended)

-- one number more that may pass
passing_more : (test : ℕ → Bool) (n : ℕ) (passes : Bool) (before after : List ℕ) → before ≡ filter test (range_with_len 0 n) → passes ≡ test n
    → after ≡ before ++ (if passes then n ∷ [] else []) → after ≡ filter test (range_with_len 0 (n + 1))
passing_more test n passes before after so_far is more =
    more ∙ ap (λ l. l ++ (if passes then n ∷ [] else [])) so_far ∙ ap (λ b. filter test (range_with_len 0 n) ++ (if b then n ∷ [] else [])) is
    ∙ sym (filter-append test (range_with_len 0 n) (n ∷ [])) ∙ ap (filter test) (sym (range_more n))

-- one number more that does not pass, and one that does
pub next_left_out : (test : ℕ → Bool) (n : ℕ) (before : List ℕ) → before ≡ filter test (range_with_len 0 n) → test n ≡ false → before ≡ filter test (range_with_len 0 (n + 1))
next_left_out test n before so_far is = passing_more test n false before before so_far (sym is) (sym (append-nil before))

pub next_passes : (test : ℕ → Bool) (n : ℕ) (before after : List ℕ) → before ≡ filter test (range_with_len 0 n) → test n ≡ true → after ≡ before ++ n ∷ []
    → after ≡ filter test (range_with_len 0 (n + 1))
next_passes test n before after so_far is more = passing_more test n true before after so_far (sym is) more

-- lines of things in order, each with how many come before it
module _ {X : Type 0} (line : ℕ → X → List ℕ) (lines : ℕ → List X → List ℕ) (none : (n : ℕ) → lines n [] ≡ []) (first : (n : ℕ) (x : X) (xs : List X) → lines n (x ∷ xs) ≡ line n x ++ lines (n + 1) xs) where
  lines_push : (n m : ℕ) (xs : List X) (x : X) → n + length xs ≡ m → lines n (xs ++ x ∷ []) ≡ lines n xs ++ line m x
  lines_push n m [] x is =
      let same : n ≡ m = omega (arith, is) in
      first n x [] ∙ ap (λ l. line n x ++ l) (none (n + 1)) ∙ append-nil (line n x) ∙ ap (λ k. line k x) same ∙ sym (ap (λ l. l ++ line m x) (none n))
  lines_push n m (y ∷ xs) x is =
      first n y (xs ++ x ∷ []) ∙ ap (λ l. line n y ++ l) (lines_push (n + 1) m xs x (omega (arith, is)))
      ∙ sym (append_assoc (line n y) (lines (n + 1) xs) (line m x)) ∙ ap (λ l. l ++ line m x) (sym (first n y xs))

  -- the line of one more
  pub numbered_more : (i : ℕ) (xs : List X) (x : X) (before here after : List ℕ) → i < length xs → x ≡ get_or xs i x
      → before ≡ lines 0 (take i xs) → here ≡ line i x → after ≡ before ++ here → after ≡ lines 0 (take (i + 1) xs)
  numbered_more i xs x before here after lt at so_far is more =
      let cut : take (i + 1) xs ≡ take i xs ++ x ∷ [] = take_more xs i x lt ∙ ap (λ y. take i xs ++ y ∷ []) (sym at) in
      let size : 0 + length (take i xs) ≡ i = omega (arith, length-take-le i xs (omega arith)) in
      more ∙ ap (λ l. l ++ here) so_far ∙ ap (λ l. lines 0 (take i xs) ++ l) is ∙ sym (lines_push 0 i (take i xs) x size) ∙ ap (lines 0) (sym cut)
