-- A walk over a list, and reading of each of a list, as a loop goes along it.
use Rattle.std.proofs.Common.{◌≡◌, ℕ, zero, suc, ◌+◌, ◌<◌, ◌≤◌, List, [], ◌∷◌, ◌++◌, map, length, take, get_or, Result, Ok, Err, refl, ap, arith}
use Rattle.sw_text.specs.declared.fault.TextFault.{TextFault}
use Rattle.sw_text.specs.declared.fault.OrMemory.TheVariants.{Fault, Memory}
use Rattle.sw_text.specs.Gives.{◌>>=◌, FileFault, Fails, walk_from, walk, each}

-- what follows a step that went well
after_ok : {S : Type 0} (r : Result S TextFault) (g : S → Result S TextFault) (h : S → Result S TextFault) (t : S) (v : Result S TextFault) → (r >>= g) ≡ Ok t → ((s : S) → g s ≡ Ok t → h s ≡ v) → (r >>= h) ≡ v
after_ok (Ok s) g h t v so_far rec = rec s so_far
after_ok (Err e) g h t v so_far rec = absurd cc

-- the rest of a list that was read goes on
then_rest : {A : Type 0} (r : Result A TextFault) (g h : Result (List A) TextFault) (done : List A) (a : A)
    → (r >>= λ b. g >>= λ rest. Ok (b ∷ rest)) ≡ Ok done → ((rest : List A) → g ≡ Ok rest → h ≡ Ok (rest ++ a ∷ []))
    → (r >>= λ b. h >>= λ rest. Ok (b ∷ rest)) ≡ Ok (done ++ a ∷ [])
then_rest (Err e) g h done a so_far rec = absurd cc
then_rest (Ok b) (Err e) h done a so_far rec = absurd cc
then_rest (Ok b) (Ok rest) h done a so_far rec = let same : b ∷ rest ≡ done = cc in rw (rec rest refl, ← same) refl

then_fails : {A : Type 0} (r : Result A TextFault) (g h : Result (List A) TextFault) (done : List A) (e : TextFault)
    → (r >>= λ b. g >>= λ rest. Ok (b ∷ rest)) ≡ Ok done → ((rest : List A) → g ≡ Ok rest → h ≡ Err e)
    → (r >>= λ b. h >>= λ rest. Ok (b ∷ rest)) ≡ Err e
then_fails (Err d) g h done e so_far rec = absurd cc
then_fails (Ok b) (Err d) h done e so_far rec = absurd cc
then_fails (Ok b) (Ok rest) h done e so_far rec = rw (rec rest refl) refl

take_all : {A : Type 0} (xs : List A) (i : ℕ) → length xs ≤ i → take i xs ≡ xs
take_all [] zero le = refl
take_all [] (suc i) le = refl
take_all (x ∷ xs) zero le = absurd (omega arith)
take_all (x ∷ xs) (suc i) le = ap (λ t. x ∷ t) (take_all xs i (omega arith))

length_map : {A B : Type 0} (f : A → B) (xs : List A) → length (map f xs) ≡ length xs
length_map f [] = refl
length_map f (x ∷ xs) = ap suc (length_map f xs)

module _ {S X Y : Type 0} (step : ℕ → S → Y → Result S TextFault) (f : X → Y) where
  -- the step at k, where it is given at k + 0
  at_first : (k : ℕ) (s t : S) (x y : X) (r : Result S TextFault) → s ≡ t → x ≡ y → step (k + 0) t (f x) ≡ r → step k s (f y) ≡ r
  at_first k s t x y r same at here = let z : k + 0 ≡ k = omega arith in rw (z, ← same, at) at here

  -- one more step after the first i
  step_more : (k i : ℕ) (s : S) (xs : List X) (t u : S) (x : X) → walk_from step k s (take i (map f xs)) ≡ Ok t → i < length xs → x ≡ get_or xs i x → step (k + i) t (f x) ≡ Ok u
      → walk_from step k s (take (suc i) (map f xs)) ≡ Ok u
  step_more k i s [] t u x so_far lt at here = absurd (omega arith)
  step_more k zero s (y ∷ xs) t u x so_far lt at here = let same : s ≡ t = cc in rw (at_first k s t x y (Ok u) same at here) refl
  step_more k (suc i) s (y ∷ xs) t u x so_far lt at here =
      let shifted : k + suc i ≡ suc k + i = omega arith in
      after_ok (step k s (f y)) (λ v. walk_from step (suc k) v (take i (map f xs))) (λ v. walk_from step (suc k) v (take (suc i) (map f xs))) t (Ok u) so_far
      (λ v so. step_more (suc k) i v xs t u x so (omega arith) at (rw shifted at here))

  -- the step after the first i fails
  step_fails : (k i : ℕ) (s : S) (xs : List X) (t : S) (x : X) (e : TextFault) → walk_from step k s (take i (map f xs)) ≡ Ok t → i < length xs → x ≡ get_or xs i x → step (k + i) t (f x) ≡ Err e
      → walk_from step k s (map f xs) ≡ Err e
  step_fails k i s [] t x e so_far lt at here = absurd (omega arith)
  step_fails k zero s (y ∷ xs) t x e so_far lt at here = let same : s ≡ t = cc in rw (at_first k s t x y (Err e) same at here) refl
  step_fails k (suc i) s (y ∷ xs) t x e so_far lt at here =
      let shifted : k + suc i ≡ suc k + i = omega arith in
      after_ok (step k s (f y)) (λ v. walk_from step (suc k) v (take i (map f xs))) (λ v. walk_from step (suc k) v (map f xs)) t (Err e) so_far
      (λ v so. step_fails (suc k) i v xs t x e so (omega arith) at (rw shifted at here))

  pub walk_more : (s : S) (xs : List X) (i : ℕ) (t u : S) (x : X) → walk step s (take i (map f xs)) ≡ Ok t → i < length xs → x ≡ get_or xs i x → step i t (f x) ≡ Ok u
      → walk step s (take (i + 1) (map f xs)) ≡ Ok u
  walk_more s xs i t u x so_far lt at here = let e : i + 1 ≡ suc i = omega arith in let z : 0 + i ≡ i = omega arith in rw e (step_more 0 i s xs t u x so_far lt at (rw z here))

  pub walk_fails : (s : S) (xs : List X) (i : ℕ) (t : S) (x : X) (e : FileFault) → walk step s (take i (map f xs)) ≡ Ok t → i < length xs → x ≡ get_or xs i x → Fails e (step i t (f x))
      → Fails e (walk step s (map f xs))
  walk_fails s xs i t x Memory so_far lt at here = tt
  walk_fails s xs i t x (Fault e) so_far lt at here = let z : 0 + i ≡ i = omega arith in step_fails 0 i s xs t x e so_far lt at (rw z here)

  pub walk_done : (s : S) (xs : List X) (i : ℕ) (t : S) → walk step s (take i (map f xs)) ≡ Ok t → length xs ≤ i → walk step s (map f xs) ≡ Ok t
  walk_done s xs i t so_far le = let e : take i (map f xs) ≡ map f xs = take_all (map f xs) i (rw length_map le) in rw e at so_far

module _ {A X Y : Type 0} (one : Y → Result A TextFault) (f : X → Y) where
  -- one more after the first i
  one_more : (xs : List X) (i : ℕ) (done : List A) (a : A) (x : X) → each one (take i (map f xs)) ≡ Ok done → i < length xs → x ≡ get_or xs i x → one (f x) ≡ Ok a
      → each one (take (suc i) (map f xs)) ≡ Ok (done ++ a ∷ [])
  one_more [] i done a x so_far lt at here = absurd (omega arith)
  one_more (y ∷ xs) zero done a x so_far lt at here = let none : [] ≡ done = cc in rw (← none, ← at, here) refl
  one_more (y ∷ xs) (suc i) done a x so_far lt at here =
      then_rest (one (f y)) (each one (take i (map f xs))) (each one (take (suc i) (map f xs))) done a so_far (λ rest so. one_more xs i rest a x so (omega arith) at here)

  -- the one after the first i fails
  one_fails : (xs : List X) (i : ℕ) (done : List A) (x : X) (e : TextFault) → each one (take i (map f xs)) ≡ Ok done → i < length xs → x ≡ get_or xs i x → one (f x) ≡ Err e
      → each one (map f xs) ≡ Err e
  one_fails [] i done x e so_far lt at here = absurd (omega arith)
  one_fails (y ∷ xs) zero done x e so_far lt at here = rw (← at, here) refl
  one_fails (y ∷ xs) (suc i) done x e so_far lt at here =
      then_fails (one (f y)) (each one (take i (map f xs))) (each one (map f xs)) done e so_far (λ rest so. one_fails xs i rest x e so (omega arith) at here)

  pub each_more : (xs : List X) (i : ℕ) (done : List A) (a : A) (x : X) → each one (take i (map f xs)) ≡ Ok done → i < length xs → x ≡ get_or xs i x → one (f x) ≡ Ok a
      → each one (take (i + 1) (map f xs)) ≡ Ok (done ++ a ∷ [])
  each_more xs i done a x so_far lt at here = let e : i + 1 ≡ suc i = omega arith in rw e (one_more xs i done a x so_far lt at here)

  pub each_fails : (xs : List X) (i : ℕ) (done : List A) (x : X) (e : FileFault) → each one (take i (map f xs)) ≡ Ok done → i < length xs → x ≡ get_or xs i x → Fails e (one (f x))
      → Fails e (each one (map f xs))
  each_fails xs i done x Memory so_far lt at here = tt
  each_fails xs i done x (Fault e) so_far lt at here = one_fails xs i done x e so_far lt at here

  pub each_done : (xs : List X) (i : ℕ) (done : List A) → each one (take i (map f xs)) ≡ Ok done → length xs ≤ i → each one (map f xs) ≡ Ok done
  each_done xs i done so_far le = let e : take i (map f xs) ≡ map f xs = take_all (map f xs) i (rw length_map le) in rw e at so_far
