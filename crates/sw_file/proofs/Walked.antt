-- A walk over tables, each of which adds one entry: it goes well exactly where each table is for its entry and no two entries stand against each other.
use Rattle.std.proofs.Common.{◌≡◌, ℕ, suc, List, [], ◌∷◌, ◌++◌, map, length, Result, Ok, All, AllPairs, refl, sym, subst, ap, ◌∙◌, arith, append_assoc}
use Rattle.std.specs.List.{AllZip}
use Rattle.std.proofs.lemmas.List.{append-nil}
use Rattle.std.proofs.lemmas.List.Elements.{All-nil, All-cons, All-head, All-tail}
use Rattle.std.proofs.lemmas.List.Quantifiers.{all_pairs_push}
use Rattle.sw_text.specs.declared.fault.TextFault.{TextFault}
use Rattle.sw_text.specs.Gives.{◌>>=◌, walk_from}
use Rattle.sw_text.proofs.Results.{bind_ok}

-- there are as many entries as tables
pub as_long : {X A : Type 0} (Is : X → A → Type 0) (xs : List X) (es : List A) → AllZip Is xs es → length es ≡ length xs
as_long Is [] [] all = refl
as_long Is [] (e ∷ es) all = absurd all
as_long Is (x ∷ xs) [] all = absurd all
as_long Is (x ∷ xs) (e ∷ es) all = ap suc (as_long Is xs es all.1)

module _ {K : Type 0} (R : K → K → Type 0) where
  pairs_tail : (x : K) (xs : List K) → AllPairs R (x ∷ xs) → AllPairs R xs
  pairs_tail x xs pairs = λ i j d lt inside. pairs (suc i) (suc j) d (omega arith) (omega arith)

  pairs_head : (x : K) (xs : List K) → AllPairs R (x ∷ xs) → All (R x) xs
  pairs_head x xs pairs = λ k d lt. pairs 0 (suc k) d (omega arith) (omega arith)

  middle : (P : K → Type 0) (xs : List K) (y : K) (ys : List K) → All P (xs ++ y ∷ ys) → P y
  middle P [] y ys all = All-head P y ys all
  middle P (x ∷ xs) y ys all = middle P xs y ys (All-tail P x (xs ++ y ∷ ys) all)

  -- what stands before stands against nothing that comes later
  pub pairs_front : (xs : List K) (y : K) (ys : List K) → AllPairs R (xs ++ y ∷ ys) → All (λ x. R x y) xs
  pairs_front [] y ys pairs = All-nil (λ x. R x y)
  pairs_front (x ∷ xs) y ys pairs =
      All-cons (λ z. R z y) x xs (middle (R x) xs y ys (pairs_head x (xs ++ y ∷ ys) pairs)) (pairs_front xs y ys (pairs_tail x (xs ++ y ∷ ys) pairs))

module _ {S A X K : Type 0} (step : ℕ → S → X → Result S TextFault) (read : ℕ → List A → X → Result A TextFault) (state : List A → S) (Is : X → A → Type 0) (key : A → K) (taken : List A → List K) (R : K → K → Type 0)
    (steps : (i : ℕ) (es : List A) (x : X) → step i (state es) x ≡ (read i es x >>= λ e. Ok (state (es ++ e ∷ []))))
    (more : (es : List A) (e : A) → taken (es ++ e ∷ []) ≡ taken es ++ key e ∷ []) where
  -- the entries from these on
  abbrev Rest : List A → List X → S → Type 0
  Rest es xs t = (rest : List A) × (t ≡ state (es ++ rest)) × AllZip Is xs rest × AllPairs R (taken (es ++ rest))

  -- one more in front of them
  one_longer : (es : List A) (x : X) (xs : List X) (t : S) (e : A) → Is x e → Rest (es ++ e ∷ []) xs t → Rest es (x ∷ xs) t
  one_longer es x xs t e is rest =
      let joined : (es ++ e ∷ []) ++ rest.0 ≡ es ++ e ∷ rest.0 = append_assoc es (e ∷ []) rest.0 in
      (e ∷ rest.0, rest.1 ∙ ap state joined, (is, rest.2), subst (λ l. AllPairs R (taken l)) joined rest.3)

  pub walked : ((i : ℕ) (es : List A) (x : X) (e : A) → read i es x ≡ Ok e → Is x e × All (λ k. R k (key e)) (taken es))
      → (k : ℕ) (es : List A) (xs : List X) (t : S) → walk_from step k (state es) xs ≡ Ok t → AllPairs R (taken es)
      → Rest es xs t
  walked reads k es [] t h pairs = let here : state es ≡ t = cc in ([], sym here ∙ ap state (sym (append-nil es)), tt, rw append-nil pairs)
  walked reads k es (x ∷ xs) t h pairs =
      let a = bind_ok (step k (state es) x) (λ u. walk_from step (suc k) u xs) t h in
      let b = bind_ok (read k es x) (λ e. Ok (state (es ++ e ∷ []))) a.0 (sym (steps k es x) ∙ a.1) in
      let given : Ok (state (es ++ b.0 ∷ [])) ≡ Ok a.0 = b.2 in
      let here : state (es ++ b.0 ∷ []) ≡ a.0 = cc in
      let fine = reads k es x b.0 b.1 in
      let pushed : AllPairs R (taken (es ++ b.0 ∷ [])) = rw (more es b.0) (all_pairs_push R (taken es) (key b.0) pairs fine.1) in
      let onward : walk_from step (suc k) (state (es ++ b.0 ∷ [])) xs ≡ Ok t = rw here a.2 in
      one_longer es x xs t b.0 fine.0 (walked reads (suc k) (es ++ b.0 ∷ []) xs t onward pushed)

  taken_more : (es rest : List A) → taken (es ++ rest) ≡ taken es ++ map key rest
  taken_more es [] = ap taken (append-nil es) ∙ sym (append-nil (taken es))
  taken_more es (e ∷ rest) =
      ap taken (sym (append_assoc es (e ∷ []) rest)) ∙ taken_more (es ++ e ∷ []) rest ∙ ap (λ l. l ++ map key rest) (more es e) ∙ append_assoc (taken es) (key e ∷ []) (map key rest)

  pub walks : ((i : ℕ) (es : List A) (x : X) (e : A) → Is x e → All (λ k. R k (key e)) (taken es) → read i es x ≡ Ok e)
      → (k : ℕ) (es : List A) (xs : List X) (rest : List A) → AllZip Is xs rest → AllPairs R (taken (es ++ rest)) → walk_from step k (state es) xs ≡ Ok (state (es ++ rest))
  walks reads k es [] [] all pairs = ap (λ l. Ok (state l)) (sym (append-nil es))
  walks reads k es [] (e ∷ rest) all pairs = absurd all
  walks reads k es (x ∷ xs) [] all pairs = absurd all
  walks reads k es (x ∷ xs) (e ∷ rest) all pairs =
      let free : All (λ z. R z (key e)) (taken es) = pairs_front R (taken es) (key e) (map key rest) (subst (AllPairs R) (taken_more es (e ∷ rest)) pairs) in
      let joined : (es ++ e ∷ []) ++ rest ≡ es ++ e ∷ rest = append_assoc es (e ∷ []) rest in
      let onward = walks reads (suc k) (es ++ e ∷ []) xs rest all.1 (subst (λ l. AllPairs R (taken l)) (sym joined) pairs) in
      rw (steps k es x, reads k es x e all.0 free) (onward ∙ ap (λ l. Ok (state l)) joined)
