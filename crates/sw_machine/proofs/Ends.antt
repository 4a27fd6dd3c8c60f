-- Lists that end in one more.
use Rattle.std.proofs.Common.{◌≡◌, ℕ, List, [], ◌∷◌, ◌++◌, refl, sym}

no_end : (a : List ℕ) (x : ℕ) → ◌≡◌ {A = List ℕ} [] (a ++ x ∷ []) → ⊥
no_end [] x e = cc
no_end (b ∷ a) x e = cc

-- two lists with one more at the end are the same only where both parts are
pub same_parts : (a b : List ℕ) (x y : ℕ) → a ++ x ∷ [] ≡ b ++ y ∷ [] → (a ≡ b) × (x ≡ y)
same_parts [] [] x y e = (refl, cc)
same_parts [] (c ∷ b) x y e = let rest : ◌≡◌ {A = List ℕ} [] (b ++ y ∷ []) = cc in absurd (no_end b y rest)
same_parts (c ∷ a) [] x y e = let rest : a ++ x ∷ [] ≡ [] = cc in absurd (no_end a x (sym rest))
same_parts (c ∷ a) (d ∷ b) x y e =
    let rest : a ++ x ∷ [] ≡ b ++ y ∷ [] = cc in
    let parts = same_parts a b x y rest in
    let heads : c ≡ d = cc in
    (let p : a ≡ b = parts.0 in cc, parts.1)
