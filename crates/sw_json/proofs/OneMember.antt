-- One member more at the end of a list.
use Rattle.std.proofs.Common.{◌≡◌, ◌++◌, ℕ, List, [], ◌∷◌, map, refl}
use Rattle.serde_json.specs.Data.{Data, Members, put}
use Rattle.sw_json.specs.Objects.{with_members}

pub with_last : {A : Type 0} (f : A → List ℕ × Data) (xs : List A) (y : A) (start : Members)
    → with_members (map f (xs ++ y ∷ [])) start ≡ put (f y).0 (f y).1 (with_members (map f xs) start)
with_last f [] y start = refl
with_last f (x ∷ xs) y start = with_last f xs y (put (f x).0 (f x).1 start)
