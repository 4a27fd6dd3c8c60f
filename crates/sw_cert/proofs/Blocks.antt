-- Elements of a list each of which keeps something.
use Rattle.std.proofs.Common.{◌≡◌, ℕ, zero, suc, ◌<◌, List, [], ◌∷◌, length, get_or, map, ap, sym, subst, arith}
use Rattle.std.specs.List.{AllByRecursion}

pub all_at : {X Y : Type 0} (g : X → Y) (P : Y → Type 0) (xs : List X) (i : ℕ) (x : X) → AllByRecursion P (map g xs) → i < length xs → x ≡ get_or xs i x → P (g x)
all_at g P [] i x all lt at = absurd (omega arith)
all_at g P (y ∷ ys) zero x all lt at = subst P (ap g (sym at)) all.0
all_at g P (y ∷ ys) (suc i) x all lt at = all_at g P ys i x all.1 (omega arith) at
