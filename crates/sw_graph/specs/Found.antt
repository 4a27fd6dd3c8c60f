-- What many calls come to.
use Rattle.std.specs.Prelude.{◌≡◌, Bool, List, [], ◌∷◌, Option, None, Some, MatchBool, MatchOption}

-- r is what the first of xs gives that gives something, where R says what each of xs may give
abbrev pub IsFirstFound : {X Y : Type 0} → (X → Option Y → Type 0) → List X → Option Y → Type 0
IsFirstFound R [] r = r ≡ None
IsFirstFound {Y} R (x ∷ xs) r = (o : Option Y) × R x o × MatchOption o (IsFirstFound R xs r) (λ y. r ≡ Some y)

-- ys are those of xs of which true is told, in order, where R says what may be told of each of xs
abbrev pub AreKept : {X : Type 0} → (X → Bool → Type 0) → List X → List X → Type 0
AreKept R [] ys = ys ≡ []
AreKept {X} R (x ∷ xs) ys = (b : Bool) × R x b × MatchBool b ((zs : List X) × (ys ≡ x ∷ zs) × AreKept R xs zs) (AreKept R xs ys)
