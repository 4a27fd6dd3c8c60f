-- Elements of a list, by their numbers.
use Rattle.std.proofs.Common.{◌≡◌, ◌∙◌, ℕ, ◌<◌, List, Some, ap, length}
use Rattle.std.specs.Prelude.{Contains, slice_get}
use Rattle.std.proofs.lemmas.Option.{get_or_from_slice_get, slice_get-get_or, slice_get_within}

module _ {A : Type 0} (xs : List A) where
  pub Contains-at : (i : ℕ) (x : A) → slice_get xs i ≡ Some x → Contains xs x
  Contains-at i x at = (i, slice_get_within xs i x at, get_or_from_slice_get xs i x x at)

  pub at_Contains : (x : A) → Contains xs x → (i : ℕ) × (i < length xs) × (slice_get xs i ≡ Some x)
  at_Contains x there = (there.0, there.1, slice_get-get_or xs there.0 x there.1 ∙ ap Some there.2)
