-- Laws of the answers.
use Rattle.std.specs.Prelude.{◌≡◌, ℕ, List}
use Rattle.sw_changes.specs.MarginAnswers.{IsMarginAnswer}

-- `margin` has one answer for each file
abbrev pub MarginHasOneAnswer : Type 0
MarginHasOneAnswer =
    (bytes text other : List ℕ) (status number : ℕ)
    → IsMarginAnswer bytes text status → IsMarginAnswer bytes other number → (text ≡ other) × (status ≡ number)
