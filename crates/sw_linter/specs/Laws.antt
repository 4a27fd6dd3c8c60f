-- What holds of what is told.
use Rattle.std.specs.Prelude.{◌≡◌, ◌↔◌, ℕ, List, [], ◌∷◌, Contains}
use Rattle.sw_config.specs.Entries.{Declaration}
use Rattle.sw_linter.specs.Lints.{AreLints}
use Rattle.sw_linter.specs.LintTexts.{AreLintTexts}
use Rattle.sw_linter.specs.Notes.{AreNotes, NoteView}
use Rattle.sw_linter.specs.declared.lint.Lint.{Lint}
use Rattle.sw_linter.specs.declared.lint.Lint.TheVariants.{NoFlows}

-- what is told of a network is determined
abbrev pub LintsAreDetermined : Type 0
LintsAreDetermined = (d : Declaration) (told other : List Lint) → AreLints d told → AreLints d other → told ≡ other

-- and its texts are
abbrev pub LintTextsAreDetermined : Type 0
LintTextsAreDetermined = (d : Declaration) (told other : List (List ℕ)) → AreLintTexts d told → AreLintTexts d other → told ≡ other

-- and the notes on it are
abbrev pub NotesAreDetermined : Type 0
NotesAreDetermined = (d : Declaration) (told other : List NoteView) → AreNotes d told → AreNotes d other → told ≡ other

-- That a network has no flows is told exactly where it has none, and then alone.
pub record IsToldAlone (d : Declaration) (told : List Lint) : Type 0 where
  pub exactly : Contains told NoFlows ↔ (d.flows ≡ [])
  pub alone : d.flows ≡ [] → told ≡ NoFlows ∷ []

abbrev pub NoFlowsIsToldAlone : Type 0
NoFlowsIsToldAlone = (d : Declaration) (told : List Lint) → AreLints d told → IsToldAlone d told
