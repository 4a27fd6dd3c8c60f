-- Laws of what `mend` answers with an object of JSON.
use Rattle.std.specs.Prelude.{◌≡◌, ◌++◌, Bool, ℕ, List, Option, codes}
use Rattle.sw_changes.specs.MendAnswers.{IsMendAnswer}
use Rattle.sw_changes.specs.declared.mending.Mending.{Mending}
use Rattle.sw_changes.specs.LimitingTexts.{limiting_line}
use Rattle.sw_changes.specs.MendTexts.{mend_line, pair_line}
use Rattle.sw_text.specs.Ends.{IfLimited}
use Rattle.sw_config.specs.Entries.{Declaration}
use Rattle.sw_json.specs.declared.files.Release.{Release}
use Rattle.sw_changes.specs.LimitingValues.{limiting_line_words}
use Rattle.sw_mend.specs.Limitings.{Limiting}
use Rattle.sw_mend.specs.declared.change.Pair.{Pair}
use Rattle.sw_mend.specs.declared.change.Trial.{Trial}
use Rattle.sw_json.specs.Laws.{AreOneButForFaults, HaveOneStatus}
use Rattle.sw_changes.specs.MendJson.{IsMendJson}
use Rattle.sw_changes.specs.MendValues.{mend_words, mending_value, pair_words}
use Rattle.sw_json.specs.Plain.{IsPlain}

-- `mend` has one answer for each file and path, with pairs asked for or not
abbrev pub MendHasOneAnswer : Type 0
MendHasOneAnswer = (pairs : Bool) (path : List ℕ) (release : Release) (given : Option (List ℕ)) → AreOneButForFaults (IsMendJson pairs path release given)

-- its status is that of the text answer to the same file
abbrev pub MendHasStatusOfText : Type 0
MendHasStatusOfText =
    (pairs : Bool) (path : List ℕ) (release : Release) (given : Option (List ℕ))
    → HaveOneStatus (IsMendJson pairs path release given) (IfLimited given (IsMendAnswer pairs))

-- the texts of changes are the lines of the text answer, but for the LF
pub record MendTextsAreLines : Type 0 where
  pub limits : (d : Declaration) (limiting : Limiting) → limiting_line d limiting ≡ limiting_line_words d limiting ++ codes "\n"
  pub single : (d : Declaration) (change : Trial) → mend_line d change ≡ mend_words d change ++ codes "\n"
  pub pairs : (d : Declaration) (pair : Pair) → pair_line d pair ≡ pair_words d pair ++ codes "\n"

-- the value of what is found has a text that reads back: an object with a list of objects, in each a list of changes
abbrev pub MendsArePlain : Type 0
MendsArePlain = (d : Declaration) (m : Mending) → IsPlain 5 (mending_value d m)
