-- Laws of what `margin` answers with an object of JSON.
use Rattle.std.specs.Prelude.{ℕ, List, Option}
use Rattle.sw_changes.specs.MarginAnswers.{IsMarginAnswer}
use Rattle.sw_text.specs.Ends.{IfLimited}
use Rattle.sw_json.specs.declared.files.Release.{Release}
use Rattle.sw_json.specs.Laws.{AreOneButForFaults, HaveOneStatus}
use Rattle.sw_changes.specs.MarginJson.{IsMarginJson}
use Rattle.sw_changes.specs.MarginValues.{margins_value}
use Rattle.sw_config.specs.Entries.{Declaration}
use Rattle.sw_json.specs.Plain.{IsPlain}
use Rattle.sw_margin.specs.declared.bend.Margins.{Margins}

-- `margin` has one answer for each file and path
abbrev pub MarginHasOneAnswer : Type 0
MarginHasOneAnswer = (path : List ℕ) (release : Release) (given : Option (List ℕ)) → AreOneButForFaults (IsMarginJson path release given)

-- its status is that of the text answer to the same file
abbrev pub MarginHasStatusOfText : Type 0
MarginHasStatusOfText =
    (path : List ℕ) (release : Release) (given : Option (List ℕ)) → HaveOneStatus (IsMarginJson path release given) (IfLimited given IsMarginAnswer)

-- the value of what a free network stands has a text that reads back: an object with a list of links, in each a list of names
abbrev pub MarginsArePlain : Type 0
MarginsArePlain = (d : Declaration) (told : Margins) → IsPlain 4 (margins_value d told)
