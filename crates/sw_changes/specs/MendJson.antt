-- What `mend --json` answers (this project's choice).
use Rattle.std.specs.Prelude.{Bool, ℕ, List, codes}
use Rattle.sw_changes.specs.Mendings.{IsMending}
use Rattle.sw_changes.specs.MendTexts.{mending_status}
use Rattle.sw_changes.specs.MendValues.{mending_value}
use Rattle.sw_engine.specs.Engines.{AnswersToOne}
use Rattle.sw_json.specs.ObjectAnswers.{NetworkFileAsObject}
use Rattle.sw_json.specs.declared.files.Release.{Release}

-- of a network file, by its path, with pairs asked for or not
abbrev pub IsMendJson : Bool → List ℕ → Release → AnswersToOne
IsMendJson pairs = NetworkFileAsObject (codes "mend") (IsMending pairs) mending_value mending_status
