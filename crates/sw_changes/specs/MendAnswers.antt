-- What `mend` answers (this project's choice).
use Rattle.std.specs.Prelude.{Bool, ℕ, List}
use Rattle.sw_engine.specs.LineAnswers.{NetworkFileInLines}
use Rattle.sw_text.specs.Ends.{Answers}
use Rattle.sw_changes.specs.MendTexts.{mending_status, mending_text}
use Rattle.sw_changes.specs.Mendings.{IsMending}

-- of the bytes of a file: the text and the status of what is found of its network, with pairs asked for or not
abbrev pub IsMendAnswer : Bool → List ℕ → Answers
IsMendAnswer pairs = NetworkFileInLines (IsMending pairs) mending_text mending_status
