-- Verdicts of what was found.
use Rattle.sw_config.specs.Entries.{Declaration}
use Rattle.sw_config.specs.Valid.{IsValid}
use Rattle.sw_search.specs.declared.verdict.Verdict.{Verdict}
use Rattle.sw_search.specs.declared.verdict.Verdict.TheVariants.{Misrouted, Cyclic, Free}
use Rattle.sw_search.specs.Laws.{CyclicIsShown, FreeIsAccepted, IsChecked}
use Rattle.sw_search.specs.Verdicts.{IsVerdict}

pub is_checked : FreeIsAccepted → CyclicIsShown → (d : Declaration) → IsValid d → (v : Verdict) → IsVerdict d v → IsChecked d v
is_checked free cyclic d valid (Misrouted i p fault) h = tt
is_checked free cyclic d valid (Cyclic cycle) h = (cyclic d cycle valid h).0
is_checked free cyclic d valid (Free contents) h = (free d contents valid h).1
