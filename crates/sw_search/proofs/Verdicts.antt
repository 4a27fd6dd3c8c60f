-- An explanation is of the kind of the verdict.
use Rattle.sw_search.specs.declared.verdict.Verdict.TheVariants.{Misrouted, Cyclic, Free}
use Rattle.sw_search.specs.Verdicts.{depends}
use Rattle.sw_search.proofs.Determined.{determined}
use Rattle.sw_search.proofs.Exactly.{verdicts_tell, some_not_all}
use Rattle.sw_search.proofs.Levels.{has_cycle}
use Rattle.sw_search.specs.declared.explanation.Explanation.TheVariants as told
use Rattle.sw_search.specs.ExplanationLaws.{ExplanationsAreOfTheVerdict}
use Rattle.sw_search.proofs.Lawful.{tangles_are_where_cycles_are}

pub of_the_verdict : ExplanationsAreOfTheVerdict
of_the_verdict d (Misrouted i p fault) (told.Misrouted j q other way) h e = determined d (Misrouted i p fault) (Misrouted j q other) h e.misrouted
of_the_verdict d (Misrouted i p fault) (told.Cyclic tangles) h e = some_not_all d (verdicts_tell d (Misrouted i p fault) h) e.routed
of_the_verdict d (Misrouted i p fault) told.Free h e = some_not_all d (verdicts_tell d (Misrouted i p fault) h) e.routed
of_the_verdict d (Cyclic cycle) (told.Misrouted j q other way) h e = some_not_all d (verdicts_tell d (Misrouted j q other) e.misrouted) h.routed
of_the_verdict d (Cyclic cycle) (told.Cyclic tangles) h e = tt
of_the_verdict d (Cyclic cycle) told.Free h e = e.no_cycle (has_cycle (depends d) cycle.channels h.shown)
of_the_verdict d (Free contents) (told.Misrouted j q other way) h e = some_not_all d (verdicts_tell d (Misrouted j q other) e.misrouted) h.routed
of_the_verdict d (Free contents) (told.Cyclic tangles) h e = e.some ((tangles_are_where_cycles_are d tangles.items e.are).1 h.no_cycle)
of_the_verdict d (Free contents) told.Free h e = tt
