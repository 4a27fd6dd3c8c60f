use Rattle.sw_search.specs.Verdicts.{depends}
use Rattle.sw_search.proofs.Levels.{shown_by}
use Rattle.sw_search.proofs.Rounds.{some_shown}
use Rattle.sw_search.proofs.laws.cyclic_is_shown.Goals as goal

pub returns : goal.returns
returns c = λ d cycle valid cyclic.
    let shown = shown_by d cycle (some_shown (depends d) cycle.channels cyclic.shown) cyclic.caused in
    (shown, c.shown_cycles_rule_out_rising.ensures d valid cycle shown)
