use Rattle.std.proofs.Common.{ℕ, List, map, sym, subst}
use Rattle.sw_cycle.specs.Causes.{AreChosen}
use Rattle.sw_cycle.specs.Cycles.{cause_of}
use Rattle.sw_graph.specs.Cycles.{IsShownCycle}
use Rattle.sw_search.specs.Verdicts.{depends}
use Rattle.sw_search.proofs.Rounds.{is_round}
use Rattle.sw_search.proofs.cyclic.cycle.Goals as goal

pub causes-requires-clause-cycle : goal.causes-requires-clause-cycle
causes-requires-clause-cycle c = rw (c.deref.ensures.value, c.in_ok-channels.ensures) (is_round c.args.network.now c.args.members.now c.requires.shown)

pub causes-requires-clause-lists : goal.causes-requires-clause-lists
causes-requires-clause-lists c = c.requires.lists

pub returns : goal.returns
returns c =
    let d = c.args.network.now in
    record {
      routed = c.requires.routed;
      shown = subst (IsShownCycle (depends d)) (sym c.in_ok-channels.ensures) c.requires.shown;
      caused = subst (λ (l : List ℕ). AreChosen d l (map cause_of c.in_ok-causes.causes.items)) c.deref.ensures.value c.in_ok-causes.ensures;
    }
