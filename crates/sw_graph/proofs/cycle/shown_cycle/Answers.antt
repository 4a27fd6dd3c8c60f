use Rattle.sw_graph.specs.Cycles.{IsShownCycle, IsTurned}
use Rattle.sw_graph.specs.Levels.{HasCycle}
use Rattle.sw_graph.specs.Rows.{Precedes}
use Rattle.sw_graph.proofs.Cycles.{walk_shows, on_ok_of}
use Rattle.sw_graph.proofs.cycle.shown_cycle.Goals as goal

pub since-requires : goal.since-requires
since-requires c = rw c.deref.ensures.value c.in_ok-again.ensures.comes_again

pub returns : goal.returns
returns c =
    let g = c.args.predecessors.now in
    let since = rw c.deref.ensures.value at c.since.ensures in
    on_ok_of (λ v. IsTurned c.since.result.now v.items) (λ v. HasCycle (Precedes g) × IsShownCycle (Precedes g) v.items) c.turned.result
    (λ v t. walk_shows g c.requires.graph c.requires.peeled.0 c.args.done.now c.requires.peeled.1 c.args.start c.walk_back.new.path.items c.in_ok-again.again c.since.result.now v.items c.requires.first c.in_ok-again.ensures since t)
    c.turned.ensures
