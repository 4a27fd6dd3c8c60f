use Rattle.std.proofs.Common.{IfOk, IsTrue, subst, sym, ◌↔◌}
use Rattle.sw_config.specs.Entries.{Declaration}
use Rattle.sw_search.specs.Laws.{RoutedAndFree}
use Rattle.sw_mend.specs.Changes.{changed}
use Rattle.sw_mend.specs.Spared.{AreOfCycles}
use Rattle.sw_mend.proofs.SparedCauses.{change_not_free}
use Rattle.sw_mend.proofs.Touching.{passed_over}
use Rattle.sw_mend.proofs.judging.frees.Goals as goal

pub returns-then-spares_one-clause-decided : goal.returns-then-spares_one-clause-decided
returns-then-spares_one-clause-decided g c =
    let d = c.args.network.now in
    passed_over (RoutedAndFree (changed d c.args.change.now))
    (change_not_free d c.args.change.now c.deref.result.now c.topology-topology.ensures.valid (subst (AreOfCycles d) (sym c.deref.ensures.value) c.requires)
    (c.spares_one.ensures c.if-spares_one.true))

pub returns-clause-decided : goal.returns-clause-decided
returns-clause-decided g c =
    subst (λ (e : Declaration). IfOk c.is_left_free.result (λ freed. IsTrue freed ↔ RoutedAndFree e)) c.in_ok-changed.ensures c.is_left_free.ensures.decided
