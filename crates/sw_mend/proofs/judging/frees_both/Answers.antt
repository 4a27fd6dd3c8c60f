use Rattle.std.proofs.Common.{IfOk, IsTrue, subst, sym, ◌↔◌}
use Rattle.sw_config.specs.Entries.{Declaration}
use Rattle.sw_search.specs.Laws.{RoutedAndFree}
use Rattle.sw_mend.specs.Mends.{FreesBoth}
use Rattle.sw_mend.specs.Spared.{AreOfCycles}
use Rattle.sw_mend.proofs.SparedCauses.{both_not_free}
use Rattle.sw_mend.proofs.Touching.{passed_over}
use Rattle.sw_mend.proofs.judging.frees_both.Goals as goal

pub returns-then-both_spare_one-clause-decided : goal.returns-then-both_spare_one-clause-decided
returns-then-both_spare_one-clause-decided g c =
    let d = c.args.network.now in
    passed_over (FreesBoth d c.args.pair.now)
    (both_not_free d c.args.pair.now.first c.args.pair.now.second c.deref.result.now c.topology-topology.ensures.valid
    (subst (AreOfCycles d) (sym c.deref.ensures.value) c.requires) (c.both_spare_one.ensures c.if-both_spare_one.true))

pub returns-clause-decided : goal.returns-clause-decided
returns-clause-decided g c =
    subst (λ (e : Declaration). IfOk c.is_left_free.result (λ freed. IsTrue freed ↔ RoutedAndFree e)) c.in_ok-changed.ensures c.is_left_free.ensures.decided
